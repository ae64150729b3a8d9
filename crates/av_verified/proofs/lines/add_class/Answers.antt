use Rattle.std.proofs.Common.{rules, ◌≡◌, true}
use Rattle.std.proofs.lemmas.Result.{on_ok_weaker}
use Rattle.av_verified.proofs.Adding.{class_lines}
use Rattle.av_verified.proofs.lines.add_class.Goals as goal

pub returns : goal.returns
returns c =
    let application : c.args.class.now.application ≡ true = search rules in
    on_ok_weaker c.add_methods.result (class_lines c.args.class.now c.as_slice.result.now _ _ application c.as_slice.ensures) c.add_methods.ensures
