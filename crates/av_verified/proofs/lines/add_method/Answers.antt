use Rattle.std.proofs.Common.{rules, ◌≡◌, true}
use Rattle.std.proofs.lemmas.Result.{on_ok_weaker}
use Rattle.av_verified.proofs.Adding.{method_lines}
use Rattle.av_verified.proofs.lines.add_method.Goals as goal

pub returns : goal.returns
returns c =
    let code : c.args.method.now.code ≡ true = search rules in
    on_ok_weaker c.add_line.result (method_lines c.args.class.now c.args.method.now c.in_ok-line.line _ _ code c.in_ok-line.ensures) c.add_line.ensures
