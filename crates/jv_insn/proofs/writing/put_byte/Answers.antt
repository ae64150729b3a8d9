-- A byte is the text of its number.
use Rattle.std.proofs.Common.{◌<◌, ◌++◌, List, ℕ, ap, sym, ◌∙◌, arith}
use Rattle.std.proofs.lemmas.Result.{on_ok_weaker}
use Rattle.jv_read.proofs.Fronts.{byte_text}
use Rattle.jv_insn.proofs.writing.put_byte.Goals as goal

pub returns : goal.returns
returns c =
    let lt : c.args.byte < 256 = omega arith in
    on_ok_weaker c.put_u1.result (λ e. e ∙ ap (λ (t : List ℕ). c.args.writer.now ++ t) (sym (byte_text c.args.byte lt))) c.put_u1.ensures.ok
