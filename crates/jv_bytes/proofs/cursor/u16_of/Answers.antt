use Rattle.std.proofs.Common.{sym, ap, ◌∙◌, arith}
use Rattle.jv_bytes.specs.Numbers.{number_in, number_text}
use Rattle.jv_bytes.proofs.NumberLaws.{number_text-number_in}
use Rattle.jv_bytes.proofs.cursor.u16_of.Goals as goal

pub returns-clause-text : goal.returns-clause-text
unfolding number_in
returns-clause-text c =
    sym (ap (number_text 2) c.read_u16.ensures ∙ number_text-number_in 2 c.args.bytes.now c.requires (λ i. omega (arith, c.type_inv.bytes i)))

pub returns-clause-read : goal.returns-clause-read
unfolding number_in
returns-clause-read c = c.read_u16.ensures
