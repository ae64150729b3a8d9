-- Each step of the loop, by the lemmas on units one after the other.
use Rattle.std.proofs.Common.{sym, ◌∙◌}
use Rattle.jv_pool.proofs.Texts.{goes_further, is_stuck, is_done}
use Rattle.jv_pool.proofs.text.is_spelled.Goals as goal

pub returns-then-len-eq0 : goal.returns-then-len-eq0
returns-then-len-eq0 c = is_stuck c.unit_len-len.result c.loop-rest.rest.now c.args.bytes.now c.unit_len-len.ensures.len c.if-len-eq0.true (sym c.loop-rest-test.true ∙ c.is_empty.ensures) c.loop-rest.invariant

pub loop-rest-preserved : goal.loop-rest-preserved
loop-rest-preserved c = rw c.split_at.ensures.back (goes_further c.unit_len-len.result c.loop-rest.rest.now c.args.bytes.now c.unit_len-len.ensures.len c.if-len-eq0.false c.loop-rest.invariant)

pub returns : goal.returns
returns c = is_done c.loop-rest.rest.now c.args.bytes.now (sym c.loop-rest-test.false ∙ c.is_empty.ensures) c.loop-rest.invariant
