-- An offset that leads nowhere leaves the list without targets.
use Rattle.std.proofs.Common.{rules, ℕ, pos, get_or}
use Rattle.std.specs.Int.{w32}
use Rattle.jv_lists.proofs.Zips.{zip_more}
use mir.Val.{SFits}
use Rattle.jv_insn.specs.Meanings.{LeadsTo}
use Rattle.jv_insn.proofs.Bits.{of_bits}
use Rattle.jv_insn.proofs.Leading.{zip_stuck}
use Rattle.jv_insn.proofs.places.targets_at.Goals as goal

pub returns-in-None : goal.returns-in-None
returns-in-None c =
    let z = get_or c.args.offsets.now c.loop-offset.offset-index (pos 0) in
    let fits : SFits w32 z = search rules in
    zip_stuck (LeadsTo c.args.rows.now c.args.pc) c.args.offsets.now c.loop-offset.offset-index (pos 0) c.loop-offset-test.true (of_bits (λ n. (y : ℕ) → LeadsTo c.args.rows.now c.args.pc n y → ⊥) z fits c.in-None.ensures)

pub loop-offset-preserved : goal.loop-offset-preserved
loop-offset-preserved c =
    let z = get_or c.args.offsets.now c.loop-offset.offset-index (pos 0) in
    let fits : SFits w32 z = search rules in
    rw c.in_ok-push-in-Some.ensures.items (zip_more (LeadsTo c.args.rows.now c.args.pc) c.args.offsets.now c.loop-offset.targets.items c.loop-offset.offset-index (pos 0) c.in-Some.target c.loop-offset-test.true c.loop-offset.invariant
    (of_bits (λ n. LeadsTo c.args.rows.now c.args.pc n c.in-Some.target) z fits c.in-Some.ensures))
