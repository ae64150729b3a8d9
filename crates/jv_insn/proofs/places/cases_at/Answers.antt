-- A case that leads nowhere leaves the list without targets.
use Rattle.std.proofs.Common.{rules, ℕ, pos, get_or}
use Rattle.std.specs.Int.{w32}
use Rattle.std.proofs.lemmas.Int.{to_z-of_z}
use Rattle.jv_lists.proofs.Zips.{zip_more}
use mir.Val.{SFits, to_z, of_z}
use Rattle.jv_insn.specs.Meanings.{LeadsTo, LeadsCase}
use Rattle.jv_insn.proofs.Bits.{of_bits}
use Rattle.jv_insn.proofs.Leading.{zip_stuck}
use Rattle.jv_insn.proofs.places.cases_at.Goals as goal

pub returns-in-None : goal.returns-in-None
returns-in-None c =
    let case = get_or c.args.cases.now c.loop-case.case-index (pos 0, pos 0) in
    let fits : SFits w32 case.1 = search rules in
    zip_stuck (LeadsCase c.args.rows.now c.args.pc) c.args.cases.now c.loop-case.case-index (pos 0, pos 0) c.loop-case-test.true
    (λ y h. of_bits (λ n. (x : ℕ) → LeadsTo c.args.rows.now c.args.pc n x → ⊥) case.1 fits c.in-None.ensures y.1 h.leads)

pub loop-case-preserved : goal.loop-case-preserved
loop-case-preserved c =
    let case = get_or c.args.cases.now c.loop-case.case-index (pos 0, pos 0) in
    let value : SFits w32 case.0 = search rules in
    let fits : SFits w32 case.1 = search rules in
    rw c.in_ok-push-in-Some.ensures.items (zip_more (LeadsCase c.args.rows.now c.args.pc) c.args.cases.now c.loop-case.targets.items c.loop-case.case-index (pos 0, pos 0) (to_z w32 (of_z w32 case.0), c.in-Some.target) c.loop-case-test.true c.loop-case.invariant
    (record { value = to_z-of_z w32 case.0 value; leads = of_bits (λ n. LeadsTo c.args.rows.now c.args.pc n c.in-Some.target) case.1 fits c.in-Some.ensures }))
