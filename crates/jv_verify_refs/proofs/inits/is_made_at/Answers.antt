use Rattle.std.proofs.Common.{sym}
use Rattle.jv_resolve.proofs.Tests.{never}
use Rattle.jv_verify_refs.specs.Steps.Parts.{IsMadeAt}
use Rattle.jv_verify_refs.proofs.Initialising.{made_at, none_at_offset}
use Rattle.jv_verify_refs.proofs.inits.is_made_at.Goals as goal

pub returns-in-Some : goal.returns-in-Some
returns-in-Some c = made_at c.args.step.now c.args.pc c.args.class.now c.in-Some.insn.now c.makes.result (sym c.in-Some.ensures.value) c.makes.ensures

pub returns-in-None : goal.returns-in-None
returns-in-None c =
    never (IsMadeAt c.args.step.now c.args.pc c.args.class.now) (none_at_offset c.args.step.now c.args.pc c.args.class.now (sym c.in-None.ensures.value))
