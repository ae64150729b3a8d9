use Rattle.std.proofs.Common.{ℕ}
use Rattle.jv_world.specs.Worlds.{IsNamed}
use Rattle.jv_resolve.proofs.Tests.{yes}
use Rattle.av_insn_rules.specs.InsnRules.{IsNameAccessible}
use Rattle.av_insn_rules.proofs.Accessing.{name_at_one}
use Rattle.av_insn_rules.proofs.accessible.is_name_accessible.Goals as goal

pub returns-in-None : goal.returns-in-None
returns-in-None c =
    yes (IsNameAccessible c.args.world.now c.args.from.number c.args.name.now)
    (λ (d : ℕ) (named : IsNamed c.args.world.now d c.args.name.now). absurd (c.in-None.ensures.none d named))

pub returns-in-Some : goal.returns-in-Some
returns-in-Some c =
    name_at_one c.args.world.now c.args.from.number c.args.name.now c.in-Some.c.number c.is_class_accessible.result c.class.ensures.world c.in-Some.ensures.found c.is_class_accessible.ensures.exact
