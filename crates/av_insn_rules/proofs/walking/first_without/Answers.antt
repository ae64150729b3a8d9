use Rattle.av_insn_rules.specs.InsnRules.{Keeps}
use Rattle.av_insn_rules.proofs.KeptRows.{first_is, all_are}
use Rattle.av_insn_rules.proofs.walking.first_without.Goals as goal

pub returns-then-not-branch-clause-found : goal.returns-then-not-branch-clause-found
returns-then-not-branch-clause-found c =
    first_is (Keeps c.args.world.now c.args.from.number c.args.major c.args.rule) c.args.body.now c.as_slice-insns.result.now c.loop-row.row-index c.row-item.result c.in_ok-keeps.field-0 c.as_slice-insns.ensures
    c.loop-row-test.true c.row-item.is c.in_ok-keeps.ensures.1 c.if-not-branch.true c.loop-row.invariant

pub returns-clause-none : goal.returns-clause-none
returns-clause-none c =
    all_are (Keeps c.args.world.now c.args.from.number c.args.major c.args.rule) c.args.body.now c.as_slice-insns.result.now c.loop-row.row-index c.as_slice-insns.ensures c.loop-row-test.false c.loop-row.invariant
