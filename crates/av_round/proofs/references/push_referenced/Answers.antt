use Rattle.std.proofs.Common.{ℕ, List, subst}
use Rattle.jv_types.specs.declared.instruction.Insn.{Insn}
use Rattle.av_named.specs.Appending.{Appends, OfEach}
use Rattle.av_named.proofs.Appending.{each_all, each_more, each_none}
use Rattle.av_tables.specs.Steps.{known}
use Rattle.av_round.specs.Seeds.{BodyFinds, RowFinds}
use Rattle.av_round.proofs.references.push_referenced.Goals as goal

pub loop-method-init : goal.loop-method-init
loop-method-init c = each_none (BodyFinds c.args.world.now (known c.args.classes.now)) c.args.bodies.now c.args.out.now.items

pub loop-method-preserved : goal.loop-method-preserved
loop-method-preserved c =
    each_more (BodyFinds c.args.world.now (known c.args.classes.now)) c.args.bodies.now c.loop-method.method-index c.method-item.result c.args.out.now.items c.loop-method.out.items c.push_members.new.out.items
    c.loop-method-test.true c.method-item.is c.loop-method.invariant
    (subst (λ (l : List (ℕ × Insn)). Appends (OfEach (RowFinds c.args.world.now (known c.args.classes.now)) l) c.loop-method.out.items c.push_members.new.out.items) c.as_slice.ensures c.in_ok-push_members.ensures)

pub returns : goal.returns
returns c = each_all (BodyFinds c.args.world.now (known c.args.classes.now)) c.args.bodies.now c.loop-method.method-index c.args.out.now.items c.loop-method.out.items c.loop-method-test.false c.loop-method.invariant
