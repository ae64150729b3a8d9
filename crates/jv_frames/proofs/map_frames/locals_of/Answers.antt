use Rattle.std.proofs.Common.{sym, ap, ◌∙◌, subst, Some}
use Rattle.jv_table.specs.declared.class_tables.FrameGroup.TheVariants.{Chop, Append}
use Rattle.jv_frames.specs.Finding.{FindsList}
use Rattle.jv_frames.specs.Maps.{IsFront, IsLonger}
use Rattle.jv_frames.proofs.Determined.{by_group}
use Rattle.jv_frames.proofs.map_frames.locals_of.Goals as goal

pub returns-in-Some-Chop : goal.returns-in-Some-Chop
returns-in-Some-Chop c =
    by_group c.args.pool.now c.args.before.items c.args.f.now Chop c.chopped.result (sym c.group_of.ensures ∙ c.in-Some-Chop.is ∙ ap Some c.in-Some-Chop.field-0-is)
    (subst (λ n. FindsList (IsFront c.args.before.items n) c.chopped.result) c.saturating_sub.ensures c.chopped.ensures)

pub returns-in-Some-Append : goal.returns-in-Some-Append
returns-in-Some-Append c =
    by_group c.args.pool.now c.args.before.items c.args.f.now Append c.appended.result
    (sym c.group_of.ensures ∙ c.in-Some-Append.is ∙ ap Some c.in-Some-Append.field-0-is)
    (subst (λ written. FindsList (IsLonger c.args.pool.now c.args.before.items written) c.appended.result) c.as_slice.ensures c.appended.ensures)
