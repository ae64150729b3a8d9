use Rattle.std.proofs.Common.{refl}
use Rattle.av_standin_of.specs.Names.{field_key}
use Rattle.av_sorted.specs.Orders.{field_row}
use Rattle.av_sorted.proofs.Just.{just_answered}
use Rattle.av_sorted.proofs.members.fields_in_order.Goals as goal

pub returns : goal.returns
returns c =
    just_answered field_key field_row (λ x. refl) (λ x. refl) c.args.fields.items c.in_ok-rows.rows.items c.in_ok-field_rows.field-0.items c.values_of.result
    c.in_ok-field_rows.ensures c.in_ok-rows.ensures.rising c.in_ok-rows.ensures.only c.in_ok-rows.ensures.each c.values_of.ensures
