use Rattle.std.proofs.Common.{refl}
use Rattle.av_sorted.specs.Orders.{method_row, sketched_key}
use Rattle.av_sorted.proofs.Just.{just_answered}
use Rattle.av_sorted.proofs.members.methods_in_order.Goals as goal

pub returns : goal.returns
returns c =
    just_answered sketched_key method_row (λ x. refl) (λ x. refl) c.args.methods.items c.in_ok-rows.rows.items c.in_ok-method_rows.field-0.items c.values_of.result
    c.in_ok-method_rows.ensures c.in_ok-rows.ensures.rising c.in_ok-rows.ensures.only c.in_ok-rows.ensures.each c.values_of.ensures
