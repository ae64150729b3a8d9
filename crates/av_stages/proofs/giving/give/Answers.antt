use Rattle.std.proofs.Common.{◌∙◌}
use Rattle.av_given.specs.Givens.{application_of}
use Rattle.av_stages.proofs.InOrder.{few_shapes, known, rising, shaped, told}
use Rattle.av_stages.proofs.giving.give.Goals as goal

pub given_of-requires-clause-shaped : goal.given_of-requires-clause-shaped
given_of-requires-clause-shaped c =
    shaped c.args.loaded.items c.in_name_order.result.items c.as_slice.result.now c.from_vec.result c.requires c.in_name_order.ensures.same (c.as_slice.ensures.value ∙ c.in_ok-parts.ensures.files)
    (c.from_vec.ensures ∙ c.in_ok-parts.ensures.shapes)

pub given_of-requires-clause-few : goal.given_of-requires-clause-few
given_of-requires-clause-few c = few_shapes c.args.loaded.items c.in_name_order.result.items c.from_vec.result c.requires c.in_name_order.ensures.same (c.from_vec.ensures ∙ c.in_ok-parts.ensures.shapes)

pub given_of-requires-clause-rising : goal.given_of-requires-clause-rising
given_of-requires-clause-rising c = rising c.in_name_order.result.items c.from_vec.result c.in_name_order.ensures.rising (c.from_vec.ensures ∙ c.in_ok-parts.ensures.shapes)

pub returns-clause-known : goal.returns-clause-known
returns-clause-known c =
    known c.args.loaded.items c.in_name_order.result.items c.in_ok-parts.parts.files.items (application_of c.in_ok-given.given) c.requires c.in_name_order.ensures.same c.in_ok-parts.ensures.files
    (rw c.as_slice.ensures.value at c.in_ok-given.ensures.given) c.in_ok-given.ensures.collectable

pub returns-clause-told : goal.returns-clause-told
returns-clause-told c =
    told c.args.loaded.items c.in_name_order.result.items c.in_ok-parts.parts.files.items (application_of c.in_ok-given.given) c.in_name_order.ensures.same c.in_name_order.ensures.rising
    c.in_ok-parts.ensures.files (c.in_ok-given.ensures.shapes ∙ c.from_vec.ensures ∙ c.in_ok-parts.ensures.shapes) (rw c.as_slice.ensures.value at c.in_ok-given.ensures.given)
