use Rattle.tests_collect.proofs.BoundLemmas.{small_both}
use Rattle.tests_collect.proofs.bounds.has_small_parts.Goals as goal

pub returns-then-are_small_types : goal.returns-then-are_small_types
returns-then-are_small_types c =
    small_both c.args.desc.now c.as_slice.result.now c.are_small_types.result c.is_small_result.result c.as_slice.ensures c.are_small_types.ensures c.if-are_small_types.true c.is_small_result.ensures
