use Rattle.std.proofs.Common.{◌≡◌, ℕ, List, Some, get_or}
use Rattle.jv_lists.proofs.Places.{same_at}
use Rattle.jv_lists.proofs.Zips.{zip_more_of}
use Rattle.jv_pool.specs.Lookups.{class_name_at}
use Rattle.jv_class.proofs.shaping.names_of.Goals as goal

pub loop-index-preserved : goal.loop-index-preserved
loop-index-preserved c =
    let R = λ (index : ℕ) (name : List ℕ). class_name_at c.args.pool.now index ≡ Some name in
    rw c.in_ok-push.ensures.items (zip_more_of R c.args.indices.now c.loop-index.names.items c.loop-index.index-index (get_or c.args.indices.now c.loop-index.index-index 0) c.in_ok-name.name c.loop-index-test.true (same_at c.args.indices.now c.loop-index.index-index 0 (get_or c.args.indices.now c.loop-index.index-index 0) c.loop-index-test.true) c.loop-index.invariant c.in_ok-name.ensures)
