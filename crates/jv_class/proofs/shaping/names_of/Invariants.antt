-- The names of those so far.
use Rattle.std.proofs.Common.{◌≡◌, Some, take}
use Rattle.std.specs.List.{AllZip}
use Rattle.jv_pool.specs.Lookups.{class_name_at}
use Rattle.jv_class.proofs.shaping.names_of.Given as goal

abbrev pub invariant-loop-index : goal.invariant-loop-index
invariant-loop-index l = AllZip (λ index name. class_name_at l.pool index ≡ Some name) (take l.index-index l.indices) l.names.items
