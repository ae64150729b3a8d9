-- What was passed is written.
use Rattle.std.proofs.Common.{◌≡◌, ◌++◌, take}
use Rattle.std.specs.List.{flat_map}
use Rattle.jv_pool.specs.PoolText.{u2}
use Rattle.jv_class.proofs.write.put_each_index.Given as goal

abbrev pub invariant-loop-index : goal.invariant-loop-index
invariant-loop-index l = (l.writer ≡ l.fn.writer ++ flat_map u2 (take l.index-index l.indices))
