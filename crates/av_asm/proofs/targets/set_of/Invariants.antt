use Rattle.std.proofs.Common.{◌≡◌, ℕ, take}
use Rattle.std.specs.Ordering.{nat_cmp}
use Rattle.std.specs.BTreeSet.{contains}
use Rattle.av_asm.specs.Planning.{is_among}
use Rattle.av_asm.proofs.targets.set_of.Given as goal

abbrev pub invariant-loop-offset : goal.invariant-loop-offset
invariant-loop-offset l = (pc : ℕ) → contains nat_cmp l.set pc ≡ is_among (take l.offset-index l.offsets) pc
