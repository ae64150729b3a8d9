use Rattle.std.proofs.Common.{option_copied}
use Rattle.jv_world.proofs.SuperKinds.{IsCheckedUpTo}
use Rattle.jv_world.proofs.causes.least_wrong.Given as goal

abbrev pub invariant-loop-shape : goal.invariant-loop-shape
invariant-loop-shape l = IsCheckedUpTo l.shapes l.shape-index (option_copied l.best)
