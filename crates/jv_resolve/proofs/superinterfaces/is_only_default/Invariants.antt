-- Each of the methods so far is this one where it is maximally specific and not abstract.
use Rattle.std.proofs.Common.{◌≡◌, ℕ, ◌<◌, Some}
use Rattle.std.specs.List.{slice_get}
use Rattle.jv_types.specs.declared.ids.MethodId.{MethodId}
use Rattle.jv_resolve.specs.Steps.Among.{IsDefaultAmong}
use Rattle.jv_resolve.proofs.superinterfaces.is_only_default.Given as goal

abbrev pub invariant-loop-other : goal.invariant-loop-other
invariant-loop-other l = (k : ℕ) (x : MethodId) → k < l.other-index → slice_get l.methods k ≡ Some x → IsDefaultAmong l.world l.methods x → x ≡ l.m
