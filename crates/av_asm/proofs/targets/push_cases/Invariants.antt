use Rattle.std.proofs.Common.{◌≡◌, ◌++◌, map, take}
use Rattle.av_asm.proofs.targets.push_cases.Given as goal

abbrev pub invariant-loop-case : goal.invariant-loop-case
invariant-loop-case l = l.targets.items ≡ l.fn.targets.items ++ map (λ (case : _). case.1) (take l.case-index l.cases)
