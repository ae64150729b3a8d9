use Rattle.std.proofs.Common.{◌≡◌, take}
use Rattle.av_templates.proofs.putting.copied.Given as goal

abbrev pub invariant-loop-of : goal.invariant-loop-of
invariant-loop-of l = l.made.items ≡ take l.of-index l.types
