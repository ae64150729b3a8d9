use Rattle.std.proofs.Common.{◌≡◌, map}
use Rattle.av_load.specs.declared.app_class.AppClass.{AppClass}
use Rattle.av_stages.proofs.giving.files_and_shapes.Given as goal

abbrev pub invariant-loop-class : goal.invariant-loop-class
invariant-loop-class l =
    (l.parts.files.items ≡ map (λ (class : AppClass). class.file) l.yielded) × (l.parts.shapes.items ≡ map (λ (class : AppClass). class.shape) l.yielded)
