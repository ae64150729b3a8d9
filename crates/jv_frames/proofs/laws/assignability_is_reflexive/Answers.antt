use Rattle.std.proofs.Common.{refl, List, [], ◌∷◌}
use Rattle.std.specs.List.{AllZip}
use Rattle.jv_types.specs.declared.shapes.Shape.{Shape}
use Rattle.jv_types.specs.declared.frames.VType.{VType}
use Rattle.jv_frames.specs.Assignable.{IsAssignable, same}
use Rattle.jv_frames.proofs.laws.assignability_is_reflexive.Goals as goal

each_to_itself : (w : List Shape) (types : List VType) → AllZip (IsAssignable w) types types
each_to_itself w [] = tt
each_to_itself w (type ∷ types) = (same type type refl, each_to_itself w types)

pub returns-clause-types : goal.returns-clause-types
returns-clause-types c = λ w a. same a a refl

pub returns-clause-frames : goal.returns-clause-frames
returns-clause-frames c = λ w f. record { locals = each_to_itself w f.locals; stack = each_to_itself w f.stack; flag = λ h. h }
