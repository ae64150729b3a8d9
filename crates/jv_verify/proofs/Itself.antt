-- A frame is assignable to itself.
use Rattle.std.proofs.Common.{List, [], ◌∷◌, refl}
use Rattle.std.specs.List.{AllZip}
use Rattle.jv_types.specs.declared.shapes.Shape.{Shape}
use Rattle.jv_types.specs.declared.frames.VType.{VType}
use Rattle.jv_types.specs.declared.frames.Frame.{Frame}
use Rattle.jv_frames.specs.Assignable.{IsAssignable, IsFrameAssignable, same}

to_itself : (w : List Shape) (types : List VType) → AllZip (IsAssignable w) types types
to_itself w [] = tt
to_itself w (type ∷ types) = (same type type refl, to_itself w types)

pub frame_to_itself : (w : List Shape) (frame : Frame) → IsFrameAssignable w frame frame
frame_to_itself w frame = record { locals = to_itself w frame.locals; stack = to_itself w frame.stack; flag = λ h. h }
