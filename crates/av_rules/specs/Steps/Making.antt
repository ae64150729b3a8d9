-- What is made in a body.
use Rattle.std.specs.Prelude.{◌≡◌, ℕ, List, Some}
use Rattle.jv_types.specs.Bodies.{at_offset}
use Rattle.jv_types.specs.declared.frames.FramedBody.{FramedBody}
use Rattle.jv_types.specs.declared.instruction.Insn.{Insn}
use Rattle.jv_types.specs.declared.shapes.Shape.{Shape}
use Rattle.av_rules.specs.declared.flat_type.FlatType.{FlatType}
use Rattle.av_rules.specs.Labels.{Makes}

-- the instruction at this offset makes objects of this type at this depth
abbrev pub MakesAt : List Shape → FramedBody → ℕ → ℕ → FlatType → Type 0
MakesAt w framed pc depth made = (insn : Insn) × (at_offset pc framed.body.insns ≡ Some insn) × Makes w insn depth made
