-- The frame after the instruction at an offset, where that works on references.
use Rattle.std.specs.Prelude.{◌≡◌, ℕ, List, Some}
use Rattle.jv_types.specs.Bodies.{at_offset}
use Rattle.jv_types.specs.declared.ids.MethodId.{MethodId}
use Rattle.jv_types.specs.declared.body.Body.{Body}
use Rattle.jv_types.specs.declared.instruction.Insn.{Insn}
use Rattle.jv_types.specs.declared.frames.Frame.{Frame}
use Rattle.jv_types.specs.declared.shapes.Shape.{Shape}
use Rattle.jv_typing.specs.References.{Site, IsRefTyping}

-- the offset of a method's code, which is that of a class of this number
abbrev pub site : ℕ → MethodId → Body → ℕ → Site
site from method body pc = record { from = from; method = method; body = body; pc = pc }

-- an instruction that works on references starts there, and leads from the one frame to the other (JVMS 4.10.1.9)
abbrev pub LeadsTo : List Shape → Site → Frame → Frame → Type 0
LeadsTo w place frame after = (insn : Insn) × (at_offset place.pc place.body.insns ≡ Some insn) × IsRefTyping w place frame insn after
