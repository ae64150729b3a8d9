-- The frame after an instruction (JVMS 4.10.1.9).
use Rattle.std.specs.Prelude.{List}
use Rattle.jv_types.specs.declared.shapes.Shape.{Shape}
use Rattle.jv_types.specs.declared.instruction.Insn.{Insn}
use Rattle.jv_types.specs.declared.frames.Frame.{Frame}
use Rattle.jv_typing.specs.Typing.{IsWordTyping}
use Rattle.jv_typing.specs.References.{Site, IsRefTyping}

-- an instruction leads from the one frame to the other: one that works on words, or one that works on
-- references or moves words
pub data StepTyping (w : List Shape) (site : Site) (frame : Frame) (insn : Insn) (after : Frame) : Type 0 where
  words : IsWordTyping site.body.max_stack frame insn after → StepTyping w site frame insn after
  references : IsRefTyping w site frame insn after → StepTyping w site frame insn after
