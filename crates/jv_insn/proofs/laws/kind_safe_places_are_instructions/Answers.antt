-- Where a frame fits there is an instruction.
use Rattle.std.proofs.Common.{refl}
use Rattle.jv_types.specs.Bodies.{at_offset}
use Rattle.jv_insn.proofs.OneEach.{value_of}
use Rattle.jv_insn.proofs.KindSafe.{fits_start, frame_of}
use Rattle.jv_insn.proofs.laws.kind_safe_places_are_instructions.Goals as goal

pub returns : goal.returns
returns c = record {
  jumps = λ world framed pc insn target safe stands goes.
      let frame = frame_of world framed safe pc (rw stands refl) in
      fits_start world framed safe target _ ((safe.each pc insn frame.0 stands frame.1).jumps target goes);
  handlers = λ world framed pc handler safe starts listed covers.
      let frame = frame_of world framed safe pc starts in
      let insn = value_of (at_offset pc framed.body.insns) starts in
      fits_start world framed safe handler.target _ ((safe.each pc insn.0 frame.0 insn.1 frame.1).throws handler listed covers);
  entry = λ world framed safe. fits_start world framed safe 0 _ safe.entry;
}
