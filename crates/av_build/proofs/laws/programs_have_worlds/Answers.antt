use Rattle.av_build.proofs.Parts.{Laws, program_is_world}
use Rattle.av_build.proofs.laws.programs_have_worlds.Goals as goal

pub returns : goal.returns
returns c =
    let laws : Laws = record {
      enough = c.collected_keeps_enough.ensures;
      worlds = c.parts_are_worlds.ensures;
      distinct = c.whole_classes_are_complete.ensures.distinct;
    } in
    program_is_world laws
