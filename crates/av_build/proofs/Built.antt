-- The files that a program's world begins with, and where it stops after its supertypes.
use Rattle.std.proofs.Common.{◌≡◌, ℕ, List, Option, Result, Ok, Err, IfErr, subst}
use Rattle.jv_types.specs.declared.shapes.Shape.{Shape}
use Rattle.jv_class.specs.declared.class_file.ClassFile.{ClassFile}
use Rattle.av_hierarchy.specs.Hierarchy.{PassesHierarchy}
use Rattle.av_collected.specs.declared.collected.Collected.{Collected}
use Rattle.av_collected.specs.Naming.{Application}
use Rattle.av_program.specs.declared.accept_stop.AcceptStop.{AcceptStop}
use Rattle.av_program.specs.declared.accept_stop.AcceptStop.TheVariants.{Refused, Limit, ReadFault, Memory}
use Rattle.av_program.specs.declared.program.Program.{Program}
use Rattle.av_stops.specs.FirstStops.{program_world, whole_world}
use Rattle.av_method_rules.specs.Files.{AreFilesOf}
use Rattle.av_stages.specs.Stages.{IsKnown, OrMemory, StopsBuilding, StopsTyping, at_typing}

-- the world begins with the classes of the files
pub files_of : (classes : List ClassFile) (given : Application) (found : Collected) (w : List Shape) → IsKnown classes given → w ≡ program_world given found → AreFilesOf w classes
files_of classes given found w known is = record {
  texts = λ class h. (known.of_files class h).0;
  shapes = given.shapes;
  others = found.shapes;
  world = is;
  stated = known.is_given.shapes;
}

-- a stop by one cause is one by another
or_memory : (P Q : AcceptStop → Type 0) (stop : AcceptStop) → (P stop → Q stop) → OrMemory P stop → OrMemory Q stop
or_memory P Q (Refused refusal) so p = so p
or_memory P Q (Limit quantity number) so p = so p
or_memory P Q (ReadFault name) so p = p
or_memory P Q Memory so p = tt

module _ (classes : List ClassFile) (given : Application) (found : Collected) (main : Option (List ℕ)) where
  module _ (w : List Shape) (is : w ≡ program_world given found) (passes : PassesHierarchy (whole_world given found)) where
    pub stopped_in_typing : (r : Result Program AcceptStop) → IfErr r (OrMemory (StopsTyping w classes main)) → IfErr r (OrMemory (StopsBuilding classes given found main))
    stopped_in_typing (Ok program) p = tt
    stopped_in_typing (Err stop) p =
        or_memory (StopsTyping w classes main) (StopsBuilding classes given found main) stop
        (λ h. at_typing passes (subst (λ (l : List Shape). StopsTyping l classes main stop) is h)) p
