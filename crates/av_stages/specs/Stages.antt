-- What is known after each stage of acceptance, and where it stops in one.
use Rattle.std.specs.Prelude.{◌≡◌, ◌<◌, ◌≤◌, ⊤, ℕ, List, Option, None, Some, Contains, IfSome}
use Rattle.jv_types.specs.declared.frames.FramedBody.{FramedBody}
use Rattle.jv_types.specs.declared.ids.MethodId.{MethodId}
use Rattle.jv_types.specs.declared.quantity.Quantity.{Quantity}
use Rattle.jv_types.specs.declared.quantity.Quantity.TheVariants as quantities
use Rattle.jv_types.specs.declared.refusal.RulePlace.{RulePlace}
use Rattle.jv_types.specs.declared.refusal.RulePlace.TheVariants as places
use Rattle.jv_types.specs.declared.rule.Rule.{Rule}
use Rattle.jv_types.specs.declared.rule.Rule.TheVariants as rules
use Rattle.jv_types.specs.declared.shapes.Shape.{Shape}
use Rattle.jv_types.specs.Quantities.{quantity_limit}
use Rattle.jv_class.specs.declared.class_file.ClassFile.{ClassFile}
use Rattle.av_hierarchy.specs.Hierarchy.{FailsHierarchy, PassesHierarchy}
use Rattle.av_collected.specs.declared.collected.Collected.{Collected}
use Rattle.av_collected.specs.declared.stop.CollectStop.{CollectStop}
use Rattle.av_collected.specs.declared.stop.CollectStop.TheVariants as collecting
use Rattle.av_collected.specs.Answers.{AreCollected, AreTooMany, FailsNot}
use Rattle.av_collected.specs.Conditions.{AreGiven}
use Rattle.av_collected.specs.Libraries.{IsLibrary, LibraryFile}
use Rattle.av_collected.specs.Naming.{Application}
use Rattle.av_collected.specs.Rules.{ClassNamed, IsCollected}
use Rattle.jv_host.specs.declared.host.HostCall.{HostCall}
use Rattle.jv_host.specs.declared.host.HostCall.TheVariants as calls
use Rattle.jv_host.specs.declared.host.HostFile.{HostFile}
use Rattle.av_app_files.specs.Folders.{Folders}
use Rattle.av_program.specs.Reads.{file_of, most_read}
use Rattle.av_stops.specs.CollectedRules.{FailsCollection}
use Rattle.av_stops.specs.LibraryFolders.{IsLibraryIn, PassesLimit, PassesNoLimit}
use Rattle.av_app_files.specs.FileRules.{HasReservedName}
use Rattle.av_program.specs.declared.accept_stop.AcceptStop.{AcceptStop}
use Rattle.av_program.specs.declared.accept_stop.AcceptStop.TheVariants as stops
use Rattle.av_program.specs.declared.program.Program.{Program}
use Rattle.av_stops.specs.Applications.{IsGivenBy}
use Rattle.av_stops.specs.FirstStops.{insns_in, limit_of, program_world, refused_at, whole_world}
use Rattle.av_stops.specs.Mains.{HasNoMain, IsStartOf}
use Rattle.av_stops.specs.MethodRules.{AreAccepted, StopsAtMethod}
use Rattle.av_stops.specs.Programs.{AreStated, IsOfFile}

-- ---- what is given

-- the classes are those of files, none has a reserved name, and this is what is given of them
pub record IsKnown (classes : List ClassFile) (given : Application) : Type 0 where
  pub of_files : (class : ClassFile) → Contains classes class → IsOfFile class × ¬ HasReservedName class
  pub is_given : IsGivenBy classes given
  pub collectable : AreGiven given

-- ---- what is collected

-- the answer of acceptance to a stop of collection, where this is the file whose read failed
abbrev pub stop_of : CollectStop → Option (List ℕ) → AcceptStop
stop_of (collecting.LibraryForm name) file = refused_at rules.LibraryForm (places.Class name)
stop_of (collecting.Missing name) file = refused_at rules.MissingClass (places.Class name)
stop_of (collecting.NamesApplication name) file = refused_at rules.LibraryNamesApplication (places.Class name)
stop_of (collecting.Limit quantity) file = limit_of quantity
stop_of collecting.Failed None = stops.Memory
stop_of collecting.Failed (Some file) = stops.ReadFault file
stop_of collecting.Memory file = stops.Memory

-- It is collected of some library of stated classes, where no rule fails and not too many are collected.
pub record IsCollectedOfSome (given : Application) (found : Collected) : Type 0 where
  pub library : List LibraryFile
  pub is_library : IsLibrary library
  pub stated : AreStated library
  pub collected : AreCollected given library found
  pub fails_not : FailsNot given library
  pub few : ¬ AreTooMany given library

-- What was collected from the library of two folders: no limit of collection passes and no rule on collected classes fails.
pub record IsCollectedFrom (folders : Folders) (given : Application) (found : Collected) : Type 0 where
  pub library : List LibraryFile
  pub library_is : IsLibraryIn folders library
  pub no_limit : PassesNoLimit folders given library
  pub fails_not : FailsNot given library
  pub collected : AreCollected given library found

-- Where collection stops: a limit of it passes, or a rule on collected classes fails.
pub data StopsCollecting (folders : Folders) (given : Application) (stop : AcceptStop) : Type 0 where
  at_limit : (library : List LibraryFile) (quantity : Quantity) → IsLibraryIn folders library → stop ≡ limit_of quantity
      → PassesLimit folders given library quantity → StopsCollecting folders given stop
  at_collected : (library : List LibraryFile) (rule : Rule) (name : List ℕ) → IsLibraryIn folders library → stop ≡ refused_at rule (places.Class name)
      → PassesNoLimit folders given library → FailsCollection given library rule name → StopsCollecting folders given stop

-- A read of the file of a class that is collected from the library, where the host tells its files.
pub record IsClassCall (told : Option (List HostFile)) (lib : List ℕ) (given : Application) (call : HostCall) : Type 0 where
  pub name : List ℕ
  pub is : call ≡ calls.ReadFile lib (file_of name) most_read
  pub collected : IfSome told (λ files. (app : List ℕ) → (library : List LibraryFile) × IsLibraryIn (record { files = files; app = app; lib = lib }) library
      × IsCollected given library (ClassNamed name))

-- ---- supertypes

-- a rule on supertypes fails first at this class
abbrev pub StopsAtClass : List Shape → AcceptStop → Type 0
StopsAtClass w stop = (rule : Rule) × (name : List ℕ) × (stop ≡ refused_at rule (places.Class name)) × FailsHierarchy w rule name

-- ---- methods, the main and the instructions

-- the methods with their frames, the main that was asked for, and no more instructions than there may be
pub record IsTypedIn (w : List Shape) (classes : List ClassFile) (main : Option (List ℕ)) (dims : ℕ) (program : Program) : Type 0 where
  pub methods : AreAccepted w classes program.methods
  pub few : insns_in program.methods ≤ quantity_limit quantities.Instructions
  pub world : program.world ≡ w
  pub start : IsStartOf w main program.main
  pub dims_are : program.dims ≡ dims

-- Where it stops: at a method, at the main, or at the number of instructions.
pub data StopsTyping (w : List Shape) (classes : List ClassFile) (main : Option (List ℕ)) (stop : AcceptStop) : Type 0 where
  at_method : (rule : Rule) (place : RulePlace) → stop ≡ refused_at rule place → StopsAtMethod w classes rule place
      → StopsTyping w classes main stop
  at_main : (methods : List FramedBody) (class : List ℕ) → stop ≡ refused_at rules.NoMain (places.Class class) → main ≡ Some class
      → AreAccepted w classes methods → HasNoMain w class → StopsTyping w classes main stop
  at_instructions : (methods : List FramedBody) (start : Option MethodId) → stop ≡ limit_of quantities.Instructions
      → AreAccepted w classes methods → IsStartOf w main start
      → quantity_limit quantities.Instructions < insns_in methods → StopsTyping w classes main stop

-- ---- the program

-- No class fails a rule on supertypes, and no method one on methods; the main that was asked for is there, and there are
-- no more instructions than there may be. So it is a program.
pub record IsBuilt (classes : List ClassFile) (given : Application) (found : Collected) (main : Option (List ℕ)) (program : Program) : Type 0 where
  pub hierarchy : PassesHierarchy (whole_world given found)
  pub typed : IsTypedIn (program_world given found) classes main found.dims program

-- Where it stops in that: at a class, or in what comes after all classes.
pub data StopsBuilding (classes : List ClassFile) (given : Application) (found : Collected) (main : Option (List ℕ)) (stop : AcceptStop) : Type 0 where
  at_class : StopsAtClass (whole_world given found) stop → StopsBuilding classes given found main stop
  at_typing : PassesHierarchy (whole_world given found) → StopsTyping (program_world given found) classes main stop
      → StopsBuilding classes given found main stop

-- a stop that is no fault of reading: this, or want of memory
abbrev pub OrMemory : (AcceptStop → Type 0) → AcceptStop → Type 0
OrMemory P (stops.Refused refusal) = P (stops.Refused refusal)
OrMemory P (stops.Limit quantity number) = P (stops.Limit quantity number)
OrMemory P (stops.ReadFault name) = ⊥
OrMemory P stops.Memory = ⊤
