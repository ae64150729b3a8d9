-- What is kept of a class for the search: its instructions as the rules see them, and its finalizers.
use Rattle.std.specs.Prelude.{◌≡◌, ℕ, suc, ◌<◌, ◌^◌, ◌↔◌, List, length, Some, Contains, codes}
use Rattle.std.specs.List.{slice_get}
use Rattle.calls_form.specs.declared.object_class.Placed.{Placed}
use Rattle.calls_form.specs.declared.object_class.Method.{Method}
use Rattle.calls_form.specs.declared.object_class.ObjectClass.{ObjectClass}
use Rattle.jv_types.specs.declared.fact.CallFrom.TheVariants.{Root}
use Rattle.jv_types.specs.declared.fact.Fact.{Fact}
use Rattle.jv_types.specs.declared.fact.Fact.TheVariants.{Edge}
use Rattle.calls_form.specs.Flags.{IsPublic, IsStatic}
use Rattle.calls_form.specs.Descriptors.{main_desc}
use Rattle.calls_form.specs.Kinds.{IsKindSafe}
use Rattle.calls_model.specs.First.Machine.{InstructionAt, IsMain, IsFinalize}
use Rattle.calls_facts.specs.declared.first.step.Step.{Step}
use Rattle.calls_facts.specs.First.Names.{own, pc_of, pc_at}
use Rattle.calls_facts.specs.First.Depths.{depth_from, depth_at}

-- what is asked of a class whose facts are searched: kind-safe methods, in each of which the offsets rise,
-- and numbers that a class file can have
pub record IsReadable (class : ObjectClass) : Type 0 where
  pub safe : IsKindSafe class
  pub rises : (m i j : ℕ) (p q : Placed) → InstructionAt class m i p → InstructionAt class m j q → i < j → p.pc < q.pc
  pub few : length class.methods < 2 ^ 16
  pub low : (place : ℕ) (m : Method) → slice_get class.methods place ≡ Some m → m.max_stack < 2 ^ 16

-- the instruction at an index of a code
abbrev pub step_in : ObjectClass → List Placed → ℕ → Placed → Step
step_in class code i p = record { pc = p.pc; next = pc_of (slice_get code (suc i)); depth = depth_from class 0 code i; instruction = p.instruction }

-- the instruction at an index of the method at a place
abbrev pub step_at : ObjectClass → ℕ → ℕ → Placed → Step
step_at class m i p = record { pc = p.pc; next = pc_at class m (suc i); depth = depth_at class m i; instruction = p.instruction }

-- so few words stand on the stack before each instruction of the code
pub record HasLowDepths (class : ObjectClass) (code : List Placed) : Type 0 where
  pub low : (i : ℕ) → i < length code → depth_from class 0 code i < 2 ^ 16

-- the instructions of a code
pub record AreStepsOf (class : ObjectClass) (code : List Placed) (row : List Step) : Type 0 where
  pub count : length row ≡ length code
  pub each : (i : ℕ) (p : Placed) → slice_get code i ≡ Some p → slice_get row i ≡ Some (step_in class code i p)

-- the instructions of each method of the class, and of no other
pub record AreSteps (class : ObjectClass) (steps : List (List Step)) : Type 0 where
  pub there : (m i : ℕ) (p : Placed) → InstructionAt class m i p → (row : List Step) × (slice_get steps m ≡ Some row) × (slice_get row i ≡ Some (step_at class m i p))
  pub only : (m : ℕ) (row : List Step) (i : ℕ) (st : Step) → slice_get steps m ≡ Some row → slice_get row i ≡ Some st
      → (p : Placed) × InstructionAt class m i p × (st ≡ step_at class m i p)

-- the places of the class's finalizers
pub record AreFinalizers (class : ObjectClass) (places : List ℕ) : Type 0 where
  pub all : (to : ℕ) → Contains places to ↔ IsFinalize class to

-- public static main of the array of arguments (JVMS 5.2)
abbrev pub IsMainMethod : Method → Type 0
IsMainMethod m = (m.name ≡ codes "main") × (m.desc ≡ main_desc) × IsPublic m.access × IsStatic m.access

-- an object's finalizer (JLS 12.6)
abbrev pub IsFinalizeMethod : Method → Type 0
IsFinalizeMethod m = (m.name ≡ codes "finalize") × (m.desc ≡ codes "()V") × ¬ IsStatic m.access

-- the library's call of main
abbrev pub MainEdge : ObjectClass → Fact → Type 0
MainEdge class fact = (m : ℕ) × IsMain class m × (fact ≡ Edge Root (own m))
