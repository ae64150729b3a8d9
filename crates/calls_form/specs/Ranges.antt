-- The numbers of a class that was read from bytes.
use Rattle.std.specs.Prelude.{◌≡◌, ℕ, ◌^◌, ◌<◌, length, Some}
use Rattle.std.specs.List.{slice_get}
use Rattle.calls_form.specs.declared.object_class.Placed.{Placed}
use Rattle.calls_form.specs.declared.object_class.Method.{Method}
use Rattle.calls_form.specs.declared.object_class.ObjectClass.{ObjectClass}

-- members are counted by two bytes (JVMS 4.1), and so is what a stack may hold (JVMS 4.7.3); each
-- instruction of a method starts behind the one before it
pub record IsInRange (class : ObjectClass) : Type 0 where
  pub few_fields : length class.fields < 2 ^ 16
  pub few_methods : length class.methods < 2 ^ 16
  pub stacks : (i : ℕ) (m : Method) → slice_get class.methods i ≡ Some m → m.max_stack < 2 ^ 16
  pub rises : (place i j : ℕ) (m : Method) (p q : Placed) → slice_get class.methods place ≡ Some m → slice_get m.code i ≡ Some p
      → slice_get m.code j ≡ Some q → i < j → p.pc < q.pc
