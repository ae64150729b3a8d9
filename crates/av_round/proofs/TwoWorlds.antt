-- The laws of worlds that a round is told.
use Rattle.std.proofs.Common.{ℕ, List, Contains}
use Rattle.jv_types.specs.declared.references.FieldRef.{FieldRef}
use Rattle.jv_types.specs.declared.references.MethodRef.{MethodRef}
use Rattle.jv_types.specs.declared.shapes.Shape.{Shape}
use Rattle.jv_world.specs.Worlds.{HaveDistinctNames, IsNamed, IsWorld}
use Rattle.jv_resolve.specs.References.{BeginsAt}
use Rattle.jv_resolve.specs.Resolving.{ResolvesField, ResolvesInterfaceMethod, ResolvesMethod}
use Rattle.jv_two_worlds.specs.Agreeing.{Agree}
use Rattle.jv_two_worlds.specs.Renumbering.{StandsIn, field_to, method_to}
use Rattle.jv_two_worlds.specs.SameClasses.{IsSameClass}
use Rattle.av_collected.proofs.Same.{Longer}
use Rattle.av_whole.specs.WholeClasses.{HasWholeClasses}

abbrev pub AnyOrder : Type 0
AnyOrder = (w v : List Shape) → IsWorld w → HaveDistinctNames v → ((shape : Shape) → Contains w shape → (other : Shape) × Contains v other × IsSameClass shape other)
    → (to : ℕ → ℕ) × StandsIn w v to

abbrev pub FieldsAlike : Type 0
FieldsAlike = (w v : List Shape) (to : ℕ → ℕ) (c : ℕ) (r : FieldRef) → StandsIn w v to → IsNamed w c r.class → Agree (field_to to) (ResolvesField w r) (ResolvesField v r)

abbrev pub MethodsAlike : Type 0
MethodsAlike = (w v : List Shape) (to : ℕ → ℕ) (c : ℕ) (r : MethodRef) → StandsIn w v to → BeginsAt w r.class c → Agree (method_to to) (ResolvesMethod w r) (ResolvesMethod v r)

abbrev pub InterfaceMethodsAlike : Type 0
InterfaceMethodsAlike = (w v : List Shape) (to : ℕ → ℕ) (c : ℕ) (r : MethodRef) → StandsIn w v to → BeginsAt w r.class c
    → Agree (method_to to) (ResolvesInterfaceMethod w r) (ResolvesInterfaceMethod v r)

abbrev pub Greatest : Type 0
Greatest = (shapes w v : List Shape) → HaveDistinctNames shapes → HasWholeClasses shapes v → IsWorld w → ((s : Shape) → Contains w s → Contains shapes s)
    → (s : Shape) → Contains w s → Contains v s

pub record Laws : Type 0 where
  pub any_order : AnyOrder
  pub fields : FieldsAlike
  pub methods : MethodsAlike
  pub interface_methods : InterfaceMethodsAlike
  pub longer : Longer
  pub greatest : Greatest
