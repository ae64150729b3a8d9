-- What an application does with its collected classes is what it does with them whole (JVMS 5.4.3, 6.5).
use Rattle.std.specs.Prelude.{◌≡◌, ◌≢◌, ℕ, ◌++◌, true, false, List}
use Rattle.jv_types.specs.declared.ids.FieldId.{FieldId}
use Rattle.jv_types.specs.declared.ids.MethodId.{MethodId}
use Rattle.jv_types.specs.declared.instruction.Arg.TheVariants.{Field, Method}
use Rattle.jv_types.specs.declared.instruction.Insn.{Insn}
use Rattle.jv_types.specs.declared.references.FieldRef.{FieldRef}
use Rattle.jv_types.specs.declared.references.MethodRef.{MethodRef}
use Rattle.jv_types.specs.declared.shapes.FieldShape.{FieldShape}
use Rattle.jv_types.specs.declared.shapes.MethodShape.{MethodShape}
use Rattle.jv_types.specs.declared.shapes.Shape.{Shape}
use Rattle.jv_world.specs.Worlds.{Sub}
use Rattle.jv_resolve.specs.Members.{IsField, IsFieldCalled, IsMethod, IsMethodCalled}
use Rattle.jv_resolve.specs.Selecting.{SelectsInterface, SelectsSpecial, SelectsVirtual}
use Rattle.jv_two_worlds.specs.Agreeing.{Agree}
use Rattle.jv_fewer_members.specs.Keeping.{class_init_name, IsSelectable, KeepsField, KeepsInterfaceMethod, KeepsMembers, KeepsMethod}
use Rattle.jv_fewer_members.specs.Parts.{HasFewerMembers, Places, whole_field, whole_method}
use Rattle.av_conditions.specs.Members.{RefersToField, RefersToMethod, ResolvesCall}
use Rattle.av_collected.specs.declared.collected.Collected.{Collected}
use Rattle.av_collected.specs.Naming.{Application, HasInsn}

-- the application with its collected classes whole
abbrev pub whole_classes : Application → Collected → List Shape
whole_classes given found = given.shapes ++ found.full

-- the application with its collected classes, their collected members alone
abbrev pub collected_classes : Application → Collected → List Shape
collected_classes given found = given.shapes ++ found.shapes

-- no class declares two fields, or two methods, of one name and descriptor (JVMS 4.5, 4.6)
pub record HaveDistinctMembers (w : List Shape) : Type 0 where
  pub fields : (f g : FieldId) (x y : FieldShape) → f.class ≡ g.class → IsField w f x → IsField w g y → IsFieldCalled x.name x.desc y → f ≡ g
  pub methods : (m n : MethodId) (x y : MethodShape) → m.class ≡ n.class → IsMethod w m x → IsMethod w n y → IsMethodCalled x.name x.desc y → m ≡ n

-- what the application's references resolve to is kept
pub record KeepsReferences (given : Application) (w v : List Shape) (at : Places) : Type 0 where
  pub fields : (insn : Insn) (r : FieldRef) → HasInsn given.bodies insn → insn.arg ≡ Field r → KeepsField w v at r
  pub methods : (insn : Insn) (r : MethodRef) → HasInsn given.bodies insn → insn.arg ≡ Method r → r.interface ≡ false → KeepsMethod w v at r
  pub interface_methods : (insn : Insn) (r : MethodRef) → HasInsn given.bodies insn → insn.arg ≡ Method r → r.interface ≡ true → KeepsInterfaceMethod w v at r

-- the part v of the world w keeps enough for the application
pub record KeepsEnough (given : Application) (w v : List Shape) (at : Places) : Type 0 where
  pub part : HasFewerMembers w v at
  pub members : KeepsMembers w v at
  pub references : KeepsReferences given w v at

-- An instruction of the application refers in the part to a member where it refers to the same one in the whole, and to none where it refers to none there.
pub record ReferencesAgree (given : Application) (w v : List Shape) (at : Places) : Type 0 where
  pub fields : (insn : Insn) → HasInsn given.bodies insn → Agree (whole_field at) (RefersToField v insn) (RefersToField w insn)
  pub methods : (insn : Insn) → HasInsn given.bodies insn → ((r : MethodRef) → insn.arg ≡ Method r → r.name ≢ class_init_name) → Agree (whole_method at) (RefersToMethod v insn) (RefersToMethod w insn)

-- A call of a method of the part, on an object of a class below that of the method, runs in the part what it runs in the whole, or nothing in both.
pub record CallsAgree (w v : List Shape) (at : Places) : Type 0 where
  pub by_virtual : (c : ℕ) (resolved : MethodId) → IsSelectable v resolved → Sub w c resolved.class.number
      → Agree (whole_method at) (SelectsVirtual v c resolved) (SelectsVirtual w c (whole_method at resolved))
  pub by_interface : (c : ℕ) (resolved : MethodId) → IsSelectable v resolved → Sub w c resolved.class.number
      → Agree (whole_method at) (SelectsInterface v c resolved) (SelectsInterface w c (whole_method at resolved))
  pub by_special : (from : ℕ) (r : MethodRef) (resolved : MethodId) → ResolvesCall w r (whole_method at resolved) → IsSelectable v resolved
      → Agree (whole_method at) (SelectsSpecial v from r resolved) (SelectsSpecial w from r (whole_method at resolved))

-- the part of the whole in which references and calls of the application agree with it
pub record AgreesWith (given : Application) (w v : List Shape) : Type 0 where
  pub at : Places
  pub part : HasFewerMembers w v at
  pub references : ReferencesAgree given w v at
  pub calls : CallsAgree w v at
