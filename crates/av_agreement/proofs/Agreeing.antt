-- What an application refers to and calls in a part that keeps enough.
use Rattle.std.proofs.Common.{◌≡◌, ◌≢◌, ℕ, ◌⊎◌, Bool, true, false, List, refl, inl, inr}
use Rattle.jv_types.specs.declared.ids.MethodId.{MethodId}
use Rattle.jv_types.specs.declared.instruction.Arg.TheVariants.{Method}
use Rattle.jv_types.specs.declared.instruction.Insn.{Insn}
use Rattle.jv_types.specs.declared.references.FieldRef.{FieldRef}
use Rattle.jv_types.specs.declared.references.MethodRef.{MethodRef}
use Rattle.jv_types.specs.declared.shapes.Shape.{Shape}
use Rattle.jv_world.specs.Worlds.{Sub}
use Rattle.jv_resolve.specs.Resolving.{ResolvesField, ResolvesInterfaceMethod, ResolvesMethod}
use Rattle.jv_resolve.specs.Selecting.{SelectsInterface, SelectsSpecial, SelectsVirtual}
use Rattle.jv_two_worlds.specs.Agreeing.{Agree}
use Rattle.jv_fewer_members.specs.Keeping.{class_init_name, IsSelectable, KeepsAlike, KeepsField, KeepsInterfaceMethod, KeepsMembers, KeepsMethod}
use Rattle.jv_fewer_members.specs.Parts.{HasFewerMembers, Places, whole_field, whole_method}
use Rattle.av_conditions.specs.Members.{RefersToField, RefersToMethod, ResolvesBy}
use Rattle.av_collected.specs.Naming.{Application, HasInsn}
use Rattle.av_agreement.specs.Agreement.{AgreesWith, KeepsEnough}

-- the laws of a world and a part of it
pub record Laws : Type 0 where
  pub fields : (w v : List Shape) (at : Places) (r : FieldRef) → HasFewerMembers w v at → KeepsAlike w v at → KeepsField w v at r → Agree (whole_field at) (ResolvesField v r) (ResolvesField w r)
  pub methods : (w v : List Shape) (at : Places) (r : MethodRef) → HasFewerMembers w v at → KeepsMembers w v at → KeepsMethod w v at r → r.name ≢ class_init_name
      → Agree (whole_method at) (ResolvesMethod v r) (ResolvesMethod w r)
  pub interface_methods : (w v : List Shape) (at : Places) (r : MethodRef) → HasFewerMembers w v at → KeepsMembers w v at → KeepsInterfaceMethod w v at r → r.name ≢ class_init_name
      → Agree (whole_method at) (ResolvesInterfaceMethod v r) (ResolvesInterfaceMethod w r)
  pub by_virtual : (w v : List Shape) (at : Places) (c : ℕ) (resolved : MethodId) → HasFewerMembers w v at → KeepsMembers w v at → IsSelectable v resolved → Sub w c resolved.class.number
      → Agree (whole_method at) (SelectsVirtual v c resolved) (SelectsVirtual w c (whole_method at resolved))
  pub by_interface : (w v : List Shape) (at : Places) (c : ℕ) (resolved : MethodId) → HasFewerMembers w v at → KeepsMembers w v at → IsSelectable v resolved → Sub w c resolved.class.number
      → Agree (whole_method at) (SelectsInterface v c resolved) (SelectsInterface w c (whole_method at resolved))
  pub by_special : (w v : List Shape) (at : Places) (from : ℕ) (r : MethodRef) (resolved : MethodId) → HasFewerMembers w v at → KeepsMembers w v at → IsSelectable v resolved
      → ResolvesMethod w r (whole_method at resolved) ⊎ ResolvesInterfaceMethod w r (whole_method at resolved)
      → Agree (whole_method at) (SelectsSpecial v from r resolved) (SelectsSpecial w from r (whole_method at resolved))

resolves_by : (b : Bool) (w : List Shape) (r : MethodRef) (m : MethodId) → ResolvesBy b w r m → ResolvesMethod w r m ⊎ ResolvesInterfaceMethod w r m
resolves_by false w r m p = inl p
resolves_by true w r m p = inr p

module _ (laws : Laws) {given : Application} {w v : List Shape} {at : Places} (enough : KeepsEnough given w v at) where
  field_refers : (insn : Insn) → HasInsn given.bodies insn → Agree (whole_field at) (RefersToField v insn) (RefersToField w insn)
  field_refers insn has = record {
    into = λ g q. (q.0, q.1, (laws.fields w v at q.0 enough.part enough.members.alike (enough.references.fields insn q.0 has q.1)).into g q.2);
    back = λ f p.
        let o = (laws.fields w v at p.0 enough.part enough.members.alike (enough.references.fields insn p.0 has p.1)).back f p.2 in
        (o.0, o.1, (p.0, p.1, o.2));
  }

  by_kind : (insn : Insn) (r : MethodRef) → HasInsn given.bodies insn → insn.arg ≡ Method r → r.name ≢ class_init_name → (b : Bool) → r.interface ≡ b → Agree (whole_method at) (ResolvesBy b v r) (ResolvesBy b w r)
  by_kind insn r has e init false kind = laws.methods w v at r enough.part enough.members (enough.references.methods insn r has e kind) init
  by_kind insn r has e init true kind = laws.interface_methods w v at r enough.part enough.members (enough.references.interface_methods insn r has e kind) init

  method_refers : (insn : Insn) → HasInsn given.bodies insn → ((r : MethodRef) → insn.arg ≡ Method r → r.name ≢ class_init_name) → Agree (whole_method at) (RefersToMethod v insn) (RefersToMethod w insn)
  method_refers insn has named = record {
    into = λ n q. (q.0, q.1, (by_kind insn q.0 has q.1 (named q.0 q.1) q.0.interface refl).into n q.2);
    back = λ m p.
        let o = (by_kind insn p.0 has p.1 (named p.0 p.1) p.0.interface refl).back m p.2 in
        (o.0, o.1, (p.0, p.1, o.2));
  }

  pub agrees : AgreesWith given w v
  agrees = record {
    at = at;
    part = enough.part;
    references = record { fields = field_refers; methods = method_refers };
    calls = record {
      by_virtual = λ c resolved is up. laws.by_virtual w v at c resolved enough.part enough.members is up;
      by_interface = λ c resolved is up. laws.by_interface w v at c resolved enough.part enough.members is up;
      by_special = λ from r resolved resolves is. laws.by_special w v at from r resolved enough.part enough.members is (resolves_by r.interface w r (whole_method at resolved) resolves);
    };
  }
