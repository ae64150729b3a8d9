-- Names, types and members that are accessible where they are found.
use Rattle.std.proofs.Common.{◌≡◌, ℕ, List, Bool, true, false, IsTrue, IfOk, refl, sym, ◌∙◌, subst}
use Rattle.std.specs.Prelude.{◌↔◌, Result, Ok, Err}
use Rattle.jv_types.specs.declared.instruction.Arg.TheVariants as args
use Rattle.jv_types.specs.declared.instruction.Insn.{Insn}
use Rattle.jv_types.specs.declared.desc.RefType.{RefType, Class, PrimArray, Array, Array', Row_of-RefType, end_of-RefType, more_of-RefType}
use Rattle.jv_types.specs.declared.ids.FieldId.{FieldId}
use Rattle.jv_types.specs.declared.ids.MethodId.{MethodId}
use Rattle.jv_types.specs.declared.references.FieldRef.{FieldRef}
use Rattle.jv_types.specs.declared.references.MethodRef.{MethodRef}
use Rattle.jv_types.specs.declared.shapes.Shape.{Shape}
use Rattle.jv_world.specs.Worlds.{IsNamed, IsWorld}
use Rattle.jv_resolve.specs.Access.{IsClassAccessible, IsFieldAccessible, IsMethodAccessible}
use Rattle.jv_resolve.specs.Resolving.{ResolvesField}
use Rattle.jv_resolve.proofs.OneAnswer.{one_field, one_resolved, one_resolved_interface}
use Rattle.av_conditions.specs.Members.{ResolvesBy, ResolvesCall}
use Rattle.av_insn_rules.specs.InsnRules.{CallsReflection, IsNameAccessible, IsReflection, IsTypeAccessible}

-- the one class of a name decides
pub name_at_one : (w : List Shape) (from : ℕ) (name : List ℕ) (c : ℕ) (b : Bool) → IsWorld w → IsNamed w c name → IsTrue b ↔ IsClassAccessible w from c → IsTrue b ↔ IsNameAccessible w from name
name_at_one w from name c b world named exact = (
  λ t d other. subst (λ (n : ℕ). IsClassAccessible w from n) (world.numbered.distinct c d name named other) (exact.0 t),
  λ all. exact.1 (all c named),
)

-- an array of references is accessible where its items are
type-Array : (w : List Shape) (from : ℕ) (item : RefType) → IsTypeAccessible w from (Array item) ≡ IsTypeAccessible w from item
unfolding Rattle.jv_types.specs.declared.desc.RefType.TheBlock.shape-the_row-RefType-0 Rattle.jv_types.specs.declared.desc.RefType.TheBlock.hidden-the_row-RefType-0 denote.Hole.Carrier.hidden
type-Array w from item = refl

pub type_by_item : (w : List Shape) (from : ℕ) (type item got : RefType) (r : Bool) → type ≡ Array item → got ≡ item → IsTrue r ↔ IsTypeAccessible w from got → IsTrue r ↔ IsTypeAccessible w from type
type_by_item w from type item got r is read says =
    let P : RefType → Type 0 = IsTypeAccessible w from in
    let Q : Type 0 → Type 0 = λ A. A in (
      λ t. subst P (sym is) (subst Q (sym (type-Array w from item)) (subst P read (says.0 t))),
      λ p. says.1 (subst P (sym read) (subst Q (type-Array w from item) (subst P is p))),
    )

-- the one field to which a reference resolves decides
pub field_at_one : (w : List Shape) (from : ℕ) (r : FieldRef) (f : FieldId) (b : Bool) → IsWorld w → ResolvesField w r f → IsTrue b ↔ IsFieldAccessible w from r f
    → IsTrue b ↔ ((g : FieldId) → ResolvesField w r g → IsFieldAccessible w from r g)
field_at_one w from r f b world found exact = (
  λ t g other. subst (λ (h : FieldId). IsFieldAccessible w from r h) (one_field w r f g world found other) (exact.0 t),
  λ all. exact.1 (all f found),
)

-- a reference to a method resolves to one
one_by : (interface : Bool) (w : List Shape) (r : MethodRef) (m n : MethodId) → IsWorld w → ResolvesBy interface w r m → ResolvesBy interface w r n → m ≡ n
one_by false w r m n world p q = one_resolved w r m n world p q
one_by true w r m n world p q = one_resolved_interface w r m n world p q

pub one_call : (w : List Shape) (r : MethodRef) (m n : MethodId) → IsWorld w → ResolvesCall w r m → ResolvesCall w r n → m ≡ n
one_call w r m n world p q = one_by r.interface w r m n world p q

-- and it decides
pub method_at_one : (w : List Shape) (from : ℕ) (r : MethodRef) (m : MethodId) (b : Bool) → IsWorld w → ResolvesCall w r m → IsTrue b ↔ IsMethodAccessible w from r m
    → IsTrue b ↔ ((n : MethodId) → ResolvesCall w r n → IsMethodAccessible w from r n)
method_at_one w from r m b world found exact = (
  λ t n other. subst (λ (h : MethodId). IsMethodAccessible w from r h) (one_call w r m n world found other) (exact.0 t),
  λ all. exact.1 (all m found),
)

-- both of two, of which the one is so
pub both_ok : {E : Type 0} (r : Result Bool E) (P Q : Type 0) → P → IfOk r (λ b. IsTrue b ↔ Q) → IfOk r (λ b. IsTrue b ↔ (P × Q))
both_ok (Ok b) P Q p says = (λ t. (p, says.0 t), λ both. says.1 both.1)
both_ok (Err e) P Q p says = says

-- ---- reflection

same_ref : (r s : MethodRef) → args.Method r ≡ args.Method s → r ≡ s
same_ref r s e = cc

-- the one method to which a call resolves decides
pub reflection_at : (w : List Shape) (insn : Insn) (r : MethodRef) (m : MethodId) (b : Bool) → IsWorld w → insn.arg ≡ args.Method r → ResolvesCall w r m
    → IsTrue b ↔ IsReflection w m → IsTrue b ↔ CallsReflection w insn
reflection_at w insn r m b world is found says = (
  λ t. (m, (r, is, found), says.0 t),
  λ p.
      let own : r ≡ p.1.0 = same_ref r p.1.0 (sym is ∙ p.1.1) in
      let resolves : ResolvesCall w r p.0 = subst (λ (s : MethodRef). ResolvesCall w s p.0) (sym own) p.1.2 in
      says.1 (subst (IsReflection w) (one_call w r p.0 m world resolves found) p.2),
)
