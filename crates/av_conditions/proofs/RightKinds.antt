-- References that resolve, and of which kind.
use Rattle.std.proofs.Common.{◌≡◌, ℕ, Bool, true, false, List, Some, slice_get, IsTrue, sym, ◌∙◌, ap, subst}
use Rattle.std.specs.Prelude.{◌↔◌, ◌==◌}
use Rattle.jv_table.specs.declared.ops.TheConstants.{INVOKESTATIC}
use Rattle.jv_types.specs.declared.access.Access.{Access}
use Rattle.jv_types.specs.declared.ids.FieldId.{FieldId}
use Rattle.jv_types.specs.declared.ids.MethodId.{MethodId}
use Rattle.jv_types.specs.declared.references.FieldRef.{FieldRef}
use Rattle.jv_types.specs.declared.references.MethodRef.{MethodRef}
use Rattle.jv_types.specs.declared.shapes.FieldShape.{FieldShape}
use Rattle.jv_types.specs.declared.shapes.MethodShape.{MethodShape}
use Rattle.jv_types.specs.declared.shapes.Shape.{Shape}
use Rattle.jv_world.specs.Worlds.{IsWorld}
use Rattle.jv_resolve.specs.Members.{IsField, IsMethod, IsStatic}
use Rattle.jv_resolve.specs.Resolving.{ResolvesField}
use Rattle.jv_resolve.proofs.Hierarchy.{one_shape}
use Rattle.jv_resolve.proofs.MembersLemmas.{one_method}
use Rattle.jv_resolve.proofs.OneAnswer.{one_field, one_resolved, one_resolved_interface}
use Rattle.av_conditions.specs.Members.{ResolvesBy, ResolvesCall}
use Rattle.av_conditions.specs.RightReferences.{is_static_access, IsRightField, IsRightForm, IsRightCall, IsTypeThere}

-- a reference to a method resolves to one
pub one_by : (b : Bool) (w : List Shape) (r : MethodRef) (m n : MethodId) → IsWorld w → ResolvesBy b w r m → ResolvesBy b w r n → m ≡ n
one_by false w r m n world p q = one_resolved w r m n world p q
one_by true w r m n world p q = one_resolved_interface w r m n world p q

one_field_shape : (w : List Shape) (f : FieldId) (x y : FieldShape) → IsField w f x → IsField w f y → x ≡ y
one_field_shape w f x y p q =
    let shapes : p.0 ≡ q.0 = one_shape w f.class.number p.0 q.0 p.1 q.1 in
    let e : Some x ≡ Some y = sym p.2 ∙ ap (λ (s : Shape). slice_get s.fields f.index) shapes ∙ q.2 in
    cc

pub field_right : (w : List Shape) (op : ℕ) (r : FieldRef) (f : FieldId) (flags : Access) (wanted has b : Bool) → IsWorld w → ResolvesField w r f
    → ((x : FieldShape) × IsField w f x × (flags ≡ x.flags)) → wanted ≡ is_static_access op → IsTrue has ↔ IsStatic flags → IsTrue b ↔ (IsTrue wanted ↔ IsTrue has) → IsTrue b ↔ IsRightField w op r
field_right w op r f flags wanted has b world resolves (x, at, e) is static says = (
  λ t.
      let k = says.0 t in
      let P : Bool → Type 0 = λ v. IsTrue v ↔ IsStatic flags in
      let kind : IsTrue wanted ↔ IsStatic flags = (λ s. static.0 (k.0 s), λ s. k.1 (static.1 s)) in
      let kind_op : IsTrue (is_static_access op) ↔ IsStatic flags = subst P is kind in
      let Q : Access → Type 0 = λ a. IsTrue (is_static_access op) ↔ IsStatic a in
      record { field = f; resolves = resolves; shape = x; place = at; kind = subst Q e kind_op },
  λ p.
      let F : FieldId → Type 0 = λ g. IsField w g p.shape in
      let mine : IsField w f p.shape = subst F (one_field w r p.field f world p.resolves resolves) p.place in
      let same : p.shape ≡ x = one_field_shape w f p.shape x mine at in
      let S : FieldShape → Type 0 = λ y. IsTrue (is_static_access op) ↔ IsStatic y.flags in
      let Q : Access → Type 0 = λ a. IsTrue (is_static_access op) ↔ IsStatic a in
      let P : Bool → Type 0 = λ v. IsTrue v ↔ IsStatic flags in
      let kind : IsTrue wanted ↔ IsStatic flags = subst P (sym is) (subst Q (sym e) (subst S same p.kind)) in
      says.1 (λ s. static.1 (kind.0 s), λ s. kind.1 (static.0 s)),
)

pub field_wrong : (w : List Shape) (op : ℕ) (r : FieldRef) → ((f : FieldId) → ResolvesField w r f → ⊥) → IsRightField w op r → ⊥
field_wrong w op r none p = none p.field p.resolves

pub call_right : (w : List Shape) (op : ℕ) (r : MethodRef) (m : MethodId) (flags : Access) (has b : Bool) → IsWorld w → IsTypeThere w r.class → ResolvesCall w r m → IsRightForm op r.interface
    → ((x : MethodShape) × IsMethod w m x × (flags ≡ x.flags)) → IsTrue has ↔ IsStatic flags → IsTrue b ↔ (IsTrue (op == INVOKESTATIC) ↔ IsTrue has) → IsTrue b ↔ IsRightCall w op r
call_right w op r m flags has b world there resolves form (x, at, e) static says = (
  λ t.
      let k = says.0 t in
      let Q : Access → Type 0 = λ a. IsTrue (op == INVOKESTATIC) ↔ IsStatic a in
      let kind : IsTrue (op == INVOKESTATIC) ↔ IsStatic flags = (λ s. static.0 (k.0 s), λ s. k.1 (static.1 s)) in
      record { there = there; method = m; resolves = resolves; shape = x; place = at; kind = subst Q e kind; form = form },
  λ p.
      let F : MethodId → Type 0 = λ g. IsMethod w g p.shape in
      let mine : IsMethod w m p.shape = subst F (one_by r.interface w r p.method m world p.resolves resolves) p.place in
      let same : p.shape ≡ x = one_method w m p.shape x mine at in
      let S : MethodShape → Type 0 = λ y. IsTrue (op == INVOKESTATIC) ↔ IsStatic y.flags in
      let Q : Access → Type 0 = λ a. IsTrue (op == INVOKESTATIC) ↔ IsStatic a in
      let kind : IsTrue (op == INVOKESTATIC) ↔ IsStatic flags = subst Q (sym e) (subst S same p.kind) in
      says.1 (λ s. static.1 (kind.0 s), λ s. kind.1 (static.0 s)),
)

pub call_wrong : (w : List Shape) (op : ℕ) (r : MethodRef) → ((m : MethodId) → ResolvesCall w r m → ⊥) → IsRightCall w op r → ⊥
call_wrong w op r none p = none p.method p.resolves
