-- Members by their places, and by their names and descriptors.
use Rattle.std.proofs.Common.{◌≡◌, ℕ, ◌<◌, List, Some, length, subst, sym, ◌∙◌, ap, arith, inl, inr}
use Rattle.std.specs.List.{slice_get}
use Rattle.std.proofs.lemmas.Option.{slice_get_within}
use Rattle.std.proofs.lemmas.Bool.{cases_lt}
use Rattle.jv_types.specs.declared.desc.Desc.{Desc}
use Rattle.jv_types.specs.declared.desc.MethodDesc.{MethodDesc}
use Rattle.jv_types.specs.declared.ids.ClassId.{ClassId}
use Rattle.jv_types.specs.declared.ids.FieldId.{FieldId}
use Rattle.jv_types.specs.declared.ids.MethodId.{MethodId}
use Rattle.jv_types.specs.declared.shapes.MethodShape.{MethodShape}
use Rattle.jv_types.specs.declared.shapes.Shape.{Shape}
use Rattle.jv_resolve.specs.Members.{IsMethod, HasMethod, IsAbstract, IsConcrete, DeclaresMethod, DeclaresField}
use Rattle.jv_resolve.proofs.Hierarchy.{one_shape}

pub class_is : (c d : ClassId) → c.number ≡ d.number → c ≡ d
class_is c d e = let made : ℕ → ClassId = λ n. record { number = n } in ap made e

pub method_is : (m n : MethodId) → m.class.number ≡ n.class.number → m.index ≡ n.index → m ≡ n
method_is m n p q =
    let made : ClassId → ℕ → MethodId = λ c i. record { class = c; index = i } in
    ap (λ c. made c m.index) (class_is m.class n.class p) ∙ ap (made n.class) q

pub field_is : (f g : FieldId) → f.class.number ≡ g.class.number → f.index ≡ g.index → f ≡ g
field_is f g p q =
    let made : ClassId → ℕ → FieldId = λ c i. record { class = c; index = i } in
    ap (λ c. made c f.index) (class_is f.class g.class p) ∙ ap (made g.class) q

pub index_within : (w : List Shape) (m : MethodId) (x : MethodShape) (c : ℕ) (s : Shape) → IsMethod w m x → m.class.number ≡ c → slice_get w c ≡ Some s
    → m.index < length s.methods
index_within w m x c s at e got =
    let same : at.0 ≡ s = one_shape w c at.0 s (subst (λ (n : ℕ). slice_get w n ≡ Some at.0) e at.1) got in
    subst (λ (t : Shape). m.index < length t.methods) same (slice_get_within at.0.methods m.index x at.2)

pub class_here : (w : List Shape) (m : MethodId) → HasMethod w m → m.class.number < length w
class_here w m at = slice_get_within w m.class.number at.1.0 at.1.1

-- a class declares one method with a name and descriptor
pub declares_one : (w : List Shape) (name : List ℕ) (desc : MethodDesc) (m n : MethodId) → DeclaresMethod w name desc m → DeclaresMethod w name desc n
    → m.class.number ≡ n.class.number → m ≡ n
declares_one w name desc m n p q e =
    let same : p.class ≡ q.class = one_shape w n.class.number p.class q.class (subst (λ (k : ℕ). slice_get w k ≡ Some p.class) e p.of_class) q.of_class in
    let p_at : slice_get q.class.methods m.index ≡ Some p.shape = subst (λ (t : Shape). slice_get t.methods m.index ≡ Some p.shape) same p.at_place in
    let q_at : slice_get p.class.methods n.index ≡ Some q.shape = subst (λ (t : Shape). slice_get t.methods n.index ≡ Some q.shape) (sym same) q.at_place in
    elim (cases_lt m.index n.index) [
      | inl l ↦ absurd (q.first m.index p.shape l p_at p.called)
      | inr g ↦ elim (cases_lt n.index m.index) [
        | inl l ↦ absurd (p.first n.index q.shape l q_at q.called)
        | inr h ↦ method_is m n e (omega arith)
      ]
    ]

pub declares_one_field : (w : List Shape) (name : List ℕ) (desc : Desc) (m n : FieldId) → DeclaresField w name desc m → DeclaresField w name desc n
    → m.class.number ≡ n.class.number → m ≡ n
declares_one_field w name desc m n p q e =
    let same : p.class ≡ q.class = one_shape w n.class.number p.class q.class (subst (λ (k : ℕ). slice_get w k ≡ Some p.class) e p.of_class) q.of_class in
    let p_at : slice_get q.class.fields m.index ≡ Some p.shape = subst (λ (t : Shape). slice_get t.fields m.index ≡ Some p.shape) same p.at_place in
    let q_at : slice_get p.class.fields n.index ≡ Some q.shape = subst (λ (t : Shape). slice_get t.fields n.index ≡ Some q.shape) (sym same) q.at_place in
    elim (cases_lt m.index n.index) [
      | inl l ↦ absurd (q.first m.index p.shape l p_at p.called)
      | inr g ↦ elim (cases_lt n.index m.index) [
        | inl l ↦ absurd (p.first n.index q.shape l q_at q.called)
        | inr h ↦ field_is m n e (omega arith)
      ]
    ]

pub declared_here : (w : List Shape) (name : List ℕ) (desc : MethodDesc) (m : MethodId) → DeclaresMethod w name desc m → HasMethod w m
declared_here w name desc m d = (d.shape, (d.class, d.of_class, d.at_place))

-- one method has one shape
pub one_method : (w : List Shape) (m : MethodId) (x y : MethodShape) → IsMethod w m x → IsMethod w m y → x ≡ y
one_method w m x y p q =
    let shapes : p.0 ≡ q.0 = one_shape w m.class.number p.0 q.0 p.1 q.1 in
    let e : Some x ≡ Some y = sym p.2 ∙ ap (λ (s : Shape). slice_get s.methods m.index) shapes ∙ q.2 in
    cc

-- what stands past the end of a list of methods
abbrev pub no_method : MethodId
no_method = record { class = record { number = 0 }; index = 0 }

abbrev pub no_class : ClassId
no_class = record { number = 0 }

pub concrete_from : (w : List Shape) (m : MethodId) (x : MethodShape) → IsMethod w m x → (IsAbstract x.flags → ⊥) → IsConcrete w m
concrete_from w m x at p = (x, at, p)

pub concrete_at : (w : List Shape) (m : MethodId) (x : MethodShape) → IsMethod w m x → IsConcrete w m → IsAbstract x.flags → ⊥
concrete_at w m x at p q = p.2 (subst (λ (y : MethodShape). IsAbstract y.flags) (one_method w m x p.0 at p.1) q)
