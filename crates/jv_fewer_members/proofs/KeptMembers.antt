-- Members of the part, and the same ones in the whole world.
use Rattle.std.proofs.Common.{◌≡◌, ℕ, ◌<◌, List, Some, length, slice_get, refl, sym, ap, ◌∙◌, subst}
use Rattle.std.proofs.lemmas.Option.{slice_get_within}
use Rattle.jv_types.specs.declared.desc.Desc.{Desc}
use Rattle.jv_types.specs.declared.desc.MethodDesc.{MethodDesc}
use Rattle.jv_types.specs.declared.ids.FieldId.{FieldId}
use Rattle.jv_types.specs.declared.ids.MethodId.{MethodId}
use Rattle.jv_types.specs.declared.shapes.FieldShape.{FieldShape}
use Rattle.jv_types.specs.declared.shapes.MethodShape.{MethodShape}
use Rattle.jv_types.specs.declared.shapes.Shape.{Shape}
use Rattle.jv_resolve.specs.Members.{DeclaresField, DeclaresMethod, HasField, HasMethod, IsConcrete, IsField, IsFieldCalled, IsInheritable, IsMethod, IsMethodCalled}
use Rattle.jv_resolve.specs.Resolving.{IsPublicInstance}
use Rattle.jv_resolve.proofs.Hierarchy.{one_shape}
use Rattle.jv_resolve.proofs.MembersLemmas.{method_is, one_method}
use Rattle.jv_two_worlds.specs.SameClasses.{IsSameField, IsSameMethod}
use Rattle.jv_fewer_members.specs.Keeping.{IsInstanceMethod, KeepsAlike}
use Rattle.jv_fewer_members.specs.Parts.{HasFewerMembers, IsFieldKept, IsMethodKept, Places, whole_field, whole_method}
use Rattle.jv_fewer_members.proofs.Heads.{part_back}
use Rattle.jv_fewer_members.proofs.Somes.{none_into, none_back, one_place}

pub called_into : (name : List ℕ) (desc : MethodDesc) (y x : MethodShape) → IsSameMethod y x → IsMethodCalled name desc y → IsMethodCalled name desc x
called_into name desc y x same p = (sym same.name ∙ p.0, sym same.desc ∙ p.1)

pub called_back : (name : List ℕ) (desc : MethodDesc) (y x : MethodShape) → IsSameMethod y x → IsMethodCalled name desc x → IsMethodCalled name desc y
called_back name desc y x same p = (same.name ∙ p.0, same.desc ∙ p.1)

field_called_into : (name : List ℕ) (desc : Desc) (y x : FieldShape) → IsSameField y x → IsFieldCalled name desc y → IsFieldCalled name desc x
field_called_into name desc y x same p = (sym same.name ∙ p.0, sym same.desc ∙ p.1)

field_called_back : (name : List ℕ) (desc : Desc) (y x : FieldShape) → IsSameField y x → IsFieldCalled name desc x → IsFieldCalled name desc y
field_called_back name desc y x same p = (same.name ∙ p.0, same.desc ∙ p.1)

pub one_field_shape : (w : List Shape) (f : FieldId) (x y : FieldShape) → IsField w f x → IsField w f y → x ≡ y
one_field_shape w f x y p q =
    let shapes : p.0 ≡ q.0 = one_shape w f.class.number p.0 q.0 p.1 q.1 in
    let e : Some x ≡ Some y = sym p.2 ∙ ap (λ (s : Shape). slice_get s.fields f.index) shapes ∙ q.2 in
    cc

-- the place of a kept method among those of the part
method_kept_at : (v : List Shape) (at : Places) (m : MethodId) (s : Shape) → slice_get v m.class.number ≡ Some s → IsMethodKept v at m
    → (k : ℕ) × (m.index ≡ at.of_method m.class.number k) × (k < length s.methods)
method_kept_at v at m s got kept =
    let n = kept.0 in
    let class : m.class.number ≡ n.class.number = ap (λ (x : MethodId). x.class.number) kept.2 in
    let is : kept.1.1.0 ≡ s = one_shape v n.class.number kept.1.1.0 s kept.1.1.1 (subst (λ (c : ℕ). slice_get v c ≡ Some s) class got) in (
      n.index,
      ap (λ (x : MethodId). x.index) kept.2 ∙ ap (λ (c : ℕ). at.of_method c n.index) (sym class),
      subst (λ (t : Shape). n.index < length t.methods) is (slice_get_within kept.1.1.0.methods n.index kept.1.0 kept.1.1.2),
    )

field_kept_at : (v : List Shape) (at : Places) (m : FieldId) (s : Shape) → slice_get v m.class.number ≡ Some s → IsFieldKept v at m
    → (k : ℕ) × (m.index ≡ at.of_field m.class.number k) × (k < length s.fields)
field_kept_at v at m s got kept =
    let n = kept.0 in
    let class : m.class.number ≡ n.class.number = ap (λ (x : FieldId). x.class.number) kept.2 in
    let is : kept.1.1.0 ≡ s = one_shape v n.class.number kept.1.1.0 s kept.1.1.1 (subst (λ (c : ℕ). slice_get v c ≡ Some s) class got) in (
      n.index,
      ap (λ (x : FieldId). x.index) kept.2 ∙ ap (λ (c : ℕ). at.of_field c n.index) (sym class),
      subst (λ (t : Shape). n.index < length t.fields) is (slice_get_within kept.1.1.0.fields n.index kept.1.0 kept.1.1.2),
    )

module _ {w v : List Shape} {at : Places} (fewer : HasFewerMembers w v at) where
  -- ---- by places

  pub method_whole : (n : MethodId) (x : MethodShape) → IsMethod v n x → (y : MethodShape) × IsMethod w (whole_method at n) y × IsSameMethod y x
  method_whole n x p =
      let c = part_back fewer n.class.number p.0 p.1 in
      let r = c.2.methods.each n.index x p.2 in
      (r.0, (c.0, c.1, r.1), r.2)

  -- what stands at the same place in the whole
  pub method_part : (n : MethodId) (y : MethodShape) → HasMethod v n → IsMethod w (whole_method at n) y → (x : MethodShape) × IsMethod v n x × IsSameMethod y x
  method_part n y has p =
      let r = method_whole n has.0 has.1 in
      (has.0, has.1, subst (λ (z : MethodShape). IsSameMethod z has.0) (one_method w (whole_method at n) r.0 y r.1 p) r.2)

  pub field_whole : (n : FieldId) (x : FieldShape) → IsField v n x → (y : FieldShape) × IsField w (whole_field at n) y × IsSameField y x
  field_whole n x p =
      let c = part_back fewer n.class.number p.0 p.1 in
      let r = c.2.fields.each n.index x p.2 in
      (r.0, (c.0, c.1, r.1), r.2)

  pub field_part : (n : FieldId) (y : FieldShape) → HasField v n → IsField w (whole_field at n) y → (x : FieldShape) × IsField v n x × IsSameField y x
  field_part n y has p =
      let r = field_whole n has.0 has.1 in
      (has.0, has.1, subst (λ (z : FieldShape). IsSameField z has.0) (one_field_shape w (whole_field at n) r.0 y r.1 p) r.2)

  -- two methods of the part are two in the whole
  pub one_whole : (m n : MethodId) → HasMethod v m → HasMethod v n → whole_method at m ≡ whole_method at n → m ≡ n
  one_whole m n has other e =
      let class : m.class.number ≡ n.class.number = ap (λ (x : MethodId). x.class.number) e in
      let s = has.1.0 in
      let c = part_back fewer m.class.number s has.1.1 in
      let is : other.1.0 ≡ s = one_shape v n.class.number other.1.0 s other.1.1 (subst (λ (k : ℕ). slice_get v k ≡ Some s) class has.1.1) in
      let within : n.index < length s.methods = subst (λ (t : Shape). n.index < length t.methods) is (slice_get_within other.1.0.methods n.index other.0 other.1.2) in
      let places : at.of_method m.class.number m.index ≡ at.of_method m.class.number n.index = ap (λ (x : MethodId). x.index) e ∙ ap (λ (k : ℕ). at.of_method k n.index) (sym class) in
      method_is m n class (one_place c.2.methods m.index n.index (slice_get_within s.methods m.index has.0 has.1.2) within places)

  -- ---- by flags and names

  pub inheritable_into : (n : MethodId) → IsInheritable v n → IsInheritable w (whole_method at n)
  inheritable_into n q = let r = method_whole n q.0 q.1 in (r.0, r.1, (λ p. q.2 (r.2.access.private.0 p)), λ p. q.3 (r.2.access.static.0 p))

  pub inheritable_back : (n : MethodId) → HasMethod v n → IsInheritable w (whole_method at n) → IsInheritable v n
  inheritable_back n has p = let r = method_part n p.0 has p.1 in (r.0, r.1, (λ q. p.2 (r.2.access.private.1 q)), λ q. p.3 (r.2.access.static.1 q))

  pub concrete_into : (n : MethodId) → IsConcrete v n → IsConcrete w (whole_method at n)
  concrete_into n q = let r = method_whole n q.0 q.1 in (r.0, r.1, λ p. q.2 (r.2.abstract.0 p))

  pub concrete_back : (n : MethodId) → HasMethod v n → IsConcrete w (whole_method at n) → IsConcrete v n
  concrete_back n has p = let r = method_part n p.0 has p.1 in (r.0, r.1, λ q. p.2 (r.2.abstract.1 q))

  pub public_into : (n : MethodId) → IsPublicInstance v n → IsPublicInstance w (whole_method at n)
  public_into n q = let r = method_whole n q.0 q.1 in (r.0, r.1, r.2.access.public.1 q.2, λ p. q.3 (r.2.access.static.0 p))

  pub public_back : (n : MethodId) → HasMethod v n → IsPublicInstance w (whole_method at n) → IsPublicInstance v n
  public_back n has p = let r = method_part n p.0 has p.1 in (r.0, r.1, r.2.access.public.0 p.2, λ q. p.3 (r.2.access.static.1 q))

  pub instance_into : (n : MethodId) (name : List ℕ) (desc : MethodDesc) → IsInstanceMethod v n name desc → IsInstanceMethod w (whole_method at n) name desc
  instance_into n name desc q =
      let r = method_whole n q.0 q.1 in
      (r.0, r.1, called_back name desc r.0 q.0 r.2 q.2, λ p. q.3 (r.2.access.static.0 p))

  -- ---- by names and descriptors

  module _ (alike : KeepsAlike w v at) where
    pub declares_into : (name : List ℕ) (desc : MethodDesc) (n : MethodId) → DeclaresMethod v name desc n → DeclaresMethod w name desc (whole_method at n)
    declares_into name desc n q =
        let c = part_back fewer n.class.number q.class q.of_class in
        let r = c.2.methods.each n.index q.shape q.at_place in
        let called = called_back name desc r.0 q.shape r.2 q.called in record {
          class = c.0;
          of_class = c.1;
          shape = r.0;
          at_place = r.1;
          called = called;
          first =
              none_into c.2.methods (IsMethodCalled name desc) (called_into name desc)
              (λ j y got p.
              let m : MethodId = record { class = n.class; index = j } in
              method_kept_at v at m q.class q.of_class
              (alike.methods (whole_method at n) m r.0 y refl (c.0, c.1, r.1) (c.0, c.1, got) (p.0 ∙ sym called.0, p.1 ∙ sym called.1) (n, (q.shape, (q.class, q.of_class, q.at_place)), refl)))
              n.index
              (slice_get_within q.class.methods n.index q.shape q.at_place)
              q.first;
        }

    pub declares_field_into : (name : List ℕ) (desc : Desc) (n : FieldId) → DeclaresField v name desc n → DeclaresField w name desc (whole_field at n)
    declares_field_into name desc n q =
        let c = part_back fewer n.class.number q.class q.of_class in
        let r = c.2.fields.each n.index q.shape q.at_place in
        let called = field_called_back name desc r.0 q.shape r.2 q.called in record {
          class = c.0;
          of_class = c.1;
          shape = r.0;
          at_place = r.1;
          called = called;
          first =
              none_into c.2.fields (IsFieldCalled name desc) (field_called_into name desc)
              (λ j y got p.
              let m : FieldId = record { class = n.class; index = j } in
              field_kept_at v at m q.class q.of_class
              (alike.fields (whole_field at n) m r.0 y refl (c.0, c.1, r.1) (c.0, c.1, got) (p.0 ∙ sym called.0, p.1 ∙ sym called.1) (n, (q.shape, (q.class, q.of_class, q.at_place)), refl)))
              n.index
              (slice_get_within q.class.fields n.index q.shape q.at_place)
              q.first;
        }

  pub declares_part : (name : List ℕ) (desc : MethodDesc) (n : MethodId) → HasMethod v n → DeclaresMethod w name desc (whole_method at n) → DeclaresMethod v name desc n
  declares_part name desc n has p =
      let c = part_back fewer n.class.number has.1.0 has.1.1 in
      let r = c.2.methods.each n.index has.0 has.1.2 in
      let class : p.class ≡ c.0 = one_shape w n.class.number p.class c.0 p.of_class c.1 in
      let is : p.shape ≡ r.0 = one_method w (whole_method at n) p.shape r.0 (p.class, p.of_class, p.at_place) (c.0, c.1, r.1) in record {
        class = has.1.0;
        of_class = has.1.1;
        shape = has.0;
        at_place = has.1.2;
        called = called_into name desc r.0 has.0 r.2 (subst (IsMethodCalled name desc) is p.called);
        first =
            none_back c.2.methods (IsMethodCalled name desc) (called_back name desc) n.index (slice_get_within has.1.0.methods n.index has.0 has.1.2)
            (λ k other lt got. p.first k other lt (subst (λ (t : Shape). slice_get t.methods k ≡ Some other) (sym class) got));
      }

  -- what the whole declares and the part keeps, the part declares
  pub declares_back : (name : List ℕ) (desc : MethodDesc) (m : MethodId) → IsMethodKept v at m → DeclaresMethod w name desc m
      → (n : MethodId) × (m ≡ whole_method at n) × DeclaresMethod v name desc n
  declares_back name desc m kept p = (kept.0, kept.2, declares_part name desc kept.0 kept.1 (subst (DeclaresMethod w name desc) kept.2 p))

  declares_field_part : (name : List ℕ) (desc : Desc) (n : FieldId) → HasField v n → DeclaresField w name desc (whole_field at n) → DeclaresField v name desc n
  declares_field_part name desc n has p =
      let c = part_back fewer n.class.number has.1.0 has.1.1 in
      let r = c.2.fields.each n.index has.0 has.1.2 in
      let class : p.class ≡ c.0 = one_shape w n.class.number p.class c.0 p.of_class c.1 in
      let is : p.shape ≡ r.0 = one_field_shape w (whole_field at n) p.shape r.0 (p.class, p.of_class, p.at_place) (c.0, c.1, r.1) in record {
        class = has.1.0;
        of_class = has.1.1;
        shape = has.0;
        at_place = has.1.2;
        called = field_called_into name desc r.0 has.0 r.2 (subst (IsFieldCalled name desc) is p.called);
        first =
            none_back c.2.fields (IsFieldCalled name desc) (field_called_back name desc) n.index (slice_get_within has.1.0.fields n.index has.0 has.1.2)
            (λ k other lt got. p.first k other lt (subst (λ (t : Shape). slice_get t.fields k ≡ Some other) (sym class) got));
      }

  pub declares_field_back : (name : List ℕ) (desc : Desc) (m : FieldId) → IsFieldKept v at m → DeclaresField w name desc m
      → (n : FieldId) × (m ≡ whole_field at n) × DeclaresField v name desc n
  declares_field_back name desc m kept p = (kept.0, kept.2, declares_field_part name desc kept.0 kept.1 (subst (DeclaresField w name desc) kept.2 p))
