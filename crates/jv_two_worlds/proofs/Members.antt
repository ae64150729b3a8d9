-- Members at the same place in both worlds.
use Rattle.std.proofs.Common.{◌≡◌, ℕ, ◌<◌, List, length, refl, sym, ap, ◌∙◌}
use Rattle.std.proofs.lemmas.Option.{slice_get_within}
use Rattle.jv_lists.proofs.Zips.{zip_into, zip_back}
use Rattle.jv_types.specs.declared.desc.Desc.{Desc}
use Rattle.jv_types.specs.declared.desc.MethodDesc.{MethodDesc}
use Rattle.jv_types.specs.declared.ids.FieldId.{FieldId}
use Rattle.jv_types.specs.declared.ids.MethodId.{MethodId}
use Rattle.jv_types.specs.declared.shapes.FieldShape.{FieldShape}
use Rattle.jv_types.specs.declared.shapes.MethodShape.{MethodShape}
use Rattle.jv_types.specs.declared.shapes.Shape.{Shape}
use Rattle.jv_resolve.specs.Members.{DeclaresField, DeclaresMethod, IsConcrete, IsField, IsInheritable, IsMethod}
use Rattle.jv_resolve.specs.Resolving.{IsPublicInstance}
use Rattle.jv_resolve.proofs.MembersLemmas.{field_is, method_is}
use Rattle.jv_two_worlds.specs.Renumbering.{StandsIn, field_to, method_to}
use Rattle.jv_two_worlds.specs.SameClasses.{IsSameField, IsSameMethod}
use Rattle.jv_two_worlds.proofs.Classes.{shape_back, one_number}

-- the member of this class at the same place
abbrev pub method_in : MethodId → ℕ → MethodId
method_in m c = record { class = record { number = c }; index = m.index }

abbrev pub field_in : FieldId → ℕ → FieldId
field_in f c = record { class = record { number = c }; index = f.index }

-- a member of a class that has another number has another number itself
pub method_at : (to : ℕ → ℕ) (n : MethodId) (c : ℕ) → n.class.number ≡ to c → n ≡ method_to to (method_in n c)
method_at to n c e = method_is n (method_to to (method_in n c)) e refl

pub field_at : (to : ℕ → ℕ) (g : FieldId) (c : ℕ) → g.class.number ≡ to c → g ≡ field_to to (field_in g c)
field_at to g c e = field_is g (field_to to (field_in g c)) e refl

pub declares_here : (w : List Shape) (name : List ℕ) (desc : MethodDesc) (m : MethodId) → DeclaresMethod w name desc m → m.class.number < length w
declares_here w name desc m p = slice_get_within w m.class.number p.class p.of_class

pub declares_field_here : (w : List Shape) (name : List ℕ) (desc : Desc) (f : FieldId) → DeclaresField w name desc f → f.class.number < length w
declares_field_here w name desc f p = slice_get_within w f.class.number p.class p.of_class

module _ {w v : List Shape} {to : ℕ → ℕ} (inside : StandsIn w v to) where
  pub one_member : (m n : MethodId) → m.class.number < length w → n.class.number < length w → method_to to m ≡ method_to to n → m ≡ n
  one_member m n here there e =
      method_is m n (one_number inside m.class.number n.class.number here there (ap (λ (x : MethodId). x.class.number) e)) (ap (λ (x : MethodId). x.index) e)

  -- ---- by places

  pub method_into : (m : MethodId) (x : MethodShape) → IsMethod w m x → (y : MethodShape) × IsMethod v (method_to to m) y × IsSameMethod x y
  method_into m x p =
      let r = inside.shapes m.class.number p.0 p.1 in
      let y = zip_into IsSameMethod p.0.methods r.0.methods r.2.methods m.index x p.2 in
      (y.0, (r.0, r.1, y.1), y.2)

  pub method_back : (m : MethodId) (y : MethodShape) → m.class.number < length w → IsMethod v (method_to to m) y → (x : MethodShape) × IsMethod w m x × IsSameMethod x y
  method_back m y here q =
      let r = shape_back inside m.class.number q.0 here q.1 in
      let x = zip_back IsSameMethod r.0.methods q.0.methods r.2.methods m.index y q.2 in
      (x.0, (r.0, r.1, x.1), x.2)

  pub field_into : (f : FieldId) (x : FieldShape) → IsField w f x → (y : FieldShape) × IsField v (field_to to f) y × IsSameField x y
  field_into f x p =
      let r = inside.shapes f.class.number p.0 p.1 in
      let y = zip_into IsSameField p.0.fields r.0.fields r.2.fields f.index x p.2 in
      (y.0, (r.0, r.1, y.1), y.2)

  pub field_back : (f : FieldId) (y : FieldShape) → f.class.number < length w → IsField v (field_to to f) y → (x : FieldShape) × IsField w f x × IsSameField x y
  field_back f y here q =
      let r = shape_back inside f.class.number q.0 here q.1 in
      let x = zip_back IsSameField r.0.fields q.0.fields r.2.fields f.index y q.2 in
      (x.0, (r.0, r.1, x.1), x.2)

  -- ---- by flags

  pub inheritable_into : (m : MethodId) → IsInheritable w m → IsInheritable v (method_to to m)
  inheritable_into m p = let r = method_into m p.0 p.1 in (r.0, r.1, (λ q. p.2 (r.2.access.private.1 q)), λ q. p.3 (r.2.access.static.1 q))

  pub inheritable_back : (m : MethodId) → m.class.number < length w → IsInheritable v (method_to to m) → IsInheritable w m
  inheritable_back m here q = let r = method_back m q.0 here q.1 in (r.0, r.1, (λ p. q.2 (r.2.access.private.0 p)), λ p. q.3 (r.2.access.static.0 p))

  pub concrete_into : (m : MethodId) → IsConcrete w m → IsConcrete v (method_to to m)
  concrete_into m p = let r = method_into m p.0 p.1 in (r.0, r.1, λ q. p.2 (r.2.abstract.1 q))

  pub concrete_back : (m : MethodId) → m.class.number < length w → IsConcrete v (method_to to m) → IsConcrete w m
  concrete_back m here q = let r = method_back m q.0 here q.1 in (r.0, r.1, λ p. q.2 (r.2.abstract.0 p))

  pub public_into : (m : MethodId) → IsPublicInstance w m → IsPublicInstance v (method_to to m)
  public_into m p = let r = method_into m p.0 p.1 in (r.0, r.1, r.2.access.public.0 p.2, λ q. p.3 (r.2.access.static.1 q))

  pub public_back : (m : MethodId) → m.class.number < length w → IsPublicInstance v (method_to to m) → IsPublicInstance w m
  public_back m here q = let r = method_back m q.0 here q.1 in (r.0, r.1, r.2.access.public.1 q.2, λ p. q.3 (r.2.access.static.0 p))

  -- ---- by names and descriptors

  pub declares_into : (name : List ℕ) (desc : MethodDesc) (m : MethodId) → DeclaresMethod w name desc m → DeclaresMethod v name desc (method_to to m)
  declares_into name desc m p =
      let r = inside.shapes m.class.number p.class p.of_class in
      let y = zip_into IsSameMethod p.class.methods r.0.methods r.2.methods m.index p.shape p.at_place in record {
        class = r.0;
        of_class = r.1;
        shape = y.0;
        at_place = y.1;
        called = (sym y.2.name ∙ p.called.0, sym y.2.desc ∙ p.called.1);
        first = λ k other lt at called. let x = zip_back IsSameMethod p.class.methods r.0.methods r.2.methods k other at in p.first k x.0 lt x.1 (x.2.name ∙ called.0, x.2.desc ∙ called.1);
      }

  pub declares_back : (name : List ℕ) (desc : MethodDesc) (m : MethodId) → m.class.number < length w → DeclaresMethod v name desc (method_to to m) → DeclaresMethod w name desc m
  declares_back name desc m here q =
      let r = shape_back inside m.class.number q.class here q.of_class in
      let x = zip_back IsSameMethod r.0.methods q.class.methods r.2.methods m.index q.shape q.at_place in record {
        class = r.0;
        of_class = r.1;
        shape = x.0;
        at_place = x.1;
        called = (x.2.name ∙ q.called.0, x.2.desc ∙ q.called.1);
        first = λ k other lt at called. let y = zip_into IsSameMethod r.0.methods q.class.methods r.2.methods k other at in q.first k y.0 lt y.1 (sym y.2.name ∙ called.0, sym y.2.desc ∙ called.1);
      }

  pub declares_field_into : (name : List ℕ) (desc : Desc) (m : FieldId) → DeclaresField w name desc m → DeclaresField v name desc (field_to to m)
  declares_field_into name desc m p =
      let r = inside.shapes m.class.number p.class p.of_class in
      let y = zip_into IsSameField p.class.fields r.0.fields r.2.fields m.index p.shape p.at_place in record {
        class = r.0;
        of_class = r.1;
        shape = y.0;
        at_place = y.1;
        called = (sym y.2.name ∙ p.called.0, sym y.2.desc ∙ p.called.1);
        first = λ k other lt at called. let x = zip_back IsSameField p.class.fields r.0.fields r.2.fields k other at in p.first k x.0 lt x.1 (x.2.name ∙ called.0, x.2.desc ∙ called.1);
      }

  pub declares_field_back : (name : List ℕ) (desc : Desc) (m : FieldId) → m.class.number < length w → DeclaresField v name desc (field_to to m) → DeclaresField w name desc m
  declares_field_back name desc m here q =
      let r = shape_back inside m.class.number q.class here q.of_class in
      let x = zip_back IsSameField r.0.fields q.class.fields r.2.fields m.index q.shape q.at_place in record {
        class = r.0;
        of_class = r.1;
        shape = x.0;
        at_place = x.1;
        called = (x.2.name ∙ q.called.0, x.2.desc ∙ q.called.1);
        first = λ k other lt at called. let y = zip_into IsSameField r.0.fields q.class.fields r.2.fields k other at in q.first k y.0 lt y.1 (sym y.2.name ∙ called.0, sym y.2.desc ∙ called.1);
      }
