-- The shape of a class: there is one, and no other.
use Rattle.std.proofs.Common.{◌≡◌, ◌⊎◌, inl, inr, ℕ, Bool, List, [], ◌∷◌, Option, Some, None, refl, sym, ap, subst, ◌∙◌}
use Rattle.std.specs.List.{AllZip, AllByRecursion, list_any}
use Rattle.jv_lists.proofs.Zips.{one_zip}
use Rattle.jv_types.specs.declared.access.Access.{Access}
use Rattle.jv_types.specs.declared.shapes.FieldShape.{FieldShape}
use Rattle.jv_types.specs.declared.shapes.MethodShape.{MethodShape}
use Rattle.jv_types.specs.declared.shapes.Shape.{Shape}
use Rattle.jv_desc.specs.Texts.{IsFieldText, IsMethodText}
use Rattle.jv_desc.proofs.Agreement.{one_field, one_method}
use Rattle.jv_pool.specs.declared.item.PoolItem.{PoolItem}
use Rattle.jv_pool.specs.Lookups.{text_at, class_name_at}
use Rattle.jv_names.specs.PoolNames.{HasText, HasClassName}
use Rattle.jv_class.specs.declared.class_file.Member.{Member}
use Rattle.jv_class.specs.declared.class_file.ClassFile.{ClassFile}
use Rattle.jv_class.specs.ClassTexts.{has_code, IsField, IsMethodMember, IsClass}
use Rattle.jv_class.specs.Shapes.{IsFieldShape, IsMethodShape, IsParent, IsShapeOf}
use Rattle.jv_read.proofs.Fronts.{some_is}

-- ---- there is one

made : {X Y : Type 0} (P : X → Type 0) (R : X → Y → Type 0) → ((x : X) → P x → (y : Y) × R x y) → (xs : List X) → AllByRecursion P xs → (ys : List Y) × AllZip R xs ys
made P R f [] h = ([], tt)
made P R f (x ∷ xs) h =
    let first = f x h.0 in
    let rest = made P R f xs h.1 in
    (first.0 ∷ rest.0, (first.1, rest.1))

field_made : (items : List PoolItem) (m : Member) → IsField items m → (f : FieldShape) × IsFieldShape items m f
field_made items m h = (
  record { name = h.name.text; desc = h.descriptor.kind.type; flags = record { 0 = m.access } },
  record { name = h.name.found; desc = record { text = h.descriptor.text; found = h.descriptor.found; kind = h.descriptor.kind.spelled }; flags = refl },
)

method_made : (items : List PoolItem) (m : Member) → IsMethodMember items m → (s : MethodShape) × IsMethodShape items m s
method_made items m h = (
  record { name = h.name.text; desc = h.descriptor.kind.method; flags = record { 0 = m.access }; code = list_any has_code m.attrs },
  record { name = h.name.found; desc = record { text = h.descriptor.text; found = h.descriptor.found; kind = h.descriptor.kind.spelled }; flags = refl; code = refl },
)

parent_made : (items : List PoolItem) (super : ℕ) → (super ≡ 0) ⊎ HasClassName items super → (parent : Option (List ℕ)) × IsParent items super parent
parent_made items super (inl e) = (None, e)
parent_made items super (inr h) = (Some h.text, h.found)

pub shape_made : (c : ClassFile) (application : Bool) → IsClass c → (s : Shape) × IsShapeOf c application s
shape_made c application h =
    let parent = parent_made c.pool c.super_class h.rules.super_class in
    let interfaces = made (HasClassName c.pool) (λ (index : ℕ) (name : List ℕ). class_name_at c.pool index ≡ Some name) (λ index n. (n.text, n.found)) c.interfaces h.rules.interfaces in
    let fields = made (IsField c.pool) (IsFieldShape c.pool) (field_made c.pool) c.fields h.rules.fields in
    let methods = made (IsMethodMember c.pool) (IsMethodShape c.pool) (method_made c.pool) c.methods h.rules.methods in (
      record { name = h.rules.this_class.text; flags = record { 0 = c.access }; parent = parent.0; interfaces = interfaces.0; fields = fields.0; methods = methods.0; application = application },
      record { name = h.rules.this_class.found; flags = refl; parent = parent.1; interfaces = interfaces.1; fields = fields.1; methods = methods.1; marked = refl },
    )

-- ---- no other

one_found : (found : Option (List ℕ)) (x y : List ℕ) → found ≡ Some x → found ≡ Some y → x ≡ y
one_found found x y p q = some_is x y (sym p ∙ q)

one_text : {D : Type 0} (items : List PoolItem) (index : ℕ) (R : List ℕ → D → Type 0) (d e : D) → ((text : List ℕ) (x y : D) → R text x → R text y → x ≡ y)
    → HasText items index (λ text. R text d) → HasText items index (λ text. R text e) → d ≡ e
one_text items index R d e one p q =
    let same = one_found (text_at items index) q.text p.text q.found p.found in
    one p.text d e p.kind (subst (λ (t : List ℕ). R t e) same q.kind)

one_access : (a b : Access) (n : ℕ) → a.0 ≡ n → b.0 ≡ n → a ≡ b
one_access a b n p q = let same : a.0 ≡ b.0 = p ∙ sym q in λ i. record { 0 = same i }

one_field_shape : (items : List PoolItem) (m : Member) (f g : FieldShape) → IsFieldShape items m f → IsFieldShape items m g → f ≡ g
one_field_shape items m f g p q =
    let name = one_found (text_at items m.name) f.name g.name p.name q.name in
    let desc = one_text items m.desc IsFieldText f.desc g.desc one_field p.desc q.desc in
    let flags = one_access f.flags g.flags m.access p.flags q.flags in
    λ i. record { name = name i; desc = desc i; flags = flags i }

one_method_shape : (items : List PoolItem) (m : Member) (s t : MethodShape) → IsMethodShape items m s → IsMethodShape items m t → s ≡ t
one_method_shape items m s t p q =
    let name = one_found (text_at items m.name) s.name t.name p.name q.name in
    let desc = one_text items m.desc IsMethodText s.desc t.desc one_method p.desc q.desc in
    let flags = one_access s.flags t.flags m.access p.flags q.flags in
    let code = p.code ∙ sym q.code in
    λ i. record { name = name i; desc = desc i; flags = flags i; code = code i }

no_index : (items : List PoolItem) (super : ℕ) (name : List ℕ) → super ≡ 0 → class_name_at items super ≡ Some name → ⊥
no_index items super name e found =
    let none : None ≡ Some name = subst (λ (k : ℕ). class_name_at items k ≡ Some name) e found in
    cc

one_parent : (items : List PoolItem) (super : ℕ) (x y : Option (List ℕ)) → IsParent items super x → IsParent items super y → x ≡ y
one_parent items super None None p q = refl
one_parent items super None (Some y) p q = absurd (no_index items super y p q)
one_parent items super (Some x) None p q = absurd (no_index items super x q p)
one_parent items super (Some x) (Some y) p q = sym p ∙ q

pub one_shape : (c : ClassFile) (application : Bool) (s t : Shape) → IsShapeOf c application s → IsShapeOf c application t → s ≡ t
one_shape c application s t p q =
    let name = one_found (class_name_at c.pool c.this_class) s.name t.name p.name q.name in
    let flags = one_access s.flags t.flags c.access p.flags q.flags in
    let parent = one_parent c.pool c.super_class s.parent t.parent p.parent q.parent in
    let interfaces = one_zip (λ (index : ℕ) (n : List ℕ). class_name_at c.pool index ≡ Some n) (λ index x y. one_found (class_name_at c.pool index) x y) c.interfaces s.interfaces t.interfaces p.interfaces q.interfaces in
    let fields = one_zip (IsFieldShape c.pool) (one_field_shape c.pool) c.fields s.fields t.fields p.fields q.fields in
    let methods = one_zip (IsMethodShape c.pool) (one_method_shape c.pool) c.methods s.methods t.methods p.methods q.methods in
    let application = p.marked ∙ sym q.marked in
    λ i. record { name = name i; flags = flags i; parent = parent i; interfaces = interfaces i; fields = fields i; methods = methods i; application = application i }
