-- What is said of a class of a stand-in leaves no choice.
use Rattle.std.proofs.Common.{◌≡◌, ℕ, List, [], ◌∷◌, ◌++◌, map, Contains, sym, ap, subst, ◌∙◌}
use Rattle.std.specs.List.{flat_map}
use Rattle.std.specs.Cmp.Lexicographic.{nat_list_cmp_total}
use Rattle.jv_types.specs.declared.shapes.FieldShape.{FieldShape}
use Rattle.jv_types.specs.declared.shapes.MethodShape.{MethodShape}
use Rattle.jv_types.specs.declared.shapes.Shape.{Shape}
use Rattle.av_conditions.specs.StandIn.{IsLibraryInterface}
use Rattle.av_standin_of.specs.Codes.{Code}
use Rattle.av_standin_of.specs.Names.{member_order, name_order, field_key, method_key}
use Rattle.av_standin_of.specs.Items.{call_item, items_of_field}
use Rattle.av_standin_of.specs.Classes.{MadeClass, made_key, making_items, more_items, item_methods, is_interface, IsFieldOf, IsMethodOf, IsMethodOfAny, IsCalled, IsInPackage, IsOfCollected, IsOfAny, IsOfPackage, AreItems, AreItemsOf, AreItemsOfAll}
use Rattle.av_sorted.specs.Orders.{member_order_total}
use Rattle.av_one_standin.proofs.Rising.{just_one}

same_class : (a b : MadeClass) → a.name ≡ b.name → a.flags ≡ b.flags → a.parent ≡ b.parent → a.interfaces ≡ b.interfaces → a.fields ≡ b.fields → a.methods ≡ b.methods → a ≡ b
same_class a b name flags parent interfaces fields methods =
    λ i. record { name = name i; flags = flags i; parent = parent i; interfaces = interfaces i; fields = fields i; methods = methods i }

-- ---- collected classes

pub one_collected : (class : Shape) (a b : MadeClass) → IsOfCollected class a → IsOfCollected class b → a ≡ b
one_collected class a b p q =
    same_class a b (p.name ∙ sym q.name) (p.flags ∙ sym q.flags) (p.parent ∙ sym q.parent) (p.interfaces ∙ sym q.interfaces)
    (just_one member_order member_order_total field_key (IsFieldOf class) a.fields b.fields p.fields q.fields)
    (just_one member_order member_order_total made_key (IsMethodOf class) a.methods b.methods p.methods q.methods)

-- ---- any object of a class

pub one_any : (w : List Shape) (c : ℕ) (class : Shape) (a b : MadeClass) → IsOfAny w c class a → IsOfAny w c class b → a ≡ b
one_any w c class a b p q =
    same_class a b (p.name ∙ sym q.name) (p.flags ∙ sym q.flags) (p.parent ∙ sym q.parent)
    (just_one name_order nat_list_cmp_total (λ (name : List ℕ). name) (IsLibraryInterface w) a.interfaces b.interfaces p.interfaces q.interfaces)
    (p.fields ∙ sym q.fields)
    (just_one member_order member_order_total made_key (IsMethodOfAny w c class) a.methods b.methods p.methods q.methods)

-- ---- packages

-- the items of a class, by its methods and fields
abbrev items_by : ℕ → Shape → List MethodShape → List FieldShape → List Code
items_by dims class methods fields =
    making_items dims class ++ (map (call_item (is_interface class) class.name) methods
    ++ flat_map (λ (field : FieldShape). items_of_field class.name field field.desc) fields)

one_items_of : (dims : ℕ) (class : Shape) (xs ys : List Code) → AreItemsOf dims class xs → AreItemsOf dims class ys → xs ≡ ys
one_items_of dims class xs ys p q =
    let methods = just_one member_order member_order_total method_key (IsCalled class) p.methods q.methods p.are_methods q.are_methods in
    let fields = just_one member_order member_order_total field_key (λ (field : FieldShape). Contains class.fields field) p.fields q.fields p.are_fields q.are_fields in
    p.are ∙ ap (λ (ms : List MethodShape). items_by dims class ms p.fields) methods ∙ ap (items_by dims class q.methods) fields ∙ sym q.are

one_items_of_all : (dims : ℕ) (classes : List Shape) (xs ys : List Code) → AreItemsOfAll dims classes xs → AreItemsOfAll dims classes ys → xs ≡ ys
one_items_of_all dims [] xs ys p q = p ∙ sym q
one_items_of_all dims (class ∷ classes) xs ys (first, rest, own, more, are) (first', rest', own', more', are') =
    are ∙ ap (λ (zs : List Code). zs ++ rest) (one_items_of dims class first first' own own')
    ∙ ap (λ (zs : List Code). first' ++ zs) (one_items_of_all dims classes rest rest' more more') ∙ sym are'

one_own : (dims : ℕ) (classes classes' : List Shape) (xs ys : List Code) → classes ≡ classes' → AreItemsOfAll dims classes xs → AreItemsOfAll dims classes' ys → xs ≡ ys
one_own dims classes classes' xs ys same p q = one_items_of_all dims classes' xs ys (subst (λ (zs : List Shape). AreItemsOfAll dims zs xs) same p) q

one_items : (w : List Shape) (dims : ℕ) (folder : List ℕ) (xs ys : List Code) → AreItems w dims folder xs → AreItems w dims folder ys → xs ≡ ys
one_items w dims folder xs ys p q =
    let classes = just_one name_order nat_list_cmp_total (λ (class : Shape). class.name) (IsInPackage w folder) p.classes q.classes p.in_order q.in_order in
    p.are ∙ ap (λ (zs : List Code). zs ++ more_items dims folder) (one_own dims p.classes q.classes p.own q.own classes p.are_own q.are_own) ∙ sym q.are

pub one_part : (w : List Shape) (dims : ℕ) (folder : List ℕ) (a b : MadeClass) → IsOfPackage w dims folder a → IsOfPackage w dims folder b → a ≡ b
one_part w dims folder a b p q =
    same_class a b (p.name ∙ sym q.name) (p.flags ∙ sym q.flags) (p.parent ∙ sym q.parent) (p.interfaces ∙ sym q.interfaces) (p.fields ∙ sym q.fields)
    (p.methods ∙ ap (item_methods 0) (one_items w dims folder p.items q.items p.are_items q.are_items) ∙ sym q.methods)
