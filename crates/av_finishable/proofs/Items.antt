-- The items of a package have codes of items that fit.
use Rattle.std.proofs.Common.{◌≡◌, ℕ, ◌+◌, ◌≤◌, Bool, true, false, List, [], ◌∷◌, ◌++◌, map, Some, Contains, refl, sym, ap, subst}
use Rattle.std.specs.Prelude.{if◌then◌else◌, codes}
use Rattle.std.specs.List.{flat_map, AllByRecursion}
use Rattle.std.specs.Str.{bytes_eq}
use Rattle.jv_lists.proofs.Among.{is_first, is_later}
use Rattle.jv_types.specs.declared.desc.Desc.{Desc}
use Rattle.jv_types.specs.declared.desc.Desc.TheVariants as descs
use Rattle.jv_types.specs.declared.shapes.FieldShape.{FieldShape}
use Rattle.jv_types.specs.declared.shapes.MethodShape.{MethodShape}
use Rattle.jv_types.specs.declared.shapes.Shape.{Shape}
use Rattle.jv_desc.specs.Texts.{IsDesc}
use Rattle.jv_names.specs.Spellings.{IsClassName}
use Rattle.av_conditions.specs.StandIn.{any_name}
use Rattle.av_standin_of.specs.Codes.{Code}
use Rattle.av_standin_of.specs.Items.{make_item, arrays_item, prim_arrays_item, call_item, items_of_field, prims_in_order, elements_item, finalize_item, core_items}
use Rattle.av_standin_of.specs.Classes.{is_interface, is_final, made_name, making_items, IsCalled, AreItemsOf, AreItemsOfAll, more_items, AreItems, item_methods}
use Rattle.av_sketches.specs.declared.sketch.Item.{Item}
use Rattle.av_sketches.specs.declared.sketch.Item.TheVariants as items
use Rattle.av_sketches.specs.declared.sketch.Recipe.TheVariants as recipes
use Rattle.av_sketches.specs.Conditions.{ItemFits, HasClassForm}
use Rattle.av_sketches.specs.Sketches.{item_code}
use Rattle.av_fit_codes.proofs.Rows.{all_both}
use Rattle.av_finishable.proofs.Recipes.{FitsRecipe, any_is_name, instance_few}

-- the code of an item that fits
pub record FitsItem (dims : ℕ) (code : Code) : Type 0 where
  pub item : Item
  pub fits : ItemFits dims item
  pub is : code ≡ item_code dims item

fits_item : (dims : ℕ) (item : Item) → ItemFits dims item → FitsItem dims (item_code dims item)
fits_item dims item fits = record { item = item; fits = fits; is = refl }

-- ---- lists

all_mapped : {X Y : Type 0} (P : Y → Type 0) (f : X → Y) (xs : List X) → ((x : X) → Contains xs x → P (f x)) → AllByRecursion P (map f xs)
all_mapped P f [] each = tt
all_mapped P f (x ∷ xs) each = (each x (is_first x xs), all_mapped P f xs (λ y has. each y (is_later x xs y has)))

all_in_turn : {X Y : Type 0} (P : Y → Type 0) (f : X → List Y) (xs : List X) → ((x : X) → Contains xs x → AllByRecursion P (f x)) → AllByRecursion P (flat_map f xs)
all_in_turn P f [] each = tt
all_in_turn P f (x ∷ xs) each = all_both P (f x) (flat_map f xs) (each x (is_first x xs)) (all_in_turn P f xs (λ y has. each y (is_later x xs y has)))

-- ---- the items of a class

made_is_name : (class : Shape) → IsClassName class.name → IsClassName (made_name class)
made_is_name class named = by (is_final class)
  where
    by : (final : Bool) → IsClassName (if final then class.name else any_name class.name)
    by true = named
    by false = any_is_name class.name named

making_fit : (dims : ℕ) (class : Shape) → dims ≤ 255 → IsClassName class.name → AllByRecursion (FitsItem dims) (making_items dims class)
making_fit dims class few named = by (is_interface class)
  where
    name : List ℕ
    name = made_name class

    by : (interface : Bool) → AllByRecursion (FitsItem dims) (if interface then [] else make_item name ∷ arrays_item dims name ∷ [])
    by true = tt
    by false = (fits_item dims (items.Object name) (made_is_name class named), (fits_item dims (items.Arrays name) (made_is_name class named, few), tt))

call_fits : (dims : ℕ) (class : Shape) (declared : MethodShape) → HasClassForm class → IsCalled class declared → FitsItem dims (call_item (is_interface class) class.name declared)
call_fits dims class declared form (has, instances, not_private, not_init) =
    let formed = form.methods declared has in
    fits_item dims (items.Call (record { interface = is_interface class; class = class.name; name = declared.name; desc = declared.desc }))
    (record { named = form.named; types = formed.formed.types; few_words = instance_few declared formed instances })

field_fits : (dims : ℕ) (class : List ℕ) (field : FieldShape) (desc : Desc) → IsClassName class → IsDesc field.desc → IsDesc desc → AllByRecursion (FitsItem dims) (items_of_field class field desc)
field_fits dims class field (descs.Ref type) named formed kind =
    (fits_item dims (items.Field (record { class = class; field = field; kind = type })) (record { named = named; type = formed; kind = kind }), tt)
field_fits dims class field (descs.Prim prim) named formed kind = tt

of_class : (dims : ℕ) (class : Shape) (codes' : List Code) → dims ≤ 255 → HasClassForm class → AreItemsOf dims class codes' → AllByRecursion (FitsItem dims) codes'
of_class dims class codes' few form are =
    let making = making_items dims class in
    let calls = map (call_item (is_interface class) class.name) are.methods in
    let uses = flat_map (λ (field : FieldShape). items_of_field class.name field field.desc) are.fields in
    let calls_fit = all_mapped (FitsItem dims) (call_item (is_interface class) class.name) are.methods (λ declared has. call_fits dims class declared form (are.are_methods.only declared has)) in
    let uses_fit = all_in_turn (FitsItem dims) (λ (field : FieldShape). items_of_field class.name field field.desc) are.fields (λ field has.
    let type = (form.fields field (are.are_fields.only field has)).type in
    field_fits dims class.name field field.desc form.named type type) in
    subst (AllByRecursion (FitsItem dims)) (sym are.are)
    (all_both (FitsItem dims) making (calls ++ uses) (making_fit dims class few form.named) (all_both (FitsItem dims) calls uses calls_fit uses_fit))

of_classes : (dims : ℕ) (classes : List Shape) (codes' : List Code) → dims ≤ 255 → ((class : Shape) → Contains classes class → HasClassForm class) → AreItemsOfAll dims classes codes'
    → AllByRecursion (FitsItem dims) codes'
of_classes dims [] codes' few formed are = subst (AllByRecursion (FitsItem dims)) (sym are) tt
of_classes dims (class ∷ classes) codes' few formed (first, rest, are_first, are_rest, is) =
    subst (AllByRecursion (FitsItem dims)) (sym is)
    (all_both (FitsItem dims) first rest (of_class dims class first few (formed class (is_first class classes)) are_first)
    (of_classes dims classes rest few (λ other has. formed other (is_later class classes other has)) are_rest))

-- ---- those of java/lang alone

core_fit : (dims : ℕ) → dims ≤ 255 → AllByRecursion (FitsItem dims) (core_items dims)
core_fit dims few =
    all_both (FitsItem dims) (map (prim_arrays_item dims) prims_in_order) (elements_item ∷ finalize_item ∷ [])
    (all_mapped (FitsItem dims) (prim_arrays_item dims) prims_in_order (λ prim has. fits_item dims (items.PrimArrays prim) few))
    (fits_item dims items.Elements tt, (fits_item dims items.Finalize tt, tt))

more_fit : (dims : ℕ) (folder : List ℕ) → dims ≤ 255 → AllByRecursion (FitsItem dims) (more_items dims folder)
more_fit dims folder few = by (bytes_eq folder (codes "java/lang"))
  where
    by : (core : Bool) → AllByRecursion (FitsItem dims) (if core then core_items dims else [])
    by true = core_fit dims few
    by false = tt

-- ---- the items of a package

pub of_package : (w : List Shape) (dims : ℕ) (folder : List ℕ) (codes' : List Code) → dims ≤ 255 → ((class : Shape) → Contains w class → HasClassForm class) → AreItems w dims folder codes'
    → AllByRecursion (FitsItem dims) codes'
of_package w dims folder codes' few formed are =
    subst (AllByRecursion (FitsItem dims)) (sym are.are)
    (all_both (FitsItem dims) are.own (more_items dims folder)
    (of_classes dims are.classes are.own few (λ class has. formed class (are.in_order.only class has).0.0) are.are_own) (more_fit dims folder few))

-- an item has neither a receiver nor parameters
pub items_fit : (dims number : ℕ) (class : List ℕ) (codes' : List Code) → AllByRecursion (FitsItem dims) codes' → AllByRecursion (FitsRecipe dims class) (item_methods number codes')
items_fit dims number class [] fit = tt
items_fit dims number class (code ∷ codes') fit = (
  record {
    recipe = recipes.Item fit.0.item;
    fits = (refl, fit.0.fits);
    is = ap Some fit.0.is;
  },
  items_fit dims (number + 1) class codes' fit.1,
)
