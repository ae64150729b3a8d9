-- What is assignable to a class, an interface or an array.
use Rattle.std.proofs.Common.{◌≡◌, ℕ, Bool, true, false, IsTrue, List, refl, sym, ap, ◌∙◌, subst, inl}
use Rattle.std.proofs.lemmas.Bool.{false≢true}
use Rattle.jv_types.specs.declared.desc.PrimType.{PrimType}
use Rattle.jv_types.specs.declared.frames.VType.{VType, Top, Integer, Float, Long, Double, Null, UninitThis, Uninit, Class, PrimArray, Array, Array', Row_of-VType, end_of-VType, more_of-VType}
use Rattle.jv_types.specs.declared.shapes.Shape.{Shape}
use Rattle.jv_world.specs.Instances.{IsArraySuper}
use Rattle.jv_frames.specs.Types.{is_array, is_object}
use Rattle.jv_frames.specs.Assignable.{IsClassAssignable, IsAssignable, same, to_top, of_null, of_class, of_array, of_items}

-- ---- arrays of references

-- the items of an array of references
abbrev mutual
  item_of : VType → VType
  item_of Top = Top
  item_of Integer = Top
  item_of Float = Top
  item_of Long = Top
  item_of Double = Top
  item_of Null = Top
  item_of UninitThis = Top
  item_of (Uninit pc) = Top
  item_of (Class name) = Top
  item_of (PrimArray prim) = Top
  item_of (Array' shape items) = first_of items

  first_of : {m : _} → Row_of-VType m → VType
  first_of end_of-VType = Top
  first_of (more_of-VType item rest) = item

item_of-Array : (item : VType) → item_of (Array item) ≡ item
unfolding Rattle.jv_types.specs.declared.frames.VType.TheBlock.shape-the_row-VType-0 Rattle.jv_types.specs.declared.frames.VType.TheBlock.hidden-the_row-VType-0 denote.Hole.Carrier.hidden
item_of-Array item = refl

pub same_items : (s t : VType) → Array s ≡ Array t → s ≡ t
same_items s t e = sym (item_of-Array s) ∙ ap item_of e ∙ item_of-Array t

-- an array of references
abbrev has_items : VType → Bool
has_items Top = false
has_items Integer = false
has_items Float = false
has_items Long = false
has_items Double = false
has_items Null = false
has_items UninitThis = false
has_items (Uninit pc) = false
has_items (Class name) = false
has_items (PrimArray prim) = false
has_items (Array' shape items) = true

has_items-Array : (item : VType) → IsTrue (has_items (Array item))
has_items-Array item = refl

pub is_array-Array : (item : VType) → IsTrue (is_array (Array item))
is_array-Array item = refl

pub is_object-Array : (item : VType) → IsTrue (is_object (Array item))
is_object-Array item = refl

-- ---- to a class or interface

-- Null is
pub null_to_class : (w : List Shape) (a : VType) (of : List ℕ) → a ≡ Null → (IsTrue true → IsAssignable w a (Class of)) × (IsAssignable w a (Class of) → IsTrue true)
null_to_class w a of is = (λ yes. of_null a (Class of) is refl, λ h. refl)

-- an array is by its name
array_from : (w : List Shape) (a b : VType) (of : List ℕ) → IsTrue (is_array a) → b ≡ Class of → IsAssignable w a b → IsArraySuper of
array_from w a b of is to (same _ _ e) = absurd (false≢true (ap is_array (sym to ∙ sym e) ∙ is))
array_from w a b of is to (to_top _ _ e) = absurd (cc)
array_from w a b of is to (of_null _ _ e o) = absurd (false≢true (sym (ap is_array e) ∙ is))
array_from w a b of is to (of_class _ _ name other e f h) = absurd (false≢true (sym (ap is_array e) ∙ is))
array_from w a b of is to (of_array _ _ other i f h) = subst IsArraySuper (cc) h
array_from w a b of is to (of_items _ _ item other e f h) = absurd (false≢true (ap is_array (sym to ∙ f) ∙ is_array-Array other))

pub array_to_class : (w : List Shape) (a : VType) (of : List ℕ) (t : Bool) → IsTrue (is_array a) → (IsTrue t → IsArraySuper of) × (IsArraySuper of → IsTrue t)
    → (IsTrue t → IsAssignable w a (Class of)) × (IsAssignable w a (Class of) → IsTrue t)
array_to_class w a of t is says = (λ yes. of_array a (Class of) of is refl (says.0 yes), λ h. says.1 (array_from w a (Class of) of is refl h))

-- a class is by its supertypes
class_from : (w : List Shape) (a b : VType) (name of : List ℕ) → a ≡ Class name → b ≡ Class of → IsAssignable w a b → IsClassAssignable w name of
class_from w a b name of is to (same _ _ e) = inl (inl (cc))
class_from w a b name of is to (to_top _ _ e) = absurd (cc)
class_from w a b name of is to (of_null _ _ e o) = absurd (cc)
class_from w a b name of is to (of_class _ _ own other e f h) =
    subst (λ (x : List ℕ). IsClassAssignable w x of) (cc) (subst (λ (x : List ℕ). IsClassAssignable w own x) (cc) h)
class_from w a b name of is to (of_array _ _ other i f h) = absurd (false≢true (ap is_array (sym is) ∙ i))
class_from w a b name of is to (of_items _ _ item other e f h) = absurd (false≢true (ap is_array (sym is ∙ e) ∙ is_array-Array item))

pub class_to_class : (w : List Shape) (a : VType) (name of : List ℕ) (t : Bool) → a ≡ Class name → (IsTrue t → IsClassAssignable w name of) × (IsClassAssignable w name of → IsTrue t)
    → (IsTrue t → IsAssignable w a (Class of)) × (IsAssignable w a (Class of) → IsTrue t)
class_to_class w a name of t is says =
    (λ yes. of_class a (Class of) name of is refl (says.0 yes), λ h. says.1 (class_from w a (Class of) name of is refl h))

-- ---- to an array of primitives

pub null_to_prim_array : (w : List Shape) (a : VType) (of : PrimType) → a ≡ Null
    → (IsTrue true → IsAssignable w a (PrimArray of)) × (IsAssignable w a (PrimArray of) → IsTrue true)
null_to_prim_array w a of is = (λ yes. of_null a (PrimArray of) is refl, λ h. refl)

prim_array_from : (w : List Shape) (a b : VType) (own of : PrimType) → a ≡ PrimArray own → b ≡ PrimArray of → IsAssignable w a b → own ≡ of
prim_array_from w a b own of is to (same _ _ e) = cc
prim_array_from w a b own of is to (to_top _ _ e) = absurd (cc)
prim_array_from w a b own of is to (of_null _ _ e o) = absurd (cc)
prim_array_from w a b own of is to (of_class _ _ name other e f h) = absurd (cc)
prim_array_from w a b own of is to (of_array _ _ other i f h) = absurd (cc)
prim_array_from w a b own of is to (of_items _ _ item other e f h) = absurd (false≢true (ap has_items (sym is ∙ e) ∙ has_items-Array item))

pub prim_array_to_prim_array : (w : List Shape) (a : VType) (own of : PrimType) (t : Bool) → a ≡ PrimArray own → (IsTrue t → own ≡ of) × (own ≡ of → IsTrue t)
    → (IsTrue t → IsAssignable w a (PrimArray of)) × (IsAssignable w a (PrimArray of) → IsTrue t)
prim_array_to_prim_array w a own of t is says =
    (λ yes. same a (PrimArray of) (is ∙ ap PrimArray (says.0 yes)), λ h. says.1 (prim_array_from w a (PrimArray of) own of is refl h))

-- ---- to an array of references

items_from : (w : List Shape) (a b item other : VType) → a ≡ Array item → b ≡ Array other → IsAssignable w a b → IsAssignable w item other
items_from w a b item other is to (same _ _ e) = same item other (same_items item other (sym is ∙ e ∙ to))
items_from w a b item other is to (to_top _ _ e) = absurd (false≢true (ap is_array (sym e ∙ to) ∙ is_array-Array other))
items_from w a b item other is to (of_null _ _ e o) = absurd (false≢true (ap is_array (sym e ∙ is) ∙ is_array-Array item))
items_from w a b item other is to (of_class _ _ name of e f h) = absurd (false≢true (ap is_array (sym e ∙ is) ∙ is_array-Array item))
items_from w a b item other is to (of_array _ _ of i f h) = absurd (false≢true (ap is_array (sym f ∙ to) ∙ is_array-Array other))
items_from w a b item other is to (of_items _ _ own of e f h) =
    subst (λ (x : VType). IsAssignable w x other) (same_items own item (sym e ∙ is)) (subst (λ (x : VType). IsAssignable w own x) (same_items of other (sym f ∙ to)) h)

pub items_to_items : (w : List Shape) (a b item other p q : VType) (t : Bool) → a ≡ Array item → b ≡ Array other → p ≡ item → q ≡ other
    → (IsTrue t → IsAssignable w p q) × (IsAssignable w p q → IsTrue t) → (IsTrue t → IsAssignable w a b) × (IsAssignable w a b → IsTrue t)
items_to_items w a b item other p q t is to is_p is_q says = (
  λ yes. of_items a b item other is to (subst (λ (x : VType). IsAssignable w x other) is_p (subst (λ (x : VType). IsAssignable w p x) is_q (says.0 yes))),
  λ h.
      says.1
      (subst (λ (x : VType). IsAssignable w x q) (sym is_p)
      (subst (λ (x : VType). IsAssignable w item x) (sym is_q) (items_from w a b item other is to h))),
)

pub null_to_items : (w : List Shape) (a b other : VType) → a ≡ Null → b ≡ Array other → (IsTrue true → IsAssignable w a b) × (IsAssignable w a b → IsTrue true)
null_to_items w a b other is to = (λ yes. of_null a b is (subst (λ (x : VType). IsTrue (is_object x)) (sym to) (is_object-Array other)), λ h. refl)

pub to_Top : (w : List Shape) (a b : VType) → b ≡ Top → (IsTrue true → IsAssignable w a b) × (IsAssignable w a b → IsTrue true)
to_Top w a b is = (λ yes. to_top a b is, λ h. refl)

-- ---- to any other type

other_from : (w : List Shape) (a b : VType) → (b ≡ Top → ⊥) → is_object b ≡ false → IsAssignable w a b → a ≡ b
other_from w a b none plain (same _ _ e) = e
other_from w a b none plain (to_top _ _ e) = absurd (none e)
other_from w a b none plain (of_null _ _ e o) = absurd (false≢true (sym plain ∙ o))
other_from w a b none plain (of_class _ _ name of e f h) = absurd (false≢true (sym plain ∙ ap is_object f))
other_from w a b none plain (of_array _ _ of i f h) = absurd (false≢true (sym plain ∙ ap is_object f))
other_from w a b none plain (of_items _ _ item other e f h) = absurd (false≢true (sym plain ∙ ap is_object f ∙ is_object-Array other))

pub to_other : (w : List Shape) (a b : VType) (t : Bool) → (b ≡ Top → ⊥) → is_object b ≡ false → (IsTrue t → a ≡ b) × (a ≡ b → IsTrue t)
    → (IsTrue t → IsAssignable w a b) × (IsAssignable w a b → IsTrue t)
to_other w a b t none plain says = (λ yes. same a b (says.0 yes), λ h. says.1 (other_from w a b none plain h))
