-- The kinds of the supertypes that a class names.
use Rattle.std.proofs.Common.{◌≡◌, ℕ, ◌+◌, ◌<◌, ◌≤◌, Bool, true, false, not, IsTrue, List, length, map, take, get_or, Contains, Option, Some, None, IfNone, MatchOption, Bor, option_copied, slice_get, refl, sym, ap, ◌∙◌, subst, inl, inr, ⊎_elim, arith}
use Rattle.std.proofs.lemmas.Bool.{false≢true, cases_lt}
use Rattle.std.proofs.lemmas.List.{take_all}
use Rattle.std.proofs.lemmas.Option.{same_Some, slice_get-get_or}
use Rattle.std.specs.declared.alloc.Global.{Global}
use Rattle.std.specs.declared.vec.Vec.{Vec}
use Rattle.jv_types.specs.declared.ids.ClassId.{ClassId}
use Rattle.jv_types.specs.declared.shapes.Shape.{Shape}
use Rattle.jv_world.specs.Worlds.{object_name, AreNumbered, IsNamed, IsInterface, IsFinal, HasRightSupers}
use Rattle.jv_world.specs.Steps.Building.{Has}
use Rattle.jv_world.specs.Steps.Causes.{lesser_name, IsLeastOf, IsWrongBefore, AreRightBefore, IsOwnBefore, HasItself, HasRightSuperclass, AreInterfaces, ExtendsObject}
use Rattle.jv_world.proofs.Leasts.{IsLeastOf-same, IsLeastOf-more}
use Rattle.jv_world.proofs.Linking.{Contains-take_cases}
use Rattle.jv_world.proofs.NamesFound.{IsNamed-at, at_IsNamed, same_name}
use Rattle.jv_world.proofs.Subtypes.{IsNamed-below}

-- the shape at the place of a name
pub shape_at : (w : List Shape) (names : List (List ℕ)) (name : List ℕ) (place : ℕ) (shape : Shape) → names ≡ map (λ s. s.name) w → slice_get names place ≡ Some name
    → shape ≡ get_or w place shape → Contains w shape × (shape.name ≡ name)
shape_at w names name place shape is at read =
    let named = IsNamed-at w place name (ap (λ (l : List (List ℕ)). slice_get l place) (sym is) ∙ at) in
    let below = IsNamed-below w place name named in
    let same : shape ≡ named.0 = same_Some shape named.0 (sym (slice_get-get_or w place shape below ∙ ap Some (sym read)) ∙ named.1) in
    ((place, below, sym read), ap (λ (s : Shape). s.name) same ∙ named.2)

pub place_below : (w : List Shape) (names : List (List ℕ)) (name : List ℕ) (place : ℕ) → names ≡ map (λ s. s.name) w → slice_get names place ≡ Some name → place < length w
place_below w names name place is at = IsNamed-below w place name (IsNamed-at w place name (ap (λ (l : List (List ℕ)). slice_get l place) (sym is) ∙ at))

-- a shape of the list, at its place
named_at : (w : List Shape) (s : Shape) (has : Contains w s) → IsNamed w has.0 s.name
named_at w s has = (s, slice_get-get_or w has.0 s has.1 ∙ ap Some has.2, refl)

pub shape_nowhere : (w : List Shape) (names : List (List ℕ)) (name : List ℕ) → names ≡ map (λ s. s.name) w → ((i : ℕ) → slice_get names i ≡ Some name → ⊥)
    → (s : Shape) → Contains w s → s.name ≡ name → ⊥
shape_nowhere w names name is none s has same =
    none has.0 (ap (λ (l : List (List ℕ)). slice_get l has.0) is ∙ at_IsNamed w has.0 s.name (named_at w s has) ∙ ap Some same)

-- names are distinct
one_shape : (w : List Shape) → AreNumbered w → (s t : Shape) → Contains w s → Contains w t → s.name ≡ t.name → s ≡ t
one_shape w numbered s t has_s has_t same =
    let named = named_at w s has_s in
    let P : List ℕ → Type 0 = λ n. IsNamed w has_s.0 n in
    let place : has_s.0 ≡ has_t.0 = numbered.distinct has_s.0 has_t.0 t.name (subst P same named) (named_at w t has_t) in
    same_Some s t (sym (slice_get-get_or w has_s.0 s has_s.1 ∙ ap Some has_s.2) ∙ ap (slice_get w) place ∙ slice_get-get_or w has_t.0 t has_t.1 ∙ ap Some has_t.2)

-- the superclass isn't there
pub HasRightSuperclass-none : (w : List Shape) (shape : Shape) (name : List ℕ) → shape.parent ≡ Some name → ((s : Shape) → Contains w s → s.name ≡ name → ⊥)
    → (IsTrue true → HasRightSuperclass w shape) × (HasRightSuperclass w shape → IsTrue true)
HasRightSuperclass-none w shape name is none =
    (λ _. let P : Option (List ℕ) → Type 0 = RightAt in subst P (sym is) (λ other has same. absurd (none other has same)), λ _. refl)
  where
    RightAt : Option (List ℕ) → Type 0
    RightAt o = MatchOption o (shape.name ≡ object_name) (λ n. (other : Shape) → Contains w other → other.name ≡ n → (IsInterface other → ⊥) × (IsFinal other → ⊥))

-- the superclass is this one
pub HasRightSuperclass-some : (w : List Shape) (shape parent : Shape) (name : List ℕ) (i f : Bool) → AreNumbered w → shape.parent ≡ Some name → Contains w parent → parent.name ≡ name
    → (IsTrue i → IsInterface parent) × (IsInterface parent → IsTrue i) → (IsTrue f → IsFinal parent) × (IsFinal parent → IsTrue f) → i ≡ false
    → (IsTrue (not f) → HasRightSuperclass w shape) × (HasRightSuperclass w shape → IsTrue (not f))
HasRightSuperclass-some w shape parent name i f numbered is has named interface final no_interface = (
  λ yes. let P : Option (List ℕ) → Type 0 = RightAt in
      subst P (sym is)
      (λ other there same.
      let one : parent ≡ other = one_shape w numbered parent other has there (named ∙ sym same) in
      let Q : Shape → Type 0 = λ s. (IsInterface s → ⊥) × (IsFinal s → ⊥) in
      subst Q one (λ h. false≢true (sym no_interface ∙ interface.1 h), λ h. clash f yes (final.1 h))),
  λ right.
      let P : Option (List ℕ) → Type 0 = RightAt in
      let kinds = subst P is right in
      denied f (λ yes. (kinds parent has named).1 (final.0 yes)),
)
  where
    RightAt : Option (List ℕ) → Type 0
    RightAt o = MatchOption o (shape.name ≡ object_name) (λ n. (other : Shape) → Contains w other → other.name ≡ n → (IsInterface other → ⊥) × (IsFinal other → ⊥))

    clash : (b : Bool) → IsTrue (not b) → IsTrue b → ⊥
    clash true h g = false≢true h
    clash false h g = false≢true g

    denied : (b : Bool) → (IsTrue b → ⊥) → IsTrue (not b)
    denied true h = absurd (h refl)
    denied false h = refl

-- the classes of one name are interfaces
pub interface-none : (w : List Shape) (name : List ℕ) → ((s : Shape) → Contains w s → s.name ≡ name → ⊥)
    → (IsTrue true → (other : Shape) → Contains w other → other.name ≡ name → IsInterface other) × (((other : Shape) → Contains w other → other.name ≡ name → IsInterface other) → IsTrue true)
interface-none w name none = (λ _ other has same. absurd (none other has same), λ _. refl)

pub interface-some : (w : List Shape) (name : List ℕ) (own : Shape) (b : Bool) → AreNumbered w → Contains w own → own.name ≡ name → (IsTrue b → IsInterface own) × (IsInterface own → IsTrue b)
    → (IsTrue b → (other : Shape) → Contains w other → other.name ≡ name → IsInterface other) × (((other : Shape) → Contains w other → other.name ≡ name → IsInterface other) → IsTrue b)
interface-some w name own b numbered has named says = (
  λ yes other there same. let P : Shape → Type 0 = λ s. IsInterface s in subst P (one_shape w numbered own other has there (named ∙ sym same)) (says.0 yes),
  λ all. says.1 (all own has named),
)

-- one name more
pub AreInterfaces-more : (w : List Shape) (wanted : List (List ℕ)) (i : ℕ) (name : List ℕ) → i < length wanted → name ≡ get_or wanted i name
    → ((other : Shape) → Contains w other → other.name ≡ name → IsInterface other) → AreInterfaces w (take i wanted) → AreInterfaces w (take (i + 1) wanted)
AreInterfaces-more w wanted i name below is own before other there has =
    ⊎_elim (λ early. before other there early) (λ same. own other there same) (Contains-take_cases wanted i other.name name below is has)

pub AreInterfaces-fails : (w : List Shape) (wanted : List (List ℕ)) (i : ℕ) (name : List ℕ) (b : Bool) → i < length wanted → name ≡ get_or wanted i name
    → (IsTrue b → (other : Shape) → Contains w other → other.name ≡ name → IsInterface other) × (((other : Shape) → Contains w other → other.name ≡ name → IsInterface other) → IsTrue b)
    → b ≡ false → (IsTrue false → AreInterfaces w wanted) × (AreInterfaces w wanted → IsTrue false)
AreInterfaces-fails w wanted i name b below is says fails = (
  λ h. absurd (false≢true h),
  λ all. absurd (false≢true (sym fails ∙ says.1
      (λ other there same. let P : List ℕ → Type 0 = λ n. Contains wanted n in all other there (subst P (sym same) (i, below, sym is))))),
)

pub AreInterfaces-all : (w : List Shape) (wanted : List (List ℕ)) (i : ℕ) → length wanted ≤ i → AreInterfaces w (take i wanted) → (IsTrue true → AreInterfaces w wanted) × (AreInterfaces w wanted → IsTrue true)
AreInterfaces-all w wanted i past before =
    (λ _. let P : List (List ℕ) → Type 0 = λ l. AreInterfaces w l in subst P (take_all i wanted past) before, λ _. refl)

pub AreInterfaces-nil : (w : List Shape) (wanted : List (List ℕ)) → AreInterfaces w (take 0 wanted)
AreInterfaces-nil w wanted other there has = absurd (omega (arith, has.1))

-- all three of them
pub HasRightSupers-all : (w : List Shape) (shape : Shape) (items : List (List ℕ)) (c : Bool) → items ≡ shape.interfaces → HasRightSuperclass w shape → AreInterfaces w items
    → (IsTrue c → ExtendsObject shape) × (ExtendsObject shape → IsTrue c) → (IsTrue c → HasRightSupers w shape) × (HasRightSupers w shape → IsTrue c)
HasRightSupers-all w shape items c is parent interfaces object = (
  λ yes. record {
    superclass = parent;
    superinterfaces = let P : List (List ℕ) → Type 0 = λ l. AreInterfaces w l in subst P is interfaces;
    of_interface = object.0 yes;
  },
  λ right. object.1 right.of_interface,
)

pub HasRightSupers-no_parent : (w : List Shape) (shape : Shape) (b : Bool) → (IsTrue b → HasRightSuperclass w shape) × (HasRightSuperclass w shape → IsTrue b) → b ≡ false
    → (IsTrue false → HasRightSupers w shape) × (HasRightSupers w shape → IsTrue false)
HasRightSupers-no_parent w shape b says fails = (λ h. absurd (false≢true h), λ right. absurd (false≢true (sym fails ∙ says.1 right.superclass)))

pub HasRightSupers-no_interfaces : (w : List Shape) (shape : Shape) (items : List (List ℕ)) (b : Bool) → items ≡ shape.interfaces → (IsTrue b → AreInterfaces w items) × (AreInterfaces w items → IsTrue b)
    → b ≡ false → (IsTrue false → HasRightSupers w shape) × (HasRightSupers w shape → IsTrue false)
HasRightSupers-no_interfaces w shape items b is says fails = (
  λ h. absurd (false≢true h),
  λ right. let P : List (List ℕ) → Type 0 = λ l. AreInterfaces w l in absurd (false≢true (sym fails ∙ says.1 (subst P (sym is) right.superinterfaces))),
)

-- a class whose supertypes are right, and one whose supertypes are wrong
pub wrong-same : (w : List Shape) (i : ℕ) (shape : Shape) (b : Bool) (best : Option (List ℕ)) → i < length w → shape ≡ get_or w i shape
    → (IsTrue b → HasRightSupers w shape) × (HasRightSupers w shape → IsTrue b) → b ≡ true → IsLeastOf (IsWrongBefore w i) best → IsLeastOf (IsWrongBefore w (i + 1)) best
wrong-same w i shape b best below is says right least =
    IsLeastOf-same (IsWrongBefore w i) (IsWrongBefore w (i + 1)) best
    (λ n (h : IsWrongBefore w i n). (h.0, h.1, omega (arith, h.2), h.3, h.4, h.5))
    (λ n (h : IsWrongBefore w (i + 1) n).
    ⊎_elim
    (λ (early : h.0 < i). (h.0, h.1, early, h.3, h.4, h.5))
    (λ (late : i ≤ h.0).
    let place : h.0 ≡ i = omega (arith, h.2, late) in
    let same : h.1 ≡ shape = same_Some h.1 shape (sym h.3 ∙ ap (slice_get w) place ∙ slice_get-get_or w i shape below ∙ ap Some (sym is)) in
    let P : Shape → Type 0 = λ s. HasRightSupers w s in
    absurd (h.5 (subst P (sym same) (says.0 right))))
    (cases_lt h.0 i))
    least

pub wrong-more : (w : List Shape) (i : ℕ) (shape : Shape) (b : Bool) (best new : Option (List ℕ)) → i < length w → shape ≡ get_or w i shape
    → (IsTrue b → HasRightSupers w shape) × (HasRightSupers w shape → IsTrue b) → b ≡ false → new ≡ lesser_name best shape.name → IsLeastOf (IsWrongBefore w i) best → IsLeastOf (IsWrongBefore w (i + 1)) new
wrong-more w i shape b best new below is says wrong made least =
    let here : slice_get w i ≡ Some shape = slice_get-get_or w i shape below ∙ ap Some (sym is) in
    IsLeastOf-more (IsWrongBefore w i) (IsWrongBefore w (i + 1)) best new shape.name made
    (i, shape, omega arith, here, refl, λ right. false≢true (sym wrong ∙ says.1 right))
    (λ n (h : IsWrongBefore w i n). (h.0, h.1, omega (arith, h.2), h.3, h.4, h.5))
    (λ n (h : IsWrongBefore w (i + 1) n).
    ⊎_elim
    (λ (early : h.0 < i). inl (h.0, h.1, early, h.3, h.4, h.5))
    (λ (late : i ≤ h.0).
    let place : h.0 ≡ i = omega (arith, h.2, late) in
    let same : h.1 ≡ shape = same_Some h.1 shape (sym h.3 ∙ ap (slice_get w) place ∙ here) in
    inr (sym h.4 ∙ ap (λ (s : Shape). s.name) same))
    (cases_lt h.0 i))
    least

pub wrong-none : (w : List Shape) → IsLeastOf (IsWrongBefore w 0) None
wrong-none w n h = absurd (omega (arith, h.2))

-- a row has its own class
pub HasItself-row : (rows : List (Vec ClassId Global)) (c : ℕ) (row : Vec ClassId Global) (b : Bool) → slice_get rows c ≡ Some row
    → (IsTrue b → Has row.items c) × (Has row.items c → IsTrue b) → (IsTrue b → HasItself rows c) × (HasItself rows c → IsTrue b)
HasItself-row rows c row b at says = (
  λ yes. (row, at, says.0 yes),
  λ own. let P : Vec ClassId Global → Type 0 = λ v. Has v.items c in says.1 (subst P (same_Some own.0 row (sym own.1 ∙ at)) own.2),
)

pub own-same : (w : List Shape) (rows : List (Vec ClassId Global)) (i : ℕ) (b : Bool) (best : Option (List ℕ)) → (IsTrue b → HasItself rows i) × (HasItself rows i → IsTrue b) → b ≡ false
    → IsLeastOf (IsOwnBefore w rows i) best → IsLeastOf (IsOwnBefore w rows (i + 1)) best
own-same w rows i b best says not_own least =
    IsLeastOf-same (IsOwnBefore w rows i) (IsOwnBefore w rows (i + 1)) best
    (λ n (h : IsOwnBefore w rows i n). (h.0, omega (arith, h.1), h.2, h.3))
    (λ n (h : IsOwnBefore w rows (i + 1) n).
    ⊎_elim
    (λ (early : h.0 < i). (h.0, early, h.2, h.3))
    (λ (late : i ≤ h.0).
    let place : h.0 ≡ i = omega (arith, h.1, late) in
    let P : ℕ → Type 0 = λ k. HasItself rows k in
    absurd (false≢true (sym not_own ∙ says.1 (subst P place h.3))))
    (cases_lt h.0 i))
    least

pub own-more : (w : List Shape) (rows : List (Vec ClassId Global)) (i : ℕ) (shape : Shape) (b : Bool) (best new : Option (List ℕ)) → i < length w → shape ≡ get_or w i shape
    → (IsTrue b → HasItself rows i) × (HasItself rows i → IsTrue b) → b ≡ true → new ≡ lesser_name best shape.name → IsLeastOf (IsOwnBefore w rows i) best → IsLeastOf (IsOwnBefore w rows (i + 1)) new
own-more w rows i shape b best new below is says own made least =
    let here : slice_get w i ≡ Some shape = slice_get-get_or w i shape below ∙ ap Some (sym is) in
    let named : IsNamed w i shape.name = (shape, here, refl) in
    IsLeastOf-more (IsOwnBefore w rows i) (IsOwnBefore w rows (i + 1)) best new shape.name made
    (i, omega arith, named, says.0 own)
    (λ n (h : IsOwnBefore w rows i n). (h.0, omega (arith, h.1), h.2, h.3))
    (λ n (h : IsOwnBefore w rows (i + 1) n).
    ⊎_elim
    (λ (early : h.0 < i). inl (h.0, early, h.2, h.3))
    (λ (late : i ≤ h.0).
    let place : h.0 ≡ i = omega (arith, h.1, late) in
    let P : ℕ → Type 0 = λ k. IsNamed w k n in
    inr (same_name w i n shape.name (subst P place h.2) named))
    (cases_lt h.0 i))
    least

pub own-none : (w : List Shape) (rows : List (Vec ClassId Global)) → IsLeastOf (IsOwnBefore w rows 0) None
own-none w rows n h = absurd (omega (arith, h.1))

pub right-more : (w : List Shape) (i : ℕ) (shape : Shape) (b : Bool) → i < length w → shape ≡ get_or w i shape
    → (IsTrue b → HasRightSupers w shape) × (HasRightSupers w shape → IsTrue b) → b ≡ true → AreRightBefore w i → AreRightBefore w (i + 1)
right-more w i shape b below is says right before c s early at =
    ⊎_elim
    (λ (lower : c < i). before c s lower at)
    (λ (late : i ≤ c).
    let place : c ≡ i = omega (arith, early, late) in
    let same : s ≡ shape = same_Some s shape (sym at ∙ ap (slice_get w) place ∙ slice_get-get_or w i shape below ∙ ap Some (sym is)) in
    let P : Shape → Type 0 = λ x. HasRightSupers w x in
    subst P (sym same) (says.0 right))
    (cases_lt c i)

pub right-none : (w : List Shape) → AreRightBefore w 0
right-none w c s early at = absurd (omega (arith, early))

-- the searched parts so far
pub record IsCheckedUpTo (w : List Shape) (i : ℕ) (best : Option (List ℕ)) : Type 0 where
  pub least : IsLeastOf (IsWrongBefore w i) best
  pub right : IfNone best (AreRightBefore w i)

pub checked-none : (w : List Shape) → IsCheckedUpTo w 0 None
checked-none w = record { least = wrong-none w; right = right-none w }

pub checked-same : (w : List Shape) (i : ℕ) (shape : Shape) (b : Bool) (best : Option (List ℕ)) → i < length w → shape ≡ get_or w i shape
    → (IsTrue b → HasRightSupers w shape) × (HasRightSupers w shape → IsTrue b) → b ≡ true → IsCheckedUpTo w i best → IsCheckedUpTo w (i + 1) best
checked-same w i shape b None below is says right so_far = record {
  least = wrong-same w i shape b None below is says right so_far.least;
  right = right-more w i shape b below is says right so_far.right;
}
checked-same w i shape b (Some best) below is says right so_far = record { least = wrong-same w i shape b (Some best) below is says right so_far.least; right = tt }

pub checked-more : (w : List Shape) (i : ℕ) (shape : Shape) (b : Bool) (best : Option (List ℕ)) (name : List ℕ) → i < length w → shape ≡ get_or w i shape
    → (IsTrue b → HasRightSupers w shape) × (HasRightSupers w shape → IsTrue b) → b ≡ false → Some name ≡ lesser_name best shape.name → IsCheckedUpTo w i best → IsCheckedUpTo w (i + 1) (Some name)
checked-more w i shape b best name below is says wrong made so_far = record { least = wrong-more w i shape b best (Some name) below is says wrong made so_far.least; right = tt }

pub copied_none : (o : Option (Bor (List ℕ))) (P : Type 0) → IfNone (option_copied o) P → IfNone o P
copied_none None P h = h
copied_none (Some x) P h = tt
