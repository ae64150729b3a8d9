-- From what was searched to a world, or to the cause of a refusal.
use Rattle.std.proofs.Common.{◌≡◌, ℕ, zero, suc, ◌<◌, List, [], ◌∷◌, length, map, get_or, Option, Some, None, slice_get, refl, sym, ap, ◌∙◌, subst, arith}
use Rattle.std.specs.declared.alloc.Global.{Global}
use Rattle.std.specs.declared.vec.Vec.{Vec}
use Rattle.std.proofs.lemmas.Option.{slice_get-get_or, same_Some}
use Rattle.jv_types.specs.declared.ids.ClassId.{ClassId}
use Rattle.jv_types.specs.declared.shapes.Shape.{Shape}
use Rattle.jv_world.specs.Worlds.{AreNumbered, HasSuper, Sub, same, link, ProperSub, IsAbsent, IsCircular, HasWrongSuper, AreProperSupers, IsWorld}
use Rattle.jv_world.specs.Refusals.{IsLeastName}
use Rattle.jv_world.specs.Steps.Building.{AreLinks, IsLinked, IsLedTo, straight, onward, AreInRange, AreLedFrom}
use Rattle.jv_world.specs.Steps.Causes.{IsLeastOf, IsAbsentBefore, IsOwnBefore, IsWrongBefore, AreRightBefore}
use Rattle.jv_world.specs.Steps.Kept.{IsKept}
use Rattle.jv_world.specs.declared.members.Members.{Members}
use Rattle.jv_world.specs.Steps.Ordered.{AreIndexed}
use Rattle.jv_world.specs.Steps.Ranks.{count_at}
use Rattle.jv_world.proofs.Absent.{IsLeastOf-absent}
use Rattle.jv_world.proofs.Leasts.{IsLeastOf-same}
use Rattle.jv_world.proofs.Ranking.{AreSupers, row_at, count_falls, count_bound}
use Rattle.jv_world.proofs.Subtypes.{Sub-proper, HasSuper-below, HasSuper-from}

-- links and direct supertypes are the same
linked : (w : List Shape) (links : List (Vec ClassId Global)) → AreLinks w links → (c d : ℕ) → HasSuper w c d → IsLinked links c d
linked w links are c d sup =
    let own = row_at links c (rw are.count (HasSuper-from w c d sup)) in
    (own.0, own.1, are.all c d own.0 own.1 sup)

unlinked : (w : List Shape) (links : List (Vec ClassId Global)) → AreLinks w links → (c d : ℕ) → IsLinked links c d → HasSuper w c d
unlinked w links are c d is = are.only c d is.0 is.1 is.2

-- so is what they lead to
IsLedTo-proper : (w : List Shape) (links : List (Vec ClassId Global)) → AreLinks w links → (c d : ℕ) → IsLedTo links c d → ProperSub w c d
IsLedTo-proper w links are c d (straight _ _ first) = (d, unlinked w links are c d first, same d d refl)
IsLedTo-proper w links are c d (onward _ m _ first rest) = (m, unlinked w links are c m first, Sub-proper w m d (IsLedTo-proper w links are m d rest))

proper-IsLedTo : (w : List Shape) (links : List (Vec ClassId Global)) → AreLinks w links → (c m d : ℕ) → HasSuper w c m → Sub w m d → IsLedTo links c d
proper-IsLedTo w links are c m d first (same _ _ is) = let P : ℕ → Type 0 = λ n. IsLedTo links c n in subst P is (straight c m (linked w links are c m first))
proper-IsLedTo w links are c m d first (link _ k _ next rest) = onward c m d (linked w links are c m first) (proper-IsLedTo w links are m k d next rest)

pub AreInRange-links : (w : List Shape) (links : List (Vec ClassId Global)) → AreLinks w links → AreInRange links
AreInRange-links w links are = record { below = λ c d is. rw (are.count) (HasSuper-below w c d (unlinked w links are c d is)) }

-- the rows are those of proper supertypes
pub AreProperSupers-led : (w : List Shape) (links rows : List (Vec ClassId Global)) (n c : ℕ) (row : Vec ClassId Global) → AreLinks w links → AreLedFrom links n rows → slice_get rows c ≡ Some row
    → AreProperSupers w c row.items
AreProperSupers-led w links rows n c row are led at =
    let own = led.rows_are c row at in
    record {
      all = λ d proper. own.all d.number (proper-IsLedTo w links are c proper.0 d.number proper.1 proper.2);
      only = λ d has. IsLedTo-proper w links are c d.number (own.only d.number has);
      rising = own.rising;
    }

-- the cause of a refusal
pub missing : (w : List Shape) (names : List (List ℕ)) (name made : List ℕ) → names ≡ map (λ s. s.name) w → IsLeastName (IsAbsentBefore w names (length w)) name → made ≡ name → IsLeastName (IsAbsent w) made
missing w names name made is least copied =
    let P : List ℕ → Type 0 = λ n. IsLeastName (IsAbsent w) n in
    subst P (sym copied) (IsLeastOf-absent w names (Some name) is least)

pub none_absent : (w : List Shape) (names : List (List ℕ)) → names ≡ map (λ s. s.name) w → ((name : List ℕ) → IsAbsentBefore w names (length w) name → ⊥) → (name : List ℕ) → IsAbsent w name → ⊥
none_absent w names is none = IsLeastOf-absent w names None is none

own_circular : (w : List Shape) (links rows : List (Vec ClassId Global)) (n : ℕ) → AreLinks w links → AreLedFrom links n rows → n ≡ length w → (best : Option (List ℕ))
    → IsLeastOf (IsOwnBefore w rows (length w)) best → IsLeastOf (IsCircular w) best
own_circular w links rows n are led all best least =
    IsLeastOf-same (IsOwnBefore w rows (length w)) (IsCircular w) best
    (λ name (h : IsOwnBefore w rows (length w) name).
    (h.0, h.2, IsLedTo-proper w links are h.0 h.0 ((led.rows_are h.0 h.3.0 h.3.1).only h.0 h.3.2)))
    (λ name (h : IsCircular w name).
    let proper = h.2 in
    let here : h.0 < length w = HasSuper-from w h.0 proper.0 proper.1 in
    let own = row_at rows h.0 (rw (led.count ∙ all) here) in
    (h.0, here, h.1, (own.0, own.1, (led.rows_are h.0 own.0 own.1).all h.0 (proper-IsLedTo w links are h.0 proper.0 h.0 proper.1 proper.2))))
    least

pub circular : (w : List Shape) (links rows : List (Vec ClassId Global)) (n : ℕ) (name made : List ℕ) → AreLinks w links → AreLedFrom links n rows → n ≡ length w
    → IsLeastName (IsOwnBefore w rows (length w)) name → made ≡ name → IsLeastName (IsCircular w) made
circular w links rows n name made are led all least copied =
    let P : List ℕ → Type 0 = λ m. IsLeastName (IsCircular w) m in
    subst P (sym copied) (own_circular w links rows n are led all (Some name) least)

pub none_circular : (w : List Shape) (links rows : List (Vec ClassId Global)) (n : ℕ) → AreLinks w links → AreLedFrom links n rows → n ≡ length w
    → ((name : List ℕ) → IsOwnBefore w rows (length w) name → ⊥) → (name : List ℕ) → IsCircular w name → ⊥
none_circular w links rows n are led all none = own_circular w links rows n are led all None none

get_there : (w : List Shape) (c : ℕ) (shape : Shape) → c < length w → slice_get w c ≡ Some shape → get_or w c shape ≡ shape
get_there w c shape below at = same_Some (get_or w c shape) shape (sym (slice_get-get_or w c shape below) ∙ at)

pub wrong : (w : List Shape) (name made : List ℕ) → IsLeastName (IsWrongBefore w (length w)) name → made ≡ name → IsLeastName (HasWrongSuper w) made
wrong w name made least copied =
    let P : List ℕ → Type 0 = λ m. IsLeastName (HasWrongSuper w) m in
    subst P (sym copied)
    (IsLeastOf-same (IsWrongBefore w (length w)) (HasWrongSuper w) (Some name)
    (λ n (h : IsWrongBefore w (length w) n). (h.1, (h.0, h.2, get_there w h.0 h.1 h.2 h.3), h.4, h.5))
    (λ n (h : HasWrongSuper w n). (h.1.0, h.0, h.1.1, slice_get-get_or w h.1.0 h.0 h.1.1 ∙ ap Some h.1.2, h.2, h.3))
    least)

-- the world
pub AreSupers-led : (w : List Shape) (links rows : List (Vec ClassId Global)) (n : ℕ) → AreLinks w links → AreLedFrom links n rows → n ≡ length w
    → ((name : List ℕ) → IsCircular w name → ⊥) → AreSupers w rows
AreSupers-led w links rows n are led all none = record {
  count = led.count ∙ all;
  exact = λ c row at. AreProperSupers-led w links rows n c row are led at;
  apart = λ c proper.
      let here = shape_at w c (HasSuper-from w c proper.0 proper.1) in
      none here.0.name (c, (here.0, here.1, refl), proper);
}
  where
    shape_at : (xs : List Shape) (c : ℕ) → c < length xs → (s : Shape) × (slice_get xs c ≡ Some s)
    shape_at [] c below = absurd (omega (arith, below))
    shape_at (x ∷ xs) zero below = (x, refl)
    shape_at (x ∷ xs) (suc c) below = shape_at xs c (omega (arith, below))

pub IsWorld-built : (w : List Shape) (rows : List (Vec ClassId Global)) → AreNumbered w → AreSupers w rows → ((name : List ℕ) → IsAbsent w name → ⊥) → AreRightBefore w (length w) → IsWorld w
IsWorld-built w rows numbered supers none right = record {
  numbered = numbered;
  none_absent = none;
  right_supers = λ shape has. right has.0 shape has.1 (slice_get-get_or w has.0 shape has.1 ∙ ap Some has.2);
  rank = count_at rows;
  falls = count_falls w rows supers;
  bound = count_bound w rows supers;
}

pub IsKept-built : (w : List Shape) (names : List (List ℕ)) (rows : List (Vec ClassId Global)) (members : List Members) → names ≡ map (λ s. s.name) w → AreSupers w rows → AreIndexed w (length w) members → IsWorld w
    → IsKept w names rows members
IsKept-built w names rows members is supers indexed world = record {
  world = world;
  names_are = is;
  supers_count = supers.count;
  supers_are = supers.exact;
  members_are = indexed;
}
