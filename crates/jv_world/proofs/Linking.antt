-- The direct supertypes of a class, by the places of their names.
use Rattle.std.proofs.Common.{◌≡◌, ℕ, zero, suc, ◌+◌, ◌<◌, ◌≤◌, ◌⊎◌, List, [], ◌∷◌, ◌++◌, length, map, take, get_or, Contains, Some, slice_get, refl, sym, ap, ◌∙◌, subst, inl, inr, ⊎_elim, arith}
use Rattle.std.specs.declared.alloc.Global.{Global}
use Rattle.std.specs.declared.vec.Vec.{Vec}
use Rattle.std.proofs.lemmas.List.{length-map, length_push, take_more, take_all}
use Rattle.std.proofs.lemmas.List.Elements.{Contains-append_left, Contains-push, Contains-push_cases}
use Rattle.std.proofs.lemmas.Option.{none-some, same_Some, slice_get-get_or}
use Rattle.jv_types.specs.declared.ids.ClassId.{ClassId}
use Rattle.jv_types.specs.declared.shapes.Shape.{Shape}
use Rattle.jv_world.specs.Worlds.{AreNumbered, IsNamed, NamesSuper}
use Rattle.jv_world.specs.Steps.Building.{Has, AreClassNames, AddsNamed, RowFor, AreLinks}
use Rattle.jv_world.proofs.NamesFound.{IsNamed-at, at_IsNamed}

-- the names of a list of shapes
pub AreClassNames-shapes : (w : List Shape) (names : List (List ℕ)) → AreNumbered w → names ≡ map (λ s. s.name) w → AreClassNames names
AreClassNames-shapes w names numbered is = record {
  one = λ c d name first second. numbered.distinct c d name (at c name first) (at d name second);
  few = let size = ap length is in omega (arith, size, length-map w (λ (s : Shape). s.name), numbered.count);
}
  where
    at : (c : ℕ) (name : List ℕ) → slice_get names c ≡ Some name → IsNamed w c name
    at c name there = IsNamed-at w c name (ap (λ (l : List (List ℕ)). slice_get l c) (sym is) ∙ there)

pub AddsNamed-none : (names : List (List ℕ)) (name : List ℕ) (row : List ClassId) → ((i : ℕ) → slice_get names i ≡ Some name → ⊥) → AddsNamed names name row row
AddsNamed-none names name row none = record { kept = λ n h. h; added = λ n at. absurd (none n at); only = λ n h. inl h }

pub Has-push : (row : List ClassId) (n m : ℕ) → Contains (row ++ record { number = m } ∷ []) (record { number = n }) → Contains row (record { number = n }) ⊎ (n ≡ m)
Has-push row n m has =
    let added : ClassId = record { number = m } in
    let sought : ClassId = record { number = n } in
    ⊎_elim (λ old. inl old) (λ is. inr (ap (λ (d : ClassId). d.number) (sym is))) (Contains-push_cases row added sought has)

pub AddsNamed-push : (names : List (List ℕ)) (name : List ℕ) (row new : List ClassId) (place : ℕ) → AreClassNames names → slice_get names place ≡ Some name
    → new ≡ row ++ record { number = place } ∷ [] → AddsNamed names name row new
AddsNamed-push names name row new place classes at grown =
    let added : ClassId = record { number = place } in
    let P : List ClassId → Type 0 = λ l. AddsNamed names name row l in
    subst P (sym grown)
    (record {
      kept = λ n h. Contains-append_left row (added ∷ []) (record { number = n }) h;
      added = λ n there. let Q : ℕ → Type 0 = λ m. Has (row ++ added ∷ []) m in subst Q (classes.one place n name at there) (Contains-push row added);
      only = λ n h. ⊎_elim (λ old. inl old) (λ same. inr (ap (λ (m : ℕ). slice_get names m) same ∙ at)) (Has-push row n place h);
    })

-- the classes of no name
pub RowFor-nil : (P : List ℕ → Type 0) (names : List (List ℕ)) → ((name : List ℕ) → P name → ⊥) → RowFor P names []
RowFor-nil P names none = record { all = λ n name h at. absurd (none name h); only = λ n h. absurd (omega (arith, h.1)) }

-- one name more
pub RowFor-more : (P Q : List ℕ → Type 0) (names : List (List ℕ)) (name : List ℕ) (old new : List ClassId) → AddsNamed names name old new
    → ((m : List ℕ) → Q m → P m ⊎ (m ≡ name)) → ((m : List ℕ) → P m → Q m) → Q name → RowFor P names old → RowFor Q names new
RowFor-more P Q names name old new adds cases into own row = record {
  all = λ n m h at.
      ⊎_elim (λ before. adds.kept n (row.all n m before at)) (λ same. adds.added n (at ∙ ap Some same)) (cases m h);
  only = λ n h.
      ⊎_elim (λ before. let found = row.only n before in (found.0, into found.0 found.1, found.2)) (λ at. (name, own, at)) (adds.only n h);
}

-- an element of a list with one more
pub slice_get-push : {A : Type 0} (xs : List A) (y : A) (i : ℕ) (x : A) → slice_get (xs ++ y ∷ []) i ≡ Some x → (slice_get xs i ≡ Some x) ⊎ ((i ≡ length xs) × (x ≡ y))
slice_get-push [] y zero x at = inr (refl, sym (same_Some y x at))
slice_get-push [] y (suc i) x at = absurd (none-some x at)
slice_get-push (z ∷ zs) y zero x at = inl at
slice_get-push (z ∷ zs) y (suc i) x at =
    ⊎_elim (λ before. inl before) (λ (last : (i ≡ length zs) × (x ≡ y)). inr (omega (arith, last.0), last.1)) (slice_get-push zs y i x at)

-- the rows of the shapes so far
pub record AreRows (w : List Shape) (names : List (List ℕ)) (i : ℕ) (links : List (Vec ClassId Global)) : Type 0 where
  pub count : length links ≡ i
  pub rows : (c : ℕ) (row : Vec ClassId Global) → slice_get links c ≡ Some row → (shape : Shape) × (slice_get w c ≡ Some shape) × RowFor (NamesSuper shape) names row.items

pub AreRows-more : (w : List Shape) (names : List (List ℕ)) (i : ℕ) (shape : Shape) (links new_links : List (Vec ClassId Global)) (row : Vec ClassId Global)
    → i < length w → shape ≡ get_or w i shape → RowFor (NamesSuper shape) names row.items → new_links ≡ links ++ row ∷ [] → AreRows w names i links → AreRows w names (i + 1) new_links
AreRows-more w names i shape links new_links row below is made grown so_far =
    let P : List (Vec ClassId Global) → Type 0 = λ l. AreRows w names (i + 1) l in
    subst P (sym grown)
    (record {
      count = omega (arith, so_far.count, length_push links row);
      rows = λ c r at.
          ⊎_elim
          (λ before. so_far.rows c r before)
          (λ (last : (c ≡ length links) × (r ≡ row)). (
            shape,
            ap (λ (n : ℕ). slice_get w n) (last.0 ∙ so_far.count) ∙ slice_get-get_or w i shape below ∙ ap Some (sym is),
            let Q : Vec ClassId Global → Type 0 = λ v. RowFor (NamesSuper shape) names v.items in subst Q (sym last.1) made,
          ))
          (slice_get-push links row c r at);
    })

-- the links of all shapes
pub AreLinks-rows : (w : List Shape) (names : List (List ℕ)) (n : ℕ) (links : List (Vec ClassId Global)) → names ≡ map (λ s. s.name) w → n ≡ length w → AreRows w names n links → AreLinks w links
AreLinks-rows w names n links is all_of rows = record {
  count = rows.count ∙ all_of;
  all = λ c d row at sup.
      let made = rows.rows c row at in
      ⊎_elim
      (λ (parent : (shape : Shape) × (name : List ℕ) × (slice_get w c ≡ Some shape) × (shape.parent ≡ Some name) × IsNamed w d name).
      let same : parent.0 ≡ made.0 = same_Some parent.0 made.0 (sym parent.2 ∙ made.1) in
      made.2.all d parent.1 (inl (ap (λ (s : Shape). s.parent) (sym same) ∙ parent.3)) (named d parent.1 parent.4))
      (λ (interface : (shape : Shape) × (name : List ℕ) × (slice_get w c ≡ Some shape) × Contains shape.interfaces name × IsNamed w d name).
      let same : interface.0 ≡ made.0 = same_Some interface.0 made.0 (sym interface.2 ∙ made.1) in
      let P : Shape → Type 0 = λ s. Contains s.interfaces interface.1 in
      made.2.all d interface.1 (inr (subst P same interface.3)) (named d interface.1 interface.4))
      sup;
  only = λ c d row at has.
      let made = rows.rows c row at in
      let found = made.2.only d has in
      let to : IsNamed w d found.0 = IsNamed-at w d found.0 (ap (λ (l : List (List ℕ)). slice_get l d) (sym is) ∙ found.2) in
      ⊎_elim
      (λ parent. inl (made.0, found.0, made.1, parent, to))
      (λ interface. inr (made.0, found.0, made.1, interface, to))
      found.1;
}
  where
    named : (d : ℕ) (name : List ℕ) → IsNamed w d name → slice_get names d ≡ Some name
    named d name h = ap (λ (l : List (List ℕ)). slice_get l d) is ∙ at_IsNamed w d name h

-- the same names
pub RowFor-same : (P Q : List ℕ → Type 0) (names : List (List ℕ)) (row : List ClassId) → ((m : List ℕ) → P m → Q m) → ((m : List ℕ) → Q m → P m) → RowFor P names row → RowFor Q names row
RowFor-same P Q names row into back made = record {
  all = λ n name h at. made.all n name (back name h) at;
  only = λ n h. let found = made.only n h in (found.0, into found.0 found.1, found.2);
}

-- a front that is one element longer
pub Contains-take_cases : {A : Type 0} (xs : List A) (i : ℕ) (x y : A) → i < length xs → y ≡ get_or xs i y → Contains (take (i + 1) xs) x → Contains (take i xs) x ⊎ (x ≡ y)
Contains-take_cases {A} xs i x y below is has =
    let P : List A → Type 0 = λ l. Contains l x in
    ⊎_elim (λ before. inl before) (λ same. inr (sym same ∙ sym is)) (Contains-push_cases (take i xs) (get_or xs i y) x (subst P (take_more xs i y below) has))

pub Contains-take_kept : {A : Type 0} (xs : List A) (i : ℕ) (x y : A) → i < length xs → Contains (take i xs) x → Contains (take (i + 1) xs) x
Contains-take_kept {A} xs i x y below has =
    let P : List A → Type 0 = λ l. Contains l x in
    subst P (sym (take_more xs i y below)) (Contains-append_left (take i xs) (get_or xs i y ∷ []) x has)

pub Contains-take_new : {A : Type 0} (xs : List A) (i : ℕ) (y : A) → i < length xs → y ≡ get_or xs i y → Contains (take (i + 1) xs) y
Contains-take_new {A} xs i y below is =
    let P : List A → Type 0 = λ l. Contains l y in
    let Q : A → Type 0 = λ z. Contains (take i xs ++ z ∷ []) y in
    subst P (sym (take_more xs i y below)) (subst Q is (Contains-push (take i xs) y))

-- the row of a class, at its start, after one interface more and at its end
pub RowFor-start : (shape : Shape) (items names : List (List ℕ)) (row : List ClassId) → RowFor (λ name. shape.parent ≡ Some name) names row
    → RowFor (λ name. (shape.parent ≡ Some name) ⊎ Contains (take 0 items) name) names row
RowFor-start shape items names row made =
    RowFor-same (λ name. shape.parent ≡ Some name) (λ name. (shape.parent ≡ Some name) ⊎ Contains (take 0 items) name) names row
    (λ m h. inl h) (λ m h. ⊎_elim (λ parent. parent) (λ nothing. absurd (omega (arith, nothing.1))) h) made

pub RowFor-step : (shape : Shape) (items names : List (List ℕ)) (i : ℕ) (name : List ℕ) (old new : List ClassId) → i < length items → name ≡ get_or items i name → AddsNamed names name old new
    → RowFor (λ m. (shape.parent ≡ Some m) ⊎ Contains (take i items) m) names old → RowFor (λ m. (shape.parent ≡ Some m) ⊎ Contains (take (i + 1) items) m) names new
RowFor-step shape items names i name old new below is adds made =
    RowFor-more (λ m. (shape.parent ≡ Some m) ⊎ Contains (take i items) m) (λ m. (shape.parent ≡ Some m) ⊎ Contains (take (i + 1) items) m) names name old new adds
    (λ m h. ⊎_elim (λ parent. inl (inl parent)) (λ has. ⊎_elim (λ before. inl (inr before)) (λ same. inr same) (Contains-take_cases items i m name below is has)) h)
    (λ m h. ⊎_elim (λ parent. inl parent) (λ has. inr (Contains-take_kept items i m name below has)) h)
    (inr (Contains-take_new items i name below is)) made

pub RowFor-end : (shape : Shape) (items names : List (List ℕ)) (i : ℕ) (row : List ClassId) → items ≡ shape.interfaces → length items ≤ i
    → RowFor (λ m. (shape.parent ≡ Some m) ⊎ Contains (take i items) m) names row → RowFor (NamesSuper shape) names row
RowFor-end shape items names i row is past made =
    let front : take i items ≡ shape.interfaces = take_all i items past ∙ is in
    let P : List ℕ → List (List ℕ) → Type 0 = λ m l. Contains l m in
    RowFor-same (λ m. (shape.parent ≡ Some m) ⊎ Contains (take i items) m) (NamesSuper shape) names row
    (λ m h. ⊎_elim (λ parent. inl parent) (λ has. inr (subst (P m) front has)) h)
    (λ m h. ⊎_elim (λ parent. inl parent) (λ has. inr (subst (P m) (sym front) has)) h) made
