-- Which classes are whole.
use Rattle.std.proofs.Common.{◌≡◌, ℕ, ◌+◌, ◌<◌, ◌≤◌, Bool, true, false, not, IsTrue, List, [], ◌∷◌, ◌++◌, length, map, take, Contains, Some, slice_get, refl, sym, ap, ◌∙◌, subst, inl, inr, ⊎_elim, arith}
use Rattle.std.specs.Prelude.{◌↔◌}
use Rattle.std.specs.declared.alloc.Global.{Global}
use Rattle.std.specs.declared.vec.Vec.{Vec}
use Rattle.std.proofs.lemmas.List.{length_push, take_all}
use Rattle.std.proofs.lemmas.Option.{slice_get-get_or, slice_get_within, same_Some}
use Rattle.jv_types.specs.declared.ids.ClassId.{ClassId}
use Rattle.jv_types.specs.declared.shapes.Shape.{Shape}
use Rattle.jv_world.specs.Worlds.{HasRightSupers, IsNamed, ProperSub, Sub, same, link}
use Rattle.jv_world.specs.Steps.Building.{Has, AreLinks, AreLedFrom, marked, HaveSupers}
use Rattle.jv_world.specs.Steps.Causes.{AreRising, HasItself}
use Rattle.jv_world.specs.Whole.{AreMarks, HasSupersThere, IsSound, IsWhole}
use Rattle.jv_world.proofs.Built.{AreProperSupers-led}
use Rattle.jv_world.proofs.Linking.{slice_get-push}
use Rattle.jv_world.proofs.NamesFound.{IsNamed-at, at_IsNamed}
use Rattle.jv_world.proofs.Ranking.{row_at}
use Rattle.jv_world.proofs.Subtypes.{Sub-cases, Sub-proper, HasSuper-below}

-- ---- names that are there

pub there_yes : (w : List Shape) (names : List (List ℕ)) (name : List ℕ) (i : ℕ) → names ≡ map (λ s. s.name) w → slice_get names i ≡ Some name → IsTrue true ↔ ((d : ℕ) × IsNamed w d name)
there_yes w names name i is at = (λ _. (i, IsNamed-at w i name (ap (λ (l : List (List ℕ)). slice_get l i) (sym is) ∙ at)), λ _. refl)

pub there_no : (w : List Shape) (names : List (List ℕ)) (name : List ℕ) → names ≡ map (λ s. s.name) w → ((i : ℕ) → slice_get names i ≡ Some name → ⊥) → IsTrue false ↔ ((d : ℕ) × IsNamed w d name)
there_no w names name is none = (
  λ t. absurd (let e : false ≡ true = t in cc),
  λ p. absurd (none p.0 (ap (λ (l : List (List ℕ)). slice_get l p.0) is ∙ at_IsNamed w p.0 name p.1)),
)

pub both_there : (w : List Shape) (shape : Shape) → ((name : List ℕ) → shape.parent ≡ Some name → (d : ℕ) × IsNamed w d name)
    → ((name : List ℕ) → Contains shape.interfaces name → (d : ℕ) × IsNamed w d name) → HasSupersThere w shape
both_there w shape parent interfaces name (inl p) = parent name p
both_there w shape parent interfaces name (inr p) = interfaces name p

-- ---- rows of proper supertypes

pub HaveSupers-led : (w : List Shape) (links rows : List (Vec ClassId Global)) (n : ℕ) → AreLinks w links → n ≡ length links → AreLedFrom links n rows → HaveSupers w rows
HaveSupers-led w links rows n are is led = record {
  count = led.count ∙ is ∙ are.count;
  exact = λ c row at. AreProperSupers-led w links rows n c row are led at;
}

pub rows_rise : (w : List Shape) (rows : List (Vec ClassId Global)) → HaveSupers w rows → AreRising rows
rows_rise w rows supers = record { rising = λ c row at. (supers.exact c row at).rising }

-- a class is in its own row where it is its own proper supertype
pub circular_by : (w : List Shape) (rows : List (Vec ClassId Global)) (c : ℕ) (b : Bool) → HaveSupers w rows → c < length w → IsTrue b ↔ HasItself rows c → IsTrue b ↔ ProperSub w c c
circular_by w rows c b supers here says = (
  λ t. let own = says.0 t in (supers.exact c own.0 own.1).only (record { number = c }) own.2,
  λ p. let row = row_at rows c (rw supers.count here) in says.1 (row.0, row.1, (supers.exact c row.0 row.1).all (record { number = c }) p),
)

-- ---- sound classes

pub sound_by : (w : List Shape) (c : ℕ) (shape : Shape) (a b d : Bool) → slice_get w c ≡ Some shape → IsTrue a ↔ HasSupersThere w shape → IsTrue b ↔ HasRightSupers w shape → IsTrue d ↔ ProperSub w c c
    → a ≡ true → b ≡ true → IsTrue (not d) ↔ IsSound w c
sound_by w c shape a b d at there right circle e f = (
  λ t. record { shape = shape; place = at; there = there.0 e; right = right.0 f; no_circle = λ p. clash d t (circle.1 p) },
  λ s. denied d (λ yes. s.no_circle (circle.0 yes)),
)
  where
    clash : (x : Bool) → IsTrue (not x) → IsTrue x → ⊥
    clash true h g = let e : false ≡ true = h in absurd cc
    clash false h g = let e : false ≡ true = g in absurd cc

    denied : (x : Bool) → (IsTrue x → ⊥) → IsTrue (not x)
    denied true h = absurd (h refl)
    denied false h = refl

unsound_by : (w : List Shape) (c : ℕ) (shape : Shape) (P : Shape → Type 0) (a : Bool) → slice_get w c ≡ Some shape → IsTrue a ↔ P shape → a ≡ false → ((s : IsSound w c) → P s.shape) → IsTrue false ↔ IsSound w c
unsound_by w c shape P a at says e has = (
  λ t. absurd (let q : false ≡ true = t in cc),
  λ s.
      let own : s.shape ≡ shape = same_Some s.shape shape (sym s.place ∙ at) in
      let yes : a ≡ true = says.1 (subst P own (has s)) in
      absurd (let q : false ≡ true = sym e ∙ yes in cc),
)

pub unsound_absent : (w : List Shape) (c : ℕ) (shape : Shape) (a : Bool) → slice_get w c ≡ Some shape → IsTrue a ↔ HasSupersThere w shape → a ≡ false → IsTrue false ↔ IsSound w c
unsound_absent w c shape a at says e = unsound_by w c shape (HasSupersThere w) a at says e (λ s. s.there)

pub unsound_wrong : (w : List Shape) (c : ℕ) (shape : Shape) (a : Bool) → slice_get w c ≡ Some shape → IsTrue a ↔ HasRightSupers w shape → a ≡ false → IsTrue false ↔ IsSound w c
unsound_wrong w c shape a at says e = unsound_by w c shape (HasRightSupers w) a at says e (λ s. s.right)

-- ---- marks

pub marks_none : (P : ℕ → Type 0) → AreMarks P 0 []
marks_none P = record { count = refl; exact = λ c mark at. absurd (let w : c < 0 = slice_get_within [] c mark at in omega arith) }

pub marks_more : (P : ℕ → Type 0) (n : ℕ) (marks new : List Bool) (mark : Bool) → AreMarks P n marks → IsTrue mark ↔ P n → new ≡ marks ++ mark ∷ [] → AreMarks P (n + 1) new
marks_more P n marks new mark are says grown =
    let Q : List Bool → Type 0 = λ l. AreMarks P (n + 1) l in
    subst Q (sym grown)
    (record {
      count = omega (arith, length_push marks mark, are.count);
      exact = λ c m at.
          ⊎_elim
          (λ before. are.exact c m before)
          (λ (last : (c ≡ length marks) × (m ≡ mark)).
          let R : Bool → ℕ → Type 0 = λ x k. IsTrue x ↔ P k in
          let k : c ≡ n = last.0 ∙ are.count in
          subst (λ (j : ℕ). R m j) (sym k) (subst (λ (x : Bool). R x n) (sym last.1) says))
          (slice_get-push marks mark c m at);
    })

-- the mark of a number that has one
pub marked_at : (P : ℕ → Type 0) (n c : ℕ) (marks : List Bool) → AreMarks P n marks → c < n → IsTrue (marked marks c) ↔ P c
marked_at P n c marks are lt =
    let within : c < length marks = omega (arith, are.count) in
    are.exact c (marked marks c) (slice_get-get_or marks c false within)

-- all of them are marked
pub marked_all : (classes : List ClassId) (i : ℕ) (marks : List Bool) → length classes ≤ i → ((n : ℕ) → Has (take i classes) n → IsTrue (marked marks n))
    → IsTrue true ↔ ((n : ℕ) → Has classes n → IsTrue (marked marks n))
marked_all classes i marks past before =
    (λ _. let P : List ClassId → Type 0 = λ l. (n : ℕ) → Has l n → IsTrue (marked marks n) in subst P (take_all i classes past) before, λ _. refl)

-- ---- whole classes

-- a supertype of a class of the list is one
pub sub_below : (w : List Shape) (a b : ℕ) → a < length w → Sub w a b → b < length w
sub_below w a b here (same _ _ is) = subst (λ (n : ℕ). n < length w) is here
sub_below w a b here (link _ m _ first rest) = sub_below w m b (HasSuper-below w a m first) rest

-- a proper supertype of a class of the list is one
pub proper_below : (w : List Shape) (c d : ℕ) → ProperSub w c d → d < length w
proper_below w c d proper = sub_below w proper.0 d (HasSuper-below w c proper.0 proper.1) proper.2

pub row_below : (w : List Shape) (rows : List (Vec ClassId Global)) (marks : List Bool) (c n : ℕ) (row : Vec ClassId Global) → AreMarks (IsSound w) (length w) marks → HaveSupers w rows
    → slice_get rows c ≡ Some row → Has row.items n → n < length marks
row_below w rows marks c n row are supers at has =
    let lt : n < length w = proper_below w c n ((supers.exact c row at).only (record { number = n }) has) in
    omega (arith, are.count, lt)

pub whole_by : (w : List Shape) (rows : List (Vec ClassId Global)) (marks : List Bool) (c : ℕ) (row : Vec ClassId Global) (own all : Bool) → AreMarks (IsSound w) (length w) marks → HaveSupers w rows
    → c < length w → slice_get rows c ≡ Some row → own ≡ marked marks c → own ≡ true
    → IsTrue all ↔ ((n : ℕ) → Has row.items n → IsTrue (marked marks n)) → IsTrue all ↔ IsWhole w c
whole_by w rows marks c row own all are supers here at read granted says = (
  λ t d sub.
      ⊎_elim
      (λ equal. subst (IsSound w) equal ((marked_at (IsSound w) (length w) c marks are here).0 (sym read ∙ granted)))
      (λ proper. (marked_at (IsSound w) (length w) d marks are (proper_below w c d proper)).0 (says.0 t d ((supers.exact c row at).all (record { number = d }) proper)))
      (Sub-cases w c d sub),
  λ whole. says.1 (λ n has.
      let proper = (supers.exact c row at).only (record { number = n }) has in
      (marked_at (IsSound w) (length w) n marks are (proper_below w c n proper)).1 (whole n (Sub-proper w c n proper))),
)

pub not_whole : (w : List Shape) (marks : List Bool) (c : ℕ) (own : Bool) → AreMarks (IsSound w) (length w) marks → c < length w → own ≡ marked marks c → own ≡ false → IsTrue false ↔ IsWhole w c
not_whole w marks c own are here read refused = (
  λ t. absurd (let q : false ≡ true = t in cc),
  λ whole.
      let m : marked marks c ≡ true = (marked_at (IsSound w) (length w) c marks are here).1 (whole c (same c c refl)) in
      absurd (let q : false ≡ true = sym refused ∙ read ∙ m in cc),
)
