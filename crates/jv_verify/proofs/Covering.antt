-- What a handler wants, part by part, and the frames that it covers.
use Rattle.std.proofs.Common.{◌≡◌, ℕ, ◌+◌, ◌<◌, ◌≤◌, ◌-◌, true, false, ltb, List, [], ◌∷◌, ◌++◌, length, take, drop, get_or, All, Option, Some, None, IsTrue, sym, subst, ap, ◌∙◌, ◌⊎◌, inl, inr, arith}
use Rattle.std.specs.Prelude.{Contains, IfSome, IfNone, min}
use Rattle.std.specs.List.{AllZip}
use Rattle.std.specs.List.Sorted.{IsNonDecreasingBy, IsPartitionPoint}
use Rattle.std.proofs.lemmas.Bool.{cases_lt}
use Rattle.std.proofs.lemmas.Bool.Decides.{nat_tests}
use Rattle.std.proofs.lemmas.List.{get_or-take, get_or-drop, get_or_default, length-drop, length-take-le, take_all, take_more}
use Rattle.std.proofs.lemmas.List.Elements.{All-get_or, Contains-append_cases, Contains-append_left, Contains-append_right}
use Rattle.jv_lists.proofs.Among.{first_or_later, is_first}
use Rattle.jv_types.specs.Bodies.{at_offset, rises_from}
use Rattle.jv_types.specs.declared.shapes.Shape.{Shape}
use Rattle.jv_types.specs.declared.body.Handler.{Handler}
use Rattle.jv_types.specs.declared.frames.VType.{Class}
use Rattle.jv_types.specs.declared.frames.Frame.{Frame}
use Rattle.jv_types.proofs.Starts.{starts_rise, at_offset-at, start_place}
use Rattle.jv_names.proofs.NamedOnce.{given_twice}
use Rattle.jv_world.specs.Instances.{IsSubNamed}
use Rattle.jv_frames.specs.Assignable.{IsAssignable, IsFrameAssignable}
use Rattle.jv_typing.specs.TypeSafe.{caught_name, throwable_name, handler_frame}
use Rattle.jv_typing_laws.proofs.Rows.{starts_by}
use Rattle.jv_verify.specs.Steps.Checking.{FitsTarget, IsTarget, SatisfiesAt, FailsHandlerAt, SatisfiesAllAt, FailsSomeAt, AreWithin, IsFirstWithout, IsLeastBad, earlier}

-- ---- the target of a handler

-- the frame at the target decides
pub right_target : (w : List Shape) (rows : List (ℕ × Frame)) (there : Frame) (handler : Handler) → at_offset handler.target rows ≡ Some there
    → IsSubNamed w (caught_name handler.catch) throwable_name → AllZip (IsAssignable w) (Class (caught_name handler.catch) ∷ []) there.stack → IsTarget w rows handler (Some there)
right_target w rows there handler stands throwable stack = λ frame. (
  λ fits. record { throwable = throwable; fits = (there, stands, record { locals = fits.locals; stack = stack; flag = fits.flag }) },
  λ h.
      let is : there ≡ h.fits.0 = given_twice (at_offset handler.target rows) there h.fits.0 stands h.fits.1 in
      let at : IsFrameAssignable w (handler_frame frame handler) there = subst (IsFrameAssignable w (handler_frame frame handler)) (sym is) h.fits.2 in
      record { locals = at.locals; flag = at.flag },
)

-- ---- the rows that a handler covers

below : (m n : ℕ) → ltb m n ≡ true → m < n
below m n e = grind (arith, nat_tests)

not_below : (m n : ℕ) → ltb m n ≡ false → n ≤ m
not_below m n e = grind (arith, nat_tests)

-- the offsets of the last rows rise too
pub drops_rise : (rows : List (ℕ × Frame)) (n : ℕ) → IsTrue (rises_from 0 rows) → IsNonDecreasingBy (λ (row : ℕ × Frame). row.0) (drop n rows)
drops_rise rows n rises = λ i j row le lt.
    let count : length (drop n rows) ≡ length rows - n = length-drop n rows in
    let rise = starts_rise 0 rows rises (n + i) (n + j) row (omega arith) (omega (arith, count)) in
    rw (get_or-drop n rows i row, get_or-drop n rows j row) rise

-- rows that are cut out by two searches
pub cut_out : (rows : List (ℕ × Frame)) (start end low high : ℕ) → IsPartitionPoint (λ (row : ℕ × Frame). ltb row.0 start ≡ true) (λ (row : ℕ × Frame). ltb row.0 start ≡ false) rows low
    → IsPartitionPoint (λ (row : ℕ × Frame). ltb row.0 end ≡ true) (λ (row : ℕ × Frame). ltb row.0 end ≡ false) (drop low rows) high
    → low ≤ length rows → high ≤ length (drop low rows) → AreWithin rows start end (take high (drop low rows))
cut_out rows start end low high lower upper within more = record {
  first = low;
  inside = omega (arith, size, count);
  is = is;
  from = λ place row lt.
      let here : place < high = omega (arith, size) in
      let there : get_or (take high (drop low rows)) place row ≡ get_or (drop low rows) place row = get_or-take high (drop low rows) place row here in
      let under : (get_or (drop low rows) place row).0 < end = below _ end (upper.0 place row (omega arith) here) in
      let over : start ≤ (get_or rows (low + place) row).0 = not_below _ start (lower.1 (low + place) row (omega arith) (omega (arith, more, count))) in
      let over_there : start ≤ (get_or (drop low rows) place row).0 = rw (get_or-drop low rows place row) over in
      rw there (over_there, under);
  all = λ place row lt from under. (at_least place row lt from, at_most place row lt under (at_least place row lt from));
}
  where
    count : length (drop low rows) ≡ length rows - low
    count = length-drop low rows

    size : length (take high (drop low rows)) ≡ high
    size = length-take-le high (drop low rows) more

    is : (place : ℕ) (row : ℕ × Frame) → place < length (take high (drop low rows)) → get_or (take high (drop low rows)) place row ≡ get_or rows (low + place) row
    is place row lt = get_or-take high (drop low rows) place row (omega (arith, size)) ∙ get_or-drop low rows place row

    at_least : (place : ℕ) (row : ℕ × Frame) → place < length rows → start ≤ (get_or rows place row).0 → low ≤ place
    at_least place row lt from = elim (cases_lt place low) [
      | inl l ↦ absurd (let under = below _ start (lower.0 place row (omega arith) l) in omega arith)
      | inr g ↦ omega arith
    ]

    at_most : (place : ℕ) (row : ℕ × Frame) → place < length rows → (get_or rows place row).0 < end → low ≤ place → place < low + length (take high (drop low rows))
    at_most place row lt under le = elim (cases_lt (place - low) high) [
      | inl l ↦ omega (arith, size)
      | inr g ↦
          let same : low + (place - low) ≡ place = omega arith in
          let moved : get_or (drop low rows) (place - low) row ≡ get_or rows place row = get_or-drop low rows (place - low) row ∙ ap (λ (k : ℕ). get_or rows k row) same in
          let over : end ≤ (get_or (drop low rows) (place - low) row).0 = not_below _ end (upper.1 (place - low) row (omega arith) (omega (arith, count))) in
          absurd (let e = ap (λ (x : ℕ × Frame). x.0) moved in omega (arith, e))
    ]

-- what stands at an offset that a handler covers is one of them
pub record IsOneOf (rows : List (ℕ × Frame)) (pc : ℕ) (frame : Frame) : Type 0 where
  pub place : ℕ
  pub within : place < length rows
  pub is : get_or rows place (pc, frame) ≡ (pc, frame)

placed : (rows : List (ℕ × Frame)) (pc : ℕ) (frame : Frame) → IsTrue (rises_from 0 rows) → at_offset pc rows ≡ Some frame → IsOneOf rows pc frame
placed rows pc frame rises at =
    let stands = start_place pc rows (starts_by (at_offset pc rows) frame at) in
    let begins : (get_or rows stands.place (pc, frame)).0 ≡ pc = stands.start (pc, frame) in
    let found : at_offset pc rows ≡ Some (get_or rows stands.place (pc, frame)).1 = at_offset-at 0 pc rows rises stands.place (pc, frame) stands.within begins in
    let has : (get_or rows stands.place (pc, frame)).1 ≡ frame = given_twice (at_offset pc rows) _ frame found at in
    record { place = stands.place; within = stands.within; is = both (get_or rows stands.place (pc, frame)) begins has }
  where
    both : (row : ℕ × Frame) → row.0 ≡ pc → row.1 ≡ frame → row ≡ (pc, frame)
    both row starts has = λ i. (starts i, has i)

covered : (rows within : List (ℕ × Frame)) (start end pc : ℕ) (frame : Frame) → IsTrue (rises_from 0 rows) → AreWithin rows start end within → at_offset pc rows ≡ Some frame → start ≤ pc → pc < end
    → IsOneOf within pc frame
covered rows within start end pc frame rises are at from under =
    let p = placed rows pc frame rises at in
    let starts : (get_or rows p.place (pc, frame)).0 ≡ pc = ap (λ (x : ℕ × Frame). x.0) p.is in
    let between = are.all p.place (pc, frame) p.within (omega (arith, starts)) (omega (arith, starts)) in
    let place : are.first + (p.place - are.first) ≡ p.place = omega (arith, between.0) in
    let lt : p.place - are.first < length within = omega (arith, between.0, between.1) in
    record {
      place = p.place - are.first;
      within = lt;
      is = are.is (p.place - are.first) (pc, frame) lt ∙ ap (λ (k : ℕ). get_or rows k (pc, frame)) place ∙ p.is;
    }

-- the frames at all the offsets that it covers, or the first that doesn't fit
pub all_satisfy : (w : List Shape) (rows within : List (ℕ × Frame)) (handler : Handler) (there : Option Frame) → IsTrue (rises_from 0 rows) → AreWithin rows handler.start handler.end within
    → IsTarget w rows handler there → All (λ (row : ℕ × Frame). FitsTarget w there row.1) within → (pc : ℕ) → SatisfiesAt w rows handler pc
all_satisfy w rows within handler there rises are target all = λ pc frame stands covers.
    let p = covered rows within handler.start handler.end pc frame rises are stands covers.0 covers.1 in
    (target frame).0 (subst (λ (row : ℕ × Frame). FitsTarget w there row.1) p.is (All-get_or (λ (row : ℕ × Frame). FitsTarget w there row.1) within p.place (pc, frame) p.within all))

pub one_fails : (w : List Shape) (rows within : List (ℕ × Frame)) (handler : Handler) (there : Option Frame) (pc : ℕ) → IsTrue (rises_from 0 rows) → AreWithin rows handler.start handler.end within
    → IsTarget w rows handler there → IsFirstWithout (FitsTarget w there) within pc → FailsHandlerAt w rows handler pc × ((other : ℕ) → other < pc → SatisfiesAt w rows handler other)
one_fails w rows within handler there pc rises are target h = (fails, earlier_fit)
  where
    Fits : ℕ × Frame → Type 0
    Fits row = FitsTarget w there row.1

    inside : are.first + h.place < length rows
    inside = omega (arith, are.inside, h.here)

    mine : get_or rows (are.first + h.place) h.row ≡ h.row
    mine = sym (are.is h.place h.row h.here) ∙ sym h.is

    begins : (get_or rows (are.first + h.place) h.row).0 ≡ pc
    begins = ap (λ (x : ℕ × Frame). x.0) mine ∙ h.starts

    stands : at_offset pc rows ≡ Some h.row.1
    stands = at_offset-at 0 pc rows rises (are.first + h.place) h.row inside begins ∙ ap (λ (x : ℕ × Frame). Some x.1) mine

    between : (handler.start ≤ pc) × (pc < handler.end)
    between =
        let e : (get_or within h.place h.row).0 ≡ pc = ap (λ (x : ℕ × Frame). x.0) (sym h.is) ∙ h.starts in
        let both = are.from h.place h.row h.here in
        (omega (arith, e, both.0), omega (arith, e, both.1))

    fails : FailsHandlerAt w rows handler pc
    fails = record { frame = h.row.1; stands = stands; covers = between; unfit = λ s. h.fails ((target h.row.1).1 s) }

    earlier_fit : (other : ℕ) → other < pc → SatisfiesAt w rows handler other
    earlier_fit other lt = λ frame at covers.
        let p = covered rows within handler.start handler.end other frame rises are at covers.0 covers.1 in
        let starts : (get_or within p.place (other, frame)).0 ≡ other = ap (λ (x : ℕ × Frame). x.0) p.is in
        elim (cases_lt p.place h.place) [
          | inl l ↦
              let front : p.place < length (take h.place within) = omega (arith, length-take-le h.place within (omega (arith, h.here))) in
              let e : get_or (take h.place within) p.place (other, frame) ≡ (other, frame) = get_or-take h.place within p.place (other, frame) l ∙ p.is in
              (target frame).0 (subst Fits e (All-get_or Fits (take h.place within) p.place (other, frame) front h.before))
          | inr g ↦
              let low : are.first + h.place ≤ are.first + p.place = omega arith in
              let rise = starts_rise 0 rows rises (are.first + h.place) (are.first + p.place) (other, frame) low (omega (arith, are.inside, p.within)) in
              let a : (get_or rows (are.first + h.place) (other, frame)).0 ≡ pc = ap (λ (x : ℕ × Frame). x.0) (get_or_default rows (are.first + h.place) (other, frame) h.row inside) ∙ begins in
              let b : (get_or rows (are.first + p.place) (other, frame)).0 ≡ other = ap (λ (x : ℕ × Frame). x.0) (sym (are.is p.place (other, frame) p.within)) ∙ starts in
              absurd (omega (arith, rise, a, b))
        ]

pub least_unsatisfied : (w : List Shape) (rows within : List (ℕ × Frame)) (handler : Handler) (there : Option Frame) (o : Option ℕ) → IsTrue (rises_from 0 rows) → AreWithin rows handler.start handler.end within
    → IsTarget w rows handler there → IfSome o (IsFirstWithout (FitsTarget w there) within) → IfNone o (All (λ (row : ℕ × Frame). FitsTarget w there row.1) within)
    → IsLeastBad (SatisfiesAt w rows handler) (FailsHandlerAt w rows handler) o
least_unsatisfied w rows within handler there None rises are target found none = all_satisfy w rows within handler there rises are target none
least_unsatisfied w rows within handler there (Some pc) rises are target found none = one_fails w rows within handler there pc rises are target found

-- ---- more than one

-- the lesser of two
pub earlier_is : (G H A B : ℕ → Type 0) (a b : Option ℕ) → IsLeastBad G A a → IsLeastBad H B b → IsLeastBad (λ pc. G pc × H pc) (λ pc. A pc ⊎ B pc) (earlier a b)
earlier_is G H A B None None x y = λ pc. (x pc, y pc)
earlier_is G H A B None (Some b) x y = (inr y.0, λ other lt. (x other, y.1 other lt))
earlier_is G H A B (Some a) None x y = (inl x.0, λ other lt. (x.1 other lt, y other))
earlier_is G H A B (Some a) (Some b) x y = elim (cases_lt a b) [
  | inl l ↦
      let e : min a b ≡ a = omega arith in
      (inl (subst A (sym e) x.0), λ other lt. (x.1 other (omega (arith, e)), y.1 other (omega (arith, e))))
  | inr g ↦
      let e : min a b ≡ b = omega arith in
      (inr (subst B (sym e) y.0), λ other lt. (x.1 other (omega (arith, e)), y.1 other (omega (arith, e))))
]

-- what holds of one offset in other words
pub least_by : (G H A B : ℕ → Type 0) (o : Option ℕ) → ((pc : ℕ) → G pc → H pc) → ((pc : ℕ) → A pc → B pc) → IsLeastBad G A o → IsLeastBad H B o
least_by G H A B None good bad x = λ pc. good pc (x pc)
least_by G H A B (Some pc) good bad x = (bad pc x.0, λ other lt. good other (x.1 other lt))

-- no handlers were asked, one more, and all
pub none_asked : (w : List Shape) (rows : List (ℕ × Frame)) (handlers : List Handler) → IsLeastBad (SatisfiesAllAt w rows (take 0 handlers)) (FailsSomeAt w rows (take 0 handlers)) None
none_asked w rows handlers = λ pc handler among. absurd (let lt : among.0 < 0 = among.1 in omega arith)

pub one_more : (w : List Shape) (rows : List (ℕ × Frame)) (handlers : List Handler) (n : ℕ) (handler : Handler) (a b : Option ℕ) → n < length handlers → handler ≡ get_or handlers n handler
    → IsLeastBad (SatisfiesAllAt w rows (take n handlers)) (FailsSomeAt w rows (take n handlers)) a → IsLeastBad (SatisfiesAt w rows handler) (FailsHandlerAt w rows handler) b
    → IsLeastBad (SatisfiesAllAt w rows (take (n + 1) handlers)) (FailsSomeAt w rows (take (n + 1) handlers)) (earlier a b)
one_more w rows handlers n handler a b here is before own =
    least_by _ _ _ _ (earlier a b) good bad (earlier_is (SatisfiesAllAt w rows (take n handlers)) (SatisfiesAt w rows handler) (FailsSomeAt w rows (take n handlers)) (FailsHandlerAt w rows handler) a b before own)
  where
    more : take (n + 1) handlers ≡ take n handlers ++ handler ∷ []
    more = take_more handlers n handler here ∙ ap (λ (h : Handler). take n handlers ++ h ∷ []) (sym is)

    good : (pc : ℕ) → SatisfiesAllAt w rows (take n handlers) pc × SatisfiesAt w rows handler pc → SatisfiesAllAt w rows (take (n + 1) handlers) pc
    good pc both = λ other among. by other (Contains-append_cases (take n handlers) (handler ∷ []) other (rw more at among)) both
      where
        by : (other : Handler) → Contains (take n handlers) other ⊎ Contains (handler ∷ []) other → SatisfiesAllAt w rows (take n handlers) pc × SatisfiesAt w rows handler pc → SatisfiesAt w rows other pc
        by other (inl c) both = both.0 other c
        by other (inr c) both = by_first other (first_or_later handler [] other c) both.1
          where
            by_first : (other : Handler) → (handler ≡ other) ⊎ Contains [] other → SatisfiesAt w rows handler pc → SatisfiesAt w rows other pc
            by_first other (inl e) own = subst (λ (h : Handler). SatisfiesAt w rows h pc) e own
            by_first other (inr c) own = absurd (let lt : c.0 < 0 = c.1 in omega arith)

    bad : (pc : ℕ) → FailsSomeAt w rows (take n handlers) pc ⊎ FailsHandlerAt w rows handler pc → FailsSomeAt w rows (take (n + 1) handlers) pc
    bad pc (inl some) = (some.0, rw more (Contains-append_left (take n handlers) (handler ∷ []) some.0 some.1), some.2)
    bad pc (inr fails) = (handler, rw more (Contains-append_right (take n handlers) (handler ∷ []) handler (is_first handler [])), fails)

pub all_asked : (w : List Shape) (rows : List (ℕ × Frame)) (handlers : List Handler) (n : ℕ) (o : Option ℕ) → length handlers ≤ n
    → IsLeastBad (SatisfiesAllAt w rows (take n handlers)) (FailsSomeAt w rows (take n handlers)) o → IsLeastBad (SatisfiesAllAt w rows handlers) (FailsSomeAt w rows handlers) o
all_asked w rows handlers n o past h =
    subst (λ (hs : List Handler). IsLeastBad (SatisfiesAllAt w rows hs) (FailsSomeAt w rows hs) o) (take_all n handlers past) h
