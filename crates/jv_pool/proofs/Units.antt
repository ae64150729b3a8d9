-- The test of modified UTF-8 passes exactly where the bytes are the text of some units.
use Rattle.std.proofs.Common.{◌≡◌, ℕ, ◌+◌, ◌-◌, ◌*◌, ◌<◌, ◌≤◌, Bool, true, false, cond, eqb, leb, ltb, ◌&&◌, ◌||◌, List, [], ◌∷◌, ◌++◌, refl, ap, ◌∙◌, ◌⊎◌, inl, inr, arith}
use Rattle.std.proofs.lemmas.Bool.{and_parts, or_cases, eqb-true, eqb-false, eq-eqb, ne_eqb, leb-true, ltb-true, lt-ltb, le-ltb, le-leb}
use Rattle.jv_bytes.specs.Utf8.{GoesOn, IsUnitText, IsText}
use Rattle.jv_pool.specs.Steps.PoolReading.{is_one, goes_on, is_two, is_three, is_spelled}

-- ---- what passes is a unit

goes_on_is : (b : ℕ) → goes_on b ≡ true → GoesOn b
goes_on_is b e =
    let h = and_parts (leb 128 b) (ltb b 192) e in
    (leb-true 128 b h.0, ltb-true b 192 h.1)

one_is : (a : ℕ) → is_one a ≡ true → IsUnitText (a ∷ []) a
one_is a e =
    let h = and_parts (leb 1 a) (ltb a 128) e in
    (leb-true 1 a h.0, ltb-true a 128 h.1, refl)

two_is : (a b : ℕ) → is_two a b ≡ true → IsUnitText (a ∷ b ∷ []) (64 * (a - 192) + (b - 128))
two_is a b e =
    let h = and_parts (goes_on b) ((eqb a 192 && eqb b 128) || (leb 194 a && ltb a 224)) e in
    let on = goes_on_is b h.0 in
    elim (or_cases (eqb a 192 && eqb b 128) (leb 194 a && ltb a 224) h.1) [
      | inl z ↦
          let t = and_parts (eqb a 192) (eqb b 128) z in
          let ea = eqb-true a 192 t.0 in
          let eb = eqb-true b 128 t.1 in
          (omega (arith, ea), omega (arith, ea), on, refl, inl (omega (arith, ea, eb)))
      | inr z ↦
          let t = and_parts (leb 194 a) (ltb a 224) z in
          let la = leb-true 194 a t.0 in
          let ua = ltb-true a 224 t.1 in
          (omega (arith, la), ua, on, refl, inr (omega (arith, la)))
    ]

three_is : (a b c : ℕ) → is_three a b c ≡ true → IsUnitText (a ∷ b ∷ c ∷ []) (4096 * (a - 224) + 64 * (b - 128) + (c - 128))
three_is a b c e =
    let h = and_parts (goes_on b && goes_on c) ((eqb a 224 && leb 160 b) || (leb 225 a && ltb a 240)) e in
    let g = and_parts (goes_on b) (goes_on c) h.0 in
    let on_b = goes_on_is b g.0 in
    let on_c = goes_on_is c g.1 in
    elim (or_cases (eqb a 224 && leb 160 b) (leb 225 a && ltb a 240) h.1) [
      | inl z ↦
          let t = and_parts (eqb a 224) (leb 160 b) z in
          let ea = eqb-true a 224 t.0 in
          let lb = leb-true 160 b t.1 in
          (omega (arith, ea), omega (arith, ea), on_b, on_c, refl, omega (arith, ea, lb))
      | inr z ↦
          let t = and_parts (leb 225 a) (ltb a 240) z in
          let la = leb-true 225 a t.0 in
          let ua = ltb-true a 240 t.1 in
          (omega (arith, la), ua, on_b, on_c, refl, omega (arith, la))
    ]

-- a unit in front of others
unit_and : (front rest : List ℕ) (unit : ℕ) → IsUnitText front unit → (units : List ℕ) × IsText rest units → (units : List ℕ) × IsText (front ++ rest) units
unit_and front rest unit h others = (unit ∷ others.0, (rest, record { front = front; spelled = h; parts = refl }, others.1))

no_units : (units : List ℕ) × IsText [] units
no_units = ([], refl)

-- what passes is the text of some units
pub spelled_units : (bytes : List ℕ) → is_spelled bytes ≡ true → (units : List ℕ) × IsText bytes units
unfolding is_spelled
spelled_units [] e = no_units
spelled_units (a ∷ []) e = unit_and (a ∷ []) [] a (one_is a e) no_units
spelled_units (a ∷ b ∷ []) e = by (is_one a) refl e
  where
    by : (p : Bool) → is_one a ≡ p → cond p (is_one b) (is_two a b) ≡ true → (units : List ℕ) × IsText (a ∷ b ∷ []) units
    by true h k = unit_and (a ∷ []) (b ∷ []) a (one_is a h) (unit_and (b ∷ []) [] b (one_is b k) no_units)
    by false h k = unit_and (a ∷ b ∷ []) [] (64 * (a - 192) + (b - 128)) (two_is a b k) no_units
spelled_units (a ∷ b ∷ c ∷ more) e =
    three_cases a b c more (is_one a) refl (is_two a b) refl e (λ k. spelled_units (b ∷ c ∷ more) k) (λ k. spelled_units (c ∷ more) k) (λ k. spelled_units more k)
  where
    three_cases : (a b c : ℕ) (more : List ℕ) (p : Bool) → is_one a ≡ p → (q : Bool) → is_two a b ≡ q
        → cond p (is_spelled (b ∷ c ∷ more)) (cond q (is_spelled (c ∷ more)) (is_three a b c && is_spelled more)) ≡ true
        → (is_spelled (b ∷ c ∷ more) ≡ true → (units : List ℕ) × IsText (b ∷ c ∷ more) units)
        → (is_spelled (c ∷ more) ≡ true → (units : List ℕ) × IsText (c ∷ more) units)
        → (is_spelled more ≡ true → (units : List ℕ) × IsText more units)
        → (units : List ℕ) × IsText (a ∷ b ∷ c ∷ more) units
    three_cases a b c more true h q g k one two three = unit_and (a ∷ []) (b ∷ c ∷ more) a (one_is a h) (one k)
    three_cases a b c more false h true g k one two three = unit_and (a ∷ b ∷ []) (c ∷ more) (64 * (a - 192) + (b - 128)) (two_is a b g) (two k)
    three_cases a b c more false h false g k one two three =
        let t = and_parts (is_three a b c) (is_spelled more) k in
        unit_and (a ∷ b ∷ c ∷ []) more (4096 * (a - 224) + 64 * (b - 128) + (c - 128)) (three_is a b c t.0) (three t.1)

-- ---- what is a unit passes

goes_on_passes : (b : ℕ) → GoesOn b → goes_on b ≡ true
goes_on_passes b h =
    let l : leb 128 b ≡ true = le-leb 128 b h.0 in
    let u : ltb b 192 ≡ true = lt-ltb b 192 h.1 in
    rw (l, u) refl

one_passes : (a : ℕ) → 1 ≤ a → a < 128 → is_one a ≡ true
one_passes a low high =
    let l : leb 1 a ≡ true = le-leb 1 a low in
    let u : ltb a 128 ≡ true = lt-ltb a 128 high in
    rw (l, u) refl

-- a byte that begins two or three is none alone
not_one : (a : ℕ) → 192 ≤ a → is_one a ≡ false
not_one a high =
    let l : leb 1 a ≡ true = le-leb 1 a (omega (arith, high)) in
    let u : ltb a 128 ≡ false = le-ltb a 128 (omega (arith, high)) in
    rw (l, u) refl

not_two : (a b : ℕ) → 224 ≤ a → is_two a b ≡ false
not_two a b high =
    let e : eqb a 192 ≡ false = ne_eqb a 192 (λ e. omega (arith, e, high)) in
    let l : leb 194 a ≡ true = le-leb 194 a (omega (arith, high)) in
    let u : ltb a 224 ≡ false = le-ltb a 224 high in
    rw (e, l, u) (never (goes_on b))
  where
    never : (p : Bool) → (p && false) ≡ false
    never true = refl
    never false = refl

two_passes : (a b u : ℕ) → IsUnitText (a ∷ b ∷ []) u → is_two a b ≡ true
two_passes a b u h =
    let on = goes_on_passes b h.2 in
    rw on (by h.4)
  where
    by : (u ≡ 0) ⊎ (128 ≤ u) → (true && ((eqb a 192 && eqb b 128) || (leb 194 a && ltb a 224))) ≡ true
    by (inl z) =
        let ea : eqb a 192 ≡ true = eq-eqb a 192 (omega (arith, h.0, h.2.0, h.3, z)) in
        let eb : eqb b 128 ≡ true = eq-eqb b 128 (omega (arith, h.0, h.2.0, h.3, z)) in
        rw (ea, eb) refl
    by (inr z) =
        let ea : eqb a 192 ≡ false = ne_eqb a 192 (λ e. omega (arith, e, h.2.1, h.3, z)) in
        let l : leb 194 a ≡ true = le-leb 194 a (omega (arith, h.2.1, h.3, z)) in
        let m : ltb a 224 ≡ true = lt-ltb a 224 h.1 in
        rw (ea, l, m) refl

three_passes : (a b c u : ℕ) → IsUnitText (a ∷ b ∷ c ∷ []) u → is_three a b c ≡ true
three_passes a b c u h =
    let on_b = goes_on_passes b h.2 in
    let on_c = goes_on_passes c h.3 in
    rw (on_b, on_c) (by (eqb a 224) refl)
  where
    by : (p : Bool) → eqb a 224 ≡ p → (true && ((p && leb 160 b) || (leb 225 a && ltb a 240))) ≡ true
    by true e =
        let ea = eqb-true a 224 e in
        let l : leb 160 b ≡ true = le-leb 160 b (omega (arith, ea, h.2.0, h.3.1, h.4, h.5)) in
        rw l refl
    by false e =
        let na : a ≡ 224 → ⊥ = eqb-false a 224 e in
        let l : leb 225 a ≡ true = le-leb 225 a (omega (arith, na, h.0)) in
        let m : ltb a 240 ≡ true = lt-ltb a 240 h.1 in
        rw (l, m) refl

-- a unit in front changes nothing
front_on : (front rest : List ℕ) (u : ℕ) → IsUnitText front u → is_spelled (front ++ rest) ≡ is_spelled rest
unfolding is_spelled
front_on [] rest u h = absurd h
front_on (a ∷ []) [] u h = one_passes a h.0 h.1
front_on (a ∷ []) (x ∷ []) u h = let p = one_passes a h.0 h.1 in rw p refl
front_on (a ∷ []) (x ∷ y ∷ more) u h = let p = one_passes a h.0 h.1 in rw p refl
front_on (a ∷ b ∷ []) [] u h =
    let p = not_one a h.0 in
    let q = two_passes a b u h in
    rw (p, q) refl
front_on (a ∷ b ∷ []) (x ∷ more) u h =
    let p = not_one a h.0 in
    let q = two_passes a b u h in
    rw (p, q) refl
front_on (a ∷ b ∷ c ∷ []) rest u h =
    let p = not_one a (omega (arith, h.0)) in
    let q = not_two a b h.0 in
    let r = three_passes a b c u h in
    rw (p, q, r) refl
front_on (a ∷ b ∷ c ∷ d ∷ more) rest u h = absurd h

-- the text of units passes
pub units_spelled : (bytes units : List ℕ) → IsText bytes units → is_spelled bytes ≡ true
unfolding is_spelled
units_spelled bytes [] h = ap is_spelled h
units_spelled bytes (u ∷ units) h =
    ap is_spelled h.1.parts ∙ front_on h.1.front h.0 u h.1.spelled ∙ units_spelled h.0 units h.2
