-- A unit has one spelling, no spelling of a unit begins another's, and so a text has one reading.
use Rattle.std.proofs.Common.{◌≡◌, ℕ, ◌+◌, ◌*◌, ◌-◌, ◌/◌, ◌%◌, ◌<◌, ◌≤◌, inl, inr, List, [], ◌∷◌, ◌++◌, refl, sym, ap, subst, ◌∙◌, append_assoc, arith}
use Rattle.std.proofs.lemmas.List.{append-nil}
use Rattle.std.proofs.lemmas.Bool.{cases_lt}
use Rattle.jv_lists.proofs.Places.{heads}
use Rattle.jv_bytes.specs.Numbers.{IsByteString}
use Rattle.jv_bytes.proofs.NumberLaws.{IsByteString-cons, no_bytes}
use Rattle.jv_bytes.specs.Utf8.{IsUnitText, Begins, IsText}

-- no spelling of a unit begins another's
pub one_front : (a b x y : List ℕ) (u v : ℕ) → IsUnitText a u → IsUnitText b v → a ++ x ≡ b ++ y → (a ≡ b) × (u ≡ v) × (x ≡ y)
one_front [] b x y u v p q e = absurd p
one_front (a ∷ []) [] x y u v p q e = absurd q
one_front (a ∷ []) (b ∷ []) x y u v p q e =
    let h = heads a b x y e in
    (ap (λ (z : ℕ). z ∷ []) h.0, omega arith, h.1)
one_front (a ∷ []) (b ∷ c ∷ []) x y u v p q e =
    let h = heads a b x (c ∷ y) e in
    absurd (omega arith)
one_front (a ∷ []) (b ∷ c ∷ d ∷ []) x y u v p q e =
    let h = heads a b x (c ∷ d ∷ y) e in
    absurd (omega arith)
one_front (a ∷ []) (b ∷ c ∷ d ∷ d' ∷ more) x y u v p q e = absurd q
one_front (a ∷ a' ∷ []) [] x y u v p q e = absurd q
one_front (a ∷ a' ∷ []) (b ∷ []) x y u v p q e =
    let h = heads a b (a' ∷ x) y e in
    absurd (omega arith)
one_front (a ∷ a' ∷ []) (b ∷ b' ∷ []) x y u v p q e =
    let h = heads a b (a' ∷ x) (b' ∷ y) e in
    let k = heads a' b' x y h.1 in
    (cc, omega arith, k.1)
one_front (a ∷ a' ∷ []) (b ∷ c ∷ d ∷ []) x y u v p q e =
    let h = heads a b (a' ∷ x) (c ∷ d ∷ y) e in
    absurd (omega arith)
one_front (a ∷ a' ∷ []) (b ∷ c ∷ d ∷ d' ∷ more) x y u v p q e = absurd q
one_front (a ∷ a' ∷ a'' ∷ []) [] x y u v p q e = absurd q
one_front (a ∷ a' ∷ a'' ∷ []) (b ∷ []) x y u v p q e =
    let h = heads a b (a' ∷ a'' ∷ x) y e in
    absurd (omega arith)
one_front (a ∷ a' ∷ a'' ∷ []) (b ∷ b' ∷ []) x y u v p q e =
    let h = heads a b (a' ∷ a'' ∷ x) (b' ∷ y) e in
    absurd (omega arith)
one_front (a ∷ a' ∷ a'' ∷ []) (b ∷ b' ∷ b'' ∷ []) x y u v p q e =
    let h = heads a b (a' ∷ a'' ∷ x) (b' ∷ b'' ∷ y) e in
    let k = heads a' b' (a'' ∷ x) (b'' ∷ y) h.1 in
    let l = heads a'' b'' x y k.1 in
    (cc, omega arith, l.1)
one_front (a ∷ a' ∷ a'' ∷ []) (b ∷ c ∷ d ∷ d' ∷ more) x y u v p q e = absurd q
one_front (a ∷ a' ∷ a'' ∷ d ∷ more) b x y u v p q e = absurd p

-- a number in base 64 has one last digit and one rest
digits : (x y b c : ℕ) → 128 ≤ b → b < 192 → 128 ≤ c → c < 192 → 64 * x + (b - 128) ≡ 64 * y + (c - 128) → (x ≡ y) × (b ≡ c)
digits x y b c lb hb lc hc e = (omega arith, omega arith)

-- a unit has one spelling
pub one_unit_text : (a b : List ℕ) (u : ℕ) → IsUnitText a u → IsUnitText b u → a ≡ b
one_unit_text [] b u p q = absurd p
one_unit_text (a ∷ []) [] u p q = absurd q
one_unit_text (a ∷ []) (b ∷ []) u p q = ap (λ (z : ℕ). z ∷ []) (omega arith)
one_unit_text (a ∷ []) (b ∷ c ∷ []) u p q =
    elim q.4 [ inl zero-is ↦ absurd (omega arith) | inr above ↦ absurd (omega arith) ]
one_unit_text (a ∷ []) (b ∷ c ∷ d ∷ []) u p q = absurd (omega arith)
one_unit_text (a ∷ []) (b ∷ c ∷ d ∷ d' ∷ more) u p q = absurd q
one_unit_text (a ∷ a' ∷ []) [] u p q = absurd q
one_unit_text (a ∷ a' ∷ []) (b ∷ []) u p q =
    elim p.4 [ inl zero-is ↦ absurd (omega arith) | inr above ↦ absurd (omega arith) ]
one_unit_text (a ∷ a' ∷ []) (b ∷ b' ∷ []) u p q =
    let e : (a ≡ b) × (a' ≡ b') = (omega arith, omega arith) in
    cc
one_unit_text (a ∷ a' ∷ []) (b ∷ c ∷ d ∷ []) u p q = absurd (omega arith)
one_unit_text (a ∷ a' ∷ []) (b ∷ c ∷ d ∷ d' ∷ more) u p q = absurd q
one_unit_text (a ∷ a' ∷ a'' ∷ []) [] u p q = absurd q
one_unit_text (a ∷ a' ∷ a'' ∷ []) (b ∷ []) u p q = absurd (omega arith)
one_unit_text (a ∷ a' ∷ a'' ∷ []) (b ∷ b' ∷ []) u p q = absurd (omega arith)
one_unit_text (a ∷ a' ∷ a'' ∷ []) (b ∷ b' ∷ b'' ∷ []) u p q =
    let e : (a ≡ b) × (a' ≡ b') × (a'' ≡ b'') = (omega arith, omega arith, omega arith) in
    cc
one_unit_text (a ∷ a' ∷ a'' ∷ []) (b ∷ c ∷ d ∷ d' ∷ more) u p q = absurd q
one_unit_text (a ∷ a' ∷ a'' ∷ d ∷ more) b u p q = absurd p

-- nothing has no spelling of a unit in front
pub begins_none : (unit : ℕ) (rest : List ℕ) → Begins [] unit rest → ⊥
begins_none unit rest b = spells_some b.front unit rest b.spelled b.parts
  where
    spells_some : (front : List ℕ) (u : ℕ) (r : List ℕ) → IsUnitText front u → [] ≡ front ++ r → ⊥
    spells_some [] u r p e = p
    spells_some (x ∷ xs) u r p e = cc

-- what the bytes begin with, and what they go on with, is one
pub one_beginning : (bytes : List ℕ) (u v : ℕ) (x y : List ℕ) → Begins bytes u x → Begins bytes v y → (u ≡ v) × (x ≡ y)
one_beginning bytes u v x y p q =
    let same = one_front p.front q.front x y u v p.spelled q.spelled (sym p.parts ∙ q.parts) in
    (same.1, same.2)

-- units have one text
pub one_text : (a b : List ℕ) (units : List ℕ) → IsText a units → IsText b units → a ≡ b
one_text a b [] p q = p ∙ sym q
one_text a b (u ∷ units) p q =
    let fronts = one_unit_text p.1.front q.1.front u p.1.spelled q.1.spelled in
    let rests = one_text p.0 q.0 units p.2 q.2 in
    p.1.parts ∙ ap (λ (z : List ℕ). z ++ p.0) fronts ∙ ap (λ (z : List ℕ). q.1.front ++ z) rests ∙ sym q.1.parts

-- a text that begins another's text spells units that begin the other's
pub text_front : (us vs : List ℕ) (a x : List ℕ) → IsText a us → IsText (a ++ x) vs → (more : List ℕ) × (vs ≡ us ++ more) × IsText x more
text_front [] vs a x p q = (vs, refl, subst (λ (z : List ℕ). IsText (z ++ x) vs) p q)
text_front (u ∷ us) [] a x p q =
    absurd (begins_none u (p.0 ++ x) (record { front = p.1.front; spelled = p.1.spelled; parts = sym q ∙ ap (λ (z : List ℕ). z ++ x) p.1.parts ∙ append_assoc p.1.front p.0 x }))
text_front (u ∷ us) (v ∷ vs) a x p q =
    let longer : Begins (a ++ x) u (p.0 ++ x) = record { front = p.1.front; spelled = p.1.spelled; parts = ap (λ (z : List ℕ). z ++ x) p.1.parts ∙ append_assoc p.1.front p.0 x } in
    let same = one_beginning (a ++ x) u v (p.0 ++ x) q.0 longer q.1 in
    let rest = text_front us vs p.0 x p.2 (subst (λ (z : List ℕ). IsText z vs) (sym same.1) q.2) in
    (rest.0, ap (λ (z : ℕ). z ∷ vs) (sym same.0) ∙ ap (λ (z : List ℕ). u ∷ z) rest.1, rest.2)

-- a text has one reading
pub one_reading : (bytes : List ℕ) (us vs : List ℕ) → IsText bytes us → IsText bytes vs → us ≡ vs
one_reading bytes [] [] p q = refl
one_reading bytes [] (v ∷ vs) p q = absurd (begins_none v q.0 (subst (λ (z : List ℕ). Begins z v q.0) p q.1))
one_reading bytes (u ∷ us) [] p q = absurd (begins_none u p.0 (subst (λ (z : List ℕ). Begins z u p.0) q p.1))
one_reading bytes (u ∷ us) (v ∷ vs) p q =
    let same = one_beginning bytes u v p.0 q.0 p.1 q.1 in
    let rest = one_reading p.0 us vs p.2 (subst (λ (z : List ℕ). IsText z vs) (sym same.1) q.2) in
    ap (λ (z : ℕ). z ∷ us) same.0 ∙ ap (λ (z : List ℕ). v ∷ z) rest

-- one text after another
pub text-append : (us vs : List ℕ) (a b : List ℕ) → IsText a us → IsText b vs → IsText (a ++ b) (us ++ vs)
text-append [] vs a b p q = subst (λ (z : List ℕ). IsText (z ++ b) vs) (sym p) q
text-append (u ∷ us) vs a b p q =
    (p.0 ++ b, record { front = p.1.front; spelled = p.1.spelled; parts = ap (λ (z : List ℕ). z ++ b) p.1.parts ∙ append_assoc p.1.front p.0 b }, text-append us vs p.0 b p.2 q)

-- a text of one unit more
pub text-push : (us : List ℕ) (u : ℕ) (a front : List ℕ) → IsText a us → IsUnitText front u → IsText (a ++ front) (us ++ u ∷ [])
text-push us u a front p q =
    text-append us (u ∷ []) a front p ([], record { front = front; spelled = q; parts = sym (append-nil front) }, refl)

-- what was read so far of the bytes: any reading of the rest completes it, and no other reading is left
pub record ReadSoFar (bytes units rest : List ℕ) : Type 0 where
  pub whole : (more : List ℕ) → IsText rest more → IsText bytes (units ++ more)
  pub only : (all : List ℕ) → IsText bytes all → (more : List ℕ) × (all ≡ units ++ more) × IsText rest more

-- before the first unit
pub read_none : (bytes : List ℕ) → ReadSoFar bytes [] bytes
read_none bytes = record { whole = λ more t. t; only = λ all t. (all, refl, t) }

-- what a unit in front leaves of a reading
read_rest : (bytes : List ℕ) (u : ℕ) (rest all : List ℕ) → Begins bytes u rest → IsText bytes all → (more : List ℕ) × (all ≡ u ∷ more) × IsText rest more
read_rest bytes u rest [] b t = absurd (begins_none u rest (subst (λ (z : List ℕ). Begins z u rest) t b))
read_rest bytes u rest (v ∷ vs) b t =
    let same = one_beginning bytes u v rest t.0 b t.1 in
    (vs, ap (λ (z : ℕ). z ∷ vs) (sym same.0), subst (λ (z : List ℕ). IsText z vs) (sym same.1) t.2)

-- after one unit more
pub read_more : (bytes units rest : List ℕ) (u : ℕ) (after : List ℕ) → ReadSoFar bytes units rest → Begins rest u after → ReadSoFar bytes (units ++ u ∷ []) after
read_more bytes units rest u after so_far b = record {
  whole = λ more t. subst (λ (z : List ℕ). IsText bytes z) (sym (append_assoc units (u ∷ []) more)) (so_far.whole (u ∷ more) (after, b, t));
  only = λ all t.
      let left = so_far.only all t in
      let next = read_rest rest u after left.0 b left.2 in
      (next.0, left.1 ∙ ap (λ (z : List ℕ). units ++ z) next.1 ∙ sym (append_assoc units (u ∷ []) next.0), next.2);
}

-- where nothing is left, all is read
pub read_all : (bytes units rest : List ℕ) → ReadSoFar bytes units rest → rest ≡ [] → IsText bytes units
read_all bytes units rest so_far e =
    subst (λ (z : List ℕ). IsText bytes z) (append-nil units) (so_far.whole [] e)

-- where something is left that begins with no unit, there is no reading
pub read_stuck : (bytes units rest : List ℕ) → ReadSoFar bytes units rest → (rest ≡ [] → ⊥) → ((u : ℕ) (after : List ℕ) → Begins rest u after → ⊥) → (all : List ℕ) → IsText bytes all → ⊥
read_stuck bytes units rest so_far some none all t = left_stuck (so_far.only all t).0 (so_far.only all t).2
  where
    left_stuck : (more : List ℕ) → IsText rest more → ⊥
    left_stuck [] e = some e
    left_stuck (u ∷ us) e = none u e.0 e.1

-- one byte that is no spelling, and no byte after it
pub stuck_1 : (a : ℕ) → ((u : ℕ) → IsUnitText (a ∷ []) u → ⊥) → (unit : ℕ) (rest : List ℕ) → Begins (a ∷ []) unit rest → ⊥
stuck_1 a no1 unit rest b = at_front b.front unit b.spelled b.parts
  where
    at_front : (front : List ℕ) (u : ℕ) → IsUnitText front u → a ∷ [] ≡ front ++ rest → ⊥
    at_front [] u p e = p
    at_front (x ∷ []) u p e = no1 u (subst (λ (z : ℕ). IsUnitText (z ∷ []) u) (sym (heads a x [] rest e).0) p)
    at_front (x ∷ y ∷ zs) u p e = let h = heads a x [] (y ∷ zs ++ rest) e in cc

-- two bytes that are no spelling, and no byte after them
pub stuck_2 : (a b : ℕ) → ((u : ℕ) → IsUnitText (a ∷ []) u → ⊥) → ((u : ℕ) → IsUnitText (a ∷ b ∷ []) u → ⊥) → (unit : ℕ) (rest : List ℕ) → Begins (a ∷ b ∷ []) unit rest → ⊥
stuck_2 a b no1 no2 unit rest begins = at_front begins.front unit begins.spelled begins.parts
  where
    at_front : (front : List ℕ) (u : ℕ) → IsUnitText front u → a ∷ b ∷ [] ≡ front ++ rest → ⊥
    at_front [] u p e = p
    at_front (x ∷ []) u p e = no1 u (subst (λ (z : ℕ). IsUnitText (z ∷ []) u) (sym (heads a x (b ∷ []) rest e).0) p)
    at_front (x ∷ y ∷ []) u p e =
        let h = heads a x (b ∷ []) (y ∷ rest) e in
        let k = heads b y [] rest h.1 in
        no2 u (subst (λ (z : ℕ). IsUnitText (z ∷ b ∷ []) u) (sym h.0) (subst (λ (z : ℕ). IsUnitText (x ∷ z ∷ []) u) (sym k.0) p))
    at_front (x ∷ y ∷ z ∷ zs) u p e =
        let h = heads a x (b ∷ []) (y ∷ z ∷ zs ++ rest) e in
        let k = heads b y [] (z ∷ zs ++ rest) h.1 in
        cc

-- three bytes that are no spelling
pub stuck_3 : (a b c : ℕ) (after : List ℕ) → ((u : ℕ) → IsUnitText (a ∷ []) u → ⊥) → ((u : ℕ) → IsUnitText (a ∷ b ∷ []) u → ⊥) → ((u : ℕ) → IsUnitText (a ∷ b ∷ c ∷ []) u → ⊥) → (unit : ℕ) (rest : List ℕ) → Begins (a ∷ b ∷ c ∷ after) unit rest → ⊥
stuck_3 a b c after no1 no2 no3 unit rest begins = at_front begins.front unit begins.spelled begins.parts
  where
    at_front : (front : List ℕ) (u : ℕ) → IsUnitText front u → a ∷ b ∷ c ∷ after ≡ front ++ rest → ⊥
    at_front [] u p e = p
    at_front (x ∷ []) u p e = no1 u (subst (λ (z : ℕ). IsUnitText (z ∷ []) u) (sym (heads a x (b ∷ c ∷ after) rest e).0) p)
    at_front (x ∷ y ∷ []) u p e =
        let h = heads a x (b ∷ c ∷ after) (y ∷ rest) e in
        let k = heads b y (c ∷ after) rest h.1 in
        no2 u (subst (λ (z : ℕ). IsUnitText (z ∷ b ∷ []) u) (sym h.0) (subst (λ (z : ℕ). IsUnitText (x ∷ z ∷ []) u) (sym k.0) p))
    at_front (x ∷ y ∷ z ∷ []) u p e =
        let h = heads a x (b ∷ c ∷ after) (y ∷ z ∷ rest) e in
        let k = heads b y (c ∷ after) (z ∷ rest) h.1 in
        let l = heads c z after rest k.1 in
        no3 u (subst (λ (w : ℕ). IsUnitText (w ∷ b ∷ c ∷ []) u) (sym h.0) (subst (λ (w : ℕ). IsUnitText (x ∷ w ∷ c ∷ []) u) (sym k.0) (subst (λ (w : ℕ). IsUnitText (x ∷ y ∷ w ∷ []) u) (sym l.0) p)))
    at_front (x ∷ y ∷ z ∷ w ∷ ws) u p e = p

-- the bytes of one or more parts
pub begins_1 : (bytes : List ℕ) (a : ℕ) (x : List ℕ) (unit : ℕ) → bytes ≡ a ∷ x → IsUnitText (a ∷ []) unit → Begins bytes unit x
begins_1 bytes a x unit ea p = record { front = a ∷ []; spelled = p; parts = ea }

pub begins_2 : (bytes : List ℕ) (a b : ℕ) (x y : List ℕ) (unit : ℕ) → bytes ≡ a ∷ x → x ≡ b ∷ y → IsUnitText (a ∷ b ∷ []) unit → Begins bytes unit y
begins_2 bytes a b x y unit ea eb p =
    record { front = a ∷ b ∷ []; spelled = p; parts = ea ∙ ap (λ (z : List ℕ). a ∷ z) eb }

pub begins_3 : (bytes : List ℕ) (a b c : ℕ) (x y z : List ℕ) (unit : ℕ) → bytes ≡ a ∷ x → x ≡ b ∷ y → y ≡ c ∷ z → IsUnitText (a ∷ b ∷ c ∷ []) unit → Begins bytes unit z
begins_3 bytes a b c x y z unit ea eb ec p =
    record { front = a ∷ b ∷ c ∷ []; spelled = p; parts = ea ∙ ap (λ (w : List ℕ). a ∷ w) (eb ∙ ap (λ (w : List ℕ). b ∷ w) ec) }

-- the same for bytes that begin with no unit
pub none_2 : (bytes : List ℕ) (a b : ℕ) (x y : List ℕ) → bytes ≡ a ∷ x → x ≡ b ∷ y → y ≡ [] → ((u : ℕ) → IsUnitText (a ∷ []) u → ⊥) → ((u : ℕ) → IsUnitText (a ∷ b ∷ []) u → ⊥) → (unit : ℕ) (rest : List ℕ) → Begins bytes unit rest → ⊥
none_2 bytes a b x y ea eb ey no1 no2 unit rest begins =
    let whole : bytes ≡ a ∷ b ∷ [] = ea ∙ ap (λ (w : List ℕ). a ∷ w) (eb ∙ ap (λ (w : List ℕ). b ∷ w) ey) in
    stuck_2 a b no1 no2 unit rest (subst (λ (w : List ℕ). Begins w unit rest) whole begins)

pub none_3 : (bytes : List ℕ) (a b c : ℕ) (x y z : List ℕ) → bytes ≡ a ∷ x → x ≡ b ∷ y → y ≡ c ∷ z → ((u : ℕ) → IsUnitText (a ∷ []) u → ⊥) → ((u : ℕ) → IsUnitText (a ∷ b ∷ []) u → ⊥) → ((u : ℕ) → IsUnitText (a ∷ b ∷ c ∷ []) u → ⊥) → (unit : ℕ) (rest : List ℕ) → Begins bytes unit rest → ⊥
none_3 bytes a b c x y z ea eb ec no1 no2 no3 unit rest begins =
    let whole : bytes ≡ a ∷ b ∷ c ∷ z = ea ∙ ap (λ (w : List ℕ). a ∷ w) (eb ∙ ap (λ (w : List ℕ). b ∷ w) ec) in
    stuck_3 a b c z no1 no2 no3 unit rest (subst (λ (w : List ℕ). Begins w unit rest) whole begins)

-- a unit has a spelling
pub some_unit_text : (u : ℕ) → u < 65536 → (a : List ℕ) × IsUnitText a u
some_unit_text u lt =
    elim (cases_lt u 128) [
      | inl small ↦ elim (cases_lt 0 u) [
        | inl above ↦ (u ∷ [], (omega arith, small, refl))
        | inr none ↦ (192 ∷ 128 ∷ [], (omega arith, omega arith, (omega arith, omega arith), omega arith, inl (omega arith)))
      ]
      | inr above ↦ elim (cases_lt u 2048) [
        | inl middle ↦ ((192 + u / 64) ∷ (128 + u % 64) ∷ [], (omega arith, omega arith, (omega arith, omega arith), omega arith, inr above))
        | inr large ↦ ((224 + u / 4096) ∷ (128 + u % 4096 / 64) ∷ (128 + u % 64) ∷ [], (omega arith, omega arith, (omega arith, omega arith), (omega arith, omega arith), omega arith, large))
      ]
    ]

-- a spelling of a unit is bytes, and the unit has 16 bits
pub unit_text-fits : (u : ℕ) (a : List ℕ) → IsUnitText a u → IsByteString a × (u < 65536)
unit_text-fits u [] p = absurd p
unit_text-fits u (a ∷ []) p = (IsByteString-cons a [] (omega arith) no_bytes, omega arith)
unit_text-fits u (a ∷ b ∷ []) p =
    (IsByteString-cons a (b ∷ []) (omega arith) (IsByteString-cons b [] (omega arith) no_bytes), omega arith)
unit_text-fits u (a ∷ b ∷ c ∷ []) p =
    (IsByteString-cons a (b ∷ c ∷ []) (omega arith) (IsByteString-cons b (c ∷ []) (omega arith) (IsByteString-cons c [] (omega arith) no_bytes)), omega arith)
unit_text-fits u (a ∷ b ∷ c ∷ d ∷ more) p = absurd p
