-- What is read from the front is spelled so, and what is spelled so is read: the operands of an instruction.
use Rattle.std.proofs.Common.{◌≡◌, ℕ, ◌^◌, ◌<◌, ℤ, true, cond, ltb, List, ◌++◌, Some, None, refl, sym, ap, ◌∙◌, append_assoc, arith}
use Rattle.std.specs.Prelude.{FitsSigned, int_le}
use Rattle.std.specs.Int.{w32, cast_unsigned}
use Rattle.std.proofs.lemmas.Bool.{ltb-true, lt-ltb}
use Rattle.std.proofs.lemmas.Int.{of_z-to_z, to_z-of_z}
use mir.ValLaws.{of_z_fits}
use borrow.Author.Gap.{read_sfits}
use Rattle.jv_bytes.specs.Numbers.{number_text}
use Rattle.jv_read.specs.Reading.{◌>>=◌, number_at}
use Rattle.jv_read.proofs.Fronts.{bind_some, bind_is, given_as, joined, past_true, number_takes, number_again}
use Rattle.jv_insn.specs.declared.written.Operands.{Operands}
use Rattle.jv_insn.specs.Layouts.{s4, s4_text, pair_text, IsPair, span, IsOne, AreTwo, AreThree}
use Rattle.jv_insn.specs.Steps.Reading.{one_at, two_at, three_at, s4_at, pair_at, span_of, count_at}

-- operands stand in front of what is left
pub record Takes (P : List ℕ → Operands → Type 0) (bytes : List ℕ) (x : Operands × List ℕ) : Type 0 where
  pub front : List ℕ
  pub holds : P front x.0
  pub parts : bytes ≡ front ++ x.1

-- ---- numbers

pub one_takes : (n : ℕ) (make : ℕ → Operands) (bytes : List ℕ) (x : Operands × List ℕ) → one_at n make bytes ≡ Some x → Takes (IsOne n make) bytes x
unfolding one_at
one_takes n make bytes x e =
    let a = bind_some (number_at n bytes) (λ first. Some (make first.0, first.1)) x e in
    let s = number_takes n bytes a.0 a.1 in
    let made : Operands × List ℕ = (make a.0.0, a.0.1) in
    given_as (λ (y : Operands × List ℕ). Takes (IsOne n make) bytes y) made x a.2
    (record { front = number_text n a.0.0; holds = record { number = a.0.0; fits = s.1; spelled = refl; made = refl }; parts = s.0 })

pub one_again : (n : ℕ) (make : ℕ → Operands) (text : List ℕ) (operands : Operands) (rest : List ℕ) → IsOne n make text operands → one_at n make (text ++ rest) ≡ Some (operands, rest)
unfolding one_at
one_again n make text operands rest h =
    rw (h.spelled, h.made) (bind_is (number_at n (number_text n h.number ++ rest)) (λ first. Some (make first.0, first.1)) (h.number, rest) (number_again n h.number rest h.fits))

pub two_take : (m n : ℕ) (make : ℕ → ℕ → Operands) (bytes : List ℕ) (x : Operands × List ℕ) → two_at m n make bytes ≡ Some x → Takes (AreTwo m n make) bytes x
unfolding two_at
two_take m n make bytes x e =
    let a = bind_some (number_at m bytes) (λ first. number_at n first.1 >>= λ second. Some (make first.0 second.0, second.1)) x e in
    let b = bind_some (number_at n a.0.1) (λ second. Some (make a.0.0 second.0, second.1)) x a.2 in
    let s = number_takes m bytes a.0 a.1 in
    let t = number_takes n a.0.1 b.0 b.1 in
    let made : Operands × List ℕ = (make a.0.0 b.0.0, b.0.1) in
    given_as (λ (y : Operands × List ℕ). Takes (AreTwo m n make) bytes y) made x b.2
    (record { front = number_text m a.0.0 ++ number_text n b.0.0; holds = record { first = a.0.0; second = b.0.0; first_fits = s.1; second_fits = t.1; spelled = refl; made = refl }; parts = joined bytes (number_text m a.0.0) (number_text n b.0.0) a.0.1 b.0.1 s.0 t.0 })

pub two_again : (m n : ℕ) (make : ℕ → ℕ → Operands) (text : List ℕ) (operands : Operands) (rest : List ℕ) → AreTwo m n make text operands → two_at m n make (text ++ rest) ≡ Some (operands, rest)
unfolding two_at
two_again m n make text operands rest h =
    let a = number_text m h.first in
    let b = number_text n h.second in
    rw (h.spelled, h.made)
    (ap (λ (c : List ℕ). number_at m c >>= λ x. number_at n x.1 >>= λ y. Some (make x.0 y.0, y.1)) (append_assoc a b rest)
    ∙ bind_is (number_at m (a ++ (b ++ rest))) (λ x. number_at n x.1 >>= λ y. Some (make x.0 y.0, y.1)) (h.first, b ++ rest) (number_again m h.first (b ++ rest) h.first_fits)
    ∙ bind_is (number_at n (b ++ rest)) (λ y. Some (make h.first y.0, y.1)) (h.second, rest) (number_again n h.second rest h.second_fits))

pub three_take : (m n k : ℕ) (make : ℕ → ℕ → ℕ → Operands) (bytes : List ℕ) (x : Operands × List ℕ) → three_at m n k make bytes ≡ Some x → Takes (AreThree m n k make) bytes x
unfolding three_at
three_take m n k make bytes x e =
    let a = bind_some (number_at m bytes) (λ first. number_at n first.1 >>= λ second. number_at k second.1 >>= λ third. Some (make first.0 second.0 third.0, third.1)) x e in
    let b = bind_some (number_at n a.0.1) (λ second. number_at k second.1 >>= λ third. Some (make a.0.0 second.0 third.0, third.1)) x a.2 in
    let c = bind_some (number_at k b.0.1) (λ third. Some (make a.0.0 b.0.0 third.0, third.1)) x b.2 in
    let s = number_takes m bytes a.0 a.1 in
    let t = number_takes n a.0.1 b.0 b.1 in
    let u = number_takes k b.0.1 c.0 c.1 in
    let made : Operands × List ℕ = (make a.0.0 b.0.0 c.0.0, c.0.1) in
    let behind : a.0.1 ≡ (number_text n b.0.0 ++ number_text k c.0.0) ++ c.0.1 = joined a.0.1 (number_text n b.0.0) (number_text k c.0.0) b.0.1 c.0.1 t.0 u.0 in
    given_as (λ (y : Operands × List ℕ). Takes (AreThree m n k make) bytes y) made x c.2
    (record { front = number_text m a.0.0 ++ (number_text n b.0.0 ++ number_text k c.0.0); holds = record { first = a.0.0; second = b.0.0; third = c.0.0; first_fits = s.1; second_fits = t.1; third_fits = u.1; spelled = refl; made = refl }; parts = joined bytes (number_text m a.0.0) (number_text n b.0.0 ++ number_text k c.0.0) a.0.1 c.0.1 s.0 behind })

pub three_again : (m n k : ℕ) (make : ℕ → ℕ → ℕ → Operands) (text : List ℕ) (operands : Operands) (rest : List ℕ) → AreThree m n k make text operands → three_at m n k make (text ++ rest) ≡ Some (operands, rest)
unfolding three_at
three_again m n k make text operands rest h =
    let a = number_text m h.first in
    let b = number_text n h.second in
    let c = number_text k h.third in
    let all = λ (bytes : List ℕ). number_at m bytes >>= λ x. number_at n x.1 >>= λ y. number_at k y.1 >>= λ z. Some (make x.0 y.0 z.0, z.1) in
    rw (h.spelled, h.made)
    (ap all (append_assoc a (b ++ c) rest ∙ ap (λ (r : List ℕ). a ++ r) (append_assoc b c rest))
    ∙ bind_is (number_at m (a ++ (b ++ (c ++ rest)))) (λ x. number_at n x.1 >>= λ y. number_at k y.1 >>= λ z. Some (make x.0 y.0 z.0, z.1)) (h.first, b ++ (c ++ rest)) (number_again m h.first (b ++ (c ++ rest)) h.first_fits)
    ∙ bind_is (number_at n (b ++ (c ++ rest))) (λ y. number_at k y.1 >>= λ z. Some (make h.first y.0 z.0, z.1)) (h.second, c ++ rest) (number_again n h.second (c ++ rest) h.second_fits)
    ∙ bind_is (number_at k (c ++ rest)) (λ z. Some (make h.first h.second z.0, z.1)) (h.third, rest) (number_again k h.third rest h.third_fits))

-- ---- signed numbers of four bytes

pub s4_takes : (bytes : List ℕ) (x : ℤ × List ℕ) → s4_at bytes ≡ Some x → FitsSigned w32 x.0 × (bytes ≡ s4_text x.0 ++ x.1)
unfolding s4_at
s4_takes bytes x e =
    let a = bind_some (number_at 4 bytes) (λ number. Some (s4 number.0, number.1)) x e in
    let s = number_takes 4 bytes a.0 a.1 in
    let made : ℤ × List ℕ = (s4 a.0.0, a.0.1) in
    let back : number_text 4 a.0.0 ≡ s4_text (s4 a.0.0) = ap (number_text 4) (sym (of_z-to_z w32 a.0.0 s.1)) in
    given_as (λ (y : ℤ × List ℕ). FitsSigned w32 y.0 × (bytes ≡ s4_text y.0 ++ y.1)) made x a.2
    (read_sfits w32 a.0.0, s.0 ∙ ap (λ (t : List ℕ). t ++ a.0.1) back)

pub s4_again : (z : ℤ) (rest : List ℕ) → FitsSigned w32 z → s4_at (s4_text z ++ rest) ≡ Some (z, rest)
unfolding s4_at
s4_again z rest fits =
    bind_is (number_at 4 (s4_text z ++ rest)) (λ number. Some (s4 number.0, number.1)) (cast_unsigned w32 z, rest) (number_again 4 (cast_unsigned w32 z) rest (of_z_fits w32 z fits).fits)
    ∙ ap (λ (n : ℤ). Some (n, rest)) (to_z-of_z w32 z fits)

pub pair_takes : (bytes : List ℕ) (x : (ℤ × ℤ) × List ℕ) → pair_at bytes ≡ Some x → IsPair x.0 × (bytes ≡ pair_text x.0 ++ x.1)
unfolding pair_at
pair_takes bytes x e =
    let a = bind_some (s4_at bytes) (λ value. s4_at value.1 >>= λ offset. Some ((value.0, offset.0), offset.1)) x e in
    let b = bind_some (s4_at a.0.1) (λ offset. Some ((a.0.0, offset.0), offset.1)) x a.2 in
    let s = s4_takes bytes a.0 a.1 in
    let t = s4_takes a.0.1 b.0 b.1 in
    let made : (ℤ × ℤ) × List ℕ = ((a.0.0, b.0.0), b.0.1) in
    given_as (λ (y : (ℤ × ℤ) × List ℕ). IsPair y.0 × (bytes ≡ pair_text y.0 ++ y.1)) made x b.2
    ((s.0, t.0), joined bytes (s4_text a.0.0) (s4_text b.0.0) a.0.1 b.0.1 s.1 t.1)

pub pair_again : (pair : ℤ × ℤ) (rest : List ℕ) → IsPair pair → pair_at (pair_text pair ++ rest) ≡ Some (pair, rest)
unfolding pair_at
pair_again pair rest fits =
    let a = s4_text pair.0 in
    let b = s4_text pair.1 in
    ap (λ (c : List ℕ). s4_at c >>= λ x. s4_at x.1 >>= λ y. Some ((x.0, y.0), y.1)) (append_assoc a b rest)
    ∙ bind_is (s4_at (a ++ (b ++ rest))) (λ x. s4_at x.1 >>= λ y. Some ((x.0, y.0), y.1)) (pair.0, b ++ rest) (s4_again pair.0 (b ++ rest) fits.0)
    ∙ bind_is (s4_at (b ++ rest)) (λ y. Some ((pair.0, y.0), y.1)) (pair.1, rest) (s4_again pair.1 rest fits.1)

-- ---- counts

pub span_takes : (low high : ℤ) (n : ℕ) → span_of low high ≡ Some n → (int_le low high ≡ true) × (n ≡ span low high)
unfolding span_of
span_takes low high n e =
    let g = past_true (int_le low high) (Some (span low high)) n e in
    (g.0, given_as (λ (m : ℕ). m ≡ span low high) (span low high) n g.1 refl)

pub span_again : (low high : ℤ) (n : ℕ) → int_le low high ≡ true → n ≡ span low high → span_of low high ≡ Some n
unfolding span_of
span_again low high n le e = rw (le, e) refl

pub count_takes : (bytes : List ℕ) (x : ℕ × List ℕ) → count_at bytes ≡ Some x → (x.0 < 2 ^ 31) × (bytes ≡ number_text 4 x.0 ++ x.1)
unfolding count_at
count_takes bytes x e =
    let a = bind_some (number_at 4 bytes) (λ count. cond (ltb count.0 2147483648) (Some count) None) x e in
    let s = number_takes 4 bytes a.0 a.1 in
    let g = past_true (ltb a.0.0 2147483648) (Some a.0) x a.2 in
    let lt = ltb-true a.0.0 2147483648 g.0 in
    given_as (λ (y : ℕ × List ℕ). (y.0 < 2 ^ 31) × (bytes ≡ number_text 4 y.0 ++ y.1)) a.0 x g.1 (lt, s.0)

pub count_again : (n : ℕ) (rest : List ℕ) → n < 2 ^ 31 → count_at (number_text 4 n ++ rest) ≡ Some (n, rest)
unfolding count_at
count_again n rest lt =
    let few : ltb n 2147483648 ≡ true = lt-ltb n 2147483648 lt in
    bind_is (number_at 4 (number_text 4 n ++ rest)) (λ count. cond (ltb count.0 2147483648) (Some count) None) (n, rest) (number_again 4 n rest (omega (arith, lt)))
    ∙ rw few refl
