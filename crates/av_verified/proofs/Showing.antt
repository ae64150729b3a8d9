-- What a line shows can be told from it.
use Rattle.std.proofs.Common.{◌≡◌, ℕ, ◌/◌, ◌%◌, Bool, true, false, if◌then◌else◌, List, [], ◌∷◌, ◌++◌, codes, refl, sym, ap, ◌∙◌, arith}
use Rattle.std.proofs.lemmas.Bool.Decides.{nat_tests}
use Rattle.std.proofs.lemmas.List.{append_assoc, append_cancel_left}
use Rattle.jv_types.specs.declared.shapes.MethodShape.{MethodShape}
use Rattle.jv_bytes.specs.Shown.{capital_digit, shown_byte, shown_text, stays}
use Rattle.jv_desc.specs.Texts.{IsMethodDesc, method_text}
use Rattle.jv_desc.proofs.Agreement.{one_method}
use Rattle.av_verified.specs.Lines.{method_line}

-- ---- bytes

-- a byte that is shown as it is is neither `%` nor a space
record IsPlain (b : ℕ) : Type 0 where
  pub percent : b ≡ 37 → ⊥
  pub space : b ≡ 32 → ⊥

plain : (b : ℕ) → stays b ≡ true → IsPlain b
plain b e = record { percent = λ is. grind (arith, nat_tests); space = λ is. grind (arith, nat_tests) }

one_digit : (m n : ℕ) → capital_digit m ≡ capital_digit n → m ≡ n
one_digit m n e = grind (arith, nat_tests)

one_escaped : (b c : ℕ) → b / 16 ≡ c / 16 → b % 16 ≡ c % 16 → b ≡ c
one_escaped b c e f = omega (arith, e, f)

same_first : (m n : ℕ) (xs ys : List ℕ) → m ∷ xs ≡ n ∷ ys → m ≡ n
same_first m n xs ys e = cc

same_rest : (m n : ℕ) (xs ys : List ℕ) → m ∷ xs ≡ n ∷ ys → xs ≡ ys
same_rest m n xs ys e = cc

-- how the form of a byte begins, by whether it stays
abbrev shown_so : Bool → ℕ → List ℕ
shown_so b n = if b then n ∷ [] else 37 ∷ capital_digit (n / 16) ∷ capital_digit (n % 16) ∷ []

-- no form of a byte is a front of another's
one_byte : (p q : Bool) (b c : ℕ) (xs ys : List ℕ) → stays b ≡ p → stays c ≡ q → shown_so p b ++ xs ≡ shown_so q c ++ ys → (b ≡ c) × (xs ≡ ys)
one_byte true true b c xs ys l r e = (same_first b c xs ys e, same_rest b c xs ys e)
one_byte true false b c xs ys l r e = absurd ((plain b l).percent (same_first b 37 xs (capital_digit (c / 16) ∷ capital_digit (c % 16) ∷ ys) e))
one_byte false true b c xs ys l r e = absurd ((plain c r).percent (sym (same_first 37 c (capital_digit (b / 16) ∷ capital_digit (b % 16) ∷ xs) ys e)))
one_byte false false b c xs ys l r e =
    let high = same_rest 37 37 (capital_digit (b / 16) ∷ capital_digit (b % 16) ∷ xs) (capital_digit (c / 16) ∷ capital_digit (c % 16) ∷ ys) e in
    let low = same_rest (capital_digit (b / 16)) (capital_digit (c / 16)) (capital_digit (b % 16) ∷ xs) (capital_digit (c % 16) ∷ ys) high in (
      one_escaped b c
          (one_digit (b / 16) (c / 16) (same_first (capital_digit (b / 16)) (capital_digit (c / 16)) (capital_digit (b % 16) ∷ xs) (capital_digit (c % 16) ∷ ys) high))
          (one_digit (b % 16) (c % 16) (same_first (capital_digit (b % 16)) (capital_digit (c % 16)) xs ys low)),
      same_rest (capital_digit (b % 16)) (capital_digit (c % 16)) xs ys low,
    )

-- none begins with a space
no_space : (p : Bool) (b : ℕ) (xs ys : List ℕ) → stays b ≡ p → shown_so p b ++ xs ≡ 32 ∷ ys → ⊥
no_space true b xs ys is e = (plain b is).space (same_first b 32 xs ys e)
no_space false b xs ys is e = let n = same_first 37 32 (capital_digit (b / 16) ∷ capital_digit (b % 16) ∷ xs) ys e in omega (arith, n)

-- ---- texts

-- what is shown before a space can be told
one_shown : (us vs xs ys : List ℕ) → shown_text us ++ 32 ∷ xs ≡ shown_text vs ++ 32 ∷ ys → (us ≡ vs) × (xs ≡ ys)
one_shown [] [] xs ys e = (refl, same_rest 32 32 xs ys e)
one_shown [] (v ∷ vs) xs ys e =
    absurd (no_space (stays v) v (shown_text vs ++ 32 ∷ ys) xs refl (sym (append_assoc (shown_byte v) (shown_text vs) (32 ∷ ys)) ∙ sym e))
one_shown (u ∷ us) [] xs ys e =
    absurd (no_space (stays u) u (shown_text us ++ 32 ∷ xs) ys refl (sym (append_assoc (shown_byte u) (shown_text us) (32 ∷ xs)) ∙ e))
one_shown (u ∷ us) (v ∷ vs) xs ys e =
    let first : (u ≡ v) × (shown_text us ++ 32 ∷ xs ≡ shown_text vs ++ 32 ∷ ys) =
    one_byte (stays u) (stays v) u v (shown_text us ++ 32 ∷ xs) (shown_text vs ++ 32 ∷ ys) refl refl
    (sym (append_assoc (shown_byte u) (shown_text us) (32 ∷ xs)) ∙ e ∙ append_assoc (shown_byte v) (shown_text vs) (32 ∷ ys)) in
    let rest = one_shown us vs xs ys first.1 in
    ((λ i. first.0 i ∷ rest.0 i), rest.1)

one_shown_whole : (us vs : List ℕ) → shown_text us ≡ shown_text vs → us ≡ vs
one_shown_whole us vs e = (one_shown us vs [] [] (ap (λ (text : List ℕ). text ++ 32 ∷ []) e)).0

-- ---- lines

-- the parts of a line, one behind the other
grouped : (word class name desc : List ℕ) → word ++ class ++ codes " " ++ name ++ codes " " ++ desc ≡ word ++ (class ++ 32 ∷ (name ++ 32 ∷ desc))
grouped word class name desc =
    append_assoc (word ++ class ++ codes " " ++ name) (codes " ") desc
    ∙ append_assoc (word ++ class ++ codes " ") name (32 ∷ desc)
    ∙ append_assoc (word ++ class) (codes " ") (name ++ 32 ∷ desc)
    ∙ append_assoc word class (32 ∷ (name ++ 32 ∷ desc))

line_parts : (class : List ℕ) (method : MethodShape)
    → method_line class method ≡ codes "verified " ++ (shown_text class ++ 32 ∷ (shown_text method.name ++ 32 ∷ shown_text (method_text method.desc)))
line_parts class method = grouped (codes "verified ") (shown_text class) (shown_text method.name) (shown_text (method_text method.desc))

pub one_line : (class other : List ℕ) (method next : MethodShape) → IsMethodDesc method.desc → IsMethodDesc next.desc → method_line class method ≡ method_line other next
    → (class ≡ other) × (method.name ≡ next.name) × (method.desc ≡ next.desc)
one_line class other method next valid right e =
    let parts = append_cancel_left (codes "verified ")
    (shown_text class ++ 32 ∷ (shown_text method.name ++ 32 ∷ shown_text (method_text method.desc)))
    (shown_text other ++ 32 ∷ (shown_text next.name ++ 32 ∷ shown_text (method_text next.desc)))
    (sym (line_parts class method) ∙ e ∙ line_parts other next) in
    let first = one_shown class other (shown_text method.name ++ 32 ∷ shown_text (method_text method.desc)) (shown_text next.name ++ 32 ∷ shown_text (method_text next.desc)) parts in
    let second = one_shown method.name next.name (shown_text (method_text method.desc)) (shown_text (method_text next.desc)) first.1 in
    let texts : method_text method.desc ≡ method_text next.desc = one_shown_whole (method_text method.desc) (method_text next.desc) second.1 in
    let same : method.desc ≡ next.desc =
    one_method (method_text method.desc) method.desc next.desc (record { valid = valid; spelled = refl }) (record { valid = right; spelled = texts }) in
    (first.0, second.0, same)
