-- The first word, and the words behind it.
use Rattle.std.proofs.Common.{◌≡◌, ℕ, ◌≤◌, ◌<◌, Bool, true, false, List, [], ◌∷◌, length, get_or, map, Some, refl, ap, ◌∙◌, nat_eq, codes, arith}
use Rattle.std.specs.Prelude.{not}
use Rattle.std.specs.List.{slice_get}
use Rattle.std.specs.Borrow.{Bor}
use Rattle.std.specs.Cmp.Lexicographic.{pointwise, same_text}
use Rattle.av_words.specs.Requests.{AskCalls}

was_true : (b : Bool) → not b ≡ false → true ≡ b
was_true true e = refl
was_true false e = absurd cc

abbrev pub texts : List (Bor (List ℕ)) → List (List ℕ)
texts words = map (λ (w : Bor (List ℕ)). w.now) words

-- three words, the first of which is the command's
pub are_calls : (ws : List (Bor (List ℕ))) (d : Bor (List ℕ)) → 3 ≤ length ws → length ws < 4 → not (pointwise nat_eq (get_or ws 0 d).now (codes "calls")) ≡ false
    → AskCalls (texts ws) (get_or ws 1 d).now (get_or ws 2 d).now
are_calls [] d least below e = absurd (omega arith)
are_calls (a ∷ []) d least below e = absurd (omega arith)
are_calls (a ∷ b ∷ []) d least below e = absurd (omega arith)
are_calls (a ∷ b ∷ c ∷ []) d least below e = ap (λ (x : List ℕ). x ∷ b.now ∷ c.now ∷ []) (same_text a.now (codes "calls") (was_true _ e))
are_calls (a ∷ b ∷ c ∷ x ∷ ws) d least below e = absurd (omega arith)

-- one word or more, the first of which is the command's
pub begin_verify : (ws : List (Bor (List ℕ))) (w : Bor (List ℕ)) → Some w ≡ slice_get ws 0 → not (pointwise nat_eq w.now (codes "verify")) ≡ false
    → (rest : List (List ℕ)) × (texts ws ≡ codes "verify" ∷ rest)
begin_verify [] w e n = absurd cc
begin_verify (x ∷ ws) w e n =
    let same : x ≡ w = cc in
    (texts ws, ap (λ (t : List ℕ). t ∷ texts ws) (ap (λ (b : Bor (List ℕ)). b.now) same ∙ same_text w.now (codes "verify") (was_true _ n)))
