-- What is left behind one byte or two is no longer.
use Rattle.std.proofs.Common.{◌≡◌, ℕ, ◌≤◌, ltb, List, [], ◌∷◌, length, take, drop, Some, subst, arith}
use Rattle.std.specs.Int.{w16, from_be_bytes}
use Rattle.std.proofs.lemmas.List.{length-drop}
use Rattle.calls_form.specs.Reading.{u1_at, u2_at}
use Rattle.calls_form.proofs.LayoutFields.{guard_false, some_is}

pub u1_shorter : (bytes : List ℕ) (x : ℕ × List ℕ) → u1_at bytes ≡ Some x → length x.1 ≤ length bytes
u1_shorter [] x e = absurd cc
u1_shorter (b ∷ rest) x e = subst (λ (y : ℕ × List ℕ). length y.1 ≤ length (b ∷ rest)) (some_is (b, rest) x e) (omega arith)

pub u2_shorter : (bytes : List ℕ) (x : ℕ × List ℕ) → u2_at bytes ≡ Some x → length x.1 ≤ length bytes
u2_shorter bytes x e =
    let is = (guard_false (ltb (length bytes) 2) (from_be_bytes w16 (take 2 bytes), drop 2 bytes) x e).1 in
    subst (λ (y : ℕ × List ℕ). length y.1 ≤ length bytes) is (omega (arith, length-drop 2 bytes))
