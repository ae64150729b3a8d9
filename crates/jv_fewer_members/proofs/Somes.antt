-- Some elements of a list: what stands first of its kind in the list, and among them.
use Rattle.std.proofs.Common.{◌≡◌, ℕ, ◌<◌, List, Some, length, slice_get, sym, ap, ◌∙◌, subst, inl, inr, arith}
use Rattle.std.proofs.lemmas.Bool.{cases_lt}
use Rattle.std.proofs.lemmas.Option.{same_Some}
use Rattle.jv_lists.proofs.Places.{element_at}
use Rattle.jv_world.specs.MemberPlaces.{NoneBelow}
use Rattle.jv_fewer_members.specs.Parts.{AreSomeOf}

module _ {X : Type 0} {R : X → X → Type 0} {all some : List X} {at : ℕ → ℕ} (part : AreSomeOf R all some at) where
  -- the order of the places is that of the elements
  before : (j k : ℕ) → j < length some → k < length some → at j < at k → j < k
  before j k here there lt = elim (cases_lt j k) [
    | inl l ↦ l
    | inr g ↦ elim (cases_lt k j) [
      | inl l ↦ absurd (let r = part.rising k j l here in omega arith)
      | inr h ↦ absurd (let e : j ≡ k = omega arith in let f = ap at e in omega arith)
    ]
  ]

  pub one_place : (j k : ℕ) → j < length some → k < length some → at j ≡ at k → j ≡ k
  one_place j k here there e = elim (cases_lt j k) [
    | inl l ↦ absurd (let r = part.rising j k l there in omega arith)
    | inr g ↦ elim (cases_lt k j) [
      | inl l ↦ absurd (let r = part.rising k j l here in omega arith)
      | inr h ↦ omega arith
    ]
  ]

  -- where each such one before is among them, none is before in the list
  pub none_into : (P : X → Type 0) → ((y x : X) → R y x → P y → P x) → ((j : ℕ) (y : X) → slice_get all j ≡ Some y → P y → (k : ℕ) × (j ≡ at k) × (k < length some))
      → (n : ℕ) → n < length some → NoneBelow P some n → NoneBelow P all (at n)
  none_into P same among n here none j y lt got p =
      let r = among j y got p in
      let x = element_at some r.0 r.2 in
      let other = part.each r.0 x.0 x.1 in
      let is : other.0 ≡ y = same_Some other.0 y (sym other.1 ∙ ap (slice_get all) (sym r.1) ∙ got) in
      none r.0 x.0 (before r.0 n r.2 here (subst (λ (i : ℕ). i < at n) r.1 lt)) x.1 (same other.0 x.0 other.2 (subst P (sym is) p))

  pub none_back : (P : X → Type 0) → ((y x : X) → R y x → P x → P y) → (n : ℕ) → n < length some → NoneBelow P all (at n) → NoneBelow P some n
  none_back P same n here none k x lt got p =
      let r = part.each k x got in
      none (at k) r.0 (part.rising k n lt here) r.1 (same r.0 x r.2 p)
