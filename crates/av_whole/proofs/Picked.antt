-- One class more, kept or left out.
use Rattle.std.proofs.Common.{◌≡◌, ℕ, zero, suc, ◌+◌, ◌<◌, ◌≤◌, Bool, true, false, List, [], ◌∷◌, ◌++◌, Some, length, take, drop, get_or, slice_get, Contains, refl, ap, sym, ◌∙◌, subst, ⊎_elim, arith}
use Rattle.std.proofs.lemmas.List.{length_push, take_all, take_more, take-append-drop}
use Rattle.std.proofs.lemmas.List.Elements.{Contains-append_left, Contains-push, Contains-push_cases}
use Rattle.std.proofs.lemmas.Option.{slice_get-get_or, same_Some}
use Rattle.jv_types.specs.declared.shapes.Shape.{Shape}
use Rattle.jv_world.specs.Whole.{AreMarks, IsWhole}
use Rattle.jv_world.specs.Worlds.{AreNumbered, HaveDistinctNames}
use Rattle.av_collected.specs.Parts.{IsPart}
use Rattle.av_collected.proofs.Lists.{in_none, at_place, apart_tail, apart_head, apart_cons}
use Rattle.av_collected.proofs.Parts.{none_apart}
use Rattle.av_whole.specs.WholeClasses.{IsWholeIn}

get_front : (xs ys : List Shape) (k : ℕ) (s : Shape) → slice_get xs k ≡ Some s → slice_get (xs ++ ys) k ≡ Some s
get_front [] ys k s e = absurd cc
get_front (x ∷ xs) ys zero s e = e
get_front (x ∷ xs) ys (suc k) s e = get_front xs ys k s e

get_last : (xs : List Shape) (s : Shape) → slice_get (xs ++ s ∷ []) (length xs) ≡ Some s
get_last [] s = refl
get_last (x ∷ xs) s = get_last xs s

apart_front : (xs ys : List Shape) → HaveDistinctNames (xs ++ ys) → HaveDistinctNames xs
apart_front xs ys apart c d name p q = apart c d name (p.0, get_front xs ys c p.0 p.1, p.2) (q.0, get_front xs ys d q.0 q.1, q.2)

-- the last of a list whose names are apart is apart from all before
apart_last : (xs : List Shape) (x : Shape) → HaveDistinctNames (xs ++ x ∷ []) → (s : Shape) → Contains xs s → s.name ≡ x.name → ⊥
apart_last xs x apart s h same =
    let e : h.0 ≡ length xs = apart h.0 (length xs) x.name (s, get_front xs (x ∷ []) h.0 s (at_place xs s h), same) (x, get_last xs x, refl) in
    absurd (omega (arith, e, h.1))

apart_push : (v : List Shape) (x : Shape) → ((s : Shape) → Contains v s → s.name ≡ x.name → ⊥) → HaveDistinctNames v → HaveDistinctNames (v ++ x ∷ [])
apart_push [] x fresh apart = apart_cons x [] (λ s h same. in_none s h) none_apart
apart_push (y ∷ v) x fresh apart =
    apart_cons y (v ++ x ∷ [])
    (λ s h same. ⊎_elim (λ more. apart_head y v apart s more same) (λ is. fresh y (0, omega arith, refl) (sym same ∙ ap (λ (t : Shape). t.name) (sym is))) (Contains-push_cases v x s h))
    (apart_push v x (λ s h same. fresh s (suc h.0, omega (arith, h.1), h.2) same) (apart_tail y v apart))

kept_one : (P : Shape → Type 0) (seen v : List Shape) (x : Shape) → ((s : Shape) → Contains seen s → s.name ≡ x.name → ⊥) → IsPart P seen v → P x → IsPart P (seen ++ x ∷ []) (v ++ x ∷ [])
kept_one P seen v x fresh part p = record {
  from = λ s h. ⊎_elim (λ old. let o = part.from s old in (Contains-append_left seen (x ∷ []) s o.0, o.1)) (λ is. (subst (λ (t : Shape). Contains (seen ++ x ∷ []) t) is (Contains-push seen x), subst P is p)) (Contains-push_cases v x s h);
  all = λ s h q. ⊎_elim (λ old. Contains-append_left v (x ∷ []) s (part.all s old q)) (λ is. subst (λ (t : Shape). Contains (v ++ x ∷ []) t) is (Contains-push v x)) (Contains-push_cases seen x s h);
  apart = apart_push v x (λ s h same. fresh s (part.from s h).0 same) part.apart;
  count = omega (arith, part.count, length_push v x, length_push seen x);
}

left_one : (P : Shape → Type 0) (seen v : List Shape) (x : Shape) → IsPart P seen v → (P x → ⊥) → IsPart P (seen ++ x ∷ []) v
left_one P seen v x part lacks = record {
  from = λ s h. let o = part.from s h in (Contains-append_left seen (x ∷ []) s o.0, o.1);
  all = λ s h q. ⊎_elim (λ old. part.all s old q) (λ is. absurd (lacks (subst P (sym is) q))) (Contains-push_cases seen x s h);
  apart = part.apart;
  count = omega (arith, part.count, length_push seen x);
}

-- the names of the classes before a place are apart from that at the place
fresh_at : (w : List Shape) (i : ℕ) (x : Shape) → HaveDistinctNames w → take (i + 1) w ≡ take i w ++ x ∷ [] → (s : Shape) → Contains (take i w) s → s.name ≡ x.name → ⊥
fresh_at w i x apart is =
    let front : HaveDistinctNames (take (i + 1) w) = apart_front (take (i + 1) w) (drop (i + 1) w) (subst HaveDistinctNames (sym (take-append-drop (i + 1) w)) apart) in
    apart_last (take i w) x (subst HaveDistinctNames is front)

-- the class at a place is whole in the list where its mark says so
whole_at : (w : List Shape) (i : ℕ) (x : Shape) → HaveDistinctNames w → slice_get w i ≡ Some x → IsWholeIn w x → IsWhole w i
whole_at w i x apart at h = subst (λ (c : ℕ). IsWhole w c) (apart h.0 i x.name (x, h.1, refl) (x, at, refl)) h.2

pub step_kept : (w v v_now : List Shape) (marks : List Bool) (i : ℕ) (x : Shape) (mark : Bool) → AreNumbered w → AreMarks (IsWhole w) (length w) marks → i < length w
    → x ≡ get_or w i x → slice_get marks i ≡ Some mark → mark ≡ true → v_now ≡ v ++ x ∷ [] → IsPart (IsWholeIn w) (take i w) v → IsPart (IsWholeIn w) (take (i + 1) w) v_now
step_kept w v v_now marks i x mark numbered are here read at set grown part =
    let at_w : slice_get w i ≡ Some x = slice_get-get_or w i x here ∙ ap (λ (s : Shape). Some s) (sym read) in
    let more : take (i + 1) w ≡ take i w ++ x ∷ [] = take_more w i x here ∙ ap (λ (s : Shape). take i w ++ s ∷ []) (sym read) in
    let whole : IsWhole w i = (are.exact i mark at).0 set in
    let now = kept_one (IsWholeIn w) (take i w) v x (fresh_at w i x numbered.distinct more) part (i, at_w, whole) in
    subst (λ (l : List Shape). IsPart (IsWholeIn w) l v_now) (sym more) (subst (λ (l : List Shape). IsPart (IsWholeIn w) (take i w ++ x ∷ []) l) (sym grown) now)

pub step_left : (w v v_now : List Shape) (marks : List Bool) (i : ℕ) (mark : Bool) → AreNumbered w → AreMarks (IsWhole w) (length w) marks → i < length w
    → slice_get marks i ≡ Some mark → mark ≡ false → v_now ≡ v → IsPart (IsWholeIn w) (take i w) v → IsPart (IsWholeIn w) (take (i + 1) w) v_now
step_left w v v_now marks i mark numbered are here at clear same part = by (slice_there w i here)
  where
    slice_there : (l : List Shape) (k : ℕ) → k < length l → (s : Shape) × (slice_get l k ≡ Some s)
    slice_there [] k h = absurd (omega (arith, h))
    slice_there (s ∷ l) zero h = (s, refl)
    slice_there (s ∷ l) (suc k) h = slice_there l k (omega (arith, h))

    by : (s : Shape) × (slice_get w i ≡ Some s) → IsPart (IsWholeIn w) (take (i + 1) w) v_now
    by (x, at_w) =
        let read : get_or w i x ≡ x = same_Some (get_or w i x) x (sym (slice_get-get_or w i x here) ∙ at_w) in
        let more : take (i + 1) w ≡ take i w ++ x ∷ [] = take_more w i x here ∙ ap (λ (s : Shape). take i w ++ s ∷ []) read in
        let now = left_one (IsWholeIn w) (take i w) v x part (λ h. let set : mark ≡ true = (are.exact i mark at).1 (whole_at w i x numbered.distinct at_w h) in cc) in
        subst (λ (l : List Shape). IsPart (IsWholeIn w) l v_now) (sym more) (subst (λ (l : List Shape). IsPart (IsWholeIn w) (take i w ++ x ∷ []) l) (sym same) now)

pub start_kept : (w v : List Shape) → v ≡ [] → IsPart (IsWholeIn w) (take 0 w) v
start_kept w v none = subst (λ (l : List Shape). IsPart (IsWholeIn w) (take 0 w) l) (sym none) (record {
  from = λ s h. absurd (in_none s h);
  all = λ s h p. absurd (in_none s h);
  apart = none_apart;
  count = omega arith;
})

pub end_kept : (w v : List Shape) (i : ℕ) → length w ≤ i → IsPart (IsWholeIn w) (take i w) v → IsPart (IsWholeIn w) w v
end_kept w v i past part = subst (λ (l : List Shape). IsPart (IsWholeIn w) l v) (take_all i w past) part
