-- A text that is made of parts is handed over part by part.
use Rattle.std.proofs.Common.{◌≡◌, ℕ, zero, suc, ◌+◌, ◌<◌, List, [], ◌∷◌, ◌++◌, length, get_or, take, drop, Err, refl, ap, subst, ◌∙◌, sym, append_assoc, arith}
use Rattle.std.specs.List.{flat_map}
use Rattle.std.proofs.lemmas.List.{take_more, append-nil}
use Rattle.std.proofs.lemmas.Grind.{flat_map-append}
use Rattle.jv_host.specs.declared.sink.SinkFault.{SinkFault}
use Rattle.av_outcome.specs.Handing.{SinkState, Handed}
use Rattle.av_outcome.proofs.Sinks.{IsTaken, IsTaken-then, Handed-then, Handed-cut}

-- the text before a part, the part, and the text after it
flat_map-at : {X : Type 0} (f : X → List ℕ) (d : X) (xs : List X) (i : ℕ) → i < length xs
    → flat_map f xs ≡ flat_map f (take i xs) ++ (f (get_or xs i d) ++ flat_map f (drop (suc i) xs))
flat_map-at f d [] i lt = absurd (omega arith)
flat_map-at f d (x ∷ xs) zero lt = refl
flat_map-at f d (x ∷ xs) (suc i) lt =
    ap (λ (t : List ℕ). f x ++ t) (flat_map-at f d xs i (omega arith))
    ∙ sym (append_assoc (f x) (flat_map f (take i xs)) (f (get_or xs i d) ++ flat_map f (drop (suc i) xs)))

-- the text up to a part and the part
flat_map-more : {X : Type 0} (f : X → List ℕ) (d : X) (xs : List X) (i : ℕ) → i < length xs
    → flat_map f (take i xs) ++ f (get_or xs i d) ≡ flat_map f (take (i + 1) xs)
flat_map-more f d xs i lt =
    ap (λ (t : List ℕ). flat_map f (take i xs) ++ t) (sym (append-nil (f (get_or xs i d))))
    ∙ sym (ap (flat_map f) (take_more xs i d lt) ∙ flat_map-append f (take i xs) (get_or xs i d ∷ []))

module _ {X : Type 0} (f : X → List ℕ) (xs : List X) (i : ℕ) (d : X) (lt : i < length xs) (a b c : SinkState) (before : IsTaken a b (flat_map f (take i xs))) where
  -- one more part is taken
  pub part_taken : IsTaken b c (f (get_or xs i d)) → IsTaken a c (flat_map f (take (i + 1) xs))
  part_taken t = subst (IsTaken a c) (flat_map-more f d xs i lt) (IsTaken-then a b c (flat_map f (take i xs)) (f (get_or xs i d)) before t)

  -- a part is cut off
  pub part_cut_off : (e : SinkFault) → Handed (Err e) b c (f (get_or xs i d)) → Handed (Err e) a c (flat_map f xs)
  part_cut_off e h =
      subst (Handed (Err e) a c) (sym (flat_map-at f d xs i lt))
      (Handed-then (Err e) a b c (flat_map f (take i xs)) (f (get_or xs i d) ++ flat_map f (drop (suc i) xs)) before
      (Handed-cut e b c (f (get_or xs i d)) (flat_map f (drop (suc i) xs)) h))
