-- What stands at a place, and what stands behind it.
use Rattle.std.proofs.Common.{◌≡◌, ◌<◌, ◌≤◌, ◌+◌, ℕ, IsTrue, List, length, get_or, slice_get, Some, inl, inr, sym, ap, ◌∙◌, arith}
use Rattle.std.proofs.lemmas.Bool.{cases_lt}
use Rattle.std.proofs.lemmas.Option.{slice_get_within, get_or_from_slice_get}
use Rattle.jv_types.specs.Bodies.{rises_from, at_offset, IsNextStart}
use Rattle.jv_types.proofs.Starts.{starts_rise, starts_at, start_place, at_offset-at}

module _ {I : Type 0} where
  pub near_is : (rows : List (ℕ × I)) (place pc : ℕ) (row : ℕ × I) → IsTrue (rises_from 0 rows) → slice_get rows place ≡ Some row → row.0 ≡ pc → Some row.1 ≡ at_offset pc rows
  near_is rows place pc row rising at begins =
      let own : get_or rows place row ≡ row = get_or_from_slice_get rows place row row at in
      let found : at_offset pc rows ≡ Some (get_or rows place row).1 =
      at_offset-at 0 pc rows rising place row (slice_get_within rows place row at) (ap (λ (r : ℕ × I). r.0) own ∙ begins) in
      sym (found ∙ ap (λ (r : ℕ × I). Some r.1) own)

  pub next_is_near : (rows : List (ℕ × I)) (place after pc : ℕ) (own next : ℕ × I) → IsTrue (rises_from 0 rows) → slice_get rows place ≡ Some own → after ≤ place + 1
      → slice_get rows after ≡ Some next → own.0 ≡ pc → pc < next.0 → IsNextStart pc rows next.0
  next_is_near rows place after pc own next rising at near behind begins above =
      let here : (get_or rows place own).0 ≡ own.0 = ap (λ (r : ℕ × I). r.0) (get_or_from_slice_get rows place own own at) in
      let there : (get_or rows after own).0 ≡ next.0 = ap (λ (r : ℕ × I). r.0) (get_or_from_slice_get rows after next own behind) in
      let inside : place < length rows = slice_get_within rows place own at in
      let within : after < length rows = slice_get_within rows after next behind in
      record {
        above = above;
        starts = starts_at 0 next.0 rows rising after own within there;
        least = λ other over s.
            let stands = start_place other rows s in
            let start : (get_or rows stands.place own).0 ≡ other = stands.start own in
            elim (cases_lt stands.place after) [
              | inl under ↦
                  let le : (get_or rows stands.place own).0 ≤ (get_or rows place own).0 = starts_rise 0 rows rising stands.place place own (omega arith) inside in
                  absurd (omega arith)
              | inr past ↦
                  let le : (get_or rows after own).0 ≤ (get_or rows stands.place own).0 = starts_rise 0 rows rising after stands.place own past stands.within in
                  omega arith
            ];
      }
