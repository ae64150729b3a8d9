use Rattle.std.proofs.Common.{◌+◌, ℕ, List, Vec, Global, Contains, sym, ap, ◌∙◌, subst, arith}
use Rattle.std.proofs.lemmas.Bool.{iff_false}
use Rattle.av_forcing.specs.declared.fact.RoundFact.TheVariants.{Field}
use Rattle.av_round.specs.Steps.{ArePlacesBelow}
use Rattle.av_round.proofs.Entries.{all_places, no_places, place_less, place_more}
use Rattle.av_round.proofs.listing.fields_found.Goals as goal
use Rattle.av_round.proofs.listing.fields_found.Goals.{then-has+in_ok-push, else-has}

pub loop-place-init : goal.loop-place-init
loop-place-init c =
    let P : ℕ → Type 0 = λ place. Contains c.args.found.now (Field c.args.class place) in
    subst (ArePlacesBelow P 0) (sym c.new-places.ensures.items) (no_places P)

pub loop-place-preserved : goal.loop-place-preserved
loop-place-preserved c =
    let P : ℕ → Type 0 = λ place. Contains c.args.found.now (Field c.args.class place) in
    let items : Vec ℕ Global → List ℕ = λ v. v.items in
    elim c.if-has.branch [
      | then-has+in_ok-push w ↦
          subst (ArePlacesBelow P (c.loop-place.place + 1)) (sym (ap items w.places-is ∙ w.in_ok-push.ensures.items))
          (place_more P c.loop-place.place c.loop-place.places.items (c.has.ensures.0 w.if-has.true) c.loop-place.invariant)
      | else-has w ↦
          subst (ArePlacesBelow P (c.loop-place.place + 1)) (sym (ap items w.places-is))
          (place_less P c.loop-place.place c.loop-place.places.items (λ h. iff_false c.has.ensures w.if-has.false h) c.loop-place.invariant)
    ]

pub returns : goal.returns
returns c = all_places (λ place. Contains c.args.found.now (Field c.args.class place)) c.loop-place.place c.args.count c.loop-place.places.items (omega arith) c.loop-place.invariant
