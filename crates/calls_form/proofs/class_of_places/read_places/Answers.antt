-- Each turn of the loop is one member.
use Rattle.std.proofs.Common.{◌∙◌, sym, ap}
use Rattle.std.specs.Map.{lookup}
use Rattle.std.specs.BTreeMap.{is_at}
use Rattle.calls_form.specs.declared.class_of_places.MemberKey.{MemberKey}
use Rattle.calls_form.specs.ClassesPlaces.{place_of, key_cmp}
use Rattle.calls_form.proofs.ClassesSteps.{some_value, none_value}
use Rattle.calls_form.proofs.ClassesPlaces.{apart_none, found_twice, places_more, apart_more}
use Rattle.calls_form.proofs.class_of_places.read_places.Goals as goal

pub loop-place-init : goal.loop-place-init
unfolding place_of
loop-place-init c = record { places = λ q. ap (lookup (is_at (key_cmp q))) c.new-places.ensures.empty; apart = apart_none }

pub returns-then-is_some-clause-malformed : goal.returns-then-is_some-clause-malformed
returns-then-is_some-clause-malformed c = λ _ apart.
    let k : MemberKey = record { name = c.in_ok-copy.field-0; desc = c.in_ok-copy-2.field-0 } in
    let p = some_value c.in_ok-insert.field-0 (sym c.is_some.ensures ∙ c.if-is_some.true) in
    found_twice c.args.labels.now c.loop-place.place c.index-labels-place.result c.loop-place.places k p.0 c.loop-place-test.true c.index-labels-place.is c.loop-place.invariant.places c.in_ok-copy.ensures c.in_ok-copy-2.ensures (sym p.1 ∙ c.in_ok-insert.ensures.old) apart

pub loop-place-preserved : goal.loop-place-preserved
loop-place-preserved c =
    let k : MemberKey = record { name = c.in_ok-copy.field-0; desc = c.in_ok-copy-2.field-0 } in
    let absent = sym c.in_ok-insert.ensures.old ∙ none_value c.in_ok-insert.field-0 (sym c.is_some.ensures ∙ c.if-is_some.false) in
    record {
      places = places_more c.args.labels.now c.loop-place.place c.index-labels-place.result c.loop-place.places c.insert.new.self k c.loop-place-test.true c.index-labels-place.is c.loop-place.invariant.places c.in_ok-copy.ensures c.in_ok-copy-2.ensures absent c.in_ok-insert.ensures.updates;
      apart = apart_more c.args.labels.now c.loop-place.place c.index-labels-place.result c.loop-place.places k c.loop-place-test.true c.index-labels-place.is c.loop-place.invariant.places c.in_ok-copy.ensures c.in_ok-copy-2.ensures absent c.loop-place.invariant.apart;
    }
