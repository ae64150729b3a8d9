-- The map finds the first member with the key's name and descriptor.
use Rattle.std.proofs.Common.{Some, None}
use Rattle.calls_form.specs.ClassesPlaces.{all_texts}
use Rattle.calls_form.proofs.ClassesPlaces.{place_is}
use Rattle.calls_form.proofs.class_of_places.find_place.Goals as goal

pub returns-in-None : goal.returns-in-None
returns-in-None c = place_is (all_texts c.args.labels.now) c.args.places.now (record { name = c.in_ok-copy.field-0; desc = c.in_ok-copy-2.field-0 }) c.args.name.now c.args.desc.now None c.requires c.in_ok-copy.ensures c.in_ok-copy-2.ensures c.in-None.ensures.value

pub returns : goal.returns
returns c = place_is (all_texts c.args.labels.now) c.args.places.now (record { name = c.in_ok-copy.field-0; desc = c.in_ok-copy-2.field-0 }) c.args.name.now c.args.desc.now (Some c.in-Some.place.now) c.requires c.in_ok-copy.ensures c.in_ok-copy-2.ensures c.in-Some.ensures.value
