use Rattle.av_collected.specs.Naming.{Application}
use Rattle.av_stops.specs.Applications.{IsGivenBy}
use Rattle.av_given.proofs.Asked.{are_given}
use Rattle.av_given.proofs.Wholes.{given_from}
use Rattle.av_given.proofs.given.given_of.Goals as goal

pub returns-clause-given : goal.returns-clause-given
returns-clause-given c =
    given_from c.args.classes.now c.args.shapes c.in_ok-found.found.maps.items c.in_ok-found.found.bodies.items c.from_vec-maps.result c.from_vec-bodies.result c.requires.shaped.stated c.from_vec-maps.ensures c.from_vec-bodies.ensures c.in_ok-found.ensures.maps c.in_ok-found.ensures.bodies

pub returns-clause-collectable : goal.returns-clause-collectable
returns-clause-collectable c =
    let given : Application = record { shapes = c.args.shapes; maps = c.from_vec-maps.result; bodies = c.from_vec-bodies.result } in
    let by : IsGivenBy c.args.classes.now given =
    given_from c.args.classes.now c.args.shapes c.in_ok-found.found.maps.items c.in_ok-found.found.bodies.items c.from_vec-maps.result c.from_vec-bodies.result c.requires.shaped.stated c.from_vec-maps.ensures c.from_vec-bodies.ensures c.in_ok-found.ensures.maps c.in_ok-found.ensures.bodies in
    are_given c.args.classes.now given c.requires.shaped.of_files c.requires.few c.requires.rising by
