use Rattle.std.proofs.lemmas.Bool.{false≢true}
use Rattle.av_types.proofs.Types.{one_named}
use Rattle.av_types.proofs.instances.is_of_named.Goals as goal

pub returns-in-None : goal.returns-in-None
returns-in-None c = (λ h. absurd (false≢true h), λ found. absurd (c.in-None.ensures.none found.0.number found.1))

pub returns-in-Some : goal.returns-in-Some
returns-in-Some c =
    one_named c.args.world.now c.args.t.now c.args.name.now c.in-Some.d c.is_of_class.result
    (λ a e first second. c.in-Some.ensures.world.numbered.distinct a e c.args.name.now first second) c.in-Some.ensures.found c.is_of_class.ensures
