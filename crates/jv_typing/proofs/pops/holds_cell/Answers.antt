use Rattle.std.proofs.Common.{[], refl}
use Rattle.std.proofs.lemmas.Bool.{false≢true}
use Rattle.jv_typing.proofs.pops.holds_cell.Goals as goal

pub returns-in-None : goal.returns-in-None
returns-in-None c =
    (λ no. absurd (false≢true no), λ h. absurd (c.in-None.ensures.none [] (record { top = c.args.words.now; whole = refl; holds = h })))
