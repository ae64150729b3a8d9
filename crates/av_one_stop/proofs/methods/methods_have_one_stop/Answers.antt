use Rattle.av_one_stop.proofs.Ordering.{Laws, none_stops, one_list, one_stop}
use Rattle.av_one_stop.proofs.methods.methods_have_one_stop.Goals as goal

pub returns-clause-stop : goal.returns-clause-stop
returns-clause-stop c = λ w classes rule another place other files.
    let laws : Laws = record { failure = c.methods_fail_once.ensures.failure; apart = c.methods_fail_once.ensures.apart; framed = c.methods_fail_once.ensures.framed } in
    one_stop laws w classes files rule another place other

pub returns-clause-apart : goal.returns-clause-apart
returns-clause-apart c = λ w classes rule place methods files.
    let laws : Laws = record { failure = c.methods_fail_once.ensures.failure; apart = c.methods_fail_once.ensures.apart; framed = c.methods_fail_once.ensures.framed } in
    none_stops laws w classes files rule place methods

pub returns-clause-methods : goal.returns-clause-methods
returns-clause-methods c = λ w classes methods others files.
    let laws : Laws = record { failure = c.methods_fail_once.ensures.failure; apart = c.methods_fail_once.ensures.apart; framed = c.methods_fail_once.ensures.framed } in
    one_list laws w classes files methods others
