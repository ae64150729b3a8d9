use Rattle.jv_two_worlds.proofs.Accessing.{one_package}
use Rattle.jv_two_worlds.proofs.access.packages_agree.Goals as goal

pub returns : goal.returns
returns _ = λ w v to c d inside here there. one_package inside c d here there
