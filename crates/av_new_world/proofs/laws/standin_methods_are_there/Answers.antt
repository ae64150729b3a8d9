use Rattle.av_new_world.proofs.There.{are_there}
use Rattle.av_new_world.proofs.laws.standin_methods_are_there.Goals as goal

pub returns : goal.returns
returns c = λ w dims classes made may has. are_there w dims classes may made has
