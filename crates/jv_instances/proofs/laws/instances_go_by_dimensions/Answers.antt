use Rattle.jv_instances.proofs.Bases.{by_dimensions}
use Rattle.jv_instances.proofs.laws.instances_go_by_dimensions.Goals as goal

pub returns : goal.returns
returns _ = λ w base of dims of_dims type other distinct is are. by_dimensions w distinct base of dims of_dims type other is are
