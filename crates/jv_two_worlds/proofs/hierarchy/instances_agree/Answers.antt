use Rattle.jv_two_worlds.proofs.Instances.{sub_named, interface_named, instance}
use Rattle.jv_two_worlds.proofs.hierarchy.instances_agree.Goals as goal

pub returns-clause-by_name : goal.returns-clause-by_name
returns-clause-by_name _ = λ w v to c name of inside named. sub_named inside c name of named

pub returns-clause-interface : goal.returns-clause-interface
returns-clause-interface _ = λ w v to c name inside named. interface_named inside c name named

pub returns-clause-by_type : goal.returns-clause-by_type
returns-clause-by_type _ = λ w v to type of inside there. instance inside type of there
