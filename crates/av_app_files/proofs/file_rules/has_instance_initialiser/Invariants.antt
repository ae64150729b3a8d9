use Rattle.av_app_files.proofs.Instances.{NoneInstance}
use Rattle.av_app_files.proofs.file_rules.has_instance_initialiser.Given as goal

abbrev pub invariant-loop-method : goal.invariant-loop-method
invariant-loop-method l = NoneInstance l.class l.methods l.method-index
