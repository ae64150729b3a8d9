use Rattle.av_hierarchy.proofs.Finding.{final_at}
use Rattle.av_hierarchy.proofs.finals.is_final_method.Goals as goal

pub returns : goal.returns
returns c = final_at c.args.world.now c.args.m c.method_shape.result.now c.has_final_flag.result c.method_shape.ensures c.has_final_flag.ensures
