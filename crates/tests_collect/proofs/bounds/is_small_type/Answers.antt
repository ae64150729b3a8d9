use Rattle.std.proofs.Common.{ap}
use Rattle.av_collected.specs.Types.{dims_of}
use Rattle.jv_desc.specs.Texts.{ref_dims}
use Rattle.tests_collect.proofs.BoundLemmas.{ref_small}
use Rattle.tests_collect.proofs.bounds.is_small_type.Goals as goal

pub returns-in-Ref : goal.returns-in-Ref
returns-in-Ref c = ref_small c.args.desc.now (ref_dims c.in-Ref.of) c.capped_dims.result (ap dims_of c.in-Ref.is) c.capped_dims.ensures
