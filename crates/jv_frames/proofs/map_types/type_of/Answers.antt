use Rattle.std.proofs.Common.{sym, ◌∙◌}
use Rattle.jv_frames.proofs.Determined.{numbered_found}
use Rattle.jv_frames.proofs.map_types.type_of.Goals as goal

pub returns-in-None : goal.returns-in-None
returns-in-None c = numbered_found c.args.pool.now c.args.t.now c.numbered_type.result (sym c.plain_type.ensures ∙ c.in-None.is) c.numbered_type.ensures
