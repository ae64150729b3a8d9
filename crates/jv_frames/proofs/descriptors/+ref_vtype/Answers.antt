use Rattle.std.proofs.Common.{ap}
use Rattle.jv_types.specs.declared.frames.VType as types
use Rattle.jv_frames.proofs.References.{array_vtype}
use Rattle.jv_frames.proofs.descriptors.+ref_vtype.Goals as goal

pub returns-in_ok-new-in-Array : goal.returns-in_ok-new-in-Array
returns-in_ok-new-in-Array t c =
    array_vtype c.args.of.now c.in-Array.item c.get.result.now c.in_ok-item-in-Array.item (types.Array c.in_ok-new-in-Array.field-0) c.in-Array.is c.get.ensures
    c.in_ok-item-in-Array.ensures (ap types.Array c.in_ok-new-in-Array.ensures)
