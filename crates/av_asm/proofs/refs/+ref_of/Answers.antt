-- The type of an array by that of its items.
use Rattle.std.proofs.Common.{Some, ap, ◌∙◌}
use Rattle.jv_types.specs.declared.desc.RefType.{RefType}
use Rattle.jv_types.specs.declared.desc.RefType as refs
use Rattle.av_asm.proofs.RefTypes.{array_ref, array_none}
use Rattle.av_asm.proofs.refs.+ref_of.Goals as goal

pub returns-in_ok-new-in-Some : goal.returns-in_ok-new-in-Some
returns-in_ok-new-in-Some t c =
    ap (λ (r : RefType). Some (refs.Array r)) c.in_ok-new-in-Some.ensures
    ∙ array_ref c.args.of.now c.in-Array.item c.get.result.now c.in_ok-item-in-Array.field-0 c.in-Some.item c.in-Array.is c.get.ensures c.in_ok-item-in-Array.ensures c.in-Some.is

pub returns-in-None : goal.returns-in-None
returns-in-None t c =
    array_none c.args.of.now c.in-Array.item c.get.result.now c.in_ok-item-in-Array.field-0 c.in-Array.is c.get.ensures c.in_ok-item-in-Array.ensures c.in-None.is
