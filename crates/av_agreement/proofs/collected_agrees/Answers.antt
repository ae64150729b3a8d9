use Rattle.av_agreement.proofs.Agreeing.{Laws, agrees}
use Rattle.av_agreement.proofs.Kept.{enough}
use Rattle.av_agreement.proofs.collected_agrees.Goals as goal

pub returns : goal.returns
returns c = λ given library found are_given map collected passed world distinct.
    let laws : Laws = record {
      fields = c.fields_resolve_to_kept.ensures.found;
      methods = c.methods_resolve_to_kept.ensures.found;
      interface_methods = c.interface_methods_resolve_to_kept.ensures.found;
      by_virtual = c.calls_select_kept.ensures.by_virtual;
      by_interface = c.calls_select_kept.ensures.by_interface;
      by_special = c.calls_select_kept.ensures.by_special;
    } in
    let own = enough given library found are_given map collected passed world distinct in
    agrees laws own.1
