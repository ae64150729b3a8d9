use Rattle.av_collected.proofs.Ending.{Laws, collected_ends}
use Rattle.av_collected.proofs.Growing.{collected_grows}
use Rattle.av_collected.proofs.laws.collected_by_rounds.Goals as goal

pub returns-clause-grows : goal.returns-clause-grows
returns-clause-grows _ = λ given part library inside item h. collected_grows part library inside given item h

pub returns-clause-ends : goal.returns-clause-ends
returns-clause-ends c = λ given part library files out item.
    let laws : Laws = record {
      any_order = c.worlds_stand_in.ensures.in_any_order;
      fields = c.fields_resolve_alike.ensures.found;
      methods = c.methods_resolve_alike.ensures.found;
      interface_methods = c.interface_methods_resolve_alike.ensures.found;
      longer = c.worlds_stand_in.ensures.longer;
    } in
    (λ h. collected_grows part library out.inside given item h, λ h. collected_ends laws given part library files out item h)
