use Rattle.av_checkable.proofs.Checking.{Laws, analysable, checkable}
use Rattle.av_checkable.proofs.programs.accepted_programs_are_checkable.Goals as goal

pub returns-clause-checkable : goal.returns-clause-checkable
returns-clause-checkable c = λ program p.
    let laws : Laws = record {
      form = c.decoded_bodies_keep_the_form.ensures;
      typed = c.verified_methods_are_kind_safe.ensures.typed;
      no_static_init = c.collected_constructors_are_instance_methods.ensures;
    } in
    checkable laws program p

pub returns-clause-analysable : goal.returns-clause-analysable
returns-clause-analysable c = λ program class p start.
    let laws : Laws = record {
      form = c.decoded_bodies_keep_the_form.ensures;
      typed = c.verified_methods_are_kind_safe.ensures.typed;
      no_static_init = c.collected_constructors_are_instance_methods.ensures;
    } in
    analysable laws program p class start
