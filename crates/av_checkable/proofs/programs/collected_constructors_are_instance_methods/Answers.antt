use Rattle.av_checkable.proofs.Constructors.{Laws, no_static_init}
use Rattle.av_checkable.proofs.programs.collected_constructors_are_instance_methods.Goals as goal

pub returns : goal.returns
returns c = λ program p.
    let laws : Laws = record {
      body = c.codes_have_one_body.ensures;
      text = c.methods_have_one_text.ensures.text;
      typed = c.verified_methods_are_kind_safe.ensures.typed;
      kinds = c.verified_methods_are_kind_safe.ensures.kinds;
    } in
    no_static_init laws p.classes p.given p.library p.found program.methods p.is_given p.is_library p.stated p.collected p.fails_not p.accepted
