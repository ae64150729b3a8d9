use Rattle.av_whole.proofs.Inside.{Laws, whole}
use Rattle.av_whole.proofs.laws.worlds_are_whole.Goals as goal

pub returns-clause-whole : goal.returns-clause-whole
returns-clause-whole c = λ shapes w distinct world inside s h.
    let laws : Laws = record {
      any_order = c.worlds_stand_in.ensures.in_any_order;
      longer = c.worlds_stand_in.ensures.longer;
      above = c.subtypes_agree.ensures.above;
      properly = c.subtypes_agree.ensures.properly_above;
      apart = c.classes_agree.ensures.apart;
    } in
    whole laws shapes w distinct world inside s h

pub returns-clause-greatest : goal.returns-clause-greatest
returns-clause-greatest c = λ shapes w v distinct have world inside s h.
    let laws : Laws = record {
      any_order = c.worlds_stand_in.ensures.in_any_order;
      longer = c.worlds_stand_in.ensures.longer;
      above = c.subtypes_agree.ensures.above;
      properly = c.subtypes_agree.ensures.properly_above;
      apart = c.classes_agree.ensures.apart;
    } in
    have.all s (whole laws shapes w distinct world inside s h)
