use Rattle.av_one_stop.proofs.Comparing.{one_first}
use Rattle.av_one_stop.proofs.Stages.{Laws}
use Rattle.av_one_stop.proofs.stops.first_stop_is_one.Goals as goal

pub returns : goal.returns
returns c = λ folders main stop other.
    let laws : Laws = record {
      classes = c.applications_are_one.ensures.classes;
      given = c.applications_are_one.ensures.given;
      library = c.libraries_are_one.ensures;
      limits = c.collection_is_one.ensures.limits;
      collection = c.collection_is_one.ensures.failure;
      collects = c.collection_is_one.ensures.apart;
      found = c.collection_is_one.ensures.found;
      file = c.files_have_one_stop.ensures.stop;
      loads = c.files_have_one_stop.ensures.apart;
      hierarchy = c.hierarchies_fail_once.ensures.failure;
      sound = c.hierarchies_fail_once.ensures.apart;
      method = c.methods_have_one_stop.ensures.stop;
      accepts = c.methods_have_one_stop.ensures.apart;
      methods = c.methods_have_one_stop.ensures.methods;
    } in
    one_first laws folders main stop other
