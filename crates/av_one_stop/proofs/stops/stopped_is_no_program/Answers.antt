use Rattle.av_one_stop.proofs.Comparing.{no_program}
use Rattle.av_one_stop.proofs.Stages.{Laws}
use Rattle.av_one_stop.proofs.stops.stopped_is_no_program.Goals as goal

pub returns : goal.returns
returns c = λ folders main stop program.
    let laws : Laws = record {
      classes = c.applications_are_one.ensures.classes;
      given = c.applications_are_one.ensures.given;
      library = c.libraries_are_one.ensures;
      limits = c.collection_is_one.ensures.limits;
      collection = c.collection_is_one.ensures.failure;
      collects = c.collection_is_one.ensures.apart;
      found = c.collection_is_one.ensures.found;
      file = c.files_have_one_stop.ensures.stop;
      loads = c.files_have_one_stop.ensures.apart;
      hierarchy = c.hierarchies_fail_once.ensures.failure;
      sound = c.hierarchies_fail_once.ensures.apart;
      method = c.methods_have_one_stop.ensures.stop;
      accepts = c.methods_have_one_stop.ensures.apart;
      methods = c.methods_have_one_stop.ensures.methods;
    } in
    no_program laws folders main stop program
