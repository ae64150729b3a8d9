use Rattle.av_closure.proofs.EndLemmas.{Laws, slice_apart, slice_clauses, slice_items, slice_library, stopped}
use Rattle.av_closure.proofs.collecting.collect.Goals as goal

pub answer_over-requires : goal.answer_over-requires
answer_over-requires g c =
    let S = g.S.ShapeSource in
    record {
      given = c.requires;
      library = slice_library (record { shapes = c.args.app.now; maps = c.args.maps.now; bodies = c.args.bodies.now }) S.stated
          (record { shapes = S.shapes c.args.source.now; kept = S.kept c.args.source.now; asked = S.asked c.args.source.now; answered = S.answered c.args.source.now; passed = S.passed c.args.source.now; failed = S.failed c.args.source.now; faults = S.faults c.args.source.now })
          (record { shapes = S.shapes c.read_whole.new.source; kept = S.kept c.read_whole.new.source; asked = S.asked c.read_whole.new.source; answered = S.answered c.read_whole.new.source; passed = S.passed c.read_whole.new.source; failed = S.failed c.read_whole.new.source; faults = S.faults c.read_whole.new.source })
          c.in_ok-whole.whole.files.items c.as_slice.result.now c.in_ok-whole.whole.classes c.as_slice-2.result.now c.in_ok-whole.ensures.whole c.as_slice.ensures.value;
      apart = slice_apart (record { shapes = c.args.app.now; maps = c.args.maps.now; bodies = c.args.bodies.now }) S.stated
          (record { shapes = S.shapes c.args.source.now; kept = S.kept c.args.source.now; asked = S.asked c.args.source.now; answered = S.answered c.args.source.now; passed = S.passed c.args.source.now; failed = S.failed c.args.source.now; faults = S.faults c.args.source.now })
          (record { shapes = S.shapes c.read_whole.new.source; kept = S.kept c.read_whole.new.source; asked = S.asked c.read_whole.new.source; answered = S.answered c.read_whole.new.source; passed = S.passed c.read_whole.new.source; failed = S.failed c.read_whole.new.source; faults = S.faults c.read_whole.new.source })
          c.in_ok-whole.whole.files.items c.as_slice.result.now c.in_ok-whole.whole.classes c.as_slice-2.result.now c.in_ok-whole.ensures.whole c.as_slice.ensures.value;
      items = slice_items (record { shapes = c.args.app.now; maps = c.args.maps.now; bodies = c.args.bodies.now }) S.stated
          (record { shapes = S.shapes c.args.source.now; kept = S.kept c.args.source.now; asked = S.asked c.args.source.now; answered = S.answered c.args.source.now; passed = S.passed c.args.source.now; failed = S.failed c.args.source.now; faults = S.faults c.args.source.now })
          (record { shapes = S.shapes c.read_whole.new.source; kept = S.kept c.read_whole.new.source; asked = S.asked c.read_whole.new.source; answered = S.answered c.read_whole.new.source; passed = S.passed c.read_whole.new.source; failed = S.failed c.read_whole.new.source; faults = S.faults c.read_whole.new.source })
          c.in_ok-whole.whole.files.items c.as_slice.result.now c.in_ok-whole.whole.classes c.as_slice-2.result.now c.in_ok-whole.ensures.whole c.as_slice.ensures.value c.as_slice-2.ensures;
    }

pub returns-in_err-whole : goal.returns-in_err-whole
returns-in_err-whole g c =
    let S = g.S.ShapeSource in
    let t =
    stopped (record { shapes = c.args.app.now; maps = c.args.maps.now; bodies = c.args.bodies.now }) S.stated
    (record { shapes = S.shapes c.args.source.now; kept = S.kept c.args.source.now; asked = S.asked c.args.source.now; answered = S.answered c.args.source.now; passed = S.passed c.args.source.now; failed = S.failed c.args.source.now; faults = S.faults c.args.source.now })
    (record { shapes = S.shapes c.read_whole.new.source; kept = S.kept c.read_whole.new.source; asked = S.asked c.read_whole.new.source; answered = S.answered c.read_whole.new.source; passed = S.passed c.read_whole.new.source; failed = S.failed c.read_whole.new.source; faults = S.faults c.read_whole.new.source })
    c.from_residual.result c.in_err-whole.field-0.0 c.from_residual.ensures.1 c.in_err-whole.ensures.stops in
    record {
      collected = t.collected;
      fit = t.fit;
      few = t.few;
      form = t.form;
      missing = t.missing;
      apart = t.apart;
      limit = t.limit;
      many = t.many;
      too_much = t.too_much;
      read = t.read;
      stated = t.stated;
      agrees = t.agrees;
      asked_grows = t.asked_grows;
      answered_grows = t.answered_grows;
      asked_past = t.asked_past;
      asked_once = t.asked_once;
      asked_collected = t.asked_collected;
      answered_all = t.answered_all;
      shapes_kept = t.shapes_kept;
      host_kept = t.host_kept;
      passed_stays = t.passed_stays;
      fault_counted = t.fault_counted;
      faults_kept = t.faults_kept;
      never_falls = t.never_falls;
      failed_last = t.failed_last;
      failed_kept = t.failed_kept;
    }

pub returns : goal.returns
returns g c =
    let S = g.S.ShapeSource in
    let laws : Laws = record {
      grows = c.collected_by_rounds.ensures.grows;
      ends = c.collected_by_rounds.ensures.ends;
      unfit = c.answers_by_rounds.ensures.unfit;
      missing = c.answers_by_rounds.ensures.missing;
      apart = c.answers_by_rounds.ensures.apart;
      collected = c.answers_by_rounds.ensures.collected;
      agrees = c.collected_agrees.ensures;
    } in
    let t =
    slice_clauses (record { shapes = c.args.app.now; maps = c.args.maps.now; bodies = c.args.bodies.now }) S.stated
    (record { shapes = S.shapes c.args.source.now; kept = S.kept c.args.source.now; asked = S.asked c.args.source.now; answered = S.answered c.args.source.now; passed = S.passed c.args.source.now; failed = S.failed c.args.source.now; faults = S.faults c.args.source.now })
    (record { shapes = S.shapes c.read_whole.new.source; kept = S.kept c.read_whole.new.source; asked = S.asked c.read_whole.new.source; answered = S.answered c.read_whole.new.source; passed = S.passed c.read_whole.new.source; failed = S.failed c.read_whole.new.source; faults = S.faults c.read_whole.new.source })
    c.in_ok-whole.whole.files.items c.as_slice.result.now c.in_ok-whole.whole.classes c.as_slice-2.result.now c.in_ok-whole.ensures.whole c.as_slice.ensures.value
    laws c.requires c.answer_over.result c.answer_over.ensures in
    record {
      collected = t.collected;
      fit = t.fit;
      few = t.few;
      form = t.form;
      missing = t.missing;
      apart = t.apart;
      limit = t.limit;
      many = t.many;
      too_much = t.too_much;
      read = t.read;
      stated = t.stated;
      agrees = t.agrees;
      asked_grows = t.asked_grows;
      answered_grows = t.answered_grows;
      asked_past = t.asked_past;
      asked_once = t.asked_once;
      asked_collected = t.asked_collected;
      answered_all = t.answered_all;
      shapes_kept = t.shapes_kept;
      host_kept = t.host_kept;
      passed_stays = t.passed_stays;
      fault_counted = t.fault_counted;
      faults_kept = t.faults_kept;
      never_falls = t.never_falls;
      failed_last = t.failed_last;
      failed_kept = t.failed_kept;
    }
