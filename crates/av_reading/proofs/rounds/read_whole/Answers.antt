use Rattle.std.proofs.Common.{◌≡◌, ◌∙◌, ◌<◌, ◌≤◌, length, sym, arith}
use Rattle.av_reading.proofs.RoundLemmas.{begins, many_stop, memory_stop, nearer, source_stop, underway_more, whole}
use Rattle.av_reading.proofs.rounds.read_whole.Goals as goal

pub rounds-init : goal.rounds-init
rounds-init g c = begins _ _ _ c.new-reading.result c.new-reading.ensures.files c.new-reading.ensures.asked

pub returns-in_err-classes-clause-stops : goal.returns-in_err-classes-clause-stops
returns-in_err-classes-clause-stops g c =
    memory_stop c.collected_by_rounds.ensures.grows _ _ _ _ c.rounds.reading c.rounds.invariant c.from_residual.result c.from_residual.ensures.1

pub returns-then-len-gt-MOST_CLASSES-clause-stops : goal.returns-then-len-gt-MOST_CLASSES-clause-stops
returns-then-len-gt-MOST_CLASSES-clause-stops g c =
    let more : 8000 < length c.in_ok-classes.classes = omega (arith, c.len.ensures, c.if-len-gt-MOST_CLASSES.true) in
    many_stop c.collected_by_rounds.ensures.grows _ _ _ _ c.rounds.reading c.rounds.invariant c.as_slice.result.now c.as_slice.ensures.value
    c.in_ok-classes.classes c.in_ok-classes.ensures more

pub returns-in_err-read_all-clause-stops : goal.returns-in_err-read_all-clause-stops
returns-in_err-read_all-clause-stops g c =
    source_stop c.collected_by_rounds.ensures.grows _ _ _ _ c.rounds.reading c.rounds.invariant c.as_slice.result.now c.as_slice.ensures.value
    c.in_ok-classes.classes c.in_ok-classes.ensures c.as_slice-in-rounds.result.now c.as_slice-in-rounds.ensures
    c.from_residual-in_err-read_all.result _ c.in_err-read_all.field-0.0 c.from_residual-in_err-read_all.ensures.1 c.in_err-read_all.ensures.stops

pub returns-then-len-asked-clause-whole : goal.returns-then-len-asked-clause-whole
returns-then-len-asked-clause-whole g c =
    let at_most : length c.in_ok-classes.classes ≤ 8000 = omega (arith, c.len.ensures, c.if-len-gt-MOST_CLASSES.false) in
    let same : length c.read_all.new.self.asked ≡ length c.rounds.reading.asked = sym c.len-in-rounds.ensures ∙ c.if-len-asked.true ∙ c.len-asked.ensures in
    whole c.collected_by_rounds.ensures.grows _ _ _ _ c.rounds.reading c.rounds.invariant c.as_slice.result.now c.as_slice.ensures.value
    c.in_ok-classes.classes c.in_ok-classes.ensures c.as_slice-in-rounds.result.now c.as_slice-in-rounds.ensures
    _ c.read_all.new.self c.in_ok-read_all.ensures.goes same at_most c.in_ok-read_all.ensures.all

pub rounds-smaller : goal.rounds-smaller
rounds-smaller g c =
    let at_most : length c.in_ok-classes.classes ≤ 8000 = omega (arith, c.len.ensures, c.if-len-gt-MOST_CLASSES.false) in
    nearer c.collected_by_rounds.ensures.grows _ _ _ _ c.rounds.reading c.rounds.invariant c.as_slice.result.now c.as_slice.ensures.value
    c.in_ok-classes.classes c.in_ok-classes.ensures c.as_slice-in-rounds.result.now c.as_slice-in-rounds.ensures
    _ c.read_all.new.self c.in_ok-read_all.ensures.goes at_most
    (λ same. c.if-len-asked.false (c.len-in-rounds.ensures ∙ same ∙ sym c.len-asked.ensures))

pub rounds-preserved : goal.rounds-preserved
rounds-preserved g c =
    underway_more c.collected_by_rounds.ensures.grows _ _ _ _ c.rounds.reading c.rounds.invariant c.as_slice.result.now c.as_slice.ensures.value
    c.in_ok-classes.classes c.in_ok-classes.ensures c.as_slice-in-rounds.result.now c.as_slice-in-rounds.ensures
    _ c.read_all.new.self c.in_ok-read_all.ensures.goes
