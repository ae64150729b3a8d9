use Rattle.std.proofs.Common.{rules, sym}
use Rattle.std.proofs.lemmas.Cmp.{ranked}
use Rattle.std.proofs.lemmas.List.Sorted.{answers_always}
use Rattle.jv_types.proofs.Starts.{at_offset-at, search_none}
use Rattle.jv_equality.proofs.framed.frame_at.Goals as goal

pub returns-in-Ok : goal.returns-in-Ok
returns-in-Ok c =
    let facts = c.in-Ok.ensures in
    let by_start = facts.position (λ row. row.0) (answers_always _ _ _ (λ f a r g called. search rules)) in
    let e = c.as_slice-frames.ensures in
    let d = c.index-frames-place.result in
    record { value = rw e (sym (at_offset-at 0 c.args.pc c.args.framed.now.frames c.requires.rising c.in-Ok.place d (rw (← e) facts.bound) (rw (← e) (ranked _ c.args.pc _ (sym (by_start d)))))) }

pub returns-in-Err : goal.returns-in-Err
returns-in-Err c =
    let facts = c.in-Err.ensures in
    let by_start = facts.position (λ row. row.0) (answers_always _ _ _ (λ f a r g called. search rules)) in
    let e = c.as_slice-frames.ensures in
    record { value = sym (search_none 0 c.args.pc c.in-Err.field-0 c.args.framed.now.frames c.requires.rising (rw (← e) by_start) (rw (← e) facts.bound)) }
