use Rattle.std.proofs.Common.{rules, sym}
use Rattle.std.proofs.lemmas.Cmp.{ranked}
use Rattle.std.proofs.lemmas.List.Sorted.{answers_always}
use Rattle.jv_types.proofs.Starts.{at_offset-at, search_none}
use Rattle.jv_verify.proofs.rows.row_at.Goals as goal

pub returns-in-Ok : goal.returns-in-Ok
returns-in-Ok c =
    let facts = c.in-Ok.ensures in
    let by_start = facts.position (λ row. row.0) (answers_always _ _ _ (λ f a r g called. search rules)) in
    let d = c.index-rows-place.result in
    record { value = sym (at_offset-at 0 c.args.pc c.args.rows.now c.requires.rising c.in-Ok.place d facts.bound (ranked _ c.args.pc _ (sym (by_start d)))) }

pub returns-in-Err : goal.returns-in-Err
returns-in-Err c =
    let facts = c.in-Err.ensures in
    let by_start = facts.position (λ row. row.0) (answers_always _ _ _ (λ f a r g called. search rules)) in
    record { value = sym (search_none 0 c.args.pc c.in-Err.field-0 c.args.rows.now c.requires.rising by_start facts.bound) }
