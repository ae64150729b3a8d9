use Rattle.std.proofs.Common.{rules, sym}
use Rattle.std.proofs.lemmas.Cmp.{ranked}
use Rattle.std.proofs.lemmas.List.Sorted.{answers_always}
use Rattle.jv_types.proofs.Starts.{at_offset-at, search_none}
use Rattle.jv_verify.proofs.rows.map_at.Goals as goal

pub returns-in-Ok : goal.returns-in-Ok
returns-in-Ok c =
    let facts = c.in-Ok.ensures in
    let by_start = facts.position (λ row. row.0) (answers_always _ _ _ (λ f a r g called. search rules)) in
    let d = c.index-maps-place.result in
    let at = at_offset-at 0 c.from.result c.args.maps.now c.requires.rising c.in-Ok.place d facts.bound (ranked _ c.from.result _ (sym (by_start d))) in
    record { value = sym (rw c.from.ensures at at) }

pub returns-in-Err : goal.returns-in-Err
returns-in-Err c =
    let facts = c.in-Err.ensures in
    let by_start = facts.position (λ row. row.0) (answers_always _ _ _ (λ f a r g called. search rules)) in
    let none = search_none 0 c.from.result c.in-Err.field-0 c.args.maps.now c.requires.rising by_start facts.bound in
    record { value = sym (rw c.from.ensures at none) }
