use Rattle.std.proofs.Common.{List, [], ◌∷◌, ◌++◌, map, take, get_or, sym, ap, ◌∙◌}
use Rattle.std.proofs.lemmas.List.{take_more, map-append}
use Rattle.jv_table.specs.declared.code_tables.Cell.{Cell}
use Rattle.jv_table.specs.declared.code_tables.Cell.TheVariants.{Int}
use Rattle.jv_types.specs.declared.frames.VType.{VType, Top}
use Rattle.jv_verify_refs.proofs.types.tops.Goals as goal

pub loop-cell-preserved : goal.loop-cell-preserved
loop-cell-preserved c =
    let f : Cell → VType = λ cell. Top in
    let cells = c.args.cells.now in
    let i = c.loop-cell._cell-index in
    c.in_ok-push.ensures.items ∙ ap (λ (ws : List VType). ws ++ Top ∷ []) c.loop-cell.invariant
    ∙ sym (ap (map f) (take_more cells i Int c.loop-cell-test.true) ∙ map-append f (take i cells) (get_or cells i Int ∷ []))
