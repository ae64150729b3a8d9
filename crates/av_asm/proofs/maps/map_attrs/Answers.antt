-- The table is put after its name, where a frame stands.
use Rattle.std.proofs.Common.{sym, ◌∙◌}
use Rattle.std.specs.Ordering.{nat_cmp}
use Rattle.std.specs.BTreeSet.{contains}
use Rattle.av_asm.proofs.Tables.{no_table, table_put, name_fails, frames_fail}
use Rattle.av_asm.proofs.maps.map_attrs.Goals as goal

pub returns-then-not-has_map-clause-put : goal.returns-then-not-has_map-clause-put
returns-then-not-has_map-clause-put c =
    no_table (contains nat_cmp c.args.targets.now) c.args.rows.now c.args.pool.now c.new.result.items (sym c.has_map.ensures ∙ c.if-not-has_map.true) c.new.ensures.items

pub returns-in_ok-one_table-in-Ok-map_frames-clause-put : goal.returns-in_ok-one_table-in-Ok-map_frames-clause-put
returns-in_ok-one_table-in-Ok-map_frames-clause-put c =
    table_put (contains nat_cmp c.args.targets.now) c.args.rows.now c.args.pool.now c.add_text.new.pool c.map_frames.new.pool c.in_ok-text.text.items c.in-Ok.name c.in-Ok-map_frames.frames.items c.in_ok-one_table-in-Ok-map_frames.field-0.items
    (sym c.has_map.ensures ∙ c.if-not-has_map.false) (c.in_ok-text.ensures.items ∙ c.as_slice.ensures) c.in-Ok.ensures.put c.in-Ok-map_frames.ensures.put c.in_ok-one_table-in-Ok-map_frames.ensures

pub returns-in-Err-map_frames-clause-put : goal.returns-in-Err-map_frames-clause-put
returns-in-Err-map_frames-clause-put c =
    frames_fail (contains nat_cmp c.args.targets.now) c.args.rows.now c.args.pool.now c.add_text.new.pool c.in_ok-text.text.items c.in-Ok.name c.in-Err-map_frames.e
    (sym c.has_map.ensures ∙ c.if-not-has_map.false) (c.in_ok-text.ensures.items ∙ c.as_slice.ensures) c.in-Ok.ensures.put c.in-Err-map_frames.ensures.put

pub returns-in-Err-clause-put : goal.returns-in-Err-clause-put
returns-in-Err-clause-put c =
    name_fails (contains nat_cmp c.args.targets.now) c.args.rows.now c.args.pool.now c.in_ok-text.text.items c.in-Err.e (sym c.has_map.ensures ∙ c.if-not-has_map.false) (c.in_ok-text.ensures.items ∙ c.as_slice.ensures)
    c.in-Err.ensures.put
