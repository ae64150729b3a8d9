use Rattle.std.proofs.Common.{ap, ◌∙◌}
use Rattle.std.specs.Option.{option_map}
use Rattle.std.specs.Ordering.{nat_cmp}
use Rattle.jv_table.specs.ClassRows.{tag_form}
use Rattle.jv_table.specs.Rows.{row_of}
use Rattle.jv_table.proofs.Forms.{row_of-forms}
use Rattle.jv_table.proofs.class_tables.pool_tag.Goals as goal

pub returns : goal.returns
returns c =
    ap (option_map tag_form) c.find.ensures.value ∙ row_of-forms tag_form c.args.tag c.pool_tags.result ∙ ap (row_of nat_cmp c.args.tag) c.pool_tags.ensures
