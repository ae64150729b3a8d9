use Rattle.std.proofs.Common.{◌≡◌, Bool, subst}
use Rattle.std.specs.Prelude.{IfOk, if◌then◌else◌}
use Rattle.av_asm.specs.Built.{Built}
use Rattle.av_standin_of.specs.Items.{item, static_rows, instance_rows}
use Rattle.av_templates.specs.Putting.{with_rows}
use Rattle.av_items.proofs.fields.field_item.Goals as goal

pub returns-else-is_static_field : goal.returns-else-is_static_field
returns-else-is_static_field c =
    let of = c.args.of.now in
    subst (λ (is : Bool). IfOk c.instance_rows.result (λ (made : Built). made
    ≡ with_rows c.args.builder (item (if is then static_rows of.class of.field of.kind else instance_rows of.class of.field of.kind)).rows))
    c.if-is_static_field.ensures c.instance_rows.ensures
