use Rattle.av_named.proofs.Appending.{each_all, each_more, each_none}
use Rattle.av_named.specs.Named.{FieldNames}
use Rattle.av_named.proofs.members.names_of_fields.Goals as goal

pub loop-field-init : goal.loop-field-init
loop-field-init c = each_none FieldNames c.args.fields.now c.args.out.now.items

pub loop-field-preserved : goal.loop-field-preserved
loop-field-preserved c =
    each_more FieldNames c.args.fields.now c.loop-field.field-index c.field-item.result c.args.out.now.items c.loop-field.out.items c.names_of_field.new.out.items
    c.loop-field-test.true c.field-item.is c.loop-field.invariant c.in_ok-names_of_field.ensures

pub returns : goal.returns
returns c = each_all FieldNames c.args.fields.now c.loop-field.field-index c.args.out.now.items c.loop-field.out.items c.loop-field-test.false c.loop-field.invariant
