use Rattle.av_dims.proofs.Most.{text_is, text_none, text_small, text_some}
use Rattle.av_dims.proofs.texts.greatest_in_text.Goals as goal

pub returns-in-None : goal.returns-in-None
returns-in-None c = text_none c.args.text.now c.as_slice.result.now c.in_ok-type_of.field-0 c.as_slice.ensures c.in-None.is c.in_ok-type_of.ensures.none

pub type_dims-requires : goal.type_dims-requires
type_dims-requires c =
    text_small c.args.text.now c.in-Some.of (text_is c.args.text.now c.as_slice.result.now c.in_ok-type_of.field-0 c.in-Some.of c.as_slice.ensures c.in-Some.is c.in_ok-type_of.ensures.found) c.requires

pub returns-in-Some : goal.returns-in-Some
returns-in-Some c =
    text_some c.args.text.now c.in-Some.of c.type_dims.result c.greater.result
    (text_is c.args.text.now c.as_slice.result.now c.in_ok-type_of.field-0 c.in-Some.of c.as_slice.ensures c.in-Some.is c.in_ok-type_of.ensures.found)
    c.type_dims.ensures c.greater.ensures.left c.greater.ensures.right c.greater.ensures.one
