-- A primitive type is none of a reference, and what isn't a descriptor is none of one.
use Rattle.std.proofs.Common.{ap, subst, Err}
use Rattle.jv_types.specs.declared.desc.Desc.TheVariants as descs
use Rattle.jv_desc.specs.Texts.{IsFieldText}
use Rattle.jv_names.proofs.Refused.{prim_is_no_ref}
use Rattle.jv_names.proofs.classes.array_of.Goals as goal

pub returns-in-Ok-Prim : goal.returns-in-Ok-Prim
returns-in-Ok-Prim c = λ type h. prim_is_no_ref c.args.text.now c.in-Ok-Prim.field-0-0 type (subst (IsFieldText c.args.text.now) c.in-Ok-Prim.field-0-is c.in-Ok-Prim.ensures.found) h

pub returns-in-Err-Bad : goal.returns-in-Err-Bad
returns-in-Err-Bad c = λ type h. c.in-Err-Bad.ensures.bad (ap Err c.in-Err-Bad.field-0-is) (descs.Ref type) h
