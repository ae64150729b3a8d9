use Rattle.std.proofs.Common.{Err, ap, subst}
use Rattle.jv_types.specs.declared.desc.Desc.TheVariants as descs
use Rattle.jv_desc.specs.Texts.{IsFieldText}
use Rattle.jv_names.proofs.Refused.{prim_is_no_ref}
use Rattle.av_named.proofs.texts.reference_of.Goals as goal

pub returns-in-Ok-Prim-clause-none : goal.returns-in-Ok-Prim-clause-none
returns-in-Ok-Prim-clause-none c = λ type h.
    prim_is_no_ref c.args.text.now c.in-Ok-Prim.field-0-0 type (subst (IsFieldText c.args.text.now) c.in-Ok-Prim.field-0-is c.in-Ok-Prim.ensures.found) h

pub returns-in-Err-Bad-clause-none : goal.returns-in-Err-Bad-clause-none
returns-in-Err-Bad-clause-none c = λ type h. c.in-Err-Bad.ensures.bad (ap Err c.in-Err-Bad.field-0-is) (descs.Ref type) h
