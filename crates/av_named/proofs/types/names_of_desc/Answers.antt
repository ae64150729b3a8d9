use Rattle.std.proofs.Common.{sym, subst}
use Rattle.std.proofs.lemmas.Result.{on_ok_weaker}
use Rattle.jv_types.specs.declared.desc.Desc.{Desc}
use Rattle.jv_types.specs.declared.desc.Desc.TheVariants.{Prim, Ref}
use Rattle.av_collected.specs.Types.{HasClass}
use Rattle.av_named.specs.Appending.{Appends}
use Rattle.av_named.proofs.Appending.{appends_none}
use Rattle.av_named.proofs.types.names_of_desc.Goals as goal

pub returns-in-Prim : goal.returns-in-Prim
returns-in-Prim c =
    subst (λ (d : Desc). Appends (HasClass d) c.args.out.now.items c.args.out.now.items) (sym c.in-Prim.is)
    (appends_none (HasClass (Prim c.in-Prim.field-0)) c.args.out.now.items (λ x h. h))

pub returns-in-Ref : goal.returns-in-Ref
returns-in-Ref c =
    on_ok_weaker c.names_of_type.result
    (subst (λ (d : Desc). Appends (HasClass d) c.args.out.now.items c.names_of_type.new.out.items) (sym c.in-Ref.is)) c.names_of_type.ensures
