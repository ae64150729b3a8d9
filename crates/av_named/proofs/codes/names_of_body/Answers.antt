use Rattle.std.proofs.Common.{◌≡◌, ℕ, List, subst}
use Rattle.std.proofs.lemmas.Result.{on_ok_weaker}
use Rattle.jv_types.specs.declared.body.Handler.{Handler}
use Rattle.jv_types.specs.declared.instruction.Insn.{Insn}
use Rattle.av_collected.specs.declared.method_body.MethodBody.{MethodBody}
use Rattle.av_named.specs.Appending.{Appends, OfEach}
use Rattle.av_named.specs.Named.{BodyNames, HandlerNames, RowNames}
use Rattle.av_named.proofs.Appending.{appends_both}
use Rattle.av_named.proofs.codes.names_of_body.Goals as goal

parts : (method : MethodBody) (rows : List (ℕ × Insn)) (handlers : List Handler) (a b d : List (List ℕ)) → rows ≡ method.body.insns → handlers ≡ method.body.handlers
    → Appends (OfEach RowNames rows) a b → Appends (OfEach HandlerNames handlers) b d → Appends (BodyNames method) a d
parts method rows handlers a b d first second p q =
    appends_both (OfEach RowNames method.body.insns) (OfEach HandlerNames method.body.handlers) a b d
    (subst (λ (l : List (ℕ × Insn)). Appends (OfEach RowNames l) a b) first p) (subst (λ (l : List Handler). Appends (OfEach HandlerNames l) b d) second q)

pub returns : goal.returns
returns c =
    on_ok_weaker c.names_of_handlers.result
    (parts c.args.method.now c.as_slice.result.now c.as_slice-2.result.now c.args.out.now.items c.names_of_rows.new.out.items c.names_of_handlers.new.out.items c.as_slice.ensures c.as_slice-2.ensures c.in_ok-names_of_rows.ensures)
    c.names_of_handlers.ensures
