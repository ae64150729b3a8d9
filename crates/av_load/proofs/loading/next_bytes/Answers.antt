use Rattle.std.proofs.Common.{ℕ, List, ◌∙◌, sym, ap}
use Rattle.std.proofs.lemmas.Result.{IfOk-weaker}
use Rattle.av_program.specs.Reads.{is_module_info}
use Rattle.av_load.proofs.Next.{next_given}
use Rattle.av_load.proofs.loading.next_bytes.Goals as goal

pub returns-clause-gives : goal.returns-clause-gives
returns-clause-gives g c =
    let counts = ap (λ (name : List ℕ). is_module_info name) (sym c.as_slice.ensures) ∙ sym c.is_module_info.ensures ∙ c.if-is_module_info.false in
    IfOk-weaker c.read_bytes.result _ _ (λ found is lib. next_given (g.H.Host.files c.args.host.now) c.args.app.now lib c.args.name.now (λ bytes. bytes.items) found counts is) c.read_bytes.ensures.gives
