use Rattle.std.proofs.Common.{sym, ◌∙◌}
use Rattle.std.proofs.lemmas.Bool.{false≢true}
use Rattle.std.proofs.lemmas.Result.{IfOk-weaker}
use Rattle.calls_lines.specs.First.Lines.{HasMethodText, HasTargetText}
use Rattle.calls_lines.specs.First.Adding.{IsTextOf}
use Rattle.calls_lines.proofs.Texts.{IsTextOf-own_target}
use Rattle.calls_lines.proofs.first.texts.target_text.Goals as goal

pub returns : goal.returns
returns c =
    let class = c.args.class.now in
    IfOk-weaker c.method_text.result (IsTextOf (HasMethodText class c.args.to)) (IsTextOf (HasTargetText class c.args.to))
    (λ found is. IsTextOf-own_target class c.args.to found (λ init. false≢true (sym c.if-is_object_init.false ∙ c.is_object_init.ensures.1 init)) is)
    c.method_text.ensures
