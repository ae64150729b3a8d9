use Rattle.std.proofs.Common.{◌≡◌, ℕ, List, Some, ap, sym, ◌∙◌}
use Rattle.std.proofs.lemmas.Option.{same_Some}
use Rattle.std.proofs.lemmas.Result.{on_ok_weaker}
use Rattle.std.specs.Option.{option_copied}
use Rattle.av_named.proofs.Appending.{appends_same}
use Rattle.av_named.proofs.types.push_some.Goals as goal

pub returns-in-Some : goal.returns-in-Some
returns-in-Some c =
    let is = ap option_copied c.in-Some.is in
    on_ok_weaker c.push_copy.result
    (appends_same (λ each. c.in-Some.name.now ≡ each) (λ each. option_copied c.args.name ≡ Some each) c.args.out.now.items c.push_copy.new.out.items
    (λ x e. is ∙ ap (λ (y : List ℕ). Some y) e) (λ x e. same_Some c.in-Some.name.now x (sym is ∙ e)))
    c.push_copy.ensures
