use Rattle.std.proofs.Common.{◌≡◌, ℕ, List, None, Some, sym, subst, ◌∙◌}
use Rattle.std.proofs.lemmas.Option.{none-some, same_Some}
use Rattle.std.proofs.lemmas.Result.{on_ok_weaker}
use Rattle.jv_types.specs.declared.desc.Desc.{Desc}
use Rattle.av_collected.specs.Types.{HasClass}
use Rattle.av_named.proofs.Appending.{appends_none, appends_same}
use Rattle.av_named.proofs.members.names_of_result.Goals as goal

pub returns-in-None : goal.returns-in-None
returns-in-None c =
    appends_none (λ (name : List ℕ). (type : Desc) × (c.args.desc.now.result ≡ Some type) × HasClass type name) c.args.out.now.items
    (λ x h. none-some h.0 (sym c.in-None.is ∙ h.1))

pub returns-in-Some : goal.returns-in-Some
returns-in-Some c =
    on_ok_weaker c.names_of_desc.result
    (appends_same (HasClass c.in-Some.of) (λ (name : List ℕ). (type : Desc) × (c.args.desc.now.result ≡ Some type) × HasClass type name) c.args.out.now.items c.names_of_desc.new.out.items
    (λ x h. (c.in-Some.of, c.in-Some.is, h)) (λ x h. subst (λ (d : Desc). HasClass d x) (same_Some h.0 c.in-Some.of (sym h.1 ∙ c.in-Some.is)) h.2))
    c.names_of_desc.ensures
