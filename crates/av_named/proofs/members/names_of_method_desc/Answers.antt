use Rattle.std.proofs.Common.{◌≡◌, ◌⊎◌, ℕ, inl, inr, List, Some, subst, ⊎_elim}
use Rattle.std.proofs.lemmas.Result.{on_ok_weaker}
use Rattle.jv_types.specs.declared.desc.Desc.{Desc}
use Rattle.jv_types.specs.declared.desc.MethodDesc.{MethodDesc}
use Rattle.av_collected.specs.Types.{HasClass, MentionsClass}
use Rattle.av_named.specs.Appending.{Appends, OfEach}
use Rattle.av_named.proofs.Appending.{appends_both, appends_same}
use Rattle.av_named.proofs.members.names_of_method_desc.Goals as goal

abbrev InResult : MethodDesc → List ℕ → Type 0
InResult desc name = (type : Desc) × (desc.result ≡ Some type) × HasClass type name

mentioned : (desc : MethodDesc) (a b d : List (List ℕ)) → Appends (OfEach HasClass desc.params) a b → Appends (InResult desc) b d → Appends (MentionsClass desc) a d
mentioned desc a b d p q =
    appends_same (λ x. OfEach HasClass desc.params x ⊎ InResult desc x) (MentionsClass desc) a d
    (λ x. ⊎_elim (λ h. (h.0, inl h.1, h.2)) (λ h. (h.0, inr h.1, h.2))) (λ x h. ⊎_elim (λ i. inl (h.0, i, h.2)) (λ i. inr (h.0, i, h.2)) h.1)
    (appends_both (OfEach HasClass desc.params) (InResult desc) a b d p q)

pub returns : goal.returns
returns c =
    on_ok_weaker c.names_of_result.result
    (mentioned c.args.desc.now c.args.out.now.items c.names_of_descs.new.out.items c.names_of_result.new.out.items
    (subst (λ (l : List Desc). Appends (OfEach HasClass l) c.args.out.now.items c.names_of_descs.new.out.items) c.as_slice.ensures c.in_ok-names_of_descs.ensures))
    c.names_of_result.ensures
