use Rattle.std.proofs.Common.{◌≡◌, ◌⊎◌, ℕ, inl, inr, List, Option, Some, Contains, sym, subst, ⊎_elim, ◌∙◌}
use Rattle.std.proofs.lemmas.Result.{on_ok_weaker}
use Rattle.std.specs.Option.{option_copied}
use Rattle.jv_types.specs.declared.shapes.Shape.{Shape}
use Rattle.jv_world.specs.Worlds.{NamesSuper}
use Rattle.av_named.specs.Appending.{Appends}
use Rattle.av_named.proofs.Appending.{appends_both, appends_same}
use Rattle.av_named.proofs.members.names_of_supers.Goals as goal

supers : (shape : Shape) (o : Option (List ℕ)) (l a b d : List (List ℕ)) → o ≡ shape.parent → l ≡ shape.interfaces → Appends (λ x. o ≡ Some x) a b → Appends (Contains l) b d → Appends (NamesSuper shape) a d
supers shape o l a b d parent interfaces p q =
    appends_same (λ x. (o ≡ Some x) ⊎ Contains l x) (NamesSuper shape) a d
    (λ x. ⊎_elim (λ e. inl (sym parent ∙ e)) (λ h. inr (subst (λ (m : List (List ℕ)). Contains m x) interfaces h)))
    (λ x. ⊎_elim (λ e. inl (parent ∙ e)) (λ h. inr (subst (λ (m : List (List ℕ)). Contains m x) (sym interfaces) h)))
    (appends_both (λ x. o ≡ Some x) (Contains l) a b d p q)

pub returns : goal.returns
returns c =
    on_ok_weaker c.push_copies.result
    (supers c.args.shape.now (option_copied c.as_ref.result) c.as_slice.result.now c.args.out.now.items c.push_some.new.out.items c.push_copies.new.out.items c.as_ref.ensures.value c.as_slice.ensures c.in_ok-push_some.ensures)
    c.push_copies.ensures
