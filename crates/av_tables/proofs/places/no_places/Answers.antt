use Rattle.std.proofs.Common.{◌≡◌, ℕ, ◌+◌, List, Option, None, Some, length, slice_get, ap, sym, ◌∙◌, subst, arith}
use Rattle.std.proofs.lemmas.List.{length_push}
use Rattle.av_tables.proofs.Placing.{all_are}
use Rattle.av_tables.proofs.places.no_places.Goals as goal

pub loop-class-init : goal.loop-class-init
loop-class-init c = record {
  count = ap length c.new-places.ensures.items;
  none = subst (λ (l : List (Option ℕ)). (d : ℕ) (place : Option ℕ) → slice_get l d ≡ Some place → place ≡ None) (sym c.new-places.ensures.items) (λ d place e. absurd cc);
}

pub loop-class-preserved : goal.loop-class-preserved
loop-class-preserved c = record {
  count = ap length c.in_ok-push.ensures.items ∙ length_push c.loop-class.places.items None ∙ ap (λ (n : ℕ). n + 1) c.loop-class.invariant.count;
  none = subst (λ (l : List (Option ℕ)). (d : ℕ) (place : Option ℕ) → slice_get l d ≡ Some place → place ≡ None) (sym c.in_ok-push.ensures.items) (all_are c.loop-class.places.items None c.loop-class.invariant.none);
}

pub returns-clause-count : goal.returns-clause-count
returns-clause-count c = let count = c.loop-class.invariant.count in omega (arith, count)

pub returns-clause-none : goal.returns-clause-none
returns-clause-none c = c.loop-class.invariant.none
