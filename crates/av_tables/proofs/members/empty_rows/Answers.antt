use Rattle.std.proofs.Common.{◌≡◌, ℕ, ◌+◌, List, [], ◌∷◌, ◌++◌, Some, length, slice_get, ap, sym, ◌∙◌, subst, arith}
use Rattle.std.proofs.lemmas.List.{length_push}
use Rattle.av_tables.specs.declared.member.Member.{Member}
use Rattle.av_tables.proofs.Placing.{all_are}
use Rattle.av_tables.proofs.members.empty_rows.Goals as goal

pub loop-place-init : goal.loop-place-init
loop-place-init c = record {
  count = ap length c.new-rows.ensures.items;
  empty = subst (λ (l : List (List Member)). (d : ℕ) (row : List Member) → slice_get l d ≡ Some row → row ≡ []) (sym c.new-rows.ensures.items) (λ d row e. absurd cc);
}

pub loop-place-preserved : goal.loop-place-preserved
loop-place-preserved c =
    let items = c.in_ok-push.ensures.items ∙ ap (λ (r : List Member). c.loop-place.rows.items ++ r ∷ []) c.new.ensures in
    record {
      count = ap length items ∙ length_push c.loop-place.rows.items [] ∙ ap (λ (n : ℕ). n + 1) c.loop-place.invariant.count;
      empty = subst (λ (l : List (List Member)). (d : ℕ) (row : List Member) → slice_get l d ≡ Some row → row ≡ []) (sym items) (all_are c.loop-place.rows.items [] c.loop-place.invariant.empty);
    }

pub returns-clause-count : goal.returns-clause-count
returns-clause-count c = let count = c.loop-place.invariant.count in omega (arith, count)

pub returns-clause-empty : goal.returns-clause-empty
returns-clause-empty c = c.loop-place.invariant.empty
