use Rattle.std.proofs.Common.{refl, sym, ◌∙◌}
use Rattle.std.proofs.lemmas.Bool.{false≢true}
use Rattle.jv_lists.proofs.Tests.{not_true}
use Rattle.jv_world.proofs.Choices.{not_false}
use Rattle.jv_world.proofs.NamesFound.{names_twice, names_grown, names_distinct}
use Rattle.jv_world.proofs.numbered.have_distinct_names.Goals as goal

pub returns-then-not-added : goal.returns-then-not-added
returns-then-not-added c =
    let named = rw c.as_slice.ensures at c.in_ok-from_slice.ensures.items in
    let there = not_false _ (sym c.in_ok-added.ensures.added ∙ c.if-not-added.true) in (
      λ h. absurd (false≢true h),
      λ distinct. absurd (names_twice c.args.shapes.now c.loop-shape.shape-index c.shape-item.result c.loop-shape.keys.keys c.in_ok-from_slice.field-0 distinct c.loop-shape-test.true c.shape-item.is named
          c.loop-shape.invariant.names there),
    )

pub loop-shape-preserved : goal.loop-shape-preserved
loop-shape-preserved c =
    let named = rw c.as_slice.ensures at c.in_ok-from_slice.ensures.items in
    let fresh = not_true _ (sym c.in_ok-added.ensures.added ∙ c.if-not-added.false) in
    record {
      names = names_grown c.args.shapes.now c.loop-shape.shape-index c.shape-item.result c.loop-shape.keys.keys c.insert.new.self.keys c.in_ok-from_slice.field-0 c.loop-shape-test.true c.shape-item.is
          named c.in_ok-added.ensures.keys fresh c.loop-shape.invariant.names;
      unique = c.in_ok-added.ensures.unique;
    }

pub returns : goal.returns
returns c =
    (λ h. names_distinct c.args.shapes.now c.loop-shape.shape-index c.loop-shape.keys.keys c.loop-shape-test.false c.loop-shape.invariant.names c.loop-shape.invariant.unique, λ distinct. refl)
