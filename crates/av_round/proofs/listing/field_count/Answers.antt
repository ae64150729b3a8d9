use Rattle.std.proofs.Common.{◌<◌, ◌^◌, ℕ, length, sym, ap, ◌∙◌, subst}
use Rattle.jv_types.specs.declared.shapes.Shape.{Shape}
use Rattle.av_tables.specs.Steps.{known}
use Rattle.av_tables.proofs.Noting.{one_shape_at}
use Rattle.av_round.proofs.Entries.{few_fields}
use Rattle.av_round.proofs.listing.field_count.Goals as goal

pub returns-in-None-clause-same : goal.returns-in-None-clause-same
returns-in-None-clause-same c = λ shape at. absurd (c.in-None.ensures.none shape at)

pub returns-in-Some-clause-small : goal.returns-in-Some-clause-small
returns-in-Some-clause-small c =
    subst (λ (n : ℕ). n < 2 ^ 16) (sym c.len.ensures) (few_fields (known c.args.classes.now) c.args.class c.in-Some.shape.now c.requires c.in-Some.ensures.found)

pub returns-in-Some-clause-same : goal.returns-in-Some-clause-same
returns-in-Some-clause-same c = λ shape at.
    ap (λ (s : Shape). length s.fields) (one_shape_at (known c.args.classes.now) c.args.class shape c.in-Some.shape.now at c.in-Some.ensures.found) ∙ sym c.len.ensures
