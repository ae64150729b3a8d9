use Rattle.std.proofs.Common.{inl, inr, sym, ◌∙◌}
use Rattle.av_library.proofs.Worths.{alike, bad_name, bad_version, differ, good_file}
use Rattle.av_library.proofs.worth.worth.Goals.{then-class-lt45-via-then-class-lt45, then-class-lt45-via-else-class-lt45+then-class-gt52}
use Rattle.av_library.proofs.worth.worth.Goals as goal

pub returns-then-class-lt45 : goal.returns-then-class-lt45
returns-then-class-lt45 c =
    elim c.then-class-lt45.branch [
      | then-class-lt45-via-then-class-lt45 w ↦ bad_version c.args.name.now c.args.bytes.now c.in-Ok.class c.in-Ok.ensures.found (inl w.if-class-lt45.true)
      | then-class-lt45-via-else-class-lt45+then-class-gt52 w ↦ bad_version c.args.name.now c.args.bytes.now c.in-Ok.class c.in-Ok.ensures.found (inr w.if-class-gt52.true)
    ]

pub returns-then-ne : goal.returns-then-ne
returns-then-ne c =
    bad_name c.args.name.now c.args.bytes.now c.in-Ok.class c.in_ok-shape.shape c.in-Ok.ensures.found c.in_ok-shape.ensures
    (differ c.in_ok-shape.shape.name c.args.name.now (sym c.ne.ensures ∙ c.if-ne.true))

pub returns : goal.returns
returns c =
    good_file c.args.name.now c.args.bytes.now c.in-Ok.class c.in_ok-shape.shape c.in-Ok.ensures.found c.requires c.if-class-lt45.false c.if-class-gt52.false c.in_ok-shape.ensures
    (alike c.in_ok-shape.shape.name c.args.name.now (sym c.ne.ensures ∙ c.if-ne.false))
