use Rattle.std.proofs.Common.{◌∙◌, Some, ap, sym}
use Rattle.tests_collect.proofs.FoundLemmas.{has_shape, is_fit, is_malformed, none_named}
use Rattle.tests_collect.proofs.mem_source.found_under.Goals as goal

pub returns-in-None-clause-says : goal.returns-in-None-clause-says
returns-in-None-clause-says c = none_named c.args.name.now c.args.files.now (sym (c.in-None.ensures {u = tt}))

pub returns-in-None-shape-clause-says : goal.returns-in-None-shape-clause-says
returns-in-None-shape-clause-says c =
    is_malformed c.args.name.now c.args.files.now c.in-Some.file.now (sym (c.in-Some.ensures {u = tt})) (sym (c.in-None-shape.ensures {u = tt}))

pub returns-in_ok-copy-in-Some-shape-clause-says :
    goal.returns-in_ok-copy-in-Some-shape-clause-says
returns-in_ok-copy-in-Some-shape-clause-says c =
    has_shape c.args.name.now c.args.files.now c.in-Some.file.now (sym (c.in-Some.ensures {u = tt})) c.in_ok-copy-in-Some-shape.field-0
    (sym (c.in-Some-shape.ensures {u = tt}) ∙ ap Some (sym c.in_ok-copy-in-Some-shape.ensures))

pub returns-in_ok-copy-in-Some-shape-clause-fit : goal.returns-in_ok-copy-in-Some-shape-clause-fit
returns-in_ok-copy-in-Some-shape-clause-fit c = (
  is_fit c.args.name.now c.args.files.now c.in-Some.file.now (sym (c.in-Some.ensures {u = tt})) c.requires c.in_ok-copy-in-Some-shape.field-0
      (sym (c.in-Some-shape.ensures {u = tt}) ∙ ap Some (sym c.in_ok-copy-in-Some-shape.ensures)),
  tt,
)
