use Rattle.std.proofs.Common.{◌≡◌, Some, ap, sym, ◌∙◌}
use Rattle.av_sketches.specs.declared.sketch.Recipe.{Recipe}
use Rattle.av_sketches.specs.Sketches.{recipe_code}
use Rattle.av_standin_of.specs.Templates.{method_code}
use Rattle.av_items.proofs.Handling.{method_spanless, without_spans}
use Rattle.av_items.proofs.recipes.put_recipe.Goals as goal

pub returns-in-Collected : goal.returns-in-Collected
returns-in-Collected c code is =
    let same : method_code c.args.class.now c.in-Collected.parent c.in-Collected.declared ≡ Some code =
    ap (λ (r : Recipe). recipe_code c.args.dims c.args.class.now c.args.shape.now r) (sym c.in-Collected.is) ∙ is in
    without_spans c.args.builder code c.method_code.result (method_spanless c.args.class.now c.in-Collected.parent c.in-Collected.declared code same) (c.method_code.ensures code same)
