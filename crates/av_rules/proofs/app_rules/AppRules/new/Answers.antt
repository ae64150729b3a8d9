use Rattle.av_rules.proofs.app_rules.AppRules.new.Goals as goal

pub invariant_of-result : goal.invariant_of-result
invariant_of-result c = record {
  world = c.any_classes.ensures.world;
  analysable = c.requires;
  any_classes = c.in_ok-any.ensures.found;
  object_named = c.in_ok-object.ensures;
}
