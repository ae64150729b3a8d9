use Rattle.std.proofs.Common.{refl, sym, subst}
use Rattle.jv_types.specs.declared.label.LibBase.{LibBase}
use Rattle.jv_types.specs.declared.label.LibBase.TheVariants as bases
use Rattle.av_rules.specs.Labels.{IsSeenAs}
use Rattle.av_rules.proofs.given.Given.seen_as.Goals as goal

pub returns-in-Class : goal.returns-in-Class
returns-in-Class c = subst (λ (b : LibBase). IsSeenAs c.args.self.now.world.now b c.seen_class.result) (sym c.in-Class.is) c.seen_class.ensures

pub returns-in-Prim : goal.returns-in-Prim
returns-in-Prim c = subst (λ (b : LibBase). IsSeenAs c.args.self.now.world.now b (bases.Prim c.in-Prim.prim)) (sym c.in-Prim.is) refl
