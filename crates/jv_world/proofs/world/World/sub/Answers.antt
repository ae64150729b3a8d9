use Rattle.std.proofs.Common.{sym, ◌∙◌, ⊎_elim}
use Rattle.std.proofs.lemmas.Bool.{eqb-true, eq-eqb, false≢true}
use Rattle.jv_world.specs.Worlds.{same}
use Rattle.jv_world.proofs.Subtypes.{Sub-cases, Sub-proper}
use Rattle.jv_world.proofs.world.World.sub.Goals as goal

pub returns-then-eq-clause-exact : goal.returns-then-eq-clause-exact
returns-then-eq-clause-exact c =
    let equal = eqb-true c.args.a.number c.args.b.number (sym c.eq.ensures ∙ c.if-eq.true) in
    (λ yes. same c.args.a.number c.args.b.number equal, λ sub. c.if-eq.true)

pub returns-else-eq-clause-exact : goal.returns-else-eq-clause-exact
returns-else-eq-clause-exact c =
    let w = c.args.self.now in
    let exact = c.proper_supers-supers.ensures.exact in (
      λ yes. Sub-proper w c.args.a.number c.args.b.number (exact.only c.args.b (c.contains.ensures.0 yes)),
      λ sub.
          ⊎_elim
          (λ equal. absurd (false≢true (sym c.if-eq.false ∙ c.eq.ensures ∙ eq-eqb c.args.a.number c.args.b.number equal)))
          (λ proper. c.contains.ensures.1 (exact.all c.args.b proper))
          (Sub-cases w c.args.a.number c.args.b.number sub),
    )
