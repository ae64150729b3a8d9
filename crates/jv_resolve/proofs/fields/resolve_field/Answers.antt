-- No class has the name, or nothing leads to a field.
use Rattle.jv_resolve.specs.DepthFirst.{LeadsUpTo}
use Rattle.jv_resolve.specs.Resolving.{DeclaresFieldIn}
use Rattle.jv_resolve.proofs.FieldLemmas.{no_field}
use Rattle.jv_resolve.proofs.Tests.{none_at}
use Rattle.jv_resolve.proofs.fields.resolve_field.Goals as goal

pub returns-in_default-clause-refused : goal.returns-in_default-clause-refused
returns-in_default-clause-refused c = λ f p. c.in_default.ensures.none p.named p.name

pub returns-in_default-2-clause-refused : goal.returns-in_default-2-clause-refused
returns-in_default-2-clause-refused c =
    no_field c.args.world.now c.args.r.now c.in-Some.named.number c.in-Some.ensures.world c.in-Some.ensures.found
    (none_at c.in_ok-f.field-0 (LeadsUpTo c.args.world.now (DeclaresFieldIn c.args.world.now c.args.r.now.name c.args.r.now.desc) c.in-Some.named.number → ⊥) c.in_default-2.is c.in_ok-f.ensures.none)
