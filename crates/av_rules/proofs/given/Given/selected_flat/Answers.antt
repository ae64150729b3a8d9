use Rattle.av_rules.specs.Steps.Programs.{program_of}
use Rattle.av_rules.proofs.SelectingLemmas.{prim_base_selects_none, typed_flat}
use Rattle.av_rules.proofs.given.Given.selected_flat.Goals as goal

pub selected_for_class-requires-clause-typed : goal.selected_for_class-requires-clause-typed
selected_for_class-requires-clause-typed c =
    typed_flat (program_of c.args.self.now) c.args.label c.args.made c.in-Class.own c.requires.typed c.in-Class.is c.requires.flat

pub returns-in-Prim-clause-none : goal.returns-in-Prim-clause-none
returns-in-Prim-clause-none c = λ m.
    prim_base_selects_none (program_of c.args.self.now) c.args.interface c.args.label c.args.resolved m c.args.made c.in-Prim.field-0 c.requires.kept.world.numbered
    c.requires.kept.analysable.conditions.distinct c.requires.typed c.requires.flat c.in-Prim.is
