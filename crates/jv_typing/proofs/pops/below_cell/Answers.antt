use Rattle.jv_typing.proofs.pops.below_cell.Goals as goal

pub returns-in-Ref-clause-none : goal.returns-in-Ref-clause-none
returns-in-Ref-clause-none c = rw c.in-Ref.is c.below_reference.ensures.none
