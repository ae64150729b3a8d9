use Rattle.av_items.proofs.Dims.{AreMade}
use Rattle.av_items.proofs.arrays.make_arrays.Given as goal

abbrev pub invariant-loop : goal.invariant-loop
invariant-loop l = AreMade l.counter l.fn.of l.of l.fn.builder l.builder
