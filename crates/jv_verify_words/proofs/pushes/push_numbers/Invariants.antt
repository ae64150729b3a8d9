-- The words of the cells so far are there.
use Rattle.std.proofs.Common.{◌≡◌, ◌++◌, take}
use Rattle.jv_verify_words.specs.Parts.{numbers_words}
use Rattle.jv_verify_words.proofs.pushes.push_numbers.Given as goal

abbrev pub invariant-loop-cell : goal.invariant-loop-cell
invariant-loop-cell l = l.words.items ≡ l.initial.words.items ++ numbers_words (take l.cell-index l.cells)
