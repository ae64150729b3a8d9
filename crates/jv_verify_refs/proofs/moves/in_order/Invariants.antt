-- The words of the places so far are there.
use Rattle.std.proofs.Common.{◌≡◌, take}
use Rattle.jv_typing.specs.Typing.{in_order}
use Rattle.jv_verify_refs.proofs.moves.in_order.Given as goal

abbrev pub invariant-loop-place : goal.invariant-loop-place
invariant-loop-place l = l.made.items ≡ in_order (take l.place-index l.order) l.words
