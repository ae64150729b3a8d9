use Rattle.std.proofs.Common.{◌≡◌, take}
use Rattle.jv_types.proofs.seq.SeqCopiedIn.copy_in.Given as goal

-- what is copied so far is the front of the list, and the list is the one that was handed in
abbrev pub invariant-loop-item : goal.invariant-loop-item
invariant-loop-item g l = (l.copies.items ≡ take l.item-index l.item-items) × (l.item-items ≡ l.fn.self)
