use Rattle.std.proofs.Common.{◌≡◌, take}
use Rattle.jv_bytes.specs.Shown.{shown_text}
use Rattle.jv_bytes.proofs.showing.shown.Given as goal

abbrev pub invariant-loop-byte : goal.invariant-loop-byte
invariant-loop-byte l = l.text.items ≡ shown_text (take l.byte-index l.bytes)
