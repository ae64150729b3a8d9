use Rattle.std.proofs.Common.{◌≡◌, drop}
use Rattle.jv_frames.specs.Maps.{written_frames}
use Rattle.av_given.proofs.maps.written_frames.Given as goal

abbrev pub invariant-loop-attr : goal.invariant-loop-attr
invariant-loop-attr l = written_frames l.attrs ≡ written_frames (drop l.attr-index l.attrs)
