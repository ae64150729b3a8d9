use Rattle.std.proofs.Common.{length}
use Rattle.av_load.proofs.Underway.{IsLoading}
use Rattle.av_load.proofs.loading.load_all.Given as goal

abbrev pub invariant-loop-name : goal.invariant-loop-name
invariant-loop-name g l =
    let H = g.H.Host in
    IsLoading l.app l.lib
    (record { files = H.files l.fn.host; written = H.written l.fn.host; calls = H.calls l.fn.host; failed = H.failed l.fn.host; read_faults = H.read_faults l.fn.host; write_faults = H.write_faults l.fn.host })
    (record { files = H.files l.host; written = H.written l.host; calls = H.calls l.host; failed = H.failed l.host; read_faults = H.read_faults l.host; write_faults = H.write_faults l.host })
    l.fn.names.keys l.left.keys l.loaded.classes.items l.loaded.bytes

abbrev pub decreases-loop-name : goal.decreases-loop-name
decreases-loop-name g l = length l.left.keys
