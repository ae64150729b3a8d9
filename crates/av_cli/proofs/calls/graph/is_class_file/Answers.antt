use Rattle.std.proofs.Common.{refl}
use Rattle.av_cli.proofs.CallsGraphs.{no_class_file}
use Rattle.av_cli.proofs.calls.graph.is_class_file.Goals as goal
use Rattle.av_cli.proofs.calls.graph.is_class_file.Goals.{in-Ok, in-Err-NotClass, in-Err-Memory}

pub returns : goal.returns
returns c = elim c.match-read_class.branch [
  | in-Ok w ↦ rw w.result-is (λ _. (w.in-Ok.field-0, w.in-Ok.ensures.found), λ _. refl)
  | in-Err-NotClass w ↦
      rw w.result-is
      (λ same. absurd cc, λ file. absurd (no_class_file c.args.bytes.now w.in-Err-NotClass.field-0 w.in-Err-NotClass.field-0-is w.in-Err-NotClass.ensures.not_class file))
  | in-Err-Memory w ↦ rw w.result-is tt
]
