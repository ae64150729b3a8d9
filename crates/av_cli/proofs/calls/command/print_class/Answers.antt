use Rattle.av_cli.proofs.CallsConcluding.{concludes}
use Rattle.av_cli.proofs.calls.command.print_class.Goals as goal

pub returns-in-Ok-Some-clause-concludes : goal.returns-in-Ok-Some-clause-concludes
returns-in-Ok-Some-clause-concludes g c =
    concludes _ c.args.root.now c.args.name.now c.in-Ok-Some.bytes.items c.print_calls.result
    (rw c.in-Ok-Some.field-0-is at c.in-Ok-Some.ensures.gives) (rw c.as_slice.ensures.value at c.print_calls.ensures.prints)
