use Rattle.std.proofs.lemmas.Result.{err_from_is_err_and}
use Rattle.av_cli.proofs.CallsGraphs.{call_graph_of}
use Rattle.av_cli.proofs.calls.graph.call_graph.Goals as goal

pub returns-in_err-class : goal.returns-in_err-class
returns-in_err-class c =
    let p = err_from_is_err_and c.from_residual.result c.from_residual.ensures.1 in
    rw (p.1, p.2) c.in_err-class.ensures

pub returns-in_err-lines : goal.returns-in_err-lines
returns-in_err-lines c =
    let p = err_from_is_err_and c.from_residual-in_err-lines.result c.from_residual-in_err-lines.ensures.1 in
    rw (p.1, p.2) tt

pub returns : goal.returns
returns c =
    call_graph_of c.args.name.now c.args.bytes.now c.in_ok-class.class c.in_ok-lines.lines.keys c.one_object_class.ensures c.in_ok-class.ensures c.in_ok-lines.ensures
