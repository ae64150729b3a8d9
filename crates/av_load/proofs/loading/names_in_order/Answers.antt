use Rattle.std.proofs.Common.{arith}
use Rattle.av_load.proofs.Whole.{names_are_all}
use Rattle.av_load.proofs.loading.names_in_order.Goals as goal

pub returns-clause-listed : goal.returns-clause-listed
returns-clause-listed g c = λ lib.
    names_are_all (g.H.Host.files c.args.host.now) c.args.app.now lib c.in_ok-listed.listed.items c.in_ok-in_order.field-0.keys c.in_ok-listed.ensures.gives
    (omega (arith, c.if-len-ge-MOST_NAMES.false, c.len.ensures, c.in_ok-listed.listed.ok)) c.in_ok-in_order.ensures.same
