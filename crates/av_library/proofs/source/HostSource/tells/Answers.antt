use Rattle.av_library.specs.History.{answered_in}
use Rattle.av_library.proofs.Histories.{failed_is, failed_not, read_asked}
use Rattle.av_library.proofs.Telling.{passes_by, pass_none}
use Rattle.av_library.proofs.source.HostSource.tells.Goals as goal

pub returns-clause-passes : goal.returns-clause-passes
returns-clause-passes g c =
    passes_by (g.H.Host.files c.args.self.now.host) c.args.self.now.lib.now (answered_in c.args.self.now.history.items) c.args.self.now.counted c.args.self.now.right

pub returns-clause-within : goal.returns-clause-within
returns-clause-within g c =
    pass_none (g.H.Host.files c.args.self.now.host) c.args.self.now.lib.now (answered_in c.args.self.now.history.items) c.args.self.now.counted c.args.self.now.right

pub returns-clause-reads : goal.returns-clause-reads
returns-clause-reads g c = read_asked c.args.self.now.lib.now c.args.self.now.history.items

pub returns-clause-failed : goal.returns-clause-failed
returns-clause-failed g c = failed_is g.B.Began.failed (g.H.Host.failed c.args.self.now.host) c.args.self.now.lib.now c.args.self.now.history.items c.args.self.now.failed

pub returns-clause-failed_not : goal.returns-clause-failed_not
returns-clause-failed_not g c = failed_not g.B.Began.failed (g.H.Host.failed c.args.self.now.host) c.args.self.now.lib.now c.args.self.now.history.items c.args.self.now.failed
