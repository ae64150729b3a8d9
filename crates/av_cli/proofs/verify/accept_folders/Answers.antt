use Rattle.av_cli.proofs.Verifying.{ends_for, makes_for}
use Rattle.av_cli.proofs.verify.accept_folders.Goals as goal

pub returns-clause-makes : goal.returns-clause-makes
returns-clause-makes g c =
    makes_for g.A.Acceptor.Collects _ _ _ _ _ _ _ c.in_ok-app.ensures c.in_ok-lib.ensures c.accept.ensures.makes

pub returns-clause-ends : goal.returns-clause-ends
returns-clause-ends g c =
    ends_for c.accept.result g.A.Acceptor.Collects _ _ _ _ _ _ _ c.in_ok-app.ensures c.in_ok-lib.ensures c.accept.ensures.ends
