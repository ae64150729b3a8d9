use Rattle.av_gathered.proofs.gathering.gather.Given as goal

abbrev pub ghosts-collect_lent : goal.ghosts-collect_lent
ghosts-collect_lent g a = record { name = a.host.ghost_name; calls = g.H.Host.calls a.host.now; failed = g.H.Host.failed a.host.now }
