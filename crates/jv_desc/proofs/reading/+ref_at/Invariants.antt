use Rattle.jv_desc.proofs.reading.+ref_at.Given as goal

-- each recursion is one array further in
abbrev pub decreases-ref_at : goal.decreases-ref_at
decreases-ref_at l = l.most
