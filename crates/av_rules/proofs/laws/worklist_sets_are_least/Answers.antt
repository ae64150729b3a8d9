use Rattle.av_rules.proofs.laws.worklist_sets_are_least.Goals as goal

pub returns : goal.returns
returns c = λ p seeds facts are least. record {
  closed = record {
    seeded = λ fact seed. least.closed.seeded fact ((are.exact fact).1 seed);
    closed = least.closed.closed;
  };
  inside = λ set closed fact held. least.inside fact held set (record {
    seeded = λ each within. closed.seeded each ((are.exact each).0 within);
    closed = closed.closed;
  });
}
