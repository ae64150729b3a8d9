use Rattle.av_tables.proofs.Sets.{all_small}
use Rattle.av_tables.proofs.tables.tables_of.Goals as goal

pub members_of-requires-clause-small : goal.members_of-requires-clause-small
members_of-requires-clause-small c = all_small c.args.files.now c.requires

pub returns-clause-kept : goal.returns-clause-kept
returns-clause-kept c = record {
  names = c.in_ok-names.ensures.set;
  signatures = c.in_ok-signatures.ensures.rising;
  covered = c.in_ok-signatures.ensures.all;
  small = all_small c.args.files.now c.requires;
  sorted = c.in_ok-members.ensures;
}
