use Rattle.std.proofs.Common.{Some}
use Rattle.std.proofs.lemmas.Map.Text.{btree_map_updates_str}
use Rattle.jv_class.proofs.text_numbers.number_of.Goals as goal

pub returns-clause-kept : goal.returns-clause-kept
returns-clause-kept c = btree_map_updates_str c.args.text.now c.args.numbers.now c.insert.new.self (Some c.args.new) c.in_ok-insert.ensures.updates
