use Rattle.jv_typing_laws.proofs.Forced.{all_forced}
use Rattle.jv_typing_laws.proofs.one_table.table_is_forced.Goals as goal

pub returns : goal.returns
returns c = all_forced
