use Rattle.jv_typing_laws.proofs.Forced.{one_table}
use Rattle.jv_typing_laws.proofs.one_table.table_is_one.Goals as goal

pub returns : goal.returns
returns c = one_table
