use Rattle.jv_typing_laws.proofs.Failing.{never_fails}
use Rattle.jv_typing_laws.proofs.one_table.table_fails_nowhere.Goals as goal

pub returns : goal.returns
returns c = never_fails
