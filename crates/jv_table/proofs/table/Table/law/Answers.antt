use Rattle.std.proofs.Common.{◌≡◌, true}
use Rattle.jv_table.specs.Rows.{rises}
use Rattle.jv_table.proofs.Order.{one_row}
use Rattle.jv_table.proofs.table.Table.law.Goals as goal

pub returns-clause-one : goal.returns-clause-one
returns-clause-one g c =
    let cmp = g.K.Ord.cmp in
    let rising : rises cmp c.args.self.now ≡ true = rw (← c.self.view_is) c.self.invariant.1 in
    λ key x y p q. one_row g.met.K.Ord.total c.args.self.now key x y rising p q
