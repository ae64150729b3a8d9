use Rattle.std.proofs.Common.{sym}
use Rattle.jv_table.proofs.Order.{found_at, none_is, none_at, row_of-is, row_of-none}
use Rattle.jv_table.proofs.table.Table.find.Goals as goal

pub returns-in-None-clause-none : goal.returns-in-None-clause-none
returns-in-None-clause-none g c =
    rw (← c.self.view_is) (none_is g.met.K.Ord.total c.self.inside.rows.now c.args.key.now c.in-None.ensures.none)

pub returns-in-None-clause-value : goal.returns-in-None-clause-value
returns-in-None-clause-value g c =
    rw (← c.self.view_is) (sym (row_of-none g.met.K.Ord.total c.self.inside.rows.now c.args.key.now (none_at g.met.K.Ord.total c.self.inside.rows.now c.args.key.now c.in-None.ensures.none)))

pub returns-in-Some-clause-found : goal.returns-in-Some-clause-found
returns-in-Some-clause-found g c =
    let found = c.in-Some.ensures.found in
    let d = c.index-self-place.result in
    rw (← c.self.view_is) (found_at g.met.K.Ord.total c.self.inside.rows.now c.args.key.now c.in-Some.place d found.0 (found.1 d))

pub returns-in-Some-clause-value : goal.returns-in-Some-clause-value
returns-in-Some-clause-value g c =
    let found = c.in-Some.ensures.found in
    let d = c.index-self-place.result in
    rw (← c.self.view_is) (sym (row_of-is g.met.K.Ord.total c.self.inside.rows.now c.args.key.now _ c.self.invariant.1 (found_at g.met.K.Ord.total c.self.inside.rows.now c.args.key.now c.in-Some.place d found.0 (found.1 d))))
