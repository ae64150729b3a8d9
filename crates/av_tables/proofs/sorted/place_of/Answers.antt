use Rattle.av_tables.proofs.Rising.{place_found, place_none}
use Rattle.av_tables.proofs.sorted.place_of.Goals as goal

pub returns-in-Ok-clause-found : goal.returns-in-Ok-clause-found
returns-in-Ok-clause-found g c =
    place_found g.met.T.Ord.total c.args.rows.now c.args.row.now c.binary_search.result c.in-Ok.place c.in-Ok.is c.requires c.binary_search.ensures.bound c.binary_search.ensures.position

pub returns-in-Err-clause-none : goal.returns-in-Err-clause-none
returns-in-Err-clause-none g c =
    place_none g.met.T.Ord.total c.args.rows.now c.args.row.now c.binary_search.result c.in-Err.field-0 c.in-Err.is c.requires c.binary_search.ensures.bound c.binary_search.ensures.position
