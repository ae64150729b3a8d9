use Rattle.jv_verify.proofs.Places.{near_is}
use Rattle.jv_verify.proofs.near.row_near.Goals as goal

pub returns-then-stands_at : goal.returns-then-stands_at
returns-then-stands_at c =
    record { value = near_is c.args.rows.now c.args.place c.args.pc c.in-Some.row.now c.requires.rising c.in-Some.ensures (c.stands_at.ensures.0 c.if-stands_at.true) }
