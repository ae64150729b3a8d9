use Rattle.std.proofs.Common.{Some}
use Rattle.jv_verify.proofs.Exact.{forced_rise}
use Rattle.jv_verify.proofs.Tables.{forced_rows}
use Rattle.jv_verify.proofs.table.forced_and_failing.Goals as goal

pub first_failing-requires-clause-rising : goal.first_failing-requires-clause-rising
first_failing-requires-clause-rising c =
    rw c.as_slice.ensures.value (forced_rise c.args.world.now c.args.method c.args.body.now c.args.maps.now 0 (Some c.args.initial) c.args.body.now.insns c.in_ok-rows.rows.items c.args.body.now.rising c.in_ok-rows.ensures)

pub first_failing-requires-clause-forced : goal.first_failing-requires-clause-forced
first_failing-requires-clause-forced c =
    rw c.as_slice.ensures.value (forced_rows c.args.world.now c.args.method c.args.body.now c.args.maps.now c.in_ok-rows.rows.items c.args.initial
    (record { ready = c.requires.ready; begun = c.requires.begun; forced = c.in_ok-rows.ensures }))
