-- The least of the offsets at which the parts of a code fail.
use Rattle.std.proofs.Common.{length, sym, subst}
use Rattle.jv_insn.specs.Layouts.{Lays}
use Rattle.jv_insn.proofs.Laying.{laid_rows}
use Rattle.jv_insn.proofs.Deciding.{insns_ok, insns_err, insns_rising, handlers_ok, handlers_err}
use Rattle.jv_insn.proofs.Failing.{breaks_first, handler_first, insn_first, either_first}
use Rattle.jv_insn.proofs.decoder.decode.Goals as goal

pub insns_of-requires : goal.insns_of-requires
insns_of-requires c = rw c.as_slice-rows.ensures.value (laid_rows c.args.code.now c.in_ok-laid.laid.rows.items c.in_ok-laid.laid.end c.requires c.in_ok-laid.ensures)

pub handlers_of-requires : goal.handlers_of-requires
handlers_of-requires c = rw c.as_slice-rows.ensures.value (laid_rows c.args.code.now c.in_ok-laid.laid.rows.items c.in_ok-laid.laid.end c.requires c.in_ok-laid.ensures)

pub invariant_of-result : goal.invariant_of-result
invariant_of-result c =
    let rows = c.as_slice-rows.result.now in
    let laid = subst (λ rs. Lays 0 c.args.code.now rs c.in_ok-laid.laid.end) (sym c.as_slice-rows.ensures.value) c.in_ok-laid.ensures in
    let table = laid_rows c.args.code.now rows c.in_ok-laid.laid.end c.requires laid in
    record { rising = rw c.from_vec.ensures (insns_rising c.args.pool.now c.args.max_locals rows c.in_ok-insns.insns c.in-Ok-Ok-None.insns table.rises c.in_ok-insns.ensures c.in-Ok-Ok-None.is-0) }

pub returns-in-Ok-Ok-Some-clause-bad : goal.returns-in-Ok-Ok-Some-clause-bad
returns-in-Ok-Ok-Some-clause-bad c =
    let rows = c.as_slice-rows.result.now in
    let laid = subst (λ rs. Lays 0 c.args.code.now rs c.in_ok-laid.laid.end) (sym c.as_slice-rows.ensures.value) c.in_ok-laid.ensures in
    let table = laid_rows c.args.code.now rows c.in_ok-laid.laid.end c.requires laid in
    breaks_first c.args.pool.now c.args.max_locals c.args.code.now c.args.handlers.now rows c.in_ok-laid.laid.end c.in-Ok-Ok-Some.pc laid
    (insns_ok c.args.pool.now c.args.max_locals rows c.in_ok-insns.insns c.in-Ok-Ok-Some.field-0-0 table.rises c.in_ok-insns.ensures c.in-Ok-Ok-Some.is-0)
    (handlers_ok c.args.pool.now (length c.args.code.now) rows c.args.handlers.now c.in_ok-handlers.handlers c.in-Ok-Ok-Some.field-0-1 c.in_ok-handlers.ensures c.in-Ok-Ok-Some.is-1)
    c.in-Ok-Ok-Some.is-2

pub returns-in-Ok-Err-default-clause-bad : goal.returns-in-Ok-Err-default-clause-bad
returns-in-Ok-Err-default-clause-bad c =
    let rows = c.as_slice-rows.result.now in
    let laid = subst (λ rs. Lays 0 c.args.code.now rs c.in_ok-laid.laid.end) (sym c.as_slice-rows.ensures.value) c.in_ok-laid.ensures in
    let table = laid_rows c.args.code.now rows c.in_ok-laid.laid.end c.requires laid in
    rw c.lesser.ensures (handler_first c.args.pool.now c.args.max_locals c.args.code.now c.args.handlers.now rows c.in_ok-laid.laid.end c.in-Ok-Err-default.pc laid
    (insns_ok c.args.pool.now c.args.max_locals rows c.in_ok-insns.insns c.in-Ok-Err-default.field-0-0 table.rises c.in_ok-insns.ensures c.in-Ok-Err-default.is-0)
    (handlers_err c.args.pool.now (length c.args.code.now) rows c.args.handlers.now c.in_ok-handlers.handlers c.in-Ok-Err-default.pc c.in_ok-handlers.ensures c.in-Ok-Err-default.is-1))

pub returns-in-Err-Ok-default-clause-bad : goal.returns-in-Err-Ok-default-clause-bad
returns-in-Err-Ok-default-clause-bad c =
    let rows = c.as_slice-rows.result.now in
    let laid = subst (λ rs. Lays 0 c.args.code.now rs c.in_ok-laid.laid.end) (sym c.as_slice-rows.ensures.value) c.in_ok-laid.ensures in
    rw c.lesser-in-Err-Ok-default.ensures (insn_first c.args.pool.now c.args.max_locals c.args.code.now c.args.handlers.now rows c.in_ok-laid.laid.end c.in-Err-Ok-default.pc laid
    (insns_err c.args.pool.now c.args.max_locals rows c.in_ok-insns.insns c.in-Err-Ok-default.pc c.in_ok-insns.ensures c.in-Err-Ok-default.is-0)
    (handlers_ok c.args.pool.now (length c.args.code.now) rows c.args.handlers.now c.in_ok-handlers.handlers c.in-Err-Ok-default.field-0-1 c.in_ok-handlers.ensures c.in-Err-Ok-default.is-1))

pub returns-clause-bad : goal.returns-clause-bad
returns-clause-bad c =
    let rows = c.as_slice-rows.result.now in
    let laid = subst (λ rs. Lays 0 c.args.code.now rs c.in_ok-laid.laid.end) (sym c.as_slice-rows.ensures.value) c.in_ok-laid.ensures in
    rw (c.lesser-in-Err-Err-default-2.ensures, c.lesser-in-Err-Err-default.ensures) (either_first c.args.pool.now c.args.max_locals c.args.code.now c.args.handlers.now rows c.in_ok-laid.laid.end c.in-Err-Err-default.pc c.in-Err-Err-default.other laid
    (insns_err c.args.pool.now c.args.max_locals rows c.in_ok-insns.insns c.in-Err-Err-default.pc c.in_ok-insns.ensures c.in-Err-Err-default.is-0)
    (handlers_err c.args.pool.now (length c.args.code.now) rows c.args.handlers.now c.in_ok-handlers.handlers c.in-Err-Err-default.other c.in_ok-handlers.ensures c.in-Err-Err-default.is-1))
