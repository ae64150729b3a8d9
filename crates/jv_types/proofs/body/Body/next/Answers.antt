use Rattle.std.proofs.Common.{◌≡◌, true, leb, rules}
use Rattle.std.proofs.lemmas.List.Sorted.{IsPartitionPoint-from_clause, IsPartitionedBy-leb}
use Rattle.jv_types.specs.Bodies.{rises_from}
use Rattle.jv_types.proofs.Starts.{starts_rise, next_is, next_none}
use Rattle.jv_types.proofs.body.Body.next.Goals as goal

pub returns-in_err-get-clause-none : goal.returns-in_err-get-clause-none
returns-in_err-get-clause-none c =
    let rows = c.as_slice-insns.result.now in
    let rising : rises_from 0 rows ≡ true = rw c.as_slice-insns.ensures c.args.self.now.rising in
    let parted = IsPartitionPoint-from_clause (λ row. leb row.0 c.args.pc) rows c.partition_point-place.result c.partition_point-place.ensures.partitioned (IsPartitionedBy-leb (λ row. row.0) rows c.args.pc (starts_rise 0 rows rising)) (λ a r f called. search rules) in
    rw (c.from_residual.ensures, ← c.as_slice-insns.ensures) (next_none c.args.pc c.partition_point-place.result rows parted c.in_err-get.ensures.lookup.3)

pub returns-clause-least : goal.returns-clause-least
returns-clause-least c =
    let rows = c.as_slice-insns.result.now in
    let rising : rises_from 0 rows ≡ true = rw c.as_slice-insns.ensures c.args.self.now.rising in
    let parted = IsPartitionPoint-from_clause (λ row. leb row.0 c.args.pc) rows c.partition_point-place.result c.partition_point-place.ensures.partitioned (IsPartitionedBy-leb (λ row. row.0) rows c.args.pc (starts_rise 0 rows rising)) (λ a r f called. search rules) in
    let looked = c.in_ok-get.ensures.lookup in
    let d = c.in_ok-get.field-0.now in
    rw (← c.as_slice-insns.ensures, looked.1) (next_is 0 c.args.pc c.partition_point-place.result rows d rising parted looked.3.0)
