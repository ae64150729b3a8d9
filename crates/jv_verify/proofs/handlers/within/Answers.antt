use Rattle.std.proofs.Common.{ltb, rules}
use Rattle.std.specs.List.Sorted.{IsNonDecreasingBy}
use Rattle.std.proofs.lemmas.List.Sorted.{IsPartitionPoint-from_clause, IsPartitionedBy-ltb}
use Rattle.jv_types.proofs.Starts.{starts_rise}
use Rattle.jv_verify.proofs.Covering.{drops_rise, cut_out}
use Rattle.jv_verify.proofs.handlers.within.Goals as goal

pub returns : goal.returns
returns c =
    let rows = c.args.rows.now in
    let low = c.partition_point.result in
    let high = c.partition_point-2.result in
    let from = c.split_at.result.1.now in
    let lower = IsPartitionPoint-from_clause (λ row. ltb row.0 c.args.start) rows low c.partition_point.ensures.partitioned (IsPartitionedBy-ltb (λ row. row.0) rows c.args.start (starts_rise 0 rows c.requires.rising)) (λ a r f called. search rules) in
    let rise : IsNonDecreasingBy (λ row. row.0) from = rw c.split_at.ensures.back (drops_rise rows low c.requires.rising) in
    let upper = IsPartitionPoint-from_clause (λ row. ltb row.0 c.args.end) from high c.partition_point-2.ensures.partitioned (IsPartitionedBy-ltb (λ row. row.0) from c.args.end rise) (λ a r f called. search rules) in
    rw (c.split_at-2.ensures.front, c.split_at.ensures.back) (cut_out rows c.args.start c.args.end low high lower (rw c.split_at.ensures.back at upper) c.partition_point.ensures.bound (rw c.split_at.ensures.back at c.partition_point-2.ensures.bound))
