use Rattle.std.proofs.Common.{refl}
use Rattle.std.specs.Cmp.{eq_by_cmp_equiv}
use Rattle.av_sorted.specs.Orders.{row_cmp_total}
use Rattle.av_sorted.proofs.Ordered.{all_rise, each_given, has_key, keys_rise, only_given}
use Rattle.av_sorted.proofs.row.rows_in_order.Goals as goal

pub returns-clause-rising : goal.returns-clause-rising
returns-clause-rising g c =
    keys_rise c.dedup.new.self.items
    (all_rise c.args.rows.items c.sort.new.self.items c.dedup.new.self.items c.sort.ensures.permutation c.dedup.ensures.filtered row_cmp_total (λ x y. refl) c.in_ok-sort.ensures.sorted)

pub returns-clause-only : goal.returns-clause-only
returns-clause-only g c = only_given c.args.rows.items c.sort.new.self.items c.dedup.new.self.items c.sort.ensures.permutation c.dedup.ensures.filtered

pub returns-clause-each : goal.returns-clause-each
returns-clause-each g c row has =
    has_key c.dedup.new.self.items row
    (each_given c.args.rows.items c.sort.new.self.items c.dedup.new.self.items c.sort.ensures.permutation c.dedup.ensures.filtered (eq_by_cmp_equiv row_cmp_total) row has)
