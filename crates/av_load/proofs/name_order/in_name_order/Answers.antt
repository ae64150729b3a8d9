use Rattle.std.proofs.Common.{rules}
use Rattle.std.proofs.lemmas.Cmp.{nat_list_cmp_total}
use Rattle.std.proofs.lemmas.Fn.{always_returns_same}
use Rattle.std.proofs.lemmas.List.MinMax.{ranks_by}
use Rattle.av_load.specs.declared.app_class.AppClass.{AppClass}
use Rattle.av_load.proofs.Sorting.{comes_first, names_rise}
use Rattle.av_load.proofs.name_order.in_name_order.Goals as goal

pub returns-clause-rising : goal.returns-clause-rising
returns-clause-rising c =
    let e = c.sort_unstable_by.ensures in
    names_rise c.args.classes.items c.sort_unstable_by.new.self.items e.permutation
    (e.sorted comes_first (ranks_by nat_list_cmp_total (λ (class : AppClass). class.shape.name)) (always_returns_same _ _ _ (λ a r f k. search rules))) c.requires
