use Rattle.std.proofs.Common.{subst, sym, map-id}
use Rattle.std.specs.List.Sorted.{IsStrictlySortedBy}
use Rattle.std.specs.Cmp.Lexicographic.{nat_list_cmp_total, nat_list_eq_equiv, texts_ties}
use Rattle.av_standin_of.specs.Names.{name_order}
use Rattle.av_sorted.proofs.Ordered.{all_rise, each_kept, names_exact, only_given}
use Rattle.av_sorted.proofs.names.names_in_order.Goals as goal

pub returns : goal.returns
returns c =
    let given = c.args.names.items in
    let sorted = c.sort.new.self.items in
    let kept = c.dedup.new.self.items in
    let shuffled = c.sort.ensures.permutation in
    let filtered = c.dedup.ensures.filtered in record {
      rising =
          subst (IsStrictlySortedBy name_order) (sym (map-id kept)) (all_rise given sorted kept shuffled filtered nat_list_cmp_total texts_ties c.in_ok-sort.ensures.sorted);
      all = each_kept given sorted kept shuffled filtered nat_list_eq_equiv names_exact;
      only = only_given given sorted kept shuffled filtered;
    }
