use Rattle.av_new_world.proofs.Numbered.{distinct, count}
use Rattle.av_new_world.proofs.Members.{few_fields, few_methods}
use Rattle.av_new_world.proofs.Supers.{none_absent, right_supers}
use Rattle.av_new_world.proofs.Ranks.{rank, falls, bound}
use Rattle.av_new_world.proofs.laws.standins_make_a_world.Goals as goal

-- src/laws.rt:10:1
pub returns : goal.returns
returns c = λ w dims classes world may. record {
  numbered = record {
    distinct = distinct w dims classes world may;
    count = count w dims classes world may;
    fields = few_fields w dims classes world may;
    methods = few_methods w dims classes world may;
  };
  none_absent = none_absent w dims classes world may;
  right_supers = right_supers w dims classes world may;
  rank = rank w dims classes world may;
  falls = falls w dims classes world may;
  bound = bound w dims classes world may;
}
