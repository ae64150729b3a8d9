use Rattle.std.proofs.Common.{◌≡◌, arith}
use Rattle.av_given.proofs.Names.{lent_none, lent_some, name_none, name_some}
use Rattle.av_given.proofs.maps.name_of.Goals as goal

pub returns-clause-named : goal.returns-clause-named
returns-clause-named c =
    let of_class : c.args.written.tag ≡ 7 = omega arith in
    lent_some c.class_name.result _ (name_some c.args.pool.now c.args.written _ of_class c.class_name.ensures)

pub returns-clause-none : goal.returns-clause-none
returns-clause-none c = lent_none c.class_name.result _ (name_none c.args.pool.now c.args.written _ c.class_name.ensures)
