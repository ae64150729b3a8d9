use Rattle.std.proofs.Common.{◌≡◌, Some, length, refl}
use Rattle.std.specs.List.{slice_get}
use Rattle.std.proofs.lemmas.Option.{slice_get_read}
use Rattle.jv_class.specs.Steps.MemberPairs.{pair_of, has}
use Rattle.jv_class.specs.ClassTexts.{AreDistinct}
use Rattle.jv_class.proofs.AllLemmas.{refuted}
use Rattle.jv_class.proofs.distinct.are_distinct.Invariants.Steps.{goes_on, all_differ, one_again, was_there, was_new}
use Rattle.jv_class.proofs.distinct.are_distinct.Goals as goal

pub returns-then-not-added : goal.returns-then-not-added
returns-then-not-added c =
    let members = c.args.members.now in
    let at : slice_get members c.loop-member.member-index ≡ Some c.member-item.result = slice_get_read members (length members) c.loop-member.member-index c.member-item.result refl c.loop-member-test.true c.member-item.is in
    let had = was_there (has c.loop-member.pairs (pair_of c.args.numbers.now c.member-item.result)) c.in_ok-added.added (rw c.pair_of.ensures at c.in_ok-added.ensures.added) c.if-not-added.true in
    refuted (AreDistinct c.args._pool.now members) (one_again c.args._pool.now c.args.numbers.now members c.requires.numbered c.requires.texts c.loop-member.member-index c.loop-member.pairs c.member-item.result c.loop-member.invariant at had)

pub loop-member-preserved : goal.loop-member-preserved
loop-member-preserved c =
    let members = c.args.members.now in
    let at : slice_get members c.loop-member.member-index ≡ Some c.member-item.result = slice_get_read members (length members) c.loop-member.member-index c.member-item.result refl c.loop-member-test.true c.member-item.is in
    let none = was_new (has c.loop-member.pairs (pair_of c.args.numbers.now c.member-item.result)) c.in_ok-added.added (rw c.pair_of.ensures at c.in_ok-added.ensures.added) c.if-not-added.false in
    goes_on c.args.numbers.now members c.loop-member.member-index c.loop-member.pairs c.add_pair.new.pairs c.member-item.result c.loop-member.invariant at none (rw c.pair_of.ensures at c.in_ok-added.ensures.has)

pub returns : goal.returns
returns c = all_differ c.args._pool.now c.args.numbers.now c.args.members.now c.requires.numbered c.requires.texts c.loop-member.member-index c.loop-member.pairs c.loop-member-test.false c.loop-member.invariant
