use Rattle.std.proofs.Common.{arith}
use Rattle.av_tables.specs.Steps.{known}
use Rattle.av_tables.proofs.Noting.{all_noted, none_noted}
use Rattle.av_tables.proofs.members.members_of.Goals as goal

pub loop-class-init : goal.loop-class-init
loop-class-init c =
    let ok = c.args.classes.now.signatures.ok in
    none_noted (known c.args.classes.now) c.in_ok-rows.rows.items (omega (arith, c.in_ok-rows.ensures.count, c.len.ensures, ok)) c.in_ok-rows.ensures.empty

pub returns : goal.returns
returns c =
    let ok = c.args.classes.now.names.ok in
    all_noted (known c.args.classes.now) c.loop-class.rows.items c.loop-class.class (omega (arith, c.loop-class-test.false, c.len-class-end.ensures, ok)) c.requires.places c.loop-class.invariant
