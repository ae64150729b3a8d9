use Rattle.std.proofs.Common.{◌≡◌}
use Rattle.av_stops.specs.MethodRules.{FailsMethod, IsAccepted, IsMember}
use Rattle.av_method_rules.specs.Stopping.{IsWithoutCode}
use Rattle.av_method_rules.proofs.Next.{member_here, texts_here}
use Rattle.av_method_rules.proofs.Until.{stops_at, until_added, until_skipped}
use Rattle.av_method_rules.proofs.Worlds.{method_of}
use Rattle.av_method_rules.proofs.accepting.accept_next.Goals as goal

pub check_method-requires : goal.check_method-requires
check_method-requires c =
    let is : IsMember c.args.classes.now c.args.id c.index-classes-id.result c.index-as_slice-from.result =
    member_here c.args.classes.now c.args.id c.index-classes-id.result c.index-as_slice-from.result c.as_slice.result.now c.from.result c.requires.here c.index-classes-id.is c.as_slice.ensures c.from.ensures c.index-as_slice-from.is in
    method_of c.args.world.now c.args.classes.now c.args.id c.index-classes-id.result c.index-as_slice-from.result c.requires.files is

pub returns-in-Ok-None-clause-accepted : goal.returns-in-Ok-None-clause-accepted
returns-in-Ok-None-clause-accepted c =
    let is : IsMember c.args.classes.now c.args.id c.index-classes-id.result c.index-as_slice-from.result =
    member_here c.args.classes.now c.args.id c.index-classes-id.result c.index-as_slice-from.result c.as_slice.result.now c.from.result c.requires.here c.index-classes-id.is c.as_slice.ensures c.from.ensures c.index-as_slice-from.is in
    let lacks : IsWithoutCode c.index-as_slice-from.result = rw c.in-Ok-None.field-0-is at c.in-Ok-None.ensures.passed in
    until_skipped c.args.world.now c.args.classes.now c.args.id.class.number c.args.id.index c.index-classes-id.result c.index-as_slice-from.result c.args.accepted.items is lacks c.requires.before

pub returns-in-Ok-Some-clause-accepted : goal.returns-in-Ok-Some-clause-accepted
returns-in-Ok-Some-clause-accepted c =
    let is : IsMember c.args.classes.now c.args.id c.index-classes-id.result c.index-as_slice-from.result =
    member_here c.args.classes.now c.args.id c.index-classes-id.result c.index-as_slice-from.result c.as_slice.result.now c.from.result c.requires.here c.index-classes-id.is c.as_slice.ensures c.from.ensures c.index-as_slice-from.is in
    let own : IsAccepted c.args.world.now c.index-classes-id.result c.args.id c.index-as_slice-from.result c.in-Ok-Some.framed = rw c.in-Ok-Some.field-0-is at c.in-Ok-Some.ensures.passed in
    let here : c.in-Ok-Some.framed.method ≡ c.args.id = rw c.in-Ok-Some.field-0-is at c.in-Ok-Some.ensures.method in
    rw (c.in_ok-push-in-Ok-Some.ensures.items, c.in-Ok-Some.field-0-is)
    (until_added c.args.world.now c.args.classes.now c.args.id.class.number c.args.id.index c.index-classes-id.result c.index-as_slice-from.result c.args.accepted.items c.in-Ok-Some.framed is here own c.requires.before)

pub refusal_at-requires : goal.refusal_at-requires
refusal_at-requires c =
    let is : IsMember c.args.classes.now c.args.id c.index-classes-id.result c.index-as_slice-from.result =
    member_here c.args.classes.now c.args.id c.index-classes-id.result c.index-as_slice-from.result c.as_slice.result.now c.from.result c.requires.here c.index-classes-id.is c.as_slice.ensures c.from.ensures c.index-as_slice-from.is in
    texts_here c.args.world.now c.args.classes.now c.args.id c.index-classes-id.result c.index-as_slice-from.result c.requires.files is

pub returns-in-Err-At-clause-stopped : goal.returns-in-Err-At-clause-stopped
returns-in-Err-At-clause-stopped c =
    let is : IsMember c.args.classes.now c.args.id c.index-classes-id.result c.index-as_slice-from.result =
    member_here c.args.classes.now c.args.id c.index-classes-id.result c.index-as_slice-from.result c.as_slice.result.now c.from.result c.requires.here c.index-classes-id.is c.as_slice.ensures c.from.ensures c.index-as_slice-from.is in
    let fails : FailsMethod c.args.world.now c.index-classes-id.result c.args.id c.index-as_slice-from.result c.in-Err-At.rule c.in-Err-At.pc = rw c.in-Err-At.field-0-is at c.in-Err-At.ensures.stopped in
    stops_at c.args.world.now c.args.classes.now c.args.id c.index-classes-id.result c.index-as_slice-from.result c.args.accepted.items c.in-Err-At.rule c.in-Err-At.pc c.refusal_at.result is c.requires.before fails c.refusal_at.ensures
