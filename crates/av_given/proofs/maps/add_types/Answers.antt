use Rattle.std.proofs.Common.{get_or}
use Rattle.std.proofs.lemmas.Option.{slice_get-get_or}
use Rattle.jv_attr.specs.declared.frame.MapType.{MapType}
use Rattle.av_given.specs.Steps.Parts.{TypeNames}
use Rattle.av_given.proofs.Adding.{loop_all, loop_more, loop_start}
use Rattle.av_given.proofs.maps.add_types.Goals as goal

-- any written type
any : MapType
any = record { tag = 0; arg = 0 }

pub loop-written-init : goal.loop-written-init
loop-written-init c = loop_start (λ place. TypeNames c.args.pool.now) c.args.types.now c.args.texts.items

pub loop-written-preserved : goal.loop-written-preserved
unfolding any
loop-written-preserved c =
    loop_more (λ place. TypeNames c.args.pool.now) c.args.types.now c.loop-written.written-index (get_or c.args.types.now c.loop-written.written-index any) c.args.texts.items c.loop-written.named.items c.in_ok-next.next.items
    (slice_get-get_or c.args.types.now c.loop-written.written-index any c.loop-written-test.true) c.loop-written.invariant c.in_ok-next.ensures

pub returns : goal.returns
returns c = loop_all (λ place. TypeNames c.args.pool.now) c.args.types.now c.loop-written.written-index c.args.texts.items c.loop-written.named.items c.loop-written-test.false c.loop-written.invariant
