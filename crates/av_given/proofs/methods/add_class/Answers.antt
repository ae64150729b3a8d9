use Rattle.std.proofs.Common.{length, refl}
use Rattle.std.proofs.lemmas.Option.{slice_get_read}
use Rattle.av_given.specs.Steps.Parts.{MemberHasBody, MemberNames}
use Rattle.av_given.proofs.Adding.{loop_of, loop_more, loop_start}
use Rattle.av_given.proofs.Names.{among_here, place_fits, states_name}
use Rattle.av_given.proofs.methods.add_class.Goals as goal

pub name_of-requires : goal.name_of-requires
name_of-requires c = states_name c.args.class.now c.requires

pub loop-index-init : goal.loop-index-init
loop-index-init c = (
  loop_start (λ place. MemberNames c.args.class.now) c.as_slice-members.result.now c.args.found.maps.items,
  loop_start (MemberHasBody c.args.class.now) c.as_slice-members.result.now c.args.found.bodies.items,
)

pub overflow_cast-place : goal.overflow_cast-place
overflow_cast-place c = record { fits = place_fits c.args.class.now c.as_slice-members.result.now c.loop-index.index c.requires c.as_slice-members.ensures c.loop-index-test.true }

pub add_method-requires-clause-among : goal.add_method-requires-clause-among
add_method-requires-clause-among c = among_here c.args.class.now c.as_slice-members.result.now c.loop-index.index c.index-members-index.result c.as_slice-members.ensures c.loop-index-test.true c.index-members-index.is

pub loop-index-preserved : goal.loop-index-preserved
loop-index-preserved c =
    let at = slice_get_read c.as_slice-members.result.now (length c.as_slice-members.result.now) c.loop-index.index c.index-members-index.result refl c.loop-index-test.true c.index-members-index.is in (
      loop_more (λ place. MemberNames c.args.class.now) c.as_slice-members.result.now c.loop-index.index c.index-members-index.result c.args.found.maps.items c.loop-index.grown.maps.items c.in_ok-next.next.maps.items at c.loop-index.invariant.0 c.in_ok-next.ensures.maps,
      loop_more (MemberHasBody c.args.class.now) c.as_slice-members.result.now c.loop-index.index c.index-members-index.result c.args.found.bodies.items c.loop-index.grown.bodies.items c.in_ok-next.next.bodies.items at c.loop-index.invariant.1 c.in_ok-next.ensures.bodies,
    )

pub returns-clause-maps : goal.returns-clause-maps
returns-clause-maps c =
    loop_of (λ place. MemberNames c.args.class.now) c.as_slice-members.result.now c.args.class.now.methods c.loop-index.index c.args.found.maps.items c.loop-index.grown.maps.items c.as_slice-members.ensures c.loop-index-test.false c.loop-index.invariant.0

pub returns-clause-bodies : goal.returns-clause-bodies
returns-clause-bodies c =
    loop_of (MemberHasBody c.args.class.now) c.as_slice-members.result.now c.args.class.now.methods c.loop-index.index c.args.found.bodies.items c.loop-index.grown.bodies.items c.as_slice-members.ensures c.loop-index-test.false c.loop-index.invariant.1
