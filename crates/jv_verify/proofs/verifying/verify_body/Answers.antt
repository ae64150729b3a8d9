use Rattle.std.proofs.Common.{◌≡◌, subst}
use Rattle.std.proofs.lemmas.Result.{IfErr-weaker}
use Rattle.jv_attr.specs.declared.attr.CodeAttr.{CodeAttr}
use Rattle.jv_frames.specs.Maps.{AreFramesOf}
use Rattle.jv_verify.specs.Verified.{IsCodeOf}
use Rattle.jv_verify.proofs.OneCode.{one_code}
use Rattle.jv_verify.proofs.Ready.{decoded_is_ready}
use Rattle.jv_verify.proofs.Causes.{by_maps, by_types}
use Rattle.jv_verify.proofs.verifying.verify_body.Goals as goal

pub returns-in-Err-clause-refused : goal.returns-in-Err-clause-refused
returns-in-Err-clause-refused c =
    by_maps c.args.world.now c.args.class.now c.args.id c.args.body c.in-Some.code.now c.in-Err.refusal (rw c.in-Some.is at c.in_ok-code.ensures.found) c.in-Err.ensures.refused

pub framed-requires-clause-ready : goal.framed-requires-clause-ready
framed-requires-clause-ready c =
    let has = c.requires.has in
    let is : IsCodeOf c.args.world.now c.args.class.now c.args.id c.in-Some.code.now = rw c.in-Some.is at c.in_ok-code.ensures.found in
    let same : c.in-Some.code.now ≡ has.code = one_code c.args.world.now c.args.class.now c.args.id c.in-Some.code.now has.code c.requires.distinct is has.is in
    let maps : AreFramesOf c.args.world.now c.args.id c.args.class.now.pool has.code c.args.body c.in-Ok.maps.items =
    subst (λ (code : CodeAttr). AreFramesOf c.args.world.now c.args.id c.args.class.now.pool code c.args.body c.in-Ok.maps.items) same c.in-Ok.ensures.found in
    rw c.as_slice.ensures.value (decoded_is_ready c.args.world.now c.args.id c.args.class.now.pool has.code c.args.body c.in-Ok.maps.items has.spelled has.decodes maps)

pub returns-in-Ok-clause-refused : goal.returns-in-Ok-clause-refused
returns-in-Ok-clause-refused c =
    let is : IsCodeOf c.args.world.now c.args.class.now c.args.id c.in-Some.code.now = rw c.in-Some.is at c.in_ok-code.ensures.found in
    IfErr-weaker c.framed.result _ _
    (λ e h. by_types c.args.world.now c.args.class.now c.args.id c.args.body c.in-Some.code.now c.in-Ok.maps.items e is c.in-Ok.ensures.found (rw c.as_slice.ensures.value at h)) c.framed.ensures.refused
