use Rattle.std.proofs.Common.{sym, ◌∷◌, []}
use Rattle.std.specs.List.{AllZip}
use Rattle.jv_types.specs.declared.frames.VType.{Class}
use Rattle.jv_world.specs.Instances.{IsSubNamed}
use Rattle.jv_frames.specs.Assignable.{IsAssignable}
use Rattle.jv_typing.specs.TypeSafe.{caught_name, throwable_name}
use Rattle.jv_verify.proofs.Covering.{right_target}
use Rattle.jv_verify.proofs.handlers.target_of.Goals as goal

pub returns-then-has_caught : goal.returns-then-has_caught
returns-then-has_caught c =
    let w = c.args.world.now in
    let there = c.in-Some.there.now in
    let caught = caught_name c.args.handler.now.catch in
    let throwable : IsSubNamed w caught throwable_name = rw (c.in_ok-name.ensures, c.in_ok-throwable.ensures, c.as_slice.ensures) at c.is_sub_named.ensures.0 c.if-not-is_sub_named.false in
    let stack : AllZip (IsAssignable w) (Class caught ∷ []) there.stack = rw c.in_ok-name.ensures at c.has_caught.ensures.0 c.if-has_caught.true in
    right_target w c.args.rows.now there c.args.handler.now (sym c.in-Some.ensures.value) throwable stack
