use Rattle.std.proofs.Common.{◌≡◌, Some, sym}
use Rattle.std.proofs.lemmas.Result.{err_from_is_err_and}
use Rattle.jv_class.specs.MethodCodes.{code_in}
use Rattle.av_method_rules.proofs.Members.{among_methods, has_body, has_method, short_code}
use Rattle.av_method_rules.proofs.Typed.{code_stop}
use Rattle.av_method_rules.proofs.checking.check_method.Goals as goal

pub decoded-requires : goal.decoded-requires
decoded-requires c =
    let has : code_in c.args.member.now.attrs ≡ Some c.in-Some.code.now = sym c.in-Some.ensures in
    short_code c.args.class.now c.args.member.now c.in-Some.code.now c.requires.of_file (among_methods c.args.world.now c.args.class.now c.args.id c.args.member.now c.requires) has

pub returns-in_err-body-clause-stopped : goal.returns-in_err-body-clause-stopped
returns-in_err-body-clause-stopped c =
    let has : code_in c.args.member.now.attrs ≡ Some c.in-Some.code.now = sym c.in-Some.ensures in
    let p = err_from_is_err_and c.from_residual.result c.from_residual.ensures.1 in
    rw (p.1, p.2) (code_stop c.args.world.now c.args.class.now c.args.id c.args.member.now c.in-Some.code.now c.in_err-body.field-0.0 has c.in_err-body.ensures.stopped)

pub frames_of_method-requires-clause-method : goal.frames_of_method-requires-clause-method
frames_of_method-requires-clause-method c = has_method c.args.world.now c.args.class.now c.args.id c.args.member.now c.requires

pub frames_of_method-requires-clause-has : goal.frames_of_method-requires-clause-has
frames_of_method-requires-clause-has c =
    let has : code_in c.args.member.now.attrs ≡ Some c.in-Some.code.now = sym c.in-Some.ensures in
    has_body c.args.world.now c.args.class.now c.args.id c.args.member.now c.in-Some.code.now c.in_ok-body.body c.requires (record { has = has; decodes = c.in_ok-body.ensures.decoded })
