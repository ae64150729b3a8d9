use Rattle.std.proofs.Common.{◌≡◌, ◌+◌, List, Some, Contains, slice_get, ap, sym, ◌∙◌, subst, arith}
use Rattle.std.proofs.lemmas.Option.{slice_get_within}
use Rattle.std.proofs.lemmas.Result.{on_ok_weaker}
use Rattle.jv_resolve.proofs.Tests.{denied}
use Rattle.av_tables.specs.declared.member.Member.{Member}
use Rattle.av_tables.specs.declared.signature.Signature.{Signature}
use Rattle.av_tables.specs.Steps.{AreMembers, InPlacesBelow, known}
use Rattle.av_tables.specs.Tables.{signature_of}
use Rattle.av_tables.proofs.Noting.{has_signature, noted, passed_by}
use Rattle.av_tables.proofs.members.note_method.Goals as goal

pub returns-then-not-is_open_instance : goal.returns-then-not-is_open_instance
returns-then-not-is_open_instance c =
    passed_by (known c.args.classes.now) c.args.member c.args.method.now c.requires.here c.args.rows.now.items c.requires.before
    (denied c.is_open_instance.result c.if-not-is_open_instance.true c.is_open_instance.ensures.1)

pub returns-in-None : goal.returns-in-None
returns-in-None c =
    let has = has_signature (known c.args.classes.now) c.args.member c.args.method.now c.requires.here c.args.rows.now.items c.requires.before c.requires.covered in
    absurd (c.in-None.ensures.none (subst (λ (l : List Signature). Contains l c.in_ok-signature.signature) (sym c.as_slice.ensures.value)
    (subst (λ (s : Signature). Contains c.args.classes.now.signatures.items s) (sym c.in_ok-signature.ensures) has)))

pub add_member-requires : goal.add_member-requires
add_member-requires c =
    let found = subst (λ (l : List Signature). slice_get l c.in-Some.at ≡ Some c.in_ok-signature.signature) c.as_slice.ensures.value c.in-Some.ensures.found in
    let within = slice_get_within c.args.classes.now.signatures.items c.in-Some.at c.in_ok-signature.signature found in
    omega (arith, within, c.requires.before.count)

pub returns : goal.returns
returns c =
    let found = subst (λ (l : List Signature). slice_get l c.in-Some.at ≡ Some c.in_ok-signature.signature) c.as_slice.ensures.value c.in-Some.ensures.found in
    on_ok_weaker c.add_member.result
    (λ e. subst (λ (l : List (List Member)). AreMembers (InPlacesBelow c.args.member.class (c.args.member.place + 1)) (known c.args.classes.now) l) (sym e)
    (noted (known c.args.classes.now) c.args.member c.args.method.now c.requires.here c.args.rows.now.items c.requires.before c.requires.rising c.in-Some.at
    (c.is_open_instance.ensures.0 c.if-not-is_open_instance.false) (found ∙ ap (λ (s : Signature). Some s) c.in_ok-signature.ensures)))
    c.add_member.ensures
