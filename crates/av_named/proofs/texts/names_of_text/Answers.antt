use Rattle.std.proofs.Common.{◌≡◌, ℕ, List, Some, subst}
use Rattle.std.proofs.lemmas.Result.{on_ok_weaker}
use Rattle.jv_types.specs.declared.desc.RefType.{RefType}
use Rattle.jv_names.specs.Naming.{IsTypeText}
use Rattle.jv_names.proofs.NamedOnce.{one_type_text}
use Rattle.jv_resolve.proofs.Tests.{some_at}
use Rattle.jv_two_worlds.specs.Types.{EndsIn}
use Rattle.av_named.specs.Appending.{Appends}
use Rattle.av_named.specs.Named.{TextNames}
use Rattle.av_named.proofs.Appending.{appends_same}
use Rattle.av_named.proofs.texts.names_of_text.Goals as goal

of_type : (text : List ℕ) (type : RefType) (a b : List (List ℕ)) → IsTypeText text type → Appends (EndsIn type) a b → Appends (TextNames text) a b
of_type text type a b is h =
    appends_same (EndsIn type) (TextNames text) a b (λ x p. (type, is, p)) (λ x p. subst (λ (t : RefType). EndsIn t x) (one_type_text text p.0 type p.1 is) p.2) h

pub returns-in-Some : goal.returns-in-Some
returns-in-Some c =
    let named = some_at c.in_ok-type_of.field-0 c.in-Some.of (IsTypeText c.as_slice.result.now) c.in-Some.is c.in_ok-type_of.ensures.found in
    on_ok_weaker c.names_of_type.result
    (of_type c.args.text.now c.in-Some.of c.args.out.now.items c.names_of_type.new.out.items (subst (λ (t : List ℕ). IsTypeText t c.in-Some.of) c.as_slice.ensures named))
    c.names_of_type.ensures
