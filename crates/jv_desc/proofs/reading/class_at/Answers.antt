use Rattle.std.proofs.Common.{◌≡◌, false, sym, ◌∙◌}
use Rattle.jv_types.specs.NameForms.{is_class_name}
use Rattle.jv_desc.proofs.Fronts.{no_end}
use Rattle.jv_desc.proofs.RefReading.{no_class}
use Rattle.jv_desc.proofs.reading.class_at.Goals as goal

pub returns-in_default-clause-bad : goal.returns-in_default-clause-bad
returns-in_default-clause-bad c =
    λ _ name rest named parts. no_end c.args.bytes.now name rest c.in_default.ensures.none parts

pub returns-then-not-is_class_name-clause-bad : goal.returns-then-not-is_class_name-clause-bad
returns-then-not-is_class_name-clause-bad c =
    let bad : is_class_name c.in-Some.name.now ≡ false = sym c.is_class_name.ensures ∙ c.if-not-is_class_name.true in
    λ _. no_class c.args.bytes.now c.in-Some.name.now c.in-Some.rest.now c.in-Some.ensures.found c.in-Some.ensures.parts bad
