-- Where the bytes are a class, they have an outline, and it is the one that was read.
use Rattle.std.proofs.Common.{ap, Err}
use Rattle.std.proofs.lemmas.Result.{err_from_is_err_and}
use Rattle.calls_form.proofs.ClassesSteps.{err_is}
use Rattle.calls_form.proofs.ClassesFile.{class_of_outline}
use Rattle.calls_form.proofs.read.read_object_class.Goals as goal

pub returns-in_err-outline-clause-malformed : goal.returns-in_err-outline-clause-malformed
returns-in_err-outline-clause-malformed c = λ e d h.
    let p = err_from_is_err_and c.from_residual.result c.from_residual.ensures.1 in
    let is = err_is c.from_residual.result p.0 c.in_err-outline.field-0.0 p.1 p.2 e in
    c.in_err-outline.ensures.malformed (ap (λ x. Err x) is) h.outline h.is_outline

pub returns-clause-malformed : goal.returns-clause-malformed
returns-clause-malformed c = λ e d h.
    c.class_of.ensures.malformed e d (class_of_outline c.args.name.now c.args.bytes.now c.in_ok-outline.outline d c.in_ok-outline.ensures.found h)
