-- What is framed, read and walked is the class, and nothing else has one.
use Rattle.std.proofs.Common.{◌∙◌, sym, ap, Err}
use Rattle.std.proofs.lemmas.Result.{err_from_is_err_and}
use Rattle.calls_form.proofs.ClassesSteps.{err_is}
use Rattle.calls_form.proofs.ClassesOutline.{class_read, unframed, unwalked}
use Rattle.calls_form.proofs.class_of_outline.class_of.Goals as goal

pub returns-then-not-is_framed-clause-malformed : goal.returns-then-not-is_framed-clause-malformed
returns-then-not-is_framed-clause-malformed c = λ _ d h. unframed c.args.name.now c.args.outline.now d (sym c.is_framed.ensures ∙ c.if-not-is_framed.true) h

pub returns-in_err-check_walks-clause-malformed : goal.returns-in_err-check_walks-clause-malformed
returns-in_err-check_walks-clause-malformed c = λ e d h.
    let p = err_from_is_err_and c.from_residual-in_err-check_walks.result c.from_residual-in_err-check_walks.ensures.1 in
    let is = err_is c.from_residual-in_err-check_walks.result p.0 c.in_err-check_walks.field-0.0 p.1 p.2 e in
    unwalked c.args.name.now c.args.outline.now c.in_ok-class.class d c.in_ok-class.ensures.found (λ w. c.in_err-check_walks.ensures.malformed (ap (λ x. Err x) is) w) h

pub returns-clause-found : goal.returns-clause-found
returns-clause-found c = class_read c.args.name.now c.args.outline.now c.in_ok-class.class (sym c.is_framed.ensures ∙ c.if-not-is_framed.false) c.in_ok-class.ensures.found c.in_ok-check_walks.ensures.found
