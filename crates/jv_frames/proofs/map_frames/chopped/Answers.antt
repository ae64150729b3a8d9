use Rattle.std.proofs.Common.{◌++◌, drop, sym, ap, ◌∙◌, arith}
use Rattle.std.proofs.lemmas.List.{take-append-drop, length-drop}
use Rattle.jv_frames.proofs.map_frames.chopped.Goals as goal

pub returns-in-Some : goal.returns-in-Some
returns-in-Some c =
    let locals = c.args.locals.items in
    let rest = c.in-Some.rest in (
      drop rest locals,
      sym (take-append-drop rest locals) ∙ ap (λ front. front ++ drop rest locals) (sym c.truncate.ensures.items),
      omega (arith, length-drop rest locals, c.in-Some.ensures, c.from.ensures, c.len.ensures),
    )
