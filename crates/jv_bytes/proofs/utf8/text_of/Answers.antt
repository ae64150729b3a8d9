use Rattle.std.proofs.Common.{◌+◌, List, ℕ, subst, take, arith, sym}
use Rattle.std.proofs.lemmas.List.{take_more}
use Rattle.jv_bytes.specs.Utf8.{IsText}
use Rattle.jv_bytes.proofs.Utf8Laws.{text-push}
use Rattle.jv_bytes.proofs.utf8.text_of.Goals as goal

pub loop-unit-preserved : goal.loop-unit-preserved
loop-unit-preserved c =
    let units = c.args.units.now in
    let i = c.loop-unit.unit-index in
    let put = c.in_ok-put_unit.ensures.ok in
    let text = text-push (take i units) _ c.loop-unit.text.items put.0 c.loop-unit.invariant put.1 in
    subst (λ (t : List ℕ). IsText t (take (i + 1) units)) (sym put.2) (rw (take_more units i 0 (omega arith)) text)
