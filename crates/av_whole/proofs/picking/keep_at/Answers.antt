use Rattle.std.proofs.Common.{ℕ, ◌<◌, false, [], ◌∷◌, ◌++◌, length, get_or, refl, ap, sym, ◌∙◌, subst}
use Rattle.std.proofs.lemmas.Option.{slice_get-get_or}
use Rattle.jv_types.specs.declared.shapes.Shape.{Shape}
use Rattle.av_whole.proofs.Picked.{step_kept, step_left}
use Rattle.av_whole.proofs.picking.keep_at.Goals as goal

pub returns-in_ok-push : goal.returns-in_ok-push
returns-in_ok-push c part =
    let below : c.args.place < length c.args.marks.now = subst (λ (n : ℕ). c.args.place < n) (sym c.requires.marks.count) c.requires.here in
    step_kept c.args.shapes.now c.args.kept.now.items c.push.new.self.items c.args.marks.now c.args.place c.index-shapes-place.result (get_or c.args.marks.now c.args.place false)
    c.requires.numbered c.requires.marks c.requires.here c.index-shapes-place.is (slice_get-get_or c.args.marks.now c.args.place false below) c.if-marks-place.true
    (c.in_ok-push.ensures.items ∙ ap (λ (s : Shape). c.args.kept.now.items ++ s ∷ []) c.in_ok-copy.ensures) part

pub returns-else-marks-place : goal.returns-else-marks-place
returns-else-marks-place c part =
    let below : c.args.place < length c.args.marks.now = subst (λ (n : ℕ). c.args.place < n) (sym c.requires.marks.count) c.requires.here in
    step_left c.args.shapes.now c.args.kept.now.items c.args.kept.now.items c.args.marks.now c.args.place (get_or c.args.marks.now c.args.place false)
    c.requires.numbered c.requires.marks c.requires.here (slice_get-get_or c.args.marks.now c.args.place false below) c.if-marks-place.false refl part
