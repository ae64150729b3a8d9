-- There are as many instructions as before.
use Rattle.std.proofs.Common.{◌≡◌, length, refl, sym, ap, subst, ◌∙◌}
use Rattle.std.proofs.Math.ListN.{length-set}
use Rattle.av_asm.specs.Built.{Built, IsOpen}
use Rattle.av_asm.proofs.Keeping.{keeps_as}
use Rattle.av_asm.proofs.builder.CodeBuilder.land.Goals as goal

pub invariant_of-self : goal.invariant_of-self
invariant_of-self c =
    let steps = c.self.inside.steps.items in
    let open_at = subst (λ (b : Built). IsOpen b.steps c.args.branch) (sym c.self.view_is) c.requires in
    let same : length c.land_step.new.steps.items ≡ length steps = ap length (c.land_step.ensures open_at.0 open_at.1) ∙ simp length-set in
    keeps_as steps c.land_step.new.steps.items c.self.inside.frames.items c.self.inside.frames.items c.self.inside.spans.items same refl c.self.invariant
