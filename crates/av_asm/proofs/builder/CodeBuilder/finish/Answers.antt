-- What was put may be written.
use Rattle.std.proofs.Common.{subst}
use Rattle.av_asm.specs.Built.{Built, KeepsForm}
use Rattle.av_asm.proofs.Planned.{may_write}
use Rattle.av_asm.proofs.builder.CodeBuilder.finish.Goals as goal

pub code_attr-requires : goal.code_attr-requires
code_attr-requires c =
    may_write c.args.pool.now c.args.self c.in-Ok.framed (subst (λ (b : Built). KeepsForm b.steps b.frames b.spans) c.self.view_is c.self.invariant) c.requires c.in-Ok.ensures.framed
