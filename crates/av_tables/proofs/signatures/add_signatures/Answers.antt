use Rattle.std.proofs.Common.{subst}
use Rattle.jv_fix.proofs.Putting.{puts}
use Rattle.jv_fix.specs.Seen.{Puts}
use Rattle.av_tables.specs.contracts.signature.SignatureOrd as signature_ord
use Rattle.av_tables.specs.declared.signature.Signature.{Signature}
use Rattle.av_tables.proofs.Sets.{gains_all, gains_more, gains_none}
use Rattle.av_tables.proofs.Rising.{signatures_apart}
use Rattle.av_tables.proofs.signatures.add_signatures.Goals as goal

pub loop-method-init : goal.loop-method-init
loop-method-init c = gains_none c.args.methods.now c.args.set.now.keys

pub loop-method-preserved : goal.loop-method-preserved
loop-method-preserved c =
    let e = c.in_ok-insert.ensures in
    gains_more c.args.methods.now c.loop-method.method-index c.method-item.result c.args.set.now.keys c.loop-method.set.keys c.insert.new.self.keys c.in_ok-insert.field-0 c.loop-method-test.true c.method-item.is c.loop-method.invariant
    (subst (λ (s : Signature). Puts c.loop-method.set.keys s c.in_ok-insert.field-0 c.insert.new.self.keys) c.in_ok-signature_of.ensures
    (puts signature_ord.TheImpl.Laws.total-law signatures_apart c.loop-method.set c.insert.new.self c.in_ok-signature_of.field-0 c.in_ok-insert.field-0 e.added e.updates e.len))

pub returns : goal.returns
returns c = gains_all c.args.methods.now c.loop-method.method-index c.args.set.now.keys c.loop-method.set.keys c.loop-method-test.false c.loop-method.invariant
