-- The laws of reading, at the bytes that were passed.
use Rattle.std.proofs.Common.{arith}
use Rattle.calls_form.proofs.LayoutWhole.{is_found, is_malformed}
use Rattle.calls_form.proofs.layout.read_outline.Goals as goal

pub returns-clause-found : goal.returns-clause-found
returns-clause-found c = is_found c.args.bytes.now c.read_all.result (λ i. omega (arith, c.type_inv.bytes i)) c.read_all.ensures

pub returns-clause-malformed : goal.returns-clause-malformed
returns-clause-malformed c = is_malformed c.args.bytes.now c.read_all.result c.read_all.ensures
