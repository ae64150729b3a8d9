use Rattle.std.proofs.Common.{◌≡◌, List, sym, subst}
use Rattle.av_tables.specs.declared.signature.Signature.{Signature}
use Rattle.av_tables.specs.Steps.{HaveSignatures}
use Rattle.av_tables.proofs.Rising.{signatures_apart}
use Rattle.av_tables.proofs.Sets.{ok_both}
use Rattle.av_tables.proofs.signatures.signatures_of.Goals as goal

pub in_order-requires : goal.in_order-requires
in_order-requires c = signatures_apart

pub returns-clause-all : goal.returns-clause-all
returns-clause-all c =
    ok_both c.in_order.result (λ rows. rows.items ≡ c.in_ok-set.set.keys) (λ rows. rows.items ≡ c.in_ok-set.set.keys) (λ rows. HaveSignatures c.args.files.now rows.items)
    (λ rows same again. subst (λ (l : List Signature). HaveSignatures c.args.files.now l) (sym same) c.in_ok-set.ensures) c.in_order.ensures.same c.in_order.ensures.same
