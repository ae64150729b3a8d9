-- Names and descriptors are compared by `==`.
use Rattle.std.proofs.Common.{sym, ◌∙◌}
use Rattle.std.specs.Cmp.Lexicographic.{bytes_decides}
use Rattle.jv_equality.proofs.ToldApart.{method_desc_told}
use Rattle.jv_resolve.proofs.members.is_method_called.Goals as goal

pub returns-then-eq : goal.returns-then-eq
returns-then-eq c =
    let method = c.args.method.now in
    let name = (bytes_decides method.name c.args.name.now).0 (sym c.eq.ensures ∙ c.if-eq.true) in
    let descs = method_desc_told method.desc c.args.desc.now in
    (λ same. (name, descs.0 (sym c.eq-then-eq.ensures ∙ same)), λ is. c.eq-then-eq.ensures ∙ descs.1 is.1)
