use Rattle.std.specs.Cmp.Lexicographic.{nat_list_cmp_total}
use Rattle.jv_fix.proofs.Putting.{puts}
use Rattle.std.proofs.Common.{◌≡◌, ℕ, List, get_or, sym, subst}
use Rattle.av_tables.proofs.Sets.{set_all, set_more, set_none}
use Rattle.av_tables.proofs.Rising.{names_apart}
use Rattle.av_tables.proofs.names.set_of.Goals as goal

pub loop-name-init : goal.loop-name-init
loop-name-init c = set_none c.new-set.result.keys c.args.names.now c.new-set.ensures.empty

pub loop-name-preserved : goal.loop-name-preserved
loop-name-preserved c =
    let e = c.in_ok-insert.ensures in
    set_more c.args.names.now c.loop-name.name-index c.in_ok-copy.field-0 c.loop-name.set.keys c.insert.new.self.keys c.in_ok-insert.field-0 c.loop-name-test.true (subst (λ (x : List ℕ). x ≡ get_or c.args.names.now c.loop-name.name-index x) (sym c.in_ok-copy.ensures) c.name-item.is)
    (puts nat_list_cmp_total names_apart c.loop-name.set c.insert.new.self c.in_ok-copy.field-0 c.in_ok-insert.field-0 e.added e.updates e.len) c.loop-name.invariant

pub returns : goal.returns
returns c = set_all c.args.names.now c.loop-name.name-index c.loop-name.set.keys c.loop-name-test.false c.loop-name.invariant
