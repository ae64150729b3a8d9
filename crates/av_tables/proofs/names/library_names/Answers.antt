use Rattle.std.proofs.Common.{◌≡◌, ◌↔◌, ℕ, List, Contains, subst}
use Rattle.std.specs.Cmp.Lexicographic.{slice_cmp}
use Rattle.std.specs.Ordering.{nat_cmp}
use Rattle.jv_fix.specs.Order.{IsSet}
use Rattle.av_tables.specs.Mentions.{AreLibraryNames}
use Rattle.av_tables.proofs.Sets.{library_are, ok_both}
use Rattle.av_tables.proofs.Rising.{names_apart}
use Rattle.av_tables.proofs.names.library_names.Goals as goal

pub in_order-requires : goal.in_order-requires
in_order-requires c = names_apart

pub returns : goal.returns
returns c =
    ok_both c.in_order.result (λ rows. rows.items ≡ c.leave_out.new.set.keys) (λ rows. IsSet (slice_cmp nat_cmp) rows.items) (λ rows. AreLibraryNames c.args.app.now c.args.named.now c.args.files.now rows.items)
    (λ rows same set. library_are c.args.app.now c.args.named.now c.args.files.now c.in_ok-names.names.items c.in_ok-set.set.keys c.leave_out.new.set.keys rows.items c.in_ok-names.ensures
    (subst (λ (l : List (List ℕ)). (name : List ℕ) → Contains c.in_ok-set.set.keys name ↔ Contains l name) c.as_slice.ensures.value c.in_ok-set.ensures) c.leave_out.ensures same set)
    c.in_order.ensures.same c.in_order.ensures.rising
