use Rattle.std.proofs.Common.{◌≡◌, ℕ, List}
use Rattle.std.proofs.lemmas.Result.{on_ok_weaker}
use Rattle.av_conditions.specs.CoreClasses.{cloneable_name, serializable_name}
use Rattle.av_named.proofs.Appending.{appends_both}
use Rattle.av_named.proofs.core_names.push_core_interfaces.Goals as goal

pub returns : goal.returns
returns c =
    on_ok_weaker c.push_bytes-2.result
    (appends_both (λ (n : List ℕ). n ≡ cloneable_name) (λ n. n ≡ serializable_name) c.args.out.now.items c.push_bytes.new.out.items c.push_bytes-2.new.out.items c.in_ok-push_bytes.ensures)
    c.push_bytes-2.ensures
