use Rattle.std.proofs.Common.{◌≡◌, ◌⊎◌, ℕ, List}
use Rattle.std.proofs.lemmas.Result.{on_ok_weaker}
use Rattle.jv_world.specs.Worlds.{object_name}
use Rattle.av_conditions.specs.CoreClasses.{class_name, string_name, throwable_name}
use Rattle.av_named.proofs.Appending.{appends_both}
use Rattle.av_named.proofs.core_names.push_core_classes.Goals as goal

pub returns : goal.returns
returns c =
    on_ok_weaker c.push_bytes-4.result
    (λ h. appends_both (λ (n : List ℕ). n ≡ object_name) (λ n. (n ≡ throwable_name) ⊎ ((n ≡ string_name) ⊎ (n ≡ class_name))) c.args.out.now.items c.push_bytes.new.out.items c.push_bytes-4.new.out.items c.in_ok-push_bytes.ensures
    (appends_both (λ (n : List ℕ). n ≡ throwable_name) (λ n. (n ≡ string_name) ⊎ (n ≡ class_name)) c.push_bytes.new.out.items c.push_bytes-2.new.out.items c.push_bytes-4.new.out.items c.in_ok-push_bytes-2.ensures
    (appends_both (λ (n : List ℕ). n ≡ string_name) (λ n. n ≡ class_name) c.push_bytes-2.new.out.items c.push_bytes-3.new.out.items c.push_bytes-4.new.out.items c.in_ok-push_bytes-3.ensures h)))
    c.push_bytes-4.ensures
