-- Main among the methods of a class.
use Rattle.std.proofs.Common.{◌≡◌, ℕ, ◌<◌, ◌≤◌, List, length, get_or, Some, refl, sym, ◌∙◌, arith}
use Rattle.std.specs.List.{slice_get}
use Rattle.std.proofs.lemmas.Option.{slice_get_read, slice_get_within, same_Some}
use Rattle.calls_form.specs.declared.object_class.Method.{Method}
use Rattle.calls_form.specs.declared.object_class.ObjectClass.{ObjectClass}
use Rattle.calls_model.specs.First.Machine.{IsMain}
use Rattle.calls_facts.specs.First.Prepared.{IsMainMethod}
use Rattle.av_cli.specs.Calls.FileKinds.{DeclaresMain}

module _ (class : ObjectClass) (items : List Method) (same : items ≡ class.methods) (place : ℕ) (m : Method) (below : place < length items) (read : m ≡ get_or items place m) where
  method_at : slice_get class.methods place ≡ Some m
  method_at = rw (← same) (slice_get_read items (length items) place m refl below read)

  pub main_at : IsMainMethod m → DeclaresMain class
  main_at main = (place, (m, method_at, main.0, main.1, main.2, main.3))

  pub main_from : IsMain class place → IsMainMethod m
  main_from main = let one : main.0 ≡ m = same_Some main.0 m (sym main.1 ∙ method_at) in rw (← one) (main.2, main.3, main.4, main.5)

-- a class none of whose methods is main
pub no_main : (class : ObjectClass) (count : ℕ) → length class.methods ≤ count → ((place : ℕ) → place < count → ¬ IsMain class place) → ¬ DeclaresMain class
no_main class count past none = λ declares.
    let within : declares.0 < length class.methods = slice_get_within class.methods declares.0 declares.1.0 declares.1.1 in
    none declares.0 (omega arith) declares.1
