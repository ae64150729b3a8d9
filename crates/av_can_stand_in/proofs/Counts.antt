-- How many classes and interfaces are collected.
use Rattle.std.proofs.Common.{◌<◌, ◌≤◌, ◌^◌, ℕ, ◌⊎◌, inl, inr, List, Contains, length, sym, ◌∙◌, subst, arith}
use Rattle.std.proofs.lemmas.Bool.{cases_lt}
use Rattle.std.proofs.lemmas.List.{map-id}
use Rattle.jv_types.specs.declared.shapes.Shape.{Shape}
use Rattle.av_collected.specs.Answers.{AreRising}
use Rattle.av_collected.specs.Rules.{ClassNamed, IsCollected}
use Rattle.av_conditions.specs.StandIn.{IsLibraryInterface}
use Rattle.av_standin_of.specs.Lists.{AreJust}
use Rattle.av_standin_of.specs.Names.{name_order}
use Rattle.av_stops.specs.Programs.{IsCollectedWorld}
use Rattle.av_can_stand_in.proofs.Parts.{library_cut}

module _ (w : List Shape) (dims : ℕ) (p : IsCollectedWorld w dims) where
  -- different names of collected classes are not too many
  pub few_names : (names : List (List ℕ)) → AreRising names → ((name : List ℕ) → Contains names name → IsCollected p.given p.library (ClassNamed name)) → length names ≤ 8000
  few_names names rising each = by (cases_lt 8000 (length names))
    where
      by : (8000 < length names) ⊎ (length names ≤ 8000) → length names ≤ 8000
      by (inl more) = absurd (p.few (record { names = names; rising = rising; more = more; each = each }))
      by (inr le) = le

  -- an interface of the library is collected
  interface_collected : (name : List ℕ) → IsLibraryInterface w name → IsCollected p.given p.library (ClassNamed name)
  interface_collected name (s, here, named, library, interface) =
      let cut = library_cut w dims p s here library in
      subst (λ (n : List ℕ). IsCollected p.given p.library (ClassNamed n)) (sym cut.reduced.name ∙ named) cut.collected

  pub few_interfaces : (names : List (List ℕ)) → AreJust name_order (λ (name : List ℕ). name) (IsLibraryInterface w) names → length names < 2 ^ 16
  few_interfaces names just =
      let rising : AreRising names = subst AreRising (map-id names) just.rising in
      let few = few_names names rising (λ name among. interface_collected name (just.only name among)) in
      omega (arith, few)
