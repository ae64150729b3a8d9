-- What is answered over what was read, from what was found among its classes.
use Rattle.std.proofs.Common.{◌≡◌, ℕ, List, Option, None, Some, map, refl, sym, subst}
use Rattle.jv_types.specs.declared.shapes.Shape.{Shape}
use Rattle.av_collected.specs.Answers.{AreCollected, FailsApart, FailsForm, FailsNot, FailsThere}
use Rattle.av_collected.specs.Conditions.{AreGiven}
use Rattle.av_collected.specs.Libraries.{LibraryFile, IsLibrary}
use Rattle.av_collected.specs.Naming.{Application}
use Rattle.av_dims.specs.Greatest.{AreSmall, IsGreatest, OfSome, ShapeDims}
use Rattle.av_refused.specs.Firsts.{Finds, HasNone, HasUnfit, IsFirst, NamesOne, NoneOf, item_name, shape_name}
use Rattle.av_round.specs.declared.class_items.ClassItems.{ClassItems}
use Rattle.av_round.specs.Listing.{AreItems}
use Rattle.av_closure.specs.Steps.{AreShapes, HaveShapes}
use Rattle.av_closure.proofs.CauseLemmas.{apart_fails, form_fails, have_shapes, none_fails, there_fails}
use Rattle.av_closure.proofs.ClassLemmas.{are_collected}
use Rattle.av_closure.proofs.DimLemmas.{Spoken, greatest_over, small_reduced}

module _ {X : Type 0} (name_of : X → List ℕ) (P : X → Type 0) (xs : List X) where
  pub first_found : (r : Option (List ℕ)) (name : List ℕ) → Finds name_of P xs r → r ≡ Some name → IsFirst name_of P xs name
  first_found r name h is = subst (Finds name_of P xs) is h

  pub none_found : (r : Option (List ℕ)) → Finds name_of P xs r → ((name : List ℕ) → r ≡ Some name → ⊥) → NoneOf P xs
  none_found None h not = h
  none_found (Some name) h not = absurd (not name refl)

module _ (given : Application) (is_given : AreGiven given) (part : List LibraryFile) (library : IsLibrary part) (classes : List ClassItems) (items : AreItems given part classes) where
  pub unfit_over : (r : Option (List ℕ)) (name : List ℕ) → Finds item_name (HasUnfit part) classes r → r ≡ Some name → FailsForm given part name
  unfit_over r name h is = form_fails given part library classes items name (first_found item_name (HasUnfit part) classes r name h is)

  module _ (unfit : Option (List ℕ)) (fit : Finds item_name (HasUnfit part) classes unfit) (all_fit : (name : List ℕ) → unfit ≡ Some name → ⊥) where
    are_fit : NoneOf (HasUnfit part) classes
    are_fit = none_found item_name (HasUnfit part) classes unfit fit all_fit

    pub missing_over : (r : Option (List ℕ)) (name : List ℕ) → Finds item_name (HasNone part) classes r → r ≡ Some name → FailsThere given part name
    missing_over r name h is = there_fails given part library classes items name are_fit (first_found item_name (HasNone part) classes r name h is)

    module _ (missing : Option (List ℕ)) (there : Finds item_name (HasNone part) classes missing) (all_there : (name : List ℕ) → missing ≡ Some name → ⊥) where
      are_there : NoneOf (HasNone part) classes
      are_there = none_found item_name (HasNone part) classes missing there all_there

      pub shapes_over : HaveShapes part classes
      shapes_over = have_shapes given part library classes items are_fit are_there

      module _ (full reduced slice : List Shape) (shapes : AreShapes part classes full reduced) (own : List (List ℕ)) (are_own : own ≡ map shape_name given.shapes) where
        same_finds : (r : Option (List ℕ)) → slice ≡ reduced → Finds shape_name (NamesOne own) slice r → Finds shape_name (NamesOne (map shape_name given.shapes)) reduced r
        same_finds r same h =
            subst (λ (l : List Shape). Finds shape_name (NamesOne (map shape_name given.shapes)) l r) same
            (subst (λ (names : List (List ℕ)). Finds shape_name (NamesOne names) slice r) are_own h)

        pub apart_over : (r : Option (List ℕ)) (name : List ℕ) → slice ≡ reduced → Finds shape_name (NamesOne own) slice r → r ≡ Some name → FailsApart given part name
        apart_over r name same h is =
            apart_fails given part library classes items full reduced shapes name are_fit are_there
            (first_found shape_name (NamesOne (map shape_name given.shapes)) reduced r name (same_finds r same h) is)

        pub fails_not : (r : Option (List ℕ)) → slice ≡ reduced → Finds shape_name (NamesOne own) slice r → ((name : List ℕ) → r ≡ Some name → ⊥) → FailsNot given part
        fails_not r same h not =
            none_fails given part library classes items full reduced shapes are_fit are_there
            (none_found shape_name (NamesOne (map shape_name given.shapes)) reduced r (same_finds r same h) not)

  module _ (full reduced slice : List Shape) (shapes : AreShapes part classes full reduced) (same : slice ≡ reduced) where
    pub small_over : AreSmall (OfSome ShapeDims slice)
    small_over = subst (λ (l : List Shape). AreSmall (OfSome ShapeDims l)) (sym same) (small_reduced given is_given part library classes items full reduced shapes)

    pub collected_over : (whole only : List Shape) (dims : ℕ) → whole ≡ full → only ≡ reduced → IsGreatest (Spoken given slice) dims
        → AreCollected given part (record { full = whole; shapes = only; dims = dims })
    collected_over whole only dims is_full is_reduced greatest =
        subst (λ (l : List Shape). AreCollected given part (record { full = l; shapes = only; dims = dims })) (sym is_full)
        (subst (λ (l : List Shape). AreCollected given part (record { full = full; shapes = l; dims = dims })) (sym is_reduced)
        (are_collected given part library classes items full reduced dims shapes
        (greatest_over given is_given part library classes items full reduced shapes dims (subst (λ (l : List Shape). IsGreatest (Spoken given l) dims) same greatest))))
