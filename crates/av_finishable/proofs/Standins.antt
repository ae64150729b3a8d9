-- Each code of a stand-in's classes may be put and finished.
use Rattle.std.proofs.Common.{ℕ, List, Contains, sym, subst}
use Rattle.jv_lists.proofs.Among.{none_there, of_each}
use Rattle.jv_lists.proofs.Places.{among_at}
use Rattle.jv_types.specs.declared.shapes.Shape.{Shape}
use Rattle.jv_world.specs.Worlds.{IsWorld}
use Rattle.jv_resolve.specs.Packages.{package_of}
use Rattle.av_conditions.specs.StandIn.{any_name}
use Rattle.av_standin_of.specs.Names.{part_name}
use Rattle.av_standin_of.specs.Classes.{MadeMethod, MadeClass, IsOfPackage, item_methods, IsStandinClass}
use Rattle.av_sketches.specs.Conditions.{HasFinishableCodes, CanStandIn}
use Rattle.av_finishable.proofs.Recipes.{FitsRecipe, recipe_is_finishable, of_collected, of_any}
use Rattle.av_finishable.proofs.Items.{of_package, items_fit}

each_finishable : (dims : ℕ) (class : List ℕ) (made : MadeClass) → ((method : MadeMethod) → Contains made.methods method → FitsRecipe dims class method) → HasFinishableCodes made
each_finishable dims class made each method code has is = recipe_is_finishable dims class method code (each method has) is

of_part : (w : List Shape) (dims : ℕ) (folder : List ℕ) (made : MadeClass) → CanStandIn w dims → IsOfPackage w dims folder made → HasFinishableCodes made
of_part w dims folder made can part =
    let fit = items_fit dims 0 (part_name folder) part.items (of_package w dims folder part.items can.few_dims can.formed part.are_items) in
    each_finishable dims (part_name folder) made (λ method has.
    of_each (FitsRecipe dims (part_name folder)) (item_methods 0 part.items) method fit (subst (λ (methods : List MadeMethod). Contains methods method) part.methods has))

pub standin_finishable : (w : List Shape) (dims : ℕ) (made : MadeClass) → IsWorld w → CanStandIn w dims → IsStandinClass w dims made → HasFinishableCodes made
standin_finishable w dims made world can (IsStandinClass.library is) = subst HasFinishableCodes (sym is) (λ method code has coded. absurd (none_there method has))
standin_finishable w dims made world can (IsStandinClass.collected class is made_of) =
    each_finishable dims class.name made (λ method has.
    of_collected dims class method (can.formed class is.0) (can.collected class is).instances (made_of.methods.only method has))
standin_finishable w dims made world can (IsStandinClass.any c class at library not_final not_interface made_of) =
    each_finishable dims (any_name class.name) made (λ method has.
    of_any w dims c class method can.formed (can.formed class (among_at w c class at)).named (made_of.methods.only method has))
standin_finishable w dims made world can (IsStandinClass.part class is made_of) = of_part w dims (package_of class.name) made can made_of
