-- The methods of a stand-in's classes, but for items, have codes of recipes that fit.
use Rattle.std.proofs.Common.{◌≡◌, ℕ, ◌==◌, ◌≤◌, Bool, true, false, not, cond, ◌&&◌, eqb, List, [], ◌∷◌, Option, Some, Contains, refl, sym, ap, subst, ◌∙◌, arith}
use Rattle.std.specs.Prelude.{IfSome, bit_and}
use Rattle.std.proofs.lemmas.Bool.{ne_eqb}
use Rattle.std.proofs.lemmas.Nat.{and_assoc}
use Rattle.jv_lists.proofs.Places.{among_at}
use Rattle.jv_types.specs.NameForms.{may_stand, goes_on}
use Rattle.jv_types.specs.declared.desc.MethodDesc.{MethodDesc}
use Rattle.jv_types.specs.declared.ids.MethodId.{MethodId}
use Rattle.jv_types.specs.declared.shapes.MethodShape.{MethodShape}
use Rattle.jv_types.specs.declared.shapes.Shape.{Shape}
use Rattle.jv_desc.specs.Texts.{words_of, IsMethodDesc}
use Rattle.jv_names.specs.Spellings.{IsClassName}
use Rattle.jv_resolve.specs.Members.{IsMethod, IsMethodCalled, IsStatic}
use Rattle.av_conditions.specs.StandIn.{any_name}
use Rattle.av_standin_of.specs.Codes.{Code}
use Rattle.av_standin_of.specs.Templates.{words_in}
use Rattle.av_standin_of.specs.Classes.{MadeMethod, kept_method, extra_method, any_method, IsMethodOf, IsMethodOfAny, IsAwaited}
use Rattle.av_sketches.specs.declared.sketch.Recipe.{Recipe}
use Rattle.av_sketches.specs.declared.sketch.Recipe.TheVariants as recipes
use Rattle.av_sketches.specs.Conditions.{MakesInstances, RecipeFits, IsFinishable, HasMethodForm, HasClassForm}
use Rattle.av_sketches.specs.Sketches.{recipe_code}
use Rattle.av_fit_codes.proofs.Recipes.{recipe_finishable}

-- a method of a class has the code of a recipe that fits
pub record FitsRecipe (dims : ℕ) (class : List ℕ) (made : MadeMethod) : Type 0 where
  pub recipe : Recipe
  pub fits : RecipeFits dims class made.shape recipe
  pub is : made.code ≡ recipe_code dims class made.shape recipe

pub recipe_is_finishable : (dims : ℕ) (class : List ℕ) (made : MadeMethod) (code : Code) → FitsRecipe dims class made → made.code ≡ Some code → IsFinishable made.shape code
recipe_is_finishable dims class made code h e = recipe_finishable dims class made.shape h.recipe code h.fits (sym h.is ∙ e)

-- ---- names

any_goes_on : (begun : Bool) (bytes : List ℕ) → goes_on begun bytes ≡ true → goes_on begun (any_name bytes) ≡ true
any_goes_on true [] e = refl
any_goes_on false [] e = absurd cc
any_goes_on begun (byte ∷ bytes) e = by (eqb byte 47) begun (may_stand byte) e (any_goes_on false bytes) (any_goes_on true bytes)
  where
    by : (slash some stands : Bool) → cond slash (some && goes_on false bytes) (stands && goes_on true bytes) ≡ true → (goes_on false bytes ≡ true → goes_on false (any_name bytes) ≡ true)
        → (goes_on true bytes ≡ true → goes_on true (any_name bytes) ≡ true) → cond slash (some && goes_on false (any_name bytes)) (stands && goes_on true (any_name bytes)) ≡ true
    by true true stands h new more = new h
    by true false stands h new more = absurd cc
    by false some true h new more = more h
    by false some false h new more = absurd cc

-- the name of the class of any object is one
pub any_is_name : (name : List ℕ) → IsClassName name → IsClassName (any_name name)
any_is_name name h = any_goes_on false name h

-- ---- words

-- the receiver of a method that isn't static is counted
pub instance_words : (method : MethodShape) → ¬ IsStatic method.flags → words_in method ≡ words_of method.desc true
instance_words method instances = ap (λ (static : Bool). words_of method.desc (not static)) (ne_eqb (bit_and method.flags.0 8) 8 instances)

-- it has few words
pub instance_few : (method : MethodShape) → HasMethodForm method → ¬ IsStatic method.flags → words_of method.desc true ≤ 255
instance_few method form instances = omega (arith, instance_words method instances, form.formed.few_words)

-- ---- a collected class

kept_words : (class : Shape) (declared : MethodShape) → words_in (kept_method class declared).shape ≡ words_in declared
kept_words class declared = ap (λ (flag : ℕ). words_of declared.desc (not (flag == 8))) (and_assoc 8 declared.flags.0 0x041F)

kept_fits : (dims : ℕ) (class : Shape) (declared : MethodShape) → HasClassForm class → HasMethodForm declared → MakesInstances declared → FitsRecipe dims class.name (kept_method class declared)
kept_fits dims class declared form formed instances = record {
  recipe = recipes.Collected class.parent declared;
  fits = record {
    words = kept_words class declared;
    fits = record { named = form.named; formed = formed.formed };
    super_named = form.super_named;
    instances = instances;
  };
  is = refl;
}

extra_fits : (dims : ℕ) (class : List ℕ) (parent : Option (List ℕ)) → IfSome parent IsClassName → FitsRecipe dims class (extra_method class parent)
extra_fits dims class parent named = record {
  recipe = recipes.Extra parent;
  fits = record { words = refl; named = named };
  is = refl;
}

pub of_collected : (dims : ℕ) (class : Shape) (made : MadeMethod) → HasClassForm class → ((method : MethodShape) → Contains class.methods method → MakesInstances method) → IsMethodOf class made
    → FitsRecipe dims class.name made
of_collected dims class made form instances (IsMethodOf.collected declared has is) =
    subst (FitsRecipe dims class.name) (sym is) (kept_fits dims class declared form (form.methods declared has) (instances declared has))
of_collected dims class made form instances (IsMethodOf.extra isn't is) = subst (FitsRecipe dims class.name) (sym is) (extra_fits dims class.name class.parent form.super_named)

-- ---- any object

-- what is awaited has types with descriptors, and few words of arguments
record IsFormed (desc : MethodDesc) : Type 0 where
  types : IsMethodDesc desc
  few : words_of desc true ≤ 255

formed_of : (w : List Shape) → ((class : Shape) → Contains w class → HasClassForm class) → (m : MethodId) (shape : MethodShape) (name : List ℕ) (desc : MethodDesc)
    → IsMethod w m shape → IsMethodCalled name desc shape → ¬ IsStatic shape.flags → IsFormed desc
formed_of w formed m shape name desc (class, at, there) called instances =
    let form = (formed class (among_at w m.class.number class at)).methods shape (among_at class.methods m.index shape there) in
    subst IsFormed called.1 (record { types = form.formed.types; few = instance_few shape form instances })

awaited_formed : (w : List Shape) (c : ℕ) (name : List ℕ) (desc : MethodDesc) → ((class : Shape) → Contains w class → HasClassForm class) → IsAwaited w c name desc → IsFormed desc
awaited_formed w c name desc formed (IsAwaited.by_interface m shape at called of_interface not_private instances) = formed_of w formed m shape name desc at called instances
awaited_formed w c name desc formed (IsAwaited.by_superclass m shape at called above abstracts instances) = formed_of w formed m shape name desc at called instances

any_fits : (dims : ℕ) (class name : List ℕ) (desc : MethodDesc) → IsClassName class → IsFormed desc → FitsRecipe dims class (any_method class name desc)
any_fits dims class name desc named formed = record {
  recipe = recipes.Template;
  fits = record {
    named = named;
    formed = record { types = formed.types; few_words = formed.few };
  };
  is = refl;
}

pub of_any : (w : List Shape) (dims c : ℕ) (class : Shape) (made : MadeMethod) → ((other : Shape) → Contains w other → HasClassForm other) → IsClassName class.name → IsMethodOfAny w c class made
    → FitsRecipe dims (any_name class.name) made
of_any w dims c class made formed named (IsMethodOfAny.extra is) = subst (FitsRecipe dims (any_name class.name)) (sym is) (extra_fits dims (any_name class.name) (Some class.name) named)
of_any w dims c class made formed named (IsMethodOfAny.awaited name desc other awaited none_final is) =
    subst (FitsRecipe dims (any_name class.name)) (sym is) (any_fits dims (any_name class.name) name desc (any_is_name class.name named) (awaited_formed w c name desc formed awaited))
