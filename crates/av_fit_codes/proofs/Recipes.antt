-- A recipe that fits gives a code that may be put and finished.
use Rattle.std.proofs.Common.{◌≡◌, ℕ, Bool, true, false, ◌&&◌, List, [], Option, Some, None, refl, subst, ◌∙◌, arith}
use Rattle.std.specs.Prelude.{if◌then◌else◌}
use Rattle.std.proofs.lemmas.Bool.{and_parts}
use Rattle.jv_types.specs.declared.shapes.MethodShape.{MethodShape}
use Rattle.jv_resolve.specs.Members.{init_name}
use Rattle.jv_world.specs.Worlds.{object_name}
use Rattle.av_conditions.specs.CoreClasses.{finalize_name, void_desc}
use Rattle.av_standin_of.specs.Codes.{Code, get_known, get_fresh}
use Rattle.av_standin_of.specs.Templates.{is_object, is_called, is_abstract, makes_fresh, extra_code, begins_with, template, method_code}
use Rattle.av_sketches.specs.declared.sketch.Item.{Item}
use Rattle.av_sketches.specs.declared.sketch.Item.TheVariants as items
use Rattle.av_sketches.specs.declared.sketch.Recipe.{Recipe}
use Rattle.av_sketches.specs.declared.sketch.Recipe.TheVariants as recipes
use Rattle.av_sketches.specs.Conditions.{ItemFits, CollectedFits, RecipeFits, IsFinishable}
use Rattle.av_sketches.specs.Sketches.{item_code, recipe_code}
use Rattle.av_standin_of.specs.Templates.{words_in}
use Rattle.av_fit_codes.proofs.Instructions.{get_known_fits, get_fresh_fits}
use Rattle.av_fit_codes.proofs.Making.{make_finishable, arrays_finishable, prim_arrays_finishable, field_finishable, elements_finishable}
use Rattle.av_fit_codes.proofs.Calling.{call_finishable}
use Rattle.av_fit_codes.proofs.Methods.{template_finishable, begins_full, begins_few, extra_finishable, fresh_words, fresh_finishable}

item_finishable : (dims : ℕ) (shape : MethodShape) (item : Item) → words_in shape ≡ 0 → ItemFits dims item → IsFinishable shape (item_code dims item)
item_finishable dims shape (items.Object class) none h = make_finishable shape class none h
item_finishable dims shape (items.Arrays class) none h = arrays_finishable shape dims class none h.0 h.1
item_finishable dims shape (items.PrimArrays prim) none h = prim_arrays_finishable shape dims prim none h
item_finishable dims shape (items.Call callee) none h = call_finishable shape get_known callee.interface callee.class callee.name callee.desc none (get_known_fits 0) h.named h.types h.few_words
item_finishable dims shape (items.Field holder) none h = field_finishable shape holder.class holder.field holder.kind none h.named h.type h.kind
item_finishable dims shape items.Elements none h = elements_finishable shape none
item_finishable dims shape items.Finalize none h = call_finishable shape get_fresh false object_name finalize_name void_desc none (get_fresh_fits 0) refl (record { params = tt; result = tt }) (omega arith)

is_given : (shape : MethodShape) (made code : Code) → Some made ≡ Some code → IsFinishable shape made → IsFinishable shape code
is_given shape made code e h = let same : made ≡ code = cc in subst (IsFinishable shape) same h

collected_finishable : (class : List ℕ) (shape : MethodShape) (parent : Option (List ℕ)) (declared : MethodShape) (code : Code) → CollectedFits class shape parent declared → method_code class parent declared ≡ Some code
    → IsFinishable shape code
collected_finishable class shape parent declared code h e = by (is_abstract declared) (is_object class && is_called init_name declared) refl e
  where
    made : Code
    made = template class declared (begins_with class declared parent)

    by : (abstracts constructs : Bool) → (is_object class && is_called init_name declared) ≡ constructs → (if abstracts then None else if constructs then Some makes_fresh else Some made) ≡ Some code
        → IsFinishable shape code
    by true constructs is given = absurd cc
    by false true is given =
        let parts = and_parts (is_object class) (is_called init_name declared) is in
        is_given shape makes_fresh code given (fresh_finishable shape (h.words ∙ fresh_words declared h.instances parts.1))
    by false false is given =
        is_given shape made code given
        (template_finishable shape class declared (begins_with class declared parent) h.words h.fits (begins_full class declared parent h.fits h.super_named h.instances) (begins_few class declared parent))

pub recipe_finishable : (dims : ℕ) (class : List ℕ) (shape : MethodShape) (recipe : Recipe) (code : Code) → RecipeFits dims class shape recipe → recipe_code dims class shape recipe ≡ Some code
    → IsFinishable shape code
recipe_finishable dims class shape (recipes.Extra parent) code h e = is_given shape (extra_code class parent) code e (extra_finishable shape class parent h.words h.named)
recipe_finishable dims class shape (recipes.Collected parent declared) code h e = collected_finishable class shape parent declared code h e
recipe_finishable dims class shape recipes.Template code h e = is_given shape (template class shape []) code e (template_finishable shape class shape [] refl h tt (omega arith))
recipe_finishable dims class shape (recipes.Item item) code h e = is_given shape (item_code dims item) code e (item_finishable dims shape item h.0 h.1)
