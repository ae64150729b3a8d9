-- A method with a recipe whose code may be put and finished has few words of arguments: the code has as many words for
-- local variables.
use Rattle.std.proofs.Common.{◌≡◌, ℕ, ◌≤◌, Bool, true, false, not, ◌&&◌, List, [], ◌∷◌, Option, Some, None, refl, sym, subst, arith}
use Rattle.std.specs.Prelude.{if◌then◌else◌, sum_by}
use Rattle.std.specs.Str.{bytes_eq}
use Rattle.std.proofs.lemmas.Bool.{and_parts}
use Rattle.jv_types.specs.declared.desc.Desc.{Desc}
use Rattle.jv_types.specs.declared.shapes.MethodShape.{MethodShape}
use Rattle.jv_desc.specs.Texts.{desc_words, words_of}
use Rattle.jv_resolve.specs.Members.{init_name}
use Rattle.jv_frames.specs.Entry.{is_static}
use Rattle.av_standin_of.specs.Codes.{Row, Code}
use Rattle.av_standin_of.specs.Files.{some_method}
use Rattle.av_standin_of.specs.Templates.{is_void, is_object, is_called, is_abstract, words_in, makes_fresh, begins_with, template, method_code}
use Rattle.av_sketches.specs.declared.sketch.Recipe.{Recipe}
use Rattle.av_sketches.specs.declared.sketch.Recipe.TheVariants as recipes
use Rattle.av_sketches.specs.Conditions.{HasFewWords, IsFinishable}
use Rattle.av_sketches.specs.Sketches.{recipe_code}

few_in_code : (shape : MethodShape) (code : Code) → IsFinishable shape code → code.words ≤ 65535
few_in_code shape code h = (h.finishes [] some_method).words

few_in_template : (class : List ℕ) (shape method : MethodShape) (begin : List Row) (code : Code) → Some (template class method begin) ≡ Some code → IsFinishable shape code → words_in method ≤ 65535
few_in_template class shape method begin code e h =
    let same : template class method begin ≡ code = cc in
    subst (λ (it : Code). it.words ≤ 65535) (sym same) (few_in_code shape code h)

none_in_void : (params : List Desc) (result : Option Desc) → is_void params result ≡ true → sum_by desc_words params ≡ 0
none_in_void [] result is = refl
none_in_void (param ∷ params) result is = absurd cc

-- `()V` takes at most the receiver's word
few_in_called : (name : List ℕ) (method : MethodShape) → is_called name method ≡ true → words_in method ≤ 65535
few_in_called name method called = by (is_static method) (none_in_void method.desc.params method.desc.result (and_parts (bytes_eq method.name name) (is_void method.desc.params method.desc.result) called).1)
  where
    by : (static : Bool) → sum_by desc_words method.desc.params ≡ 0 → words_of method.desc (not static) ≤ 65535
    by true none = omega (arith, none)
    by false none = omega (arith, none)

few_in_collected : (class : List ℕ) (shape : MethodShape) (parent : Option (List ℕ)) (declared : MethodShape) (code : Code) → method_code class parent declared ≡ Some code → IsFinishable shape code
    → words_in declared ≤ 65535
few_in_collected class shape parent declared code e h = by (is_abstract declared) (is_object class && is_called init_name declared) refl e
  where
    begin : List Row
    begin = begins_with class declared parent

    by : (abstracts constructs : Bool) → (is_object class && is_called init_name declared) ≡ constructs
        → (if abstracts then None else if constructs then Some makes_fresh else Some (template class declared begin)) ≡ Some code → words_in declared ≤ 65535
    by true constructs is given = absurd cc
    by false true is given = few_in_called init_name declared (and_parts (is_object class) (is_called init_name declared) is).1
    by false false is given = few_in_template class shape declared begin code given h

pub few_words : (dims : ℕ) (class : List ℕ) (shape : MethodShape) (recipe : Recipe) (code : Code) → recipe_code dims class shape recipe ≡ Some code → IsFinishable shape code → HasFewWords shape recipe
few_words dims class shape (recipes.Extra parent) code e h = tt
few_words dims class shape (recipes.Collected parent declared) code e h = few_in_collected class shape parent declared code e h
few_words dims class shape recipes.Template code e h = few_in_template class shape shape [] code e h
few_words dims class shape (recipes.Item item) code e h = tt
