-- What sketches stand for: the code that a recipe gives, and the class with its methods' code.
use Rattle.std.specs.Prelude.{ℕ, List, [], map, Option, Some, None}
use Rattle.jv_types.specs.declared.shapes.MethodShape.{MethodShape}
use Rattle.av_standin_of.specs.Codes.{Code}
use Rattle.av_standin_of.specs.Templates.{template, extra_code, method_code}
use Rattle.av_standin_of.specs.Items.{make_item, arrays_item, prim_arrays_item, call_item_of, field_item, elements_item, finalize_item}
use Rattle.av_standin_of.specs.Codes.{get_known}
use Rattle.av_standin_of.specs.Classes.{MadeMethod, MadeClass}
use Rattle.av_sketches.specs.declared.sketch.Item.{Item}
use Rattle.av_sketches.specs.declared.sketch.Item.TheVariants as items
use Rattle.av_sketches.specs.declared.sketch.Recipe.{Recipe}
use Rattle.av_sketches.specs.declared.sketch.Recipe.TheVariants as recipes
use Rattle.av_sketches.specs.declared.sketch.SketchedMethod.{SketchedMethod}
use Rattle.av_sketches.specs.declared.sketch.Sketch.{Sketch}

-- the code of an item, where arrays have up to so many dimensions
abbrev pub item_code : ℕ → Item → Code
item_code dims (items.Object class) = make_item class
item_code dims (items.Arrays class) = arrays_item dims class
item_code dims (items.PrimArrays prim) = prim_arrays_item dims prim
item_code dims (items.Call callee) = call_item_of get_known callee.interface callee.class callee.name callee.desc
item_code dims (items.Field it) = field_item it.class it.field it.kind
item_code dims items.Elements = elements_item
item_code dims items.Finalize = finalize_item

-- the code that a recipe gives a method of a class; none where a collected method has none
abbrev pub recipe_code : ℕ → List ℕ → MethodShape → Recipe → Option Code
recipe_code dims class shape (recipes.Extra parent) = Some (extra_code class parent)
recipe_code dims class shape (recipes.Collected parent declared) = method_code class parent declared
recipe_code dims class shape recipes.Template = Some (template class shape [])
recipe_code dims class shape (recipes.Item item) = Some (item_code dims item)

abbrev pub code_by : ℕ → List ℕ → MethodShape → Option Recipe → Option Code
code_by dims class shape None = None
code_by dims class shape (Some recipe) = recipe_code dims class shape recipe

abbrev pub made_method : ℕ → List ℕ → SketchedMethod → MadeMethod
made_method dims class sketched = record { shape = sketched.shape; code = code_by dims class sketched.shape sketched.recipe }

-- the class of a stand-in that a sketch stands for
abbrev pub made_class : ℕ → Sketch → MadeClass
made_class dims sketch = record {
  name = sketch.name;
  flags = sketch.flags;
  parent = sketch.parent;
  interfaces = sketch.interfaces;
  fields = sketch.fields;
  methods = map (made_method dims sketch.name) sketch.methods;
}
