-- The shapes of the classes that a stand-in adds.
use Rattle.std.proofs.Common.{◌≡◌, ℕ, ◌<◌, ◌+◌, Bool, true, false, List, [], ◌∷◌, ◌++◌, length, map, take, get_or, refl, ap, sym, ◌∙◌, append-nil}
use Rattle.std.specs.Prelude.{cond}
use Rattle.std.specs.List.{filter}
use Rattle.std.proofs.lemmas.List.{map-append, append_assoc}
use Rattle.std.proofs.lemmas.List.Elements.{filter-append}
use Rattle.jv_types.specs.declared.shapes.MethodShape.{MethodShape}
use Rattle.jv_types.specs.declared.shapes.Shape.{Shape}
use Rattle.jv_lists.proofs.Places.{take_one}
use Rattle.av_standin_of.specs.Worlds as worlds
use Rattle.av_sketches.specs.declared.sketch.Sketch.{Sketch}
use Rattle.av_sketches.specs.declared.sketch.SketchedMethod.{SketchedMethod}
use Rattle.av_sketches.specs.Sketches.{made_class, made_method}
use Rattle.av_standin_world.specs.Steps.{is_new_sketch, new_shape, shape_of}

-- the shapes after one more sketch
module _ (w : List Shape) (kept shapes : List Shape) (sketches : List Sketch) (i : ℕ) (sketch : Sketch) (within : i < length sketches) (is : sketch ≡ get_or sketches i sketch)
    (are : shapes ≡ kept ++ map new_shape (filter (is_new_sketch w) (take i sketches))) where
  one_more : filter (is_new_sketch w) (take (i + 1) sketches) ≡ filter (is_new_sketch w) (take i sketches) ++ filter (is_new_sketch w) (sketch ∷ [])
  one_more = ap (filter (is_new_sketch w)) (take_one sketches i sketch within is) ∙ filter-append (is_new_sketch w) (take i sketches) (sketch ∷ [])

  grown : (b : Bool) → is_new_sketch w sketch ≡ b → kept ++ map new_shape (filter (is_new_sketch w) (take (i + 1) sketches)) ≡ shapes ++ map new_shape (cond b (sketch ∷ []) [])
  grown b new =
      ap (λ (all : List Sketch). kept ++ map new_shape all) one_more
      ∙ ap (λ (all : List Shape). kept ++ all) (map-append new_shape (filter (is_new_sketch w) (take i sketches)) (filter (is_new_sketch w) (sketch ∷ [])))
      ∙ sym (append_assoc kept (map new_shape (filter (is_new_sketch w) (take i sketches))) (map new_shape (filter (is_new_sketch w) (sketch ∷ []))))
      ∙ ap (λ (all : List Shape). all ++ map new_shape (filter (is_new_sketch w) (sketch ∷ []))) (sym are)
      ∙ ap (λ (c : Bool). shapes ++ map new_shape (cond c (sketch ∷ []) [])) new

  pub when_new : is_new_sketch w sketch ≡ true → shapes ++ new_shape sketch ∷ [] ≡ kept ++ map new_shape (filter (is_new_sketch w) (take (i + 1) sketches))
  when_new new = sym (grown true new)

  pub when_old : is_new_sketch w sketch ≡ false → shapes ≡ kept ++ map new_shape (filter (is_new_sketch w) (take (i + 1) sketches))
  when_old old = sym (grown false old ∙ append-nil shapes)

-- ---- the same of the classes that sketches stand for

methods_are : (dims : ℕ) (class : List ℕ) (methods : List SketchedMethod) → map worlds.shape_of (map (made_method dims class) methods) ≡ map shape_of methods
methods_are dims class [] = refl
methods_are dims class (method ∷ methods) = ap (λ (shapes : List MethodShape). method.shape ∷ shapes) (methods_are dims class methods)

shape_is : (dims : ℕ) (sketch : Sketch) → worlds.new_class (made_class dims sketch) ≡ new_shape sketch
shape_is dims sketch = ap (λ (methods : List MethodShape). record (new_shape sketch) { methods = methods }) (methods_are dims sketch.name sketch.methods)

pub added_are : (w : List Shape) (dims : ℕ) (sketches : List Sketch)
    → map new_shape (filter (is_new_sketch w) sketches) ≡ map worlds.new_class (filter (worlds.is_new w) (map (made_class dims) sketches))
added_are w dims [] = refl
added_are w dims (sketch ∷ sketches) = by (is_new_sketch w sketch) (added_are w dims sketches)
  where
    by : (b : Bool) → map new_shape (filter (is_new_sketch w) sketches) ≡ map worlds.new_class (filter (worlds.is_new w) (map (made_class dims) sketches))
        → map new_shape (cond b (sketch ∷ filter (is_new_sketch w) sketches) (filter (is_new_sketch w) sketches))
        ≡ map worlds.new_class (cond b (made_class dims sketch ∷ filter (worlds.is_new w) (map (made_class dims) sketches)) (filter (worlds.is_new w) (map (made_class dims) sketches)))
    by true more =
        ap (λ (shape : Shape). shape ∷ map new_shape (filter (is_new_sketch w) sketches)) (sym (shape_is dims sketch))
        ∙ ap (λ (shapes : List Shape). worlds.new_class (made_class dims sketch) ∷ shapes) more
    by false more = more
