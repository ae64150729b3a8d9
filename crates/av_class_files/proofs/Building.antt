-- The code that a recipe gives a method.
use Rattle.std.proofs.Common.{◌≡◌, ℕ, ◌≤◌, ◌^◌, Bool, true, false, List, [], Contains, Option, Some, None, refl, sym, ap, subst, ◌∙◌, slice_get, arith}
use Rattle.std.specs.Prelude.{if◌then◌else◌, ◌-◌, ◌&&◌, not, min, IsSomeAnd}
use Rattle.std.proofs.lemmas.Option.{same_Some}
use Rattle.jv_lists.proofs.Places.{among_at, placed}
use Rattle.jv_types.specs.declared.ids.ClassId.{ClassId}
use Rattle.jv_types.specs.declared.ids.MethodId.{MethodId}
use Rattle.jv_types.specs.declared.shapes.MethodShape.{MethodShape}
use Rattle.jv_types.specs.declared.shapes.Shape.{Shape}
use Rattle.jv_types.specs.declared.frames.FramedBody.{FramedBody}
use Rattle.jv_pool.specs.declared.item.PoolItem.{PoolItem}
use Rattle.jv_world.specs.Worlds.{IsNamed}
use Rattle.jv_world.specs.MemberPlaces.{IsMethodPlace, HasNoMethod}
use Rattle.jv_resolve.specs.Members.{init_name, DeclaresMethod, IsMethod}
use Rattle.av_asm.specs.Built.{Built, AreArgumentWords}
use Rattle.av_asm.specs.Planning.{plan_of}
use Rattle.av_asm.specs.Finishing.{IsFramed}
use Rattle.av_standin_of.specs.Codes.{Code, built_of}
use Rattle.av_standin_of.specs.Templates.{template, is_object, is_called, is_abstract, makes_fresh, begins_with, words_in}
use Rattle.av_standin_of.specs.Files.{put_code}
use Rattle.av_sketches.specs.declared.sketch.Recipe.{Recipe}
use Rattle.av_sketches.specs.declared.sketch.Recipe.TheVariants as recipes
use Rattle.av_sketches.specs.Sketches.{recipe_code}
use Rattle.av_sketches.specs.Conditions.{IsFinishable}
use Rattle.av_class_files.specs.Steps.{has_code, put_built, HasBody, HasMethodOnce, IsReady}

-- ---- whether there is a code

some_by : (a b : Bool) (x y : Code) → not a ≡ true → (code : Code) × ((if a then None else if b then Some x else Some y) ≡ Some code)
some_by true b x y is = absurd cc
some_by false true x y is = (x, refl)
some_by false false x y is = (y, refl)

pub code_given : (dims : ℕ) (class : List ℕ) (shape : MethodShape) (recipe : Recipe) → has_code recipe ≡ true → (code : Code) × (recipe_code dims class shape recipe ≡ Some code)
code_given dims class shape (recipes.Extra parent) is = (_, refl)
code_given dims class shape (recipes.Collected parent declared) is =
    some_by (is_abstract declared) (is_object class && is_called init_name declared) makes_fresh (template class declared (begins_with class declared parent)) is
code_given dims class shape recipes.Template is = (_, refl)
code_given dims class shape (recipes.Item item) is = (_, refl)

-- ---- the method

-- the class has a method of the name and descriptor
pub method_there : (w : List Shape) (c : ℕ) (method : MethodShape) → HasMethodOnce w c method → HasNoMethod w c method.name method.desc → ⊥
method_there w c method has none = none has.class has.of_class has.has.0 method (placed has.class.methods method has.has) (refl, refl)

-- the first is the one
pub first_is : (w : List Shape) (c n : ℕ) (method : MethodShape) → HasMethodOnce w c method → IsMethodPlace w c method.name method.desc n
    → (class : Shape) × (slice_get w c ≡ Some class) × (slice_get class.methods n ≡ Some method)
first_is w c n method has (class, of, (x, at, called, first)) =
    let same : class ≡ has.class = same_Some class has.class (sym of ∙ has.of_class) in
    let there : Contains has.class.methods x = subst (λ (s : Shape). Contains s.methods x) same (among_at class.methods n x at) in
    (class, of, at ∙ ap Some (has.once x there called))

-- ---- the words of its arguments

few : (a b : ℕ) → a ≡ min b (2 ^ 32 - 1) → b ≤ 65535 → a ≡ b
few a b is le = omega arith

one_method : (w : List Shape) (id : MethodId) (x y : MethodShape) → IsMethod w id x → IsMethod w id y → x ≡ y
one_method w id x y (s, of, at) (t, of', at') =
    let same : s ≡ t = same_Some s t (sym of ∙ of') in
    same_Some x y (sym at ∙ ap (λ (u : Shape). slice_get u.methods id.index) same ∙ at')

-- a method takes as many words of arguments as its code says
pub words_are : (w : List Shape) (id : MethodId) (shape : MethodShape) (code : Code) (words : ℕ) → IsMethod w id shape → IsFinishable shape code → AreArgumentWords w id words → words ≡ code.words
words_are w id shape code words is fits are =
    let same : are.method ≡ shape = one_method w id are.method shape are.is_method is in
    let least : words ≡ min (words_in shape) (2 ^ 32 - 1) = are.words_are ∙ ap (λ (m : MethodShape). min (words_in m) (2 ^ 32 - 1)) same in
    let short : words_in shape ≤ 65535 = subst (λ (n : ℕ). n ≤ 65535) fits.words (fits.finishes [] id).words in
    few words (words_in shape) least short ∙ sym fits.words

-- ---- what was built

-- the code that was built is ready
pub ready : (shape : MethodShape) (id : MethodId) (code : Code) (built : Built) → IsFinishable shape code → built ≡ built_of id code → IsReady built
ready shape id code built fits is = subst IsReady (sym is) (record { may = λ pool. fits.finishes pool id; short = fits.short })

-- it has the method's body
pub has_body : (w : List Shape) (class : List ℕ) (c : ClassId) (shape : MethodShape) (id : MethodId) (code : Code) (built : Built) (body : Option FramedBody) → IsNamed w c.number class → id.class ≡ c
    → DeclaresMethod w shape.name shape.desc id → built ≡ built_of id code → IsSomeAnd body (IsFramed built) → HasBody w class shape (Some code) body
has_body w class c shape id code built None named of declares is framed = absurd framed
has_body w class c shape id code built (Some body) named of declares is framed =
    let number : body.method ≡ id = framed.method ∙ ap (λ (b : Built). b.method) is in record {
      class = subst (λ (m : MethodId). IsNamed w m.class.number class) (sym number) (subst (λ (d : ClassId). IsNamed w d.number class) (sym of) named);
      declared = subst (DeclaresMethod w shape.name shape.desc) (sym number) declares;
      code = record { method = refl; plan = framed.plan ∙ ap plan_of is };
    }

-- the number of the method is of no account
pub code_put : (id : MethodId) (code : Code) (built : Built) (pool : List PoolItem) → built ≡ built_of id code → put_built built pool ≡ put_code (Some code) pool
code_put id code built pool is = ap (λ (b : Built). put_built b pool) is
