-- What the parts of a file need, and what putting them answers.
use Rattle.std.specs.Prelude.{◌≡◌, ◌≤◌, ℕ, Bool, true, not, List, [], ◌∷◌, Option, Some, None, IfSome, IsSomeAnd, Result, Ok, Err, Contains, codes}
use Rattle.std.specs.List.{slice_get}
use Rattle.std.specs.declared.alloc.Global.{Global}
use Rattle.std.specs.declared.vec.Vec.{Vec}
use Rattle.jv_types.specs.declared.frames.FramedBody.{FramedBody}
use Rattle.jv_types.specs.declared.shapes.FieldShape.{FieldShape}
use Rattle.jv_types.specs.declared.shapes.MethodShape.{MethodShape}
use Rattle.jv_types.specs.declared.shapes.Shape.{Shape}
use Rattle.jv_pool.specs.declared.item.PoolItem.{PoolItem}
use Rattle.jv_attr.specs.declared.attr.Attr.{Attr}
use Rattle.jv_attr.specs.declared.attr.AttrBody.TheVariants as bodies
use Rattle.jv_attr.specs.declared.attr.CodeAttr.{CodeAttr}
use Rattle.jv_read.specs.Reading.{◌>>=◌}
use Rattle.jv_resolve.specs.Members.{IsMethodCalled}
use Rattle.jv_class.specs.declared.class_file.Member.{Member}
use Rattle.jv_insn.specs.Entries.{put_class}
use Rattle.av_asm.specs.Built.{Built}
use Rattle.av_asm.specs.Mapping.{put_each}
use Rattle.av_asm.specs.Planning.{end_from, plan_of}
use Rattle.av_asm.specs.Finishing.{code_of, MayFinish}
use Rattle.av_standin_of.specs.Codes.{Code}
use Rattle.av_standin_of.specs.Templates.{is_abstract}
use Rattle.av_standin_of.specs.Files.{put_field, put_parent, put_text}
use Rattle.av_standin_of.specs.Worlds.{IsBodyOf}
use Rattle.av_sketches.specs.declared.sketch.Recipe.{Recipe}
use Rattle.av_sketches.specs.declared.sketch.Recipe.TheVariants as recipes
use Rattle.av_sketches.specs.declared.sketch.SketchedMethod.{SketchedMethod}
use Rattle.av_class_files.specs.declared.refusal.FileRefusal.{FileRefusal}
use Rattle.av_class_files.specs.declared.refusal.FileRefusal.TheVariants as refusals
use Rattle.av_class_files.specs.Filing.{MayBeCoded}

-- ---- what a part answers

-- a part that was refused for room finds none
abbrev pub PutFails : {Y : Type 0} → FileRefusal → Option Y → Type 0
PutFails refusals.Memory put = Unit {0}
PutFails refusals.PoolFull put = put ≡ None

-- what a part answered, seen by view, with the pool that it left, is what putting gives, unless memory ran out
abbrev pub PutsTo : {X Y : Type 0} → (X → Y) → Result X FileRefusal → List PoolItem → Option (Y × List PoolItem) → Type 0
PutsTo view (Ok x) new put = put ≡ Some (view x, new)
PutsTo view (Err e) new put = PutFails e put

abbrev pub Puts : {X : Type 0} → Result X FileRefusal → List PoolItem → Option (X × List PoolItem) → Type 0
Puts (Ok x) new put = put ≡ Some (x, new)
Puts (Err e) new put = PutFails e put

-- the same of a list
abbrev pub PutsAll : {X : Type 0} → Result (Vec X Global) FileRefusal → List PoolItem → Option (List X × List PoolItem) → Type 0
PutsAll (Ok xs) new put = put ≡ Some (xs.items, new)
PutsAll (Err e) new put = PutFails e put

-- a value, or none
abbrev pub listed : {X : Type 0} → Option X → List X
listed None = []
listed (Some x) = x ∷ []

-- ---- a method's code

-- the class of this number has this method, and no other of its name and descriptor
pub record HasMethodOnce (w : List Shape) (c : ℕ) (method : MethodShape) : Type 0 where
  pub class : Shape
  pub of_class : slice_get w c ≡ Some class
  pub has : Contains class.methods method
  pub once : (other : MethodShape) → Contains class.methods other → IsMethodCalled method.name method.desc other → other ≡ method

-- a method of the class of this number and name may be put: the class has it, and its recipe gives a code that can be
-- finished, or none
pub record MayBePut (w : List Shape) (c dims : ℕ) (class : List ℕ) (sketched : SketchedMethod) : Type 0 where
  pub there : HasMethodOnce w c sketched.shape
  pub coded : IfSome sketched.recipe (MayBeCoded dims class sketched.shape)

-- so may all of these
abbrev pub MayAllBePut : List Shape → ℕ → ℕ → List ℕ → List SketchedMethod → Type 0
MayAllBePut w c dims class methods = (sketched : SketchedMethod) → Contains methods sketched → MayBePut w c dims class sketched

-- a recipe gives a code
abbrev pub has_code : Recipe → Bool
has_code (recipes.Extra parent) = true
has_code (recipes.Collected parent declared) = not (is_abstract declared)
has_code recipes.Template = true
has_code (recipes.Item item) = true

-- what was built can be finished over any pool, in at most 65535 bytes
pub record IsReady (built : Built) : Type 0 where
  pub may : (pool : List PoolItem) → MayFinish pool built
  pub short : end_from 0 built.steps ≤ 65535

-- the attribute Code of what was built
abbrev pub put_built : Built → List PoolItem → Option (List (Attr CodeAttr) × List PoolItem)
put_built built pool = do
  name ← put_text (codes "Code") pool
  attr ← code_of (plan_of built) name.1
  Some (record { name = name.0; body = bodies.Code attr.0 } ∷ [], attr.1)

-- a method of this class has this body where it has code, and else none
abbrev pub HasBody : List Shape → List ℕ → MethodShape → Option Code → Option FramedBody → Type 0
HasBody w class shape None body = body ≡ None
HasBody w class shape (Some code) body = IsSomeAnd body (IsBodyOf w (record { class = class; shape = shape; code = code }))

-- ---- a file

-- the world has a class of this name
abbrev pub HasClass : List Shape → List ℕ → Type 0
HasClass w name = (class : Shape) × Contains w class × (class.name ≡ name)

-- what stands in a class file before its methods (JVMS 4.1)
pub record Front : Type 0 where
  pub this_class : ℕ
  pub super_class : ℕ
  pub interfaces : List ℕ
  pub fields : List Member

abbrev pub front_of : ℕ → ℕ → List ℕ → List Member → Front
front_of this super interfaces fields = record { this_class = this; super_class = super; interfaces = interfaces; fields = fields }

-- what a class of this name, superclass, interfaces and fields names before its methods
abbrev pub put_front : List ℕ → Option (List ℕ) → List (List ℕ) → List FieldShape → List PoolItem → Option (Front × List PoolItem)
put_front name parent interfaces fields pool = do
  this ← put_class name pool
  super ← put_parent parent this.1
  indices ← put_each put_class interfaces super.1
  members ← put_each put_field fields indices.1
  Some (front_of this.0 super.0 indices.0 members.0, members.1)
