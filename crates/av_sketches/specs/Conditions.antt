-- What a world must have so that its stand-in can be made, and recipes and codes so that they can.
use Rattle.std.specs.Prelude.{◌≡◌, ◌<◌, ◌≤◌, ◌^◌, ⊤, ℕ, true, false, List, length, map, Option, Some, IfSome, slice_get, Contains}
use Rattle.jv_types.specs.declared.ids.MethodId.{MethodId}
use Rattle.jv_types.specs.declared.shapes.FieldShape.{FieldShape}
use Rattle.jv_types.specs.declared.shapes.MethodShape.{MethodShape}
use Rattle.jv_types.specs.declared.shapes.Shape.{Shape}
use Rattle.jv_world.specs.Worlds.{NamesSuper}
use Rattle.jv_resolve.specs.Members.{init_name, IsAbstract, IsStatic}
use Rattle.jv_desc.specs.Texts.{desc_text, method_text, words_of, IsDesc, IsMethodDesc, IsRef}
use Rattle.jv_pool.specs.declared.item.PoolItem.{PoolItem}
use Rattle.jv_names.specs.Spellings.{IsClassName, IsFieldName, IsMethodName}
use Rattle.av_asm.specs.Planning.{end_from}
use Rattle.av_asm.specs.Finishing.{MayFinish}
use Rattle.av_conditions.specs.CoreClasses.{CoreClasses}
use Rattle.av_conditions.specs.StandIn.{library_name, any_name, IsLibraryInterface}
use Rattle.av_standin_of.specs.Names.{extra_desc, part_name, name_order, field_key, method_key}
use Rattle.av_standin_of.specs.Lists.{AreJust}
use Rattle.av_standin_of.specs.Codes.{Row, Code, built_of}
use Rattle.av_standin_of.specs.Templates.{words_in}
use Rattle.av_standin_of.specs.Classes.{MadeMethod, MadeClass, IsCollectedClass}
use Rattle.av_sketches.specs.declared.sketch.Callee.{Callee}
use Rattle.av_sketches.specs.declared.sketch.HolderField.{HolderField}
use Rattle.av_sketches.specs.declared.sketch.Item.{Item}
use Rattle.av_sketches.specs.declared.sketch.Item.TheVariants as items
use Rattle.av_sketches.specs.declared.sketch.Recipe.{Recipe}
use Rattle.av_sketches.specs.declared.sketch.Recipe.TheVariants as recipes

-- ---- methods

-- the arguments of the method have at most as many words as a frame's locals may (JVMS 4.7.3)
abbrev pub HasFewWords : MethodShape → Recipe → Type 0
HasFewWords shape (recipes.Extra parent) = ⊤
HasFewWords shape (recipes.Collected parent declared) = words_in declared ≤ 65535
HasFewWords shape recipes.Template = words_in shape ≤ 65535
HasFewWords shape (recipes.Item item) = ⊤

-- the types of a method have descriptors, and its arguments at most 255 words, the receiver included (JVMS 4.3.3)
pub record HasFormedDesc (method : MethodShape) : Type 0 where
  pub types : IsMethodDesc method.desc
  pub few_words : words_in method ≤ 255

-- a constructor isn't static (JVMS 2.9)
abbrev pub MakesInstances : MethodShape → Type 0
MakesInstances method = method.name ≡ init_name → ¬ IsStatic method.flags

-- ---- recipes

-- a method that is called has a class with a name, types with descriptors, and few words of arguments with the receiver
pub record CalleeFits (callee : Callee) : Type 0 where
  pub named : IsClassName callee.class
  pub types : IsMethodDesc callee.desc
  pub few_words : words_of callee.desc true ≤ 255

-- a field has a class with a name, and types with descriptors
pub record HolderFits (holder : HolderField) : Type 0 where
  pub named : IsClassName holder.class
  pub type : IsDesc holder.field.desc
  pub kind : IsRef 255 holder.kind

-- an item, where arrays have up to so many dimensions, and no more than 255 (JVMS 4.9.1)
abbrev pub ItemFits : ℕ → Item → Type 0
ItemFits dims (items.Object class) = IsClassName class
ItemFits dims (items.Arrays class) = IsClassName class × (dims ≤ 255)
ItemFits dims (items.PrimArrays prim) = dims ≤ 255
ItemFits dims (items.Call callee) = CalleeFits callee
ItemFits dims (items.Field holder) = HolderFits holder
ItemFits dims items.Elements = ⊤
ItemFits dims items.Finalize = ⊤

-- the extra constructor: it has a receiver and a parameter, and the superclass, where there is one, has a name
pub record ExtraFits (shape : MethodShape) (parent : Option (List ℕ)) : Type 0 where
  pub words : words_in shape ≡ 2
  pub named : IfSome parent IsClassName

-- a method of a class with a name, whose descriptor is formed
pub record TemplateFits (class : List ℕ) (shape : MethodShape) : Type 0 where
  pub named : IsClassName class
  pub formed : HasFormedDesc shape

-- the same of a collected method, which has the words of its method in the stand-in; a constructor makes instances
pub record CollectedFits (class : List ℕ) (shape : MethodShape) (parent : Option (List ℕ)) (declared : MethodShape) : Type 0 where
  pub words : words_in shape ≡ words_in declared
  pub fits : TemplateFits class declared
  pub super_named : IfSome parent IsClassName
  pub instances : MakesInstances declared

-- a recipe gives a method of a class a code that can be put and finished
abbrev pub RecipeFits : ℕ → List ℕ → MethodShape → Recipe → Type 0
RecipeFits dims class shape (recipes.Extra parent) = ExtraFits shape parent
RecipeFits dims class shape (recipes.Collected parent declared) = CollectedFits class shape parent declared
RecipeFits dims class shape recipes.Template = TemplateFits class shape
RecipeFits dims class shape (recipes.Item item) = (words_in shape ≡ 0) × ItemFits dims item

-- ---- codes

-- A code is one for this method: it takes as many words of arguments; put into a builder it may be finished, over any
-- pool and whatever the number of the method; and it has at most 65535 bytes (JVMS 4.7.3).
pub record IsFinishable (shape : MethodShape) (code : Code) : Type 0 where
  pub words : code.words ≡ words_in shape
  pub finishes : (pool : List PoolItem) (method : MethodId) → MayFinish pool (built_of method code)
  pub short : end_from 0 (map (λ (row : Row). row.step) code.rows) ≤ 65535

-- each code of a class is
abbrev pub HasFinishableCodes : MadeClass → Type 0
HasFinishableCodes made = (method : MadeMethod) (code : Code) → Contains made.methods method → method.code ≡ Some code → IsFinishable method.shape code

-- ---- members

-- a field that a class file may declare (JVMS 4.5): its name and its descriptor are short enough for a pool (JVMS 4.4.7)
pub record HasFieldForm (field : FieldShape) : Type 0 where
  pub name : IsFieldName field.name
  pub short_name : length field.name < 2 ^ 16
  pub type : IsDesc field.desc
  pub short_desc : length (desc_text field.desc) < 2 ^ 16

-- such a method (JVMS 4.6)
pub record HasMethodForm (method : MethodShape) : Type 0 where
  pub name : IsMethodName method.name
  pub short_name : length method.name < 2 ^ 16
  pub formed : HasFormedDesc method
  pub short_desc : length (method_text method.desc) < 2 ^ 16
  pub flags : IsStatic method.flags → ¬ IsAbstract method.flags

-- Fields of one name and descriptor are one (JVMS 4.5), and so are methods (JVMS 4.6), and none of these is the extra
-- constructor.
pub record HasDistinctMembers (class : Shape) : Type 0 where
  pub fields : (x y : FieldShape) → Contains class.fields x → Contains class.fields y → field_key x ≡ field_key y → x ≡ y
  pub methods : (x y : MethodShape) → Contains class.methods x → Contains class.methods y → method_key x ≡ method_key y → x ≡ y
  pub none_extra : (declared : MethodShape) → Contains class.methods declared → ¬ (method_key declared ≡ (init_name, method_text extra_desc))

-- ---- classes

-- a class that a class file may declare (JVMS 4.1)
pub record HasClassForm (class : Shape) : Type 0 where
  pub named : IsClassName class.name
  pub super_named : IfSome class.parent IsClassName
  pub interfaces_named : (name : List ℕ) → Contains class.interfaces name → IsClassName name
  pub few_interfaces : length class.interfaces < 2 ^ 16
  pub fields : (field : FieldShape) → Contains class.fields field → HasFieldForm field
  pub methods : (method : MethodShape) → Contains class.methods method → HasMethodForm method

-- each method stands once
abbrev pub HasMethodsOnce : Shape → Type 0
HasMethodsOnce class =
    (i j : ℕ) (method : MethodShape) → slice_get class.methods i ≡ Some method → slice_get class.methods j ≡ Some method → i ≡ j

-- A collected class leaves room for what the stand-in adds: its name is so short that a pool has room for those that are
-- made of it, its members are distinct, its constructors make instances, and its supertypes are of the library too.
pub record LeavesRoom (w : List Shape) (class : Shape) : Type 0 where
  pub short_name : length class.name ≤ 60000
  pub distinct : HasDistinctMembers class
  pub once : HasMethodsOnce class
  pub instances : (method : MethodShape) → Contains class.methods method → MakesInstances method
  pub supers : (other : Shape) → Contains w other → NamesSuper class other.name → other.application ≡ false

-- no class of the world has this name
abbrev pub IsFreeName : List Shape → List ℕ → Type 0
IsFreeName w name = (class : Shape) → Contains w class → ¬ (class.name ≡ name)

-- the names of the classes that the stand-in adds are free
pub record HasFreeNames (w : List Shape) : Type 0 where
  pub library : IsFreeName w library_name
  pub any : (class : List ℕ) → IsFreeName w (any_name class)
  pub part : (folder : List ℕ) → IsFreeName w (part_name folder)

-- The stand-in for this world can be made, where arrays have up to so many dimensions: that it is a world is asked
-- beside this.
pub record CanStandIn (w : List Shape) (dims : ℕ) : Type 0 where
  pub few_dims : dims ≤ 255
  -- at most 20,000 classes of the application, and 8,000 collected ones
  pub few_classes : length w ≤ 28000
  pub formed : (class : Shape) → Contains w class → HasClassForm class
  pub collected : (class : Shape) → IsCollectedClass w class → LeavesRoom w class
  -- as many as the class of any object names (JVMS 4.1)
  pub few_interfaces : (names : List (List ℕ)) → AreJust name_order (λ (name : List ℕ). name) (IsLibraryInterface w) names → length names < 2 ^ 16
  pub free : HasFreeNames w
  pub core : CoreClasses w
