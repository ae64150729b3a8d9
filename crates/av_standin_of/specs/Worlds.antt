-- The stand-in for a world: its files, the world that its classes make with the application, and its methods with
-- their frames.
use Rattle.std.specs.Prelude.{◌≡◌, ℕ, Bool, false, not, if◌then◌else◌, List, [], ◌∷◌, ◌++◌, map}
use Rattle.std.specs.Option.{option_map_or}
use Rattle.std.specs.List.{AllZip, filter, flat_map, list_any}
use Rattle.std.specs.Str.{bytes_eq}
use Rattle.jv_types.specs.declared.frames.FramedBody.{FramedBody}
use Rattle.jv_types.specs.declared.shapes.MethodShape.{MethodShape}
use Rattle.jv_types.specs.declared.shapes.Shape.{Shape}
use Rattle.jv_world.specs.Worlds.{IsNamed}
use Rattle.jv_resolve.specs.Members.{DeclaresMethod}
use Rattle.av_asm.specs.Finishing.{IsFramed}
use Rattle.av_standin_of.specs.declared.standin.Standin.{Standin}
use Rattle.av_standin_of.specs.Codes.{Code, built_of}
use Rattle.av_standin_of.specs.Classes.{MadeMethod, MadeClass, is_interface, kept_flags, kept_field, kept_method, extra_method}
use Rattle.av_standin_of.specs.Files.{IsFileOf, AreStandinClasses}

-- ---- the world

abbrev pub shape_of : MadeMethod → MethodShape
shape_of made = made.shape

-- a collected class in the stand-in's world: its members in their old places, and the extra constructor behind them
abbrev pub in_place : Shape → Shape
in_place class = record class {
  flags = kept_flags class;
  fields = map kept_field class.fields;
  methods = map (λ (declared : MethodShape). shape_of (kept_method class declared)) class.methods
      ++ (if is_interface class then [] else shape_of (extra_method class.name class.parent) ∷ []);
}

-- a class of the world itself: one of the application stays as it is
abbrev pub kept_class : Shape → Shape
kept_class class = if class.application then class else in_place class

-- a class that the world doesn't have, with its members in the order of its file
abbrev pub new_class : MadeClass → Shape
new_class made = record {
  name = made.name;
  flags = made.flags;
  parent = made.parent;
  interfaces = made.interfaces;
  fields = made.fields;
  methods = map shape_of made.methods;
  application = false;
}

abbrev pub is_new : List Shape → MadeClass → Bool
is_new w made = not (list_any (λ (class : Shape). bytes_eq class.name made.name) w)

-- the classes of the world in their order, and behind them the others in the order of their files
abbrev pub standin_world : List Shape → List MadeClass → List Shape
standin_world w classes = map kept_class w ++ map new_class (filter (is_new w) classes)

-- ---- the methods

-- a method with code, and the name of its class
pub record Coded : Type 0 where
  pub class : List ℕ
  pub shape : MethodShape
  pub code : Code

abbrev pub coded_method : List ℕ → MadeMethod → List Coded
coded_method class made = option_map_or (λ (code : Code). record { class = class; shape = made.shape; code = code } ∷ []) made.code []

-- those of classes, in the order of the classes and of their methods
abbrev pub coded_methods : List MadeClass → List Coded
coded_methods classes = flat_map (λ (made : MadeClass). flat_map (coded_method made.name) made.methods) classes

-- the method of the world with its code
pub record IsBodyOf (w : List Shape) (coded : Coded) (framed : FramedBody) : Type 0 where
  pub class : IsNamed w framed.method.class.number coded.class
  pub declared : DeclaresMethod w coded.shape.name coded.shape.desc framed.method
  pub code : IsFramed (built_of framed.method coded.code) framed

-- ---- the stand-in

pub record StandinOf (w : List Shape) (dims : ℕ) (standin : Standin) : Type 0 where
  pub classes : List MadeClass
  pub are : AreStandinClasses w dims classes
  pub files : AllZip IsFileOf classes standin.files
  pub world : standin.world ≡ standin_world w classes
  pub methods : AllZip (IsBodyOf standin.world) (coded_methods classes) standin.methods
