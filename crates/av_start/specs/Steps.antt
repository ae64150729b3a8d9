-- What only private functions say: which method of a class is a main.
use Rattle.std.specs.Prelude.{◌≡◌, ℕ, List, Some, slice_get, codes}
use Rattle.jv_types.specs.declared.ids.MethodId.{MethodId}
use Rattle.jv_types.specs.declared.shapes.MethodShape.{MethodShape}
use Rattle.jv_types.specs.declared.shapes.Shape.{Shape}
use Rattle.jv_resolve.specs.Members.{IsPublic, IsStatic}
use Rattle.av_conditions.specs.Conditions.{main_desc}
use Rattle.av_stops.specs.Mains.{IsMainMethod}

-- a public static method `main`, which takes strings and gives nothing
abbrev pub LooksLikeMain : MethodShape → Type 0
LooksLikeMain method = (method.name ≡ codes "main") × (method.desc ≡ main_desc) × IsPublic method.flags × IsStatic method.flags

-- the method at this place is one
abbrev pub IsMainAt : List MethodShape → ℕ → Type 0
IsMainAt methods place = (method : MethodShape) × (slice_get methods place ≡ Some method) × LooksLikeMain method

-- none is
abbrev pub HasNoMainAt : List MethodShape → Type 0
HasNoMainAt methods = (place : ℕ) (method : MethodShape) → slice_get methods place ≡ Some method → ¬ LooksLikeMain method

-- this is a main of the class of this number
abbrev pub IsMainIn : List Shape → ℕ → MethodId → Type 0
IsMainIn w c m = (m.class.number ≡ c) × IsMainMethod w m

-- the class of this number has none
abbrev pub HasNoMainIn : List Shape → ℕ → Type 0
HasNoMainIn w c = (m : MethodId) → m.class.number ≡ c → ¬ IsMainMethod w m
