-- Where a world has no main of a name.
use Rattle.std.proofs.Common.{◌≡◌, ℕ, List, Option, None, Some}
use Rattle.std.specs.Prelude.{IfNone}
use Rattle.jv_types.specs.declared.shapes.Shape.{Shape}
use Rattle.jv_types.specs.declared.ids.MethodId.{MethodId}
use Rattle.jv_world.specs.Worlds.{IsNamed, IsWorld}
use Rattle.av_stops.specs.Mains.{HasNoMain}
use Rattle.av_start.specs.Steps.{HasNoMainIn}

-- no class has the name
pub without_class : (w : List Shape) (name : List ℕ) → ((c : ℕ) → ¬ IsNamed w c name) → HasNoMain w name
without_class w name none = λ m main. none m.class.number main.named

-- the class of the name has none
pub without_main : (w : List Shape) (name : List ℕ) (c : ℕ) → IsWorld w → IsNamed w c name → HasNoMainIn w c → HasNoMain w name
without_main w name c world named none =
    λ m main. none m (world.numbered.distinct m.class.number c name main.named named) main.is_main

pub if_without_main : (w : List Shape) (name : List ℕ) (c : ℕ) (found : Option MethodId) → IsWorld w → IsNamed w c name
    → IfNone found (HasNoMainIn w c) → IfNone found (HasNoMain w name)
if_without_main w name c None world named none = without_main w name c world named none
if_without_main w name c (Some m) world named none = tt
