-- What is collected over a part of a library is collected over the whole of it.
use Rattle.std.proofs.Common.{ℕ, inl, inr, List}
use Rattle.jv_types.specs.declared.shapes.Shape.{Shape}
use Rattle.jv_world.specs.Worlds.{object_name}
use Rattle.av_collected.specs.Libraries.{LibraryFile, HasShape, HasFieldAt, HasMethodAt, IsHere, AreWhole}
use Rattle.av_collected.specs.Naming.{Application}
use Rattle.av_collected.specs.Rounds.{IsInside}
use Rattle.av_collected.specs.Rules.{Item, From, Nothing, One, Two, IsAboveApplication, own, super, Collects, named_by_instruction, named_by_field, named_by_method, named_as_super, named_by_handler, named_by_map, supertype, resolved_field, resolved_method, inherited_method, in_field, in_method, core_class, core_method, same_signature, IsCollected, of_nothing, of_one, of_two}
use Rattle.jv_types.specs.declared.shapes.FieldShape.{FieldShape}
use Rattle.jv_types.specs.declared.shapes.MethodShape.{MethodShape}

module _ (part library : List LibraryFile) (inside : IsInside part library) where
  pub more_shape : (name : List ℕ) (s : Shape) → HasShape part name s → HasShape library name s
  more_shape name s h = (h.0, inside h.0 h.1, h.2, h.3)

  pub more_field : (class : List ℕ) (place : ℕ) (field : FieldShape) → HasFieldAt part class place field → HasFieldAt library class place field
  more_field class place field h = (h.0, more_shape class h.0 h.1, h.2)

  pub more_method : (class : List ℕ) (place : ℕ) (method : MethodShape) → HasMethodAt part class place method → HasMethodAt library class place method
  more_method class place method h = (h.0, more_shape class h.0 h.1, h.2)

  pub more_here : (app : List Shape) (s : Shape) → IsHere app part s → IsHere app library s
  more_here app s (inl h) = inl h
  more_here app s (inr h) = inr (h.0, more_shape s.name s h.1)

  more_whole : (app w : List Shape) → AreWhole app part w → AreWhole app library w
  more_whole app w h = record { world = h.world; here = λ s has. more_here app s (h.here s has) }

  more_above : (app : List Shape) (name : List ℕ) → IsAboveApplication app part name → IsAboveApplication app library name
  more_above app name (own s h) = own s h
  more_above app name (super s _ above here names) = super s name (more_above app s.name above) (more_here app s here) names

  more_rule : (given : Application) (from : From) (item : Item) → Collects given part from item → Collects given library from item
  more_rule given _ _ (named_by_instruction insn name a b c) = named_by_instruction insn name a b c
  more_rule given _ _ (named_by_field s field name a b c d) = named_by_field s field name a b c d
  more_rule given _ _ (named_by_method s method name a b c d) = named_by_method s method name a b c d
  more_rule given _ _ (named_as_super s name a b c) = named_as_super s name a b c
  more_rule given _ _ (named_by_handler method handler name a b c d) = named_by_handler method handler name a b c d
  more_rule given _ _ (named_by_map text type name a b c d) = named_by_map text type name a b c d
  more_rule given _ _ (supertype class name s a b c) = supertype class name s (more_shape class s a) b c
  more_rule given _ _ (resolved_field w insn f class a b c d e) = resolved_field w insn f class (more_whole given.shapes w a) b c d e
  more_rule given _ _ (resolved_method w insn m class a b c d e) = resolved_method w insn m class (more_whole given.shapes w a) b c d e
  more_rule given _ _ (inherited_method class place method a b c d e) =
      inherited_method class place method (more_above given.shapes class a) b (more_method class place method c) d e
  more_rule given _ _ (in_field class place field name a b c) = in_field class place field name (more_field class place field a) b c
  more_rule given _ _ (in_method class place method name a b c) = in_method class place method name (more_method class place method a) b c
  more_rule given _ _ (core_class name a b) = core_class name a b
  more_rule given _ _ (core_method place method a b c d) = core_method place method (more_method object_name place method a) b c d
  more_rule given _ _ (same_signature class place method other other_place other_method a b c d e f g) =
      same_signature class place method other other_place other_method (more_method class place method a) b (more_method other other_place other_method c) d e f g

  pub collected_grows : (given : Application) (item : Item) → IsCollected given part item → IsCollected given library item
  collected_grows given item (of_nothing _ rule) = of_nothing item (more_rule given Nothing item rule)
  collected_grows given item (of_one p _ h rule) = of_one p item (collected_grows given p h) (more_rule given (One p) item rule)
  collected_grows given item (of_two p q _ h g rule) =
      of_two p q item (collected_grows given p h) (collected_grows given q g) (more_rule given (Two p q) item rule)
