-- The same is collected for the same application of the same library.
use Rattle.std.proofs.Common.{◌≡◌, ℕ, List, Contains, subst, sym}
use Rattle.std.specs.Prelude.{◌↔◌}
use Rattle.jv_types.specs.declared.instruction.Insn.{Insn}
use Rattle.av_collected.specs.declared.method_body.MethodBody.{MethodBody}
use Rattle.av_collected.specs.Libraries.{LibraryFile}
use Rattle.av_collected.specs.Naming.{Application, HasInsn}
use Rattle.av_collected.specs.Rounds.{IsInside}
use Rattle.av_collected.specs.Rules.{Item, From, Nothing, One, Two, Collects, named_by_instruction, named_by_field, named_by_method, named_as_super, named_by_handler, named_by_map, supertype, resolved_field, resolved_method, inherited_method, in_field, in_method, core_class, core_method, same_signature, IsCollected, of_nothing, of_one, of_two}
use Rattle.av_one_application.specs.Same.{IsSameApplication, IsSameLibrary}

-- the law that more is collected of more
abbrev pub Grows : Type 0
Grows = (given : Application) (part library : List LibraryFile) → IsInside part library → (item : Item) → IsCollected given part item → IsCollected given library item

pub back_application : (given other : Application) → IsSameApplication given other → IsSameApplication other given
back_application given other same = record {
  shapes = sym same.shapes;
  bodies = λ method. ((same.bodies method).1, (same.bodies method).0);
  maps = λ text. ((same.maps text).1, (same.maps text).0);
}

pub back_library : (library others : List LibraryFile) → IsSameLibrary library others → IsSameLibrary others library
back_library library others alike = λ file. ((alike file).1, (alike file).0)

module _ (given other : Application) (library : List LibraryFile) (bodies : (method : MethodBody) → Contains given.bodies method → Contains other.bodies method)
    (maps : (text : List ℕ) → Contains given.maps text → Contains other.maps text) where
  -- the same shapes, with the bodies and the names of the other
  abbrev moved : Application
  moved = record { shapes = given.shapes; maps = other.maps; bodies = other.bodies }

  pub moved_insn : (insn : Insn) → HasInsn given.bodies insn → HasInsn other.bodies insn
  moved_insn insn h = (h.0, h.1, bodies h.0 h.2, h.3, h.4)

  moved_rule : (from : From) (item : Item) → Collects given library from item → Collects moved library from item
  moved_rule _ _ (named_by_instruction insn name a b c) = named_by_instruction insn name (moved_insn insn a) b c
  moved_rule _ _ (named_by_field s field name a b c d) = named_by_field s field name a b c d
  moved_rule _ _ (named_by_method s method name a b c d) = named_by_method s method name a b c d
  moved_rule _ _ (named_as_super s name a b c) = named_as_super s name a b c
  moved_rule _ _ (named_by_handler method handler name a b c d) = named_by_handler method handler name (bodies method a) b c d
  moved_rule _ _ (named_by_map text type name a b c d) = named_by_map text type name (maps text a) b c d
  moved_rule _ _ (supertype class name s a b c) = supertype class name s a b c
  moved_rule _ _ (resolved_field w insn f class a b c d e) = resolved_field w insn f class a (moved_insn insn b) c d e
  moved_rule _ _ (resolved_method w insn m class a b c d e) = resolved_method w insn m class a (moved_insn insn b) c d e
  moved_rule _ _ (inherited_method class place method a b c d e) = inherited_method class place method a b c d e
  moved_rule _ _ (in_field class place field name a b c) = in_field class place field name a b c
  moved_rule _ _ (in_method class place method name a b c) = in_method class place method name a b c
  moved_rule _ _ (core_class name a b) = core_class name a b
  moved_rule _ _ (core_method place method a b c d) = core_method place method a b c d
  moved_rule _ _ (same_signature class place method next next_place next_method a b c d e f g) =
      same_signature class place method next next_place next_method a b c d e f g

  pub moved_collected : (item : Item) → IsCollected given library item → IsCollected (record { shapes = given.shapes; maps = other.maps; bodies = other.bodies }) library item
  moved_collected item (of_nothing _ rule) = of_nothing item (moved_rule Nothing item rule)
  moved_collected item (of_one p _ h rule) = of_one p item (moved_collected p h) (moved_rule (One p) item rule)
  moved_collected item (of_two p q _ h g rule) = of_two p q item (moved_collected p h) (moved_collected q g) (moved_rule (Two p q) item rule)

module _ (grows : Grows) where
  pub collected_into : (given other : Application) (library others : List LibraryFile) → IsSameApplication given other → IsSameLibrary library others
      → (item : Item) → IsCollected given library item → IsCollected other others item
  collected_into given other library others same alike item h =
      let between : Application = record { shapes = given.shapes; maps = other.maps; bodies = other.bodies } in
      let first : IsCollected between library item = moved_collected given other library (λ method. (same.bodies method).0) (λ text. (same.maps text).0) item h in
      let more : IsCollected between others item = grows between library others (λ file. (alike file).0) item first in
      let is : between ≡ other = λ i. record { shapes = same.shapes i; maps = other.maps; bodies = other.bodies } in
      subst (λ (a : Application). IsCollected a others item) is more

  pub collected_alike : (given other : Application) (library others : List LibraryFile) → IsSameApplication given other → IsSameLibrary library others
      → (item : Item) → IsCollected given library item ↔ IsCollected other others item
  collected_alike given other library others same alike item = (
    collected_into given other library others same alike item,
    collected_into other given others library (back_application given other same) (back_library library others alike) item,
  )
