-- Where all files of the library were read whose classes are collected over what was read, nothing more is collected
-- over the whole library.
use Rattle.std.proofs.Common.{◌≡◌, ℕ, inl, Bool, true, false, List, Option, Some, slice_get, Contains, refl, ap, sym, ◌∙◌, subst, ⊎_elim}
use Rattle.std.proofs.lemmas.Option.{same_Some}
use Rattle.std.specs.Prelude.{unwrap_or}
use Rattle.jv_types.specs.declared.desc.RefType.{RefType, Class, PrimArray, Array'}
use Rattle.jv_types.specs.declared.ids.FieldId.{FieldId}
use Rattle.jv_types.specs.declared.ids.MethodId.{MethodId}
use Rattle.jv_types.specs.declared.instruction.Arg.{Arg}
use Rattle.jv_types.specs.declared.instruction.Insn.{Insn}
use Rattle.jv_types.specs.declared.references.FieldRef.{FieldRef}
use Rattle.jv_types.specs.declared.references.MethodRef.{MethodRef}
use Rattle.jv_types.specs.declared.shapes.Shape.{Shape}
use Rattle.jv_world.specs.Worlds.{object_name, HaveDistinctNames, IsNamed, IsWorld}
use Rattle.jv_resolve.specs.Members.{DeclaresMethod}
use Rattle.jv_resolve.specs.References.{named_class, BeginsAt}
use Rattle.jv_resolve.specs.Resolving.{ResolvesField, ResolvesInterfaceMethod, ResolvesMethod}
use Rattle.jv_two_worlds.specs.Agreeing.{Agree}
use Rattle.jv_two_worlds.specs.Renumbering.{StandsIn, field_to, method_to}
use Rattle.jv_two_worlds.specs.SameClasses.{IsSameClass}
use Rattle.jv_two_worlds.specs.Types.{EndsIn, of_class}
use Rattle.av_conditions.specs.Members.{ResolvesBy, RefersToField, RefersToMethod}
use Rattle.av_collected.proofs.Same.{Longer, same_itself}
use Rattle.av_collected.specs.Parts.{IsPart}
use Rattle.av_collected.proofs.Reading.{IsKnown, part_world, name_known, in_part, class_read, field_read, method_read, class_method, above_collected, above_read}
use Rattle.av_collected.specs.Libraries.{LibraryFile, IsLibrary, IsOfLibrary, AreWhole}
use Rattle.av_collected.specs.Naming.{Application, HasInsn, ArgNames}
use Rattle.av_collected.specs.Rounds.{IsReadOut}
use Rattle.av_collected.specs.Rules.{Item, ClassNamed, FieldAt, MethodAt, From, Collects, named_by_instruction, named_by_field, named_by_method, named_as_super, named_by_handler, named_by_map, supertype, resolved_field, resolved_method, inherited_method, in_field, in_method, core_class, core_method, same_signature, AreIn, IsCollected, of_nothing, of_one, of_two, collected_is_least}

-- ---- laws of two worlds, which the law function hands in

abbrev pub AnyOrder : Type 0
AnyOrder = (w v : List Shape) → IsWorld w → HaveDistinctNames v → ((shape : Shape) → Contains w shape → (other : Shape) × Contains v other × IsSameClass shape other)
    → (to : ℕ → ℕ) × StandsIn w v to

abbrev pub FieldsAlike : Type 0
FieldsAlike = (w v : List Shape) (to : ℕ → ℕ) (c : ℕ) (r : FieldRef) → StandsIn w v to → IsNamed w c r.class → Agree (field_to to) (ResolvesField w r) (ResolvesField v r)

abbrev pub MethodsAlike : Type 0
MethodsAlike = (w v : List Shape) (to : ℕ → ℕ) (c : ℕ) (r : MethodRef) → StandsIn w v to → BeginsAt w r.class c → Agree (method_to to) (ResolvesMethod w r) (ResolvesMethod v r)

abbrev pub InterfaceMethodsAlike : Type 0
InterfaceMethodsAlike = (w v : List Shape) (to : ℕ → ℕ) (c : ℕ) (r : MethodRef) → StandsIn w v to → BeginsAt w r.class c
    → Agree (method_to to) (ResolvesInterfaceMethod w r) (ResolvesInterfaceMethod v r)

pub record Laws : Type 0 where
  pub any_order : AnyOrder
  pub fields : FieldsAlike
  pub methods : MethodsAlike
  pub interface_methods : InterfaceMethodsAlike
  pub longer : Longer

module _ (laws : Laws) (given : Application) (part library : List LibraryFile) (files : IsLibrary library) (out : IsReadOut given part library) where
  stands : (w v : List Shape) → AreWhole given.shapes library w → IsPart (λ s. IsKnown given.shapes part s.name) w v → IsWorld v → (to : ℕ → ℕ) × StandsIn v w to
  stands w v whole p world = laws.any_order v w world whole.world.numbered.distinct (λ s h. (s, (p.from s h).0, same_itself laws.longer v world s h))

  -- a class at a place of the one world has the name of the class at its place in the other
  name_back : (w v : List Shape) (to : ℕ → ℕ) (c d : ℕ) (class : List ℕ) (s : Shape) → StandsIn v w to → slice_get v d ≡ Some s → c ≡ to d → IsNamed w c class → IsNamed v d class
  name_back w v to c d class s inside at is (t, t_at, named) =
      let p = inside.shapes d s at in
      let same : t ≡ p.0 = same_Some t p.0 (sym t_at ∙ ap (slice_get w) is ∙ p.1) in
      (s, at, p.2.name ∙ ap (λ (x : Shape). x.name) (sym same) ∙ named)

  -- ---- references

  turn_field : (w : List Shape) (insn : Insn) (f : FieldId) (class : List ℕ) → AreWhole given.shapes library w → HasInsn given.bodies insn → RefersToField w insn f
      → IsNamed w f.class.number class → IsOfLibrary given.shapes class → IsCollected given part (FieldAt class f.index)
  turn_field w insn f class whole has (r, arg, resolves) named free =
      let v = part_world given part library files out w whole in
      let to = stands w v.0 whole v.1 v.2.world in
      let known = name_known given part library files out w resolves.named r.class whole resolves.name (λ apart. of_nothing (ClassNamed r.class) (named_by_instruction insn r.class has (subst (λ (a : Arg). ArgNames a r.class) (sym arg) (inl refl)) apart)) in
      let start = in_part given part library files out w v.0 v.1 resolves.named r.class resolves.name known in
      let back = (laws.fields v.0 w to.0 start.0 r to.1 start.1).back f resolves in
      let x = back.0 in
      let declared = back.2.declared in
      let named_x = name_back w v.0 to.0 f.class.number x.class.number class declared.class to.1 declared.of_class (ap (λ (g : FieldId). g.class.number) back.1) named in
      subst (λ (k : ℕ). IsCollected given part (FieldAt class k)) (sym (ap (λ (g : FieldId). g.index) back.1))
      (of_nothing (FieldAt class x.index) (resolved_field v.0 insn x class v.2 has (r, arg, back.2) named_x free))

  start_name : RefType → List ℕ
  start_name type = unwrap_or (named_class type) object_name

  start_collected : (type : RefType) → ((name : List ℕ) → EndsIn type name → IsOfLibrary given.shapes name → IsCollected given part (ClassNamed name))
      → IsOfLibrary given.shapes (start_name type) → IsCollected given part (ClassNamed (start_name type))
  unfolding start_name
  start_collected (Class name) named free = named name (of_class (Class name) name refl) free
  start_collected (PrimArray prim) named free = of_nothing (ClassNamed object_name) (core_class object_name (inl (inl refl)) free)
  start_collected (Array' shape items) named free = of_nothing (ClassNamed object_name) (core_class object_name (inl (inl refl)) free)

  begins_by : (b : Bool) (w : List Shape) (r : MethodRef) (m : MethodId) → ResolvesBy b w r m → (c : ℕ) × BeginsAt w r.class c
  begins_by false w r m h = (h.start, h.begins)
  begins_by true w r m h = (h.start, subst (λ (o : Option (List ℕ)). IsNamed w h.start (unwrap_or o object_name)) (sym h.names) h.begins)

  alike_by : (b : Bool) (w v : List Shape) (to : ℕ → ℕ) (c : ℕ) (r : MethodRef) (m : MethodId) → StandsIn v w to → BeginsAt v r.class c → ResolvesBy b w r m
      → (x : MethodId) × (m ≡ method_to to x) × ResolvesBy b v r x
  alike_by false w v to c r m inside begins h = (laws.methods v w to c r inside begins).back m h
  alike_by true w v to c r m inside begins h = (laws.interface_methods v w to c r inside begins).back m h

  declared_by : (b : Bool) (v : List Shape) (r : MethodRef) (x : MethodId) → ResolvesBy b v r x → DeclaresMethod v r.name r.desc x
  declared_by false v r x h = ⊎_elim (λ nearest. nearest.meets) (λ above. above.1.declared) h.found
  declared_by true v r x h = ⊎_elim (λ declares. declares.0) (λ more. ⊎_elim (λ object. object.0) (λ above. above.1.declared) more.1) h.found

  turn_method : (w : List Shape) (insn : Insn) (m : MethodId) (class : List ℕ) → AreWhole given.shapes library w → HasInsn given.bodies insn → RefersToMethod w insn m
      → IsNamed w m.class.number class → IsOfLibrary given.shapes class → IsCollected given part (MethodAt class m.index)
  unfolding start_name
  turn_method w insn m class whole has (r, arg, resolves) named free =
      let v = part_world given part library files out w whole in
      let to = stands w v.0 whole v.1 v.2.world in
      let begins = begins_by r.interface w r m resolves in
      let known = name_known given part library files out w begins.0 (start_name r.class) whole begins.1 (start_collected r.class (λ name ends apart. of_nothing (ClassNamed name) (named_by_instruction insn name has (subst (λ (a : Arg). ArgNames a name) (sym arg) (inl ends)) apart))) in
      let start = in_part given part library files out w v.0 v.1 begins.0 (start_name r.class) begins.1 known in
      let back = alike_by r.interface w v.0 to.0 start.0 r m to.1 start.1 resolves in
      let x = back.0 in
      let declared = declared_by r.interface v.0 r x back.2 in
      let named_x = name_back w v.0 to.0 m.class.number x.class.number class declared.class to.1 declared.of_class (ap (λ (n : MethodId). n.class.number) back.1) named in
      subst (λ (k : ℕ). IsCollected given part (MethodAt class k)) (sym (ap (λ (n : MethodId). n.index) back.1))
      (of_nothing (MethodAt class x.index) (resolved_method v.0 insn x class v.2 has (r, arg, back.2) named_x free))

  -- ---- the rules

  turn : (from : From) (item : Item) → Collects given library from item → AreIn (IsCollected given part) from → IsCollected given part item
  turn _ _ (named_by_instruction insn name a b c) h = of_nothing (ClassNamed name) (named_by_instruction insn name a b c)
  turn _ _ (named_by_field s field name a b c d) h = of_nothing (ClassNamed name) (named_by_field s field name a b c d)
  turn _ _ (named_by_method s method name a b c d) h = of_nothing (ClassNamed name) (named_by_method s method name a b c d)
  turn _ _ (named_as_super s name a b c) h = of_nothing (ClassNamed name) (named_as_super s name a b c)
  turn _ _ (named_by_handler method handler name a b c d) h = of_nothing (ClassNamed name) (named_by_handler method handler name a b c d)
  turn _ _ (named_by_map text type name a b c d) h = of_nothing (ClassNamed name) (named_by_map text type name a b c d)
  turn _ _ (supertype class name s a b c) h = of_one (ClassNamed class) (ClassNamed name) h (supertype class name s (class_read given part library files out class s h a) b c)
  turn _ _ (resolved_field w insn f class a b c d e) h = turn_field w insn f class a b c d e
  turn _ _ (resolved_method w insn m class a b c d e) h = turn_method w insn m class a b c d e
  turn _ _ (inherited_method class place method a b c d e) h =
      let up = above_read given part library files out class a in
      of_nothing (MethodAt class place) (inherited_method class place method up b (class_method given part library files out class place method (above_collected given part library files out class up b) c) d e)
  turn _ _ (in_field class place field name a b c) h =
      of_one (FieldAt class place) (ClassNamed name) h (in_field class place field name (field_read given part library files out class place field h a) b c)
  turn _ _ (in_method class place method name a b c) h =
      of_one (MethodAt class place) (ClassNamed name) h (in_method class place method name (method_read given part library files out class place method h a) b c)
  turn _ _ (core_class name a b) h = of_nothing (ClassNamed name) (core_class name a b)
  turn _ _ (core_method place method a b c d) h =
      of_nothing (MethodAt object_name place)
      (core_method place method (class_method given part library files out object_name place method (of_nothing (ClassNamed object_name) (core_class object_name (inl (inl refl)) d)) a) b c d)
  turn _ _ (same_signature class place method other other_place other_method a b c d e f g) (first, second) =
      of_two (ClassNamed class) (MethodAt other other_place) (MethodAt class place) first second
      (same_signature class place method other other_place other_method (class_method given part library files out class place method first a) b (method_read given part library files out other other_place other_method second c) d e f g)

  pub collected_ends : (item : Item) → IsCollected given library item → IsCollected given part item
  collected_ends item h = collected_is_least given library (IsCollected given part) (λ from each premises rule. turn from each rule premises) item h
