-- What collection keeps.
use Rattle.std.proofs.Common.{◌≡◌, ◌≢◌, ℕ, zero, suc, ◌+◌, ◌⊎◌, Bool, List, [], ◌∷◌, ◌++◌, Some, length, Contains, slice_get, refl, sym, ap, ◌∙◌, subst, inl, inr, arith}
use Rattle.std.specs.Prelude.{IsTrue}
use Rattle.std.specs.List.{AllZip}
use Rattle.std.proofs.lemmas.Bool.{false≢true}
use Rattle.std.proofs.lemmas.Option.{slice_get-get_or, slice_get_within}
use Rattle.jv_types.specs.declared.desc.MethodDesc.{MethodDesc}
use Rattle.jv_types.specs.declared.ids.FieldId.{FieldId}
use Rattle.jv_types.specs.declared.ids.MethodId.{MethodId}
use Rattle.jv_types.specs.declared.shapes.FieldShape.{FieldShape}
use Rattle.jv_types.specs.declared.shapes.MethodShape.{MethodShape}
use Rattle.jv_types.specs.declared.shapes.Shape.{Shape}
use Rattle.jv_world.specs.Worlds.{HasSuper, IsNamed, IsWorld, NamesSuper, Sub, same, link}
use Rattle.jv_resolve.specs.Members.{init_name, IsField, IsInheritable, IsMethod}
use Rattle.jv_resolve.proofs.Hierarchy.{one_shape}
use Rattle.jv_resolve.proofs.MembersLemmas.{field_is, method_is, one_method}
use Rattle.jv_resolve.proofs.MethodLemmas.{class_declares, interface_declares}
use Rattle.jv_resolve.proofs.PlacesLemmas.{among_from_get}
use Rattle.jv_fewer_members.specs.Keeping.{class_init_name, IsApplication, IsCalled, IsInstanceMethod, IsLibrary, KeepsMembers}
use Rattle.jv_fewer_members.specs.Parts.{HasFewerMembers, IsFieldKept, IsMethodKept, Places, whole_field, whole_method}
use Rattle.av_conditions.specs.Members.{ResolvesBy, ResolvesCall}
use Rattle.av_collected.specs.declared.collected.Collected.{Collected}
use Rattle.av_collected.specs.Answers.{AreCollected, FailsNot, IsReduced, as_super}
use Rattle.av_collected.specs.Conditions.{AreGiven}
use Rattle.av_collected.specs.Libraries.{AreWhole, HasShape, IsLibrary as IsLibraryMap, IsOfLibrary, LibraryFile}
use Rattle.av_collected.specs.Naming.{Application}
use Rattle.av_collected.specs.Rules.{ClassNamed, FieldAt, MethodAt, IsAboveApplication, own, super, IsCollected, of_nothing, of_two, inherited_method, same_signature, resolved_field, resolved_method}
use Rattle.av_agreement.specs.Agreement.{HaveDistinctMembers, KeepsEnough, KeepsReferences, collected_classes, whole_classes}
use Rattle.av_agreement.proofs.Paired.{ArePaired, HasCut, cut_itself, cut_picked, paired, zip_append, zip_itself, zip_length, zip_weaker}
use Rattle.av_agreement.proofs.Picked.{are_picked}

-- ---- lists of classes

get_front : (xs ys : List Shape) (k : ℕ) (x : Shape) → slice_get xs k ≡ Some x → slice_get (xs ++ ys) k ≡ Some x
get_front [] ys k x e = absurd cc
get_front (y ∷ xs) ys zero x e = e
get_front (y ∷ xs) ys (suc k) x e = get_front xs ys k x e

get_behind : (xs ys : List Shape) (k : ℕ) → slice_get (xs ++ ys) (length xs + k) ≡ slice_get ys k
get_behind [] ys k = let e : length {A = Shape} [] + k ≡ k = omega arith in ap (slice_get ys) e
get_behind (x ∷ xs) ys k = let e : length (x ∷ xs) + k ≡ suc (length xs + k) = omega arith in ap (slice_get (x ∷ (xs ++ ys))) e ∙ get_behind xs ys k

-- an element of both lists together is one of the one, or stands in the other
get_parts : (xs ys : List Shape) (k : ℕ) (x : Shape) → slice_get (xs ++ ys) k ≡ Some x → (slice_get xs k ≡ Some x) ⊎ ((j : ℕ) × (slice_get ys j ≡ Some x))
get_parts [] ys k x e = inr (k, e)
get_parts (y ∷ xs) ys zero x e = inl e
get_parts (y ∷ xs) ys (suc k) x e = get_parts xs ys k x e

placed : (v : List Shape) (s : Shape) (p : Contains v s) → slice_get v p.0 ≡ Some s
placed v s p = slice_get-get_or v p.0 s p.1 ∙ ap (λ (x : Shape). Some x) p.2

module _ (given : Application) (library : List LibraryFile) (found : Collected) where
  -- a member is collected, where its class is one of the library
  abbrev FieldIn : Shape → ℕ → Type 0
  FieldIn s k = IsOfLibrary given.shapes s.name → IsCollected given library (FieldAt s.name k)

  abbrev MethodIn : Shape → ℕ → Type 0
  MethodIn s k = IsOfLibrary given.shapes s.name → IsCollected given library (MethodAt s.name k)

  -- a class of the application, or a collected class
  abbrev IsOne : Shape → Type 0
  IsOne s = Contains given.shapes s ⊎ (Contains found.full s × IsOfLibrary given.shapes s.name)

  module _ (are_given : AreGiven given) (map : IsLibraryMap library) (collected : AreCollected given library found) (passed : FailsNot given library)
      (world : IsWorld (whole_classes given found)) (distinct : HaveDistinctMembers (whole_classes given found)) where
    -- no class of the application has the name of a collected one
    of_library : (j : ℕ) (s : Shape) → slice_get found.full j ≡ Some s → IsOfLibrary given.shapes s.name
    of_library j s at a there e =
        let front = get_front given.shapes found.full there.0 a (placed given.shapes a there) in
        let behind = get_behind given.shapes found.full j ∙ at in
        let same_place = world.numbered.distinct there.0 (length given.shapes + j) s.name (a, front, e) (s, behind, refl) in
        let within = slice_get_within given.shapes there.0 a (placed given.shapes a there) in
        omega (arith, same_place, within)

    one_of : (c : ℕ) (s : Shape) → slice_get (whole_classes given found) c ≡ Some s → IsOne s
    one_of c s at = pick (get_parts given.shapes found.full c s at)
      where
        pick : (slice_get given.shapes c ≡ Some s) ⊎ ((j : ℕ) × (slice_get found.full j ≡ Some s)) → IsOne s
        pick (inl e) = inl (among_from_get given.shapes c s e)
        pick (inr (j, e)) = inr (among_from_get found.full j s e, of_library j s e)

    -- ---- the part

    cut_given : (k : ℕ) (s : Shape) → slice_get given.shapes k ≡ Some s → HasCut FieldIn MethodIn s s
    cut_given k s e =
        let here = among_from_get given.shapes k s e in
        cut_itself FieldIn MethodIn s (λ place lib. absurd (lib s here refl)) (λ place lib. absurd (lib s here refl))

    -- picked as collected, so picked as collected where the class is one of the library
    cut_reduced : (k : ℕ) (s t : Shape) → slice_get found.full k ≡ Some s → IsReduced given library s t → HasCut FieldIn MethodIn s t
    cut_reduced k s t e reduced =
        let lib = of_library k s e in
        let fields = are_picked (λ place. IsCollected given library (FieldAt s.name place)) zero s.fields t.fields reduced.fields in
        let methods = are_picked (λ place. IsCollected given library (MethodAt s.name place)) zero s.methods t.methods reduced.methods in
        cut_picked FieldIn MethodIn s t reduced.name reduced.flags reduced.parent reduced.interfaces fields.0 methods.0
        (record { each = λ n x at. let r = fields.1.each n x at in (r.0, λ of. r.1); rising = fields.1.rising; kept = λ j x at holds. fields.1.kept j x at (holds lib) })
        (record { each = λ n x at. let r = methods.1.each n x at in (r.0, λ of. r.1); rising = methods.1.rising; kept = λ j x at holds. methods.1.kept j x at (holds lib) })

    zipped : AllZip (HasCut FieldIn MethodIn) (whole_classes given found) (collected_classes given found)
    zipped =
        zip_append (HasCut FieldIn MethodIn) given.shapes given.shapes found.full found.shapes
        (zip_itself (HasCut FieldIn MethodIn) given.shapes cut_given)
        (zip_weaker (IsReduced given library) (HasCut FieldIn MethodIn) found.full found.shapes collected.reduced cut_reduced)

    pub places : Places
    places = (paired FieldIn MethodIn (whole_classes given found) (collected_classes given found) zipped).0

    pairs : ArePaired FieldIn MethodIn (whole_classes given found) (collected_classes given found) places
    unfolding places
    pairs = (paired FieldIn MethodIn (whole_classes given found) (collected_classes given found) zipped).1

    pub fewer : HasFewerMembers (whole_classes given found) (collected_classes given found) places
    fewer = record {
      world = world;
      count = zip_length (HasCut FieldIn MethodIn) (whole_classes given found) (collected_classes given found) zipped;
      shapes = λ c s at. let r = pairs c s at in (r.0, r.1, r.2.part);
    }

    -- ---- what is kept

    field_kept : (f : FieldId) (x : FieldShape) (p : IsField (whole_classes given found) f x) → FieldIn p.0 f.index → IsFieldKept (collected_classes given found) places f
    field_kept f x p holds =
        let r = pairs f.class.number p.0 p.1 in
        let k = r.2.kept_fields f.index x p.2 holds in
        let part : FieldId = record { class = f.class; index = k.0 } in
        (part, (k.2, (r.0, r.1, k.3)), field_is f (whole_field places part) refl k.1)

    method_kept : (m : MethodId) (x : MethodShape) (p : IsMethod (whole_classes given found) m x) → MethodIn p.0 m.index → IsMethodKept (collected_classes given found) places m
    method_kept m x p holds =
        let r = pairs m.class.number p.0 p.1 in
        let k = r.2.kept_methods m.index x p.2 holds in
        let part : MethodId = record { class = m.class; index = k.0 } in
        (part, (k.2, (r.0, r.1, k.3)), method_is m (whole_method places part) refl k.1)

    -- a kept method of a library class is collected
    kept_method : (m : MethodId) (x : MethodShape) (p : IsMethod (whole_classes given found) m x) → IsMethodKept (collected_classes given found) places m → MethodIn p.0 m.index
    kept_method m x p kept =
        let n = kept.0 in
        let class : m.class.number ≡ n.class.number = ap (λ (y : MethodId). y.class.number) kept.2 in
        let r = pairs n.class.number p.0 (subst (λ (c : ℕ). slice_get (whole_classes given found) c ≡ Some p.0) class p.1) in
        let is = one_shape (collected_classes given found) n.class.number kept.1.1.0 r.0 kept.1.1.1 r.1 in
        let got = subst (λ (t : Shape). slice_get t.methods n.index ≡ Some kept.1.0) is kept.1.1.2 in
        subst (MethodIn p.0) (sym (ap (λ (y : MethodId). y.index) kept.2)) (r.2.only_methods n.index kept.1.0 got)

    -- ---- classes of the application and of the library

    in_library : (s : Shape) → Contains found.full s → HasShape library s.name s
    in_library s there = (collected.each s there).1

    mark_of : (s : Shape) → Contains found.full s → IsTrue s.application → ⊥
    mark_of s there mark =
        let file = in_library s there in
        false≢true (sym (map.shapes file.0 s file.1 file.3).of_library ∙ mark)

    in_given : (c : ℕ) (p : IsApplication (whole_classes given found) c) → Contains given.shapes p.0
    in_given c p = pick (one_of c p.0 p.1)
      where
        pick : IsOne p.0 → Contains given.shapes p.0
        pick (inl here) = here
        pick (inr (there, lib)) = absurd (mark_of p.0 there p.2)

    in_full : (c : ℕ) (p : IsLibrary (whole_classes given found) c) → Contains found.full p.0 × IsOfLibrary given.shapes p.0.name
    in_full c p = pick (one_of c p.0 p.1)
      where
        pick : IsOne p.0 → Contains found.full p.0 × IsOfLibrary given.shapes p.0.name
        pick (inl here) = absurd (p.2 (are_given.marked p.0 here))
        pick (inr r) = r

    names_super : (c d : ℕ) (s : Shape) → slice_get (whole_classes given found) c ≡ Some s → HasSuper (whole_classes given found) c d → (name : List ℕ) × NamesSuper s name × IsNamed (whole_classes given found) d name
    names_super c d s at (inl p) =
        let is = one_shape (whole_classes given found) c p.0 s p.2 at in
        (p.1, inl (sym (ap (λ (t : Shape). t.parent) is) ∙ p.3), p.4)
    names_super c d s at (inr p) =
        let is = one_shape (whole_classes given found) c p.0 s p.2 at in
        (p.1, inr (subst (λ (t : Shape). Contains t.interfaces p.1) is p.3), p.4)

    apart : (c d : ℕ) → IsLibrary (whole_classes given found) c → HasSuper (whole_classes given found) c d → IsLibrary (whole_classes given found) d
    apart c d lib step = pick (one_of d super.2.0 super.2.1)
      where
        super : (name : List ℕ) × NamesSuper lib.0 name × IsNamed (whole_classes given found) d name
        super = names_super c d lib.0 lib.1 step

        pick : IsOne super.2.0 → IsLibrary (whole_classes given found) d
        pick (inr (there, of)) = (super.2.0, super.2.1, mark_of super.2.0 there)
        pick (inl here) =
            let own = in_full c lib in
            absurd (passed.2 lib.0.name (as_super lib.0 super.0 (collected.each lib.0 own.0).0 (in_library lib.0 own.0) super.1 (super.2.0, here, super.2.2)))

    whole : AreWhole given.shapes library (whole_classes given found)
    whole = record { world = world; here = λ s there. pick s (one_of there.0 s (placed (whole_classes given found) s there)) }
      where
        pick : (s : Shape) → IsOne s → Contains given.shapes s ⊎ (IsOfLibrary given.shapes s.name × HasShape library s.name s)
        pick s (inl here) = inl here
        pick s (inr (there, lib)) = inr (lib, in_library s there)

    -- a supertype of an application class
    above : (c d : ℕ) → Sub (whole_classes given found) c d → (s : Shape) → slice_get (whole_classes given found) c ≡ Some s → IsAboveApplication given.shapes library s.name
        → (t : Shape) → slice_get (whole_classes given found) d ≡ Some t → IsAboveApplication given.shapes library t.name
    above c d (same _ _ e) s at up t there =
        let is = one_shape (whole_classes given found) d s t (subst (λ (k : ℕ). slice_get (whole_classes given found) k ≡ Some s) e at) there in
        subst (λ (x : Shape). IsAboveApplication given.shapes library x.name) is up
    above c d (link _ m _ step rest) s at up t there =
        let name = names_super c m s at step in
        let here = whole.here s (among_from_get (whole_classes given found) c s at) in
        let next = super s name.0 up here name.1 in
        above m d rest name.2.0 name.2.1 (subst (IsAboveApplication given.shapes library) (sym name.2.2) next) t there

    -- ---- all that has to be kept

    inherited : (c : ℕ) (m : MethodId) (name : List ℕ) (desc : MethodDesc) → IsApplication (whole_classes given found) c → Sub (whole_classes given found) c m.class.number → IsLibrary (whole_classes given found) m.class.number
        → IsInheritable (whole_classes given found) m → IsCalled (whole_classes given found) m name desc → name ≢ init_name → name ≢ class_init_name → IsMethodKept (collected_classes given found) places m
    inherited c m name desc app up lib inherits called init class_init =
        let x = inherits.0 in
        let p = inherits.1 in
        let is : called.0 ≡ x = one_method (whole_classes given found) m called.0 x called.1 p in
        let named : x.name ≡ name = sym (ap (λ (y : MethodShape). y.name) is) ∙ called.2.0 in
        let full = in_full m.class.number lib in
        let shape : lib.0 ≡ p.0 = one_shape (whole_classes given found) m.class.number lib.0 p.0 lib.1 p.1 in
        let there : Contains found.full p.0 = subst (Contains found.full) shape full.0 in
        method_kept m x p (λ of.
        of_nothing (MethodAt p.0.name m.index)
        (inherited_method p.0.name m.index x
        (above c m.class.number up app.0 app.1 (own app.0 (in_given c app)) p.0 p.1)
        of
        (p.0, in_library p.0 there, p.2)
        (inherits.2, inherits.3)
        ((λ e. init (sym named ∙ e)), λ e. class_init (sym named ∙ e))))

    same_kept : (m other : MethodId) (name : List ℕ) (desc : MethodDesc) → IsLibrary (whole_classes given found) m.class.number → IsMethodKept (collected_classes given found) places m
        → IsInstanceMethod (whole_classes given found) m name desc → name ≢ init_name → IsLibrary (whole_classes given found) other.class.number → IsInheritable (whole_classes given found) other
        → IsCalled (whole_classes given found) other name desc → IsMethodKept (collected_classes given found) places other
    same_kept m other name desc lib kept is init other_lib inherits called =
        let q = is.1 in
        let own_shape : lib.0 ≡ q.0 = one_shape (whole_classes given found) m.class.number lib.0 q.0 lib.1 q.1 in
        let own_full = in_full m.class.number lib in
        let own_there : Contains found.full q.0 = subst (Contains found.full) own_shape own_full.0 in
        let own_lib : IsOfLibrary given.shapes q.0.name = subst (λ (s : Shape). IsOfLibrary given.shapes s.name) own_shape own_full.1 in
        let x = inherits.0 in
        let p = inherits.1 in
        let called_is : called.0 ≡ x = one_method (whole_classes given found) other called.0 x called.1 p in
        let shape : other_lib.0 ≡ p.0 = one_shape (whole_classes given found) other.class.number other_lib.0 p.0 other_lib.1 p.1 in
        let there : Contains found.full p.0 = subst (Contains found.full) shape (in_full other.class.number other_lib).0 in
        method_kept other x p (λ of.
        of_two (ClassNamed p.0.name) (MethodAt q.0.name m.index) (MethodAt p.0.name other.index)
        (collected.each p.0 there).0
        (kept_method m is.0 q kept own_lib)
        (same_signature p.0.name other.index x q.0.name m.index is.0
        (p.0, in_library p.0 there, p.2)
        (inherits.2, inherits.3)
        (q.0, in_library q.0 own_there, q.2)
        is.3
        (λ e. init (sym is.2.0 ∙ e))
        (sym (ap (λ (y : MethodShape). y.name) called_is) ∙ called.2.0 ∙ sym is.2.0)
        (sym (ap (λ (y : MethodShape). y.desc) called_is) ∙ called.2.1 ∙ sym is.2.1)))

    pub keeps : KeepsMembers (whole_classes given found) (collected_classes given found) places
    keeps = record {
      apart = apart;
      application = record {
        fields = λ f app has.
            let here = in_given f.class.number app in
            let is = one_shape (whole_classes given found) f.class.number app.0 has.1.0 app.1 has.1.1 in
            field_kept f has.0 has.1 (λ lib. absurd (lib has.1.0 (subst (Contains given.shapes) is here) refl));
        methods = λ m app has.
            let here = in_given m.class.number app in
            let is = one_shape (whole_classes given found) m.class.number app.0 has.1.0 app.1 has.1.1 in
            method_kept m has.0 has.1 (λ lib. absurd (lib has.1.0 (subst (Contains given.shapes) is here) refl));
      };
      alike = record {
        fields = λ f g x y class p q called kept. subst (IsFieldKept (collected_classes given found) places) (distinct.fields f g x y class p q called) kept;
        methods = λ m n x y class p q called kept. subst (IsMethodKept (collected_classes given found) places) (distinct.methods m n x y class p q called) kept;
      };
      inherited = inherited;
      same_signature = same_kept;
    }

    pub references : KeepsReferences given (whole_classes given found) (collected_classes given found) places
    references = record {
      fields = λ insn r has e f p.
          let d = p.declared in
          field_kept f d.shape (d.class, d.of_class, d.at_place) (λ lib. of_nothing (FieldAt d.class.name f.index) (resolved_field (whole_classes given found) insn f d.class.name whole has (r, e, p) (d.class, d.of_class, refl) lib));
      methods = λ insn r has e kind m p.
          let d = class_declares (whole_classes given found) p.start r.name r.desc m p.found in
          let resolves : ResolvesCall (whole_classes given found) r m = subst (λ (b : Bool). ResolvesBy b (whole_classes given found) r m) (sym kind) p in
          method_kept m d.shape (d.class, d.of_class, d.at_place) (λ lib. of_nothing (MethodAt d.class.name m.index) (resolved_method (whole_classes given found) insn m d.class.name whole has (r, e, resolves) (d.class, d.of_class, refl) lib));
      interface_methods = λ insn r has e kind m p.
          let d = interface_declares (whole_classes given found) p.start r.name r.desc m p.found in
          let resolves : ResolvesCall (whole_classes given found) r m = subst (λ (b : Bool). ResolvesBy b (whole_classes given found) r m) (sym kind) p in
          method_kept m d.shape (d.class, d.of_class, d.at_place) (λ lib. of_nothing (MethodAt d.class.name m.index) (resolved_method (whole_classes given found) insn m d.class.name whole has (r, e, resolves) (d.class, d.of_class, refl) lib));
    }

    pub enough : (at : Places) × KeepsEnough given (whole_classes given found) (collected_classes given found) at
    enough = (places, record { part = fewer; members = keeps; references = references })
