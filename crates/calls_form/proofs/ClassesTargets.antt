-- What an index of the pool names, as functions and as relations.
use Rattle.std.proofs.Common.{◌≡◌, ◌≢◌, ℕ, zero, suc, ◌^◌, ◌<◌, true, false, cond, ◌&&◌, List, [], ◌∷◌, map, Option, Some, None, refl, sym, ap, subst, ◌∙◌, codes, inl, inr}
use Rattle.std.specs.Prelude.{option_map}
use Rattle.std.specs.List.{slice_get}
use Rattle.std.specs.Str.{bytes_eq}
use Rattle.std.proofs.lemmas.Option.{none-some}
use Rattle.std.proofs.lemmas.Slice.Eq.{bytes_eq-Decides}
use Rattle.std.proofs.lemmas.Bool.Decides.{Decides-and}
use Rattle.calls_form.specs.declared.outline.Entry.{Entry}
use Rattle.calls_form.specs.declared.outline.Entry.TheVariants as entry
use Rattle.calls_form.specs.declared.object_class.Field as declared_field
use Rattle.calls_form.specs.declared.object_class.Method as declared_method
use Rattle.calls_form.specs.declared.object_class.ObjectClass.{ObjectClass}
use Rattle.calls_form.specs.declared.target.Target.{Target}
use Rattle.calls_form.specs.declared.target.Target.TheVariants.{Field, Method, ObjectInit, This}
use Rattle.calls_form.specs.Outlines.{IsFieldrefAt, IsMethodrefAt, IsClassAt}
use Rattle.calls_form.specs.Kinds.{FieldsDiffer, MethodsDiffer}
use Rattle.calls_form.specs.ObjectForm.{object_name, IsTarget}
use Rattle.calls_form.specs.Classes.{Named, class_at, member_at}
use Rattle.calls_form.specs.ClassesPlaces.{Texts, place_of, AreApart, field_target, is_object_init, method_target, class_target, entry_target, target_of}
use Rattle.calls_form.specs.ClassesClass.{field_texts, method_texts}
use Rattle.calls_form.proofs.ClassesPool.{class_takes, class_again, member_takes, member_again, fieldref_takes, methodref_takes, fieldref_member, methodref_member, bytes_eq_itself}
use Rattle.calls_form.proofs.ClassesPlaces.{place_takes, place_again}
use Rattle.calls_form.proofs.ClassesSteps.{chosen}
use Rattle.calls_form.proofs.ClassesKinds.{not_true}
use Rattle.calls_form.proofs.ClassesInstructions.{KnowsTargets}
use Rattle.calls_form.proofs.LayoutFields.{bind_some, past_true, some_is}

-- an element of a list that was made one by one
pub map_takes : {A B : Type 0} (f : A → B) (xs : List A) (i : ℕ) (y : B) → slice_get (map f xs) i ≡ Some y → (x : A) × (slice_get xs i ≡ Some x) × (f x ≡ y)
map_takes f [] i y e = absurd (none-some y e)
map_takes f (x ∷ xs) zero y e = (x, refl, some_is (f x) y e)
map_takes f (x ∷ xs) (suc i) y e = map_takes f xs i y e

pub map_again : {A B : Type 0} (f : A → B) (xs : List A) (i : ℕ) (x : A) → slice_get xs i ≡ Some x → slice_get (map f xs) i ≡ Some (f x)
map_again f [] i x e = absurd (none-some x e)
map_again {A} {B} f (y ∷ xs) zero x e = ap (λ (z : A). Some (f z)) (some_is y x e)
map_again f (y ∷ xs) (suc i) x e = map_again f xs i x e

-- members are apart where their texts are
pub fields_apart : (fields : List declared_field.Field) → FieldsDiffer fields → AreApart (map field_texts fields)
fields_apart fields differ i j a b at_i at_j name desc =
    let x = map_takes field_texts fields i a at_i in
    let y = map_takes field_texts fields j b at_j in
    differ i j x.0 y.0 x.1 y.1 (ap (λ (t : Texts). t.name) x.2 ∙ name ∙ sym (ap (λ (t : Texts). t.name) y.2)) (ap (λ (t : Texts). t.desc) x.2 ∙ desc ∙ sym (ap (λ (t : Texts). t.desc) y.2))

pub fields_differ : (fields : List declared_field.Field) → AreApart (map field_texts fields) → FieldsDiffer fields
fields_differ fields apart i j a b at_i at_j name desc =
    apart i j (field_texts a) (field_texts b) (map_again field_texts fields i a at_i) (map_again field_texts fields j b at_j) name desc

pub methods_apart : (methods : List declared_method.Method) → MethodsDiffer methods → AreApart (map method_texts methods)
methods_apart methods differ i j a b at_i at_j name desc =
    let x = map_takes method_texts methods i a at_i in
    let y = map_takes method_texts methods j b at_j in
    differ i j x.0 y.0 x.1 y.1 (ap (λ (t : Texts). t.name) x.2 ∙ name ∙ sym (ap (λ (t : Texts). t.name) y.2)) (ap (λ (t : Texts). t.desc) x.2 ∙ desc ∙ sym (ap (λ (t : Texts). t.desc) y.2))

pub methods_differ : (methods : List declared_method.Method) → AreApart (map method_texts methods) → MethodsDiffer methods
methods_differ methods apart i j a b at_i at_j name desc =
    apart i j (method_texts a) (method_texts b) (map_again method_texts methods i a at_i) (map_again method_texts methods j b at_j) name desc

-- ---- what is named is found

some_map : (f : ℕ → Target) (o : Option ℕ) (t : Target) → option_map f o ≡ Some t → (p : ℕ) × (o ≡ Some p) × (f p ≡ t)
some_map f None t e = absurd cc
some_map f (Some p) t e = (p, refl, some_is (f p) t e)

own_field : (pool : List Entry) (class : ObjectClass) (i class_index pair_index : ℕ) (n : Named) (t : Target) → slice_get pool i ≡ Some (entry.Fieldref class_index pair_index) → member_at pool class_index pair_index ≡ Some n
    → field_target class.name (map field_texts class.fields) n ≡ Some t → IsTarget pool class i t
own_field pool class i class_index pair_index n t at found e =
    let a = past_true (bytes_eq n.class class.name) (option_map Field (place_of (map field_texts class.fields) n.name n.desc)) t e in
    let b = some_map (λ p. Field p) (place_of (map field_texts class.fields) n.name n.desc) t a.1 in
    let s = place_takes (map field_texts class.fields) n.name n.desc b.0 b.1 in
    let x = map_takes field_texts class.fields b.0 s.0 s.1 in
    let ref = fieldref_takes pool i class_index pair_index n at (member_takes pool class_index pair_index n found) in
    let at_class = subst (λ (c : List ℕ). IsFieldrefAt pool i c n.name n.desc) ((bytes_eq-Decides n.class class.name).0 a.0) ref in
    let at_name = subst (λ (c : List ℕ). IsFieldrefAt pool i class.name c n.desc) (sym (ap (λ (h : Texts). h.name) x.2 ∙ s.2)) at_class in
    let at_desc = subst (λ (c : List ℕ). IsFieldrefAt pool i class.name x.0.name c) (sym (ap (λ (h : Texts). h.desc) x.2 ∙ s.3)) at_name in
    subst (IsTarget pool class i) b.2 (x.0, x.1, at_desc)

own_method : (pool : List Entry) (class : ObjectClass) (i class_index pair_index : ℕ) (n : Named) (t : Target) → slice_get pool i ≡ Some (entry.Methodref class_index pair_index) → member_at pool class_index pair_index ≡ Some n
    → method_target class.name (map method_texts class.methods) n ≡ Some t → IsTarget pool class i t
own_method pool class i class_index pair_index n t at found e =
    let ref = methodref_takes pool i class_index pair_index n at (member_takes pool class_index pair_index n found) in
    elim (chosen (bytes_eq n.class class.name) (option_map Method (place_of (map method_texts class.methods) n.name n.desc)) (cond (is_object_init n) (Some ObjectInit) None) (Some t) e) [
      | inl a ↦
          let b = some_map (λ p. Method p) (place_of (map method_texts class.methods) n.name n.desc) t a.1 in
          let s = place_takes (map method_texts class.methods) n.name n.desc b.0 b.1 in
          let x = map_takes method_texts class.methods b.0 s.0 s.1 in
          let at_class = subst (λ (c : List ℕ). IsMethodrefAt pool i c n.name n.desc) ((bytes_eq-Decides n.class class.name).0 a.0) ref in
          let at_name = subst (λ (c : List ℕ). IsMethodrefAt pool i class.name c n.desc) (sym (ap (λ (h : Texts). h.name) x.2 ∙ s.2)) at_class in
          let at_desc = subst (λ (c : List ℕ). IsMethodrefAt pool i class.name x.0.name c) (sym (ap (λ (h : Texts). h.desc) x.2 ∙ s.3)) at_name in
          subst (IsTarget pool class i) b.2 (x.0, x.1, at_desc)
      | inr a ↦
          let b = past_true (is_object_init n) (Some ObjectInit) t a.1 in
          let is = (Decides-and (bytes_eq n.class object_name) (bytes_eq n.name (codes "<init>") && bytes_eq n.desc (codes "()V")) (bytes_eq-Decides n.class object_name)
          (Decides-and (bytes_eq n.name (codes "<init>")) (bytes_eq n.desc (codes "()V")) (bytes_eq-Decides n.name (codes "<init>")) (bytes_eq-Decides n.desc (codes "()V")))).0 b.0 in
          let other : class.name ≢ object_name = λ own. let both : true ≡ false = sym ((bytes_eq-Decides n.class class.name).1 (is.0 ∙ sym own)) ∙ a.0 in absurd cc in
          let at_class = subst (λ (c : List ℕ). IsMethodrefAt pool i c n.name n.desc) is.0 ref in
          let at_name = subst (λ (c : List ℕ). IsMethodrefAt pool i object_name c n.desc) is.1.0 at_class in
          let at_desc = subst (λ (c : List ℕ). IsMethodrefAt pool i object_name (codes "<init>") c) is.1.1 at_name in
          subst (IsTarget pool class i) (some_is ObjectInit t b.1) (other, at_desc)
    ]

own_class : (pool : List Entry) (class : ObjectClass) (i : ℕ) (name : List ℕ) (t : Target) → class_at pool i ≡ Some name → class_target class.name name ≡ Some t → IsTarget pool class i t
own_class pool class i name t found e =
    let a = past_true (bytes_eq name class.name) (Some This) t e in
    subst (IsTarget pool class i) (some_is This t a.1) (subst (IsClassAt pool i) ((bytes_eq-Decides name class.name).0 a.0) (class_takes pool i name found))

entry_takes : (pool : List Entry) (class : ObjectClass) (i : ℕ) (e : Entry) (t : Target) → slice_get pool i ≡ Some e
    → entry_target pool class.name (map field_texts class.fields) (map method_texts class.methods) i e ≡ Some t → IsTarget pool class i t
unfolding entry_target
entry_takes pool class i (entry.Utf8 text) t at e = absurd cc
entry_takes pool class i (entry.Class name) t at e = let a = bind_some (class_at pool i) (class_target class.name) t e in own_class pool class i a.0 t a.1 a.2
entry_takes pool class i (entry.Fieldref c p) t at e =
    let a = bind_some (member_at pool c p) (field_target class.name (map field_texts class.fields)) t e in own_field pool class i c p a.0 t at a.1 a.2
entry_takes pool class i (entry.Methodref c p) t at e =
    let a = bind_some (member_at pool c p) (method_target class.name (map method_texts class.methods)) t e in own_method pool class i c p a.0 t at a.1 a.2
entry_takes pool class i (entry.NameAndType name desc) t at e = absurd cc
entry_takes pool class i entry.Unused t at e = absurd cc

target_takes : (pool : List Entry) (class : ObjectClass) (i : ℕ) (t : Target) → target_of pool class.name (map field_texts class.fields) (map method_texts class.methods) i ≡ Some t → IsTarget pool class i t
unfolding target_of
target_takes pool class i t e =
    let a = bind_some (slice_get pool i) (entry_target pool class.name (map field_texts class.fields) (map method_texts class.methods) i) t e in
    entry_takes pool class i a.0 t a.1 a.2

target_again : (pool : List Entry) (class : ObjectClass) (i : ℕ) (t : Target) → FieldsDiffer class.fields → MethodsDiffer class.methods → IsTarget pool class i t
    → target_of pool class.name (map field_texts class.fields) (map method_texts class.methods) i ≡ Some t
unfolding target_of entry_target
target_again pool class i (Field p) fields methods h =
    let x = h.0 in
    let n : Named = record { class = class.name; name = x.name; desc = x.desc } in
    let found = place_again (map field_texts class.fields) x.name x.desc p (fields_apart class.fields fields) (field_texts x, map_again field_texts class.fields p x h.1, refl, refl) in
    rw (h.2.item, member_again pool h.2.class_at h.2.pair_at n (fieldref_member pool i n h.2), bytes_eq_itself class.name, found) refl
target_again pool class i (Method p) fields methods h =
    let m = h.0 in
    let n : Named = record { class = class.name; name = m.name; desc = m.desc } in
    let found = place_again (map method_texts class.methods) m.name m.desc p (methods_apart class.methods methods) (method_texts m, map_again method_texts class.methods p m h.1, refl, refl) in
    rw (h.2.item, member_again pool h.2.class_at h.2.pair_at n (methodref_member pool i n h.2), bytes_eq_itself class.name, found) refl
target_again pool class i ObjectInit fields methods h =
    let n : Named = record { class = object_name; name = codes "<init>"; desc = codes "()V" } in
    let other : bytes_eq object_name class.name ≡ false = not_true (bytes_eq object_name class.name) (λ t. h.0 (sym ((bytes_eq-Decides object_name class.name).0 t))) in
    rw (h.1.item, member_again pool h.1.class_at h.1.pair_at n (methodref_member pool i n h.1), other) refl
target_again pool class i This fields methods h = rw (h.1, class_again pool i class.name h, bytes_eq_itself class.name) refl

-- a table by the members' texts knows what the pool names
pub targets_known : (pool : List Entry) (class : ObjectClass) (target : ℕ → Option Target) → FieldsDiffer class.fields → MethodsDiffer class.methods
    → ((i : ℕ) → i < 2 ^ 16 → target i ≡ target_of pool class.name (map field_texts class.fields) (map method_texts class.methods) i) → KnowsTargets pool class target
targets_known pool class target fields methods agrees = record {
  sound = λ i t lt e. target_takes pool class i t (sym (agrees i lt) ∙ e);
  complete = λ i t lt h. agrees i lt ∙ target_again pool class i t fields methods h;
}
