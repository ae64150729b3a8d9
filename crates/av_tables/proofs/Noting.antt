-- Methods are noted under their signatures.
use Rattle.std.proofs.Common.{◌≡◌, ℕ, ◌+◌, ◌<◌, ◌≤◌, ◌^◌, ◌↔◌, ◌⊎◌, inl, inr, List, [], ◌∷◌, ◌++◌, Option, None, Some, length, slice_get, set, get_or, Contains, refl, sym, ap, ◌∙◌, subst, arith, ⊎_elim}
use Rattle.std.proofs.lemmas.Bool.{cases_eq}
use Rattle.std.proofs.lemmas.List.{length-set}
use Rattle.std.proofs.lemmas.List.Elements.{Contains-append_left, Contains-push, Contains-push_cases}
use Rattle.std.proofs.lemmas.Option.{slice_get-get_or, slice_get_within, same_Some}
use Rattle.jv_types.specs.declared.shapes.MethodShape.{MethodShape}
use Rattle.jv_types.specs.declared.shapes.Shape.{Shape}
use Rattle.jv_fix.specs.Order.{IsSet}
use Rattle.jv_resolve.proofs.PlacesLemmas.{among_from_get}
use Rattle.av_collected.specs.Libraries.{LibraryFile}
use Rattle.av_collected.specs.Rules.{IsOpenInstance}
use Rattle.av_named.proofs.Appending.{none_there}
use Rattle.av_tables.specs.declared.member.Member.{Member}
use Rattle.av_tables.specs.Tables.{Known, ShapeAt, DeclaresMethod, HasSignature, IsMemberOf, ArePlaces, signature_of}
use Rattle.av_tables.specs.Steps.{AreMembers, AreSmall, Anywhere, InClassesBelow, InPlacesBelow, HaveSignatures}
use Rattle.av_tables.specs.contracts.signature.SignatureOrd as signature_ord
use Rattle.av_tables.proofs.Rising.{one_place}
use Rattle.av_tables.proofs.Placing.{at_set, past_set}

pub one_at : {X : Type 0} (xs : List X) (i : ℕ) (x y : X) → slice_get xs i ≡ Some x → slice_get xs i ≡ Some y → x ≡ y
one_at xs i x y p q = same_Some x y (sym p ∙ q)

-- a class has one shape
pub one_shape_at : (k : Known) (c : ℕ) (s t : Shape) → ShapeAt k c s → ShapeAt k c t → s ≡ t
one_shape_at k c s t (f, (i, noted, there), is) (g, (j, other_noted, other_there), other_is) =
    let places : i ≡ j = same_Some i j (one_at k.places c (Some i) (Some j) noted other_noted) in
    let files : f ≡ g = same_Some f g (sym there ∙ ap (slice_get k.files) places ∙ other_there) in
    same_Some s t (sym is ∙ ap (λ (x : LibraryFile). x.shape) files ∙ other_is)

pub one_method_at : (k : Known) (c place : ℕ) (m n : MethodShape) → DeclaresMethod k c place m → DeclaresMethod k c place n → m ≡ n
one_method_at k c place m n (s, has, at) (t, other, other_at) =
    same_Some m n (sym at ∙ ap (λ (x : Shape). slice_get x.methods place) (one_shape_at k c s t has other) ∙ other_at)

-- the classes that were read have few methods
pub few_methods : (k : Known) (c : ℕ) (shape : Shape) → AreSmall k.files → ShapeAt k c shape → length shape.methods < 2 ^ 16
few_methods k c shape small (file, (place, noted, there), is) = (small file shape (among_from_get k.files place file there) is).0

-- nothing is noted yet
pub none_noted : (k : Known) (rows : List (List Member)) → length rows ≡ length k.signatures → ((s : ℕ) (row : List Member) → slice_get rows s ≡ Some row → row ≡ [])
    → AreMembers (InClassesBelow 0) k rows
none_noted k rows count empty = record {
  count = count;
  exact = λ s row m at. (
    λ h. absurd (none_there m (subst (λ (l : List Member). Contains l m) (empty s row at) h)),
    λ (member, below). absurd (omega (arith, below)),
  );
}

-- other words for the same places
pub same_members : (P Q : ℕ → ℕ → Type 0) (k : Known) (rows : List (List Member)) → ((s c place : ℕ) → IsMemberOf k s c place → P c place → Q c place)
    → ((s c place : ℕ) → IsMemberOf k s c place → Q c place → P c place) → AreMembers P k rows → AreMembers Q k rows
same_members P Q k rows into back h = record {
  count = h.count;
  exact = λ s row m at. (
    λ has. (let was = (h.exact s row m at).0 has in (was.0, into s m.class m.place was.0 was.1)),
    λ (member, q). (h.exact s row m at).1 (member, back s m.class m.place member q),
  );
}

module _ (k : Known) (class : ℕ) (shape : Shape) (has : ShapeAt k class shape) where
  pub first_place : (rows : List (List Member)) → AreMembers (InClassesBelow class) k rows → AreMembers (InPlacesBelow class 0) k rows
  first_place rows h =
      same_members (InClassesBelow class) (InPlacesBelow class 0) k rows (λ s c place member below. inl below)
      (λ s c place member q. ⊎_elim (λ below. below) (λ at. absurd (omega (arith, at.1))) q) h

  pub last_place : (rows : List (List Member)) (n : ℕ) → length shape.methods ≤ n → AreMembers (InPlacesBelow class n) k rows → AreMembers (InClassesBelow (class + 1)) k rows
  last_place rows n past h =
      same_members (InPlacesBelow class n) (InClassesBelow (class + 1)) k rows
      (λ s c place member q. ⊎_elim (λ below. omega (arith, below)) (λ at. omega (arith, at.0)) q)
      (λ s c place member below. elim (cases_eq c class) [
        | inl same ↦ inr (
          same,
          (
              let own = member.1.0 in
              let is : own ≡ shape = one_shape_at k class own shape (subst (λ (x : ℕ). ShapeAt k x own) same member.1.1) has in
              let within : place < length own.methods = slice_get_within own.methods place member.0 member.1.2 in
              let alike : length own.methods ≡ length shape.methods = ap (λ (x : Shape). length x.methods) is in
              omega (arith, within, alike, past)
              ),
        )
        | inr apart ↦ inl (omega (arith, below, apart))
      ]) h

-- a class without a shape has no methods
pub no_shape : (k : Known) (class : ℕ) (rows : List (List Member)) → ((shape : Shape) → ShapeAt k class shape → ⊥) → AreMembers (InClassesBelow class) k rows → AreMembers (InClassesBelow (class + 1)) k rows
no_shape k class rows none h =
    same_members (InClassesBelow class) (InClassesBelow (class + 1)) k rows (λ s c place member below. omega (arith, below))
    (λ s c place member below. elim (cases_eq c class) [
      | inl same ↦ absurd (none member.1.0 (subst (λ (x : ℕ). ShapeAt k x member.1.0) same member.1.1))
      | inr apart ↦ omega (arith, below, apart)
    ]) h

-- all classes
pub all_noted : (k : Known) (rows : List (List Member)) (n : ℕ) → length k.names ≤ n → ArePlaces k.names k.files k.places → AreMembers (InClassesBelow n) k rows → AreMembers Anywhere k rows
all_noted k rows n past places h =
    same_members (InClassesBelow n) Anywhere k rows (λ s c place member below. tt)
    (λ s c place member any.
    let noted = member.1.1.1 in
    let within : c < length k.places = slice_get_within k.places c (Some noted.0) noted.1 in
    omega (arith, within, places.count, past)) h

module _ (k : Known) (member : Member) (method : MethodShape) (here : DeclaresMethod k member.class member.place method) (rows : List (List Member))
    (before : AreMembers (InPlacesBelow member.class member.place) k rows) where
  step_into : (c place : ℕ) → InPlacesBelow member.class member.place c place → InPlacesBelow member.class (member.place + 1) c place
  step_into c place q = ⊎_elim (λ below. inl below) (λ at. inr (at.0, omega (arith, at.1))) q

  -- of those one place further, the last is this one
  step_back : (m : Member) → InPlacesBelow member.class (member.place + 1) m.class m.place → InPlacesBelow member.class member.place m.class m.place ⊎ (member ≡ m)
  step_back m q =
      by q
    where
      by : (m.class < member.class) ⊎ ((m.class ≡ member.class) × (m.place < member.place + 1)) → InPlacesBelow member.class member.place m.class m.place ⊎ (member ≡ m)
      by (inl below) = inl (inl below)
      by (inr (of_class, under)) =
          elim (cases_eq m.place member.place) [
            | inl same ↦ inr (λ i. record { class = sym of_class i; place = sym same i })
            | inr apart ↦ inl (inr (of_class, omega (arith, under, apart)))
          ]

  is_method : (s : ℕ) (m : Member) → member ≡ m → (x : IsMemberOf k s m.class m.place) → x.0 ≡ method
  is_method s m same x = one_method_at k member.class member.place x.0 method (subst (λ (y : Member). DeclaresMethod k y.class y.place x.0) (sym same) x.1) here

  -- a method that is none of those that are noted
  pub passed_by : (IsOpenInstance method → ⊥) → AreMembers (InPlacesBelow member.class (member.place + 1)) k rows
  passed_by closed = record {
    count = before.count;
    exact = λ s row m at. (
      λ h. (let was = (before.exact s row m at).0 h in (was.0, step_into m.class m.place was.1)),
      λ (x, q). ⊎_elim (λ old. (before.exact s row m at).1 (x, old)) (λ same. absurd (closed (subst IsOpenInstance (is_method s m same x) x.2))) (step_back m q),
    );
  }

  -- a method that is noted
  pub noted : (rising : IsSet signature_ord.TheImpl.ghosts.cmp k.signatures) (s : ℕ) → IsOpenInstance method → HasSignature k s method
      → AreMembers (InPlacesBelow member.class (member.place + 1)) k (set rows s (get_or rows s [] ++ member ∷ []))
  noted rising s open_instance signature = record {
    count = length-set rows s (get_or rows s [] ++ member ∷ []) ∙ before.count;
    exact = λ t row m at. elim (cases_eq t s) [
      | inl same ↦ (
          let is : (get_or rows s [] ++ member ∷ []) ≡ row = same_Some (get_or rows s [] ++ member ∷ []) row (sym (at_set rows s (get_or rows s [] ++ member ∷ []) within) ∙ ap (slice_get (set rows s (get_or rows s [] ++ member ∷ []))) (sym same) ∙ at) in (
            λ h. ⊎_elim (λ old. let was = (before.exact s (get_or rows s []) m old_at).0 old in (subst (λ (x : ℕ). IsMemberOf k x m.class m.place) (sym same) was.0, step_into m.class m.place was.1))
                (λ last. (subst (λ (x : ℕ). IsMemberOf k x m.class m.place) (sym same) (subst (λ (y : Member). IsMemberOf k s y.class y.place) last own), subst (λ (y : Member). InPlacesBelow member.class (member.place + 1) y.class y.place) last (inr (refl, omega arith))))
                (Contains-push_cases (get_or rows s []) member m (subst (λ (l : List Member). Contains l m) (sym is) h)),
            λ (x, q). subst (λ (l : List Member). Contains l m) is (⊎_elim
                (λ old. Contains-append_left (get_or rows s []) (member ∷ []) m ((before.exact s (get_or rows s []) m old_at).1 (subst (λ (y : ℕ). IsMemberOf k y m.class m.place) same x, old)))
                (λ last. subst (λ (y : Member). Contains (get_or rows s [] ++ member ∷ []) y) last (Contains-push (get_or rows s []) member)) (step_back m q)),
          )
          )
      | inr apart ↦ (
          let was_at : slice_get rows t ≡ Some row = sym (past_set rows s t (get_or rows s [] ++ member ∷ []) apart) ∙ at in (
            λ h. (let was = (before.exact t row m was_at).0 h in (was.0, step_into m.class m.place was.1)),
            λ (x, q). ⊎_elim (λ old. (before.exact t row m was_at).1 (x, old))
                (λ last. absurd (apart (one_place signature_ord.TheImpl.Laws.total-law k.signatures rising t s (signature_of method) (subst (λ (y : MethodShape). HasSignature k t y) (is_method t m last x) x.3) signature))) (step_back m q),
          )
          )
    ];
  }
    where
      within : s < length rows
      within = let w : s < length k.signatures = slice_get_within k.signatures s (signature_of method) signature in omega (arith, w, before.count)

      old_at : slice_get rows s ≡ Some (get_or rows s [])
      old_at = slice_get-get_or rows s [] within

      own : IsMemberOf k s member.class member.place
      own = (method, here, open_instance, signature)

  -- each method has a signature
  pub has_signature : HaveSignatures k.files k.signatures → Contains k.signatures (signature_of method)
  has_signature covered =
      let shape = here.0 in
      let file = here.1.0 in
      covered file shape method (among_from_get k.files here.1.1.0 file here.1.1.2) here.1.2 (among_from_get shape.methods member.place method here.2)
