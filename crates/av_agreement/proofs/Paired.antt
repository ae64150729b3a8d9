-- Classes beside themselves with some of their members, one by one, and the places of these.
use Rattle.std.proofs.Common.{◌≡◌, ℕ, zero, suc, ◌+◌, List, [], ◌∷◌, ◌++◌, Some, length, slice_get, refl, sym, ap, subst, arith}
use Rattle.std.specs.Prelude.{◌↔◌, bit_and}
use Rattle.std.specs.List.{AllZip}
use Rattle.std.proofs.lemmas.Option.{same_Some}
use Rattle.jv_types.specs.declared.access.Access.{Access}
use Rattle.jv_types.specs.declared.shapes.FieldShape.{FieldShape}
use Rattle.jv_types.specs.declared.shapes.MethodShape.{MethodShape}
use Rattle.jv_types.specs.declared.shapes.Shape.{Shape}
use Rattle.jv_resolve.specs.Members.{IsPublic}
use Rattle.jv_two_worlds.specs.SameClasses.{HaveSameAccess, IsSameField, IsSameMethod}
use Rattle.jv_fewer_members.specs.Parts.{AreSomeOf, IsPartOf, Places}
use Rattle.av_agreement.proofs.Picked.{ArePicked}

same_iff : {A : Type 0} → A ↔ A
same_iff = (λ a. a, λ a. a)

same_access : (a : Access) → HaveSameAccess a a
same_access a = record { public = same_iff; protected = same_iff; private = same_iff; static = same_iff }

pub same_field : (x : FieldShape) → IsSameField x x
same_field x = record { name = refl; desc = refl; access = same_access x.flags }

pub same_method : (x : MethodShape) → IsSameMethod x x
same_method x = record { name = refl; desc = refl; access = same_access x.flags; abstract = same_iff }

-- the class and its part: just the members at the places of which F and M hold are in the part
pub record IsCut (F M : Shape → ℕ → Type 0) (shape cut : Shape) (field_at method_at : ℕ → ℕ) : Type 0 where
  pub part : IsPartOf shape cut field_at method_at
  pub only_fields : (k : ℕ) (x : FieldShape) → slice_get cut.fields k ≡ Some x → F shape (field_at k)
  pub only_methods : (k : ℕ) (x : MethodShape) → slice_get cut.methods k ≡ Some x → M shape (method_at k)
  pub kept_fields : (j : ℕ) (x : FieldShape) → slice_get shape.fields j ≡ Some x → F shape j → (k : ℕ) × (j ≡ field_at k) × (y : FieldShape) × (slice_get cut.fields k ≡ Some y)
  pub kept_methods : (j : ℕ) (x : MethodShape) → slice_get shape.methods j ≡ Some x → M shape j → (k : ℕ) × (j ≡ method_at k) × (y : MethodShape) × (slice_get cut.methods k ≡ Some y)

abbrev pub HasCut : (Shape → ℕ → Type 0) → (Shape → ℕ → Type 0) → Shape → Shape → Type 0
HasCut F M shape cut = (field_at : ℕ → ℕ) × (method_at : ℕ → ℕ) × IsCut F M shape cut field_at method_at

-- ---- one class

-- a class of which each member is kept
pub cut_itself : (F M : Shape → ℕ → Type 0) (s : Shape) → ((k : ℕ) → F s k) → ((k : ℕ) → M s k) → HasCut F M s s
cut_itself F M s fields methods = (
  (λ k. k),
  (λ k. k),
  record {
    part = record {
      name = refl;
      public = same_iff;
      interface = same_iff;
      parent = refl;
      interfaces = refl;
      fields = record { each = λ k x e. (x, e, same_field x); rising = λ j k lt here. lt };
      methods = record { each = λ k x e. (x, e, same_method x); rising = λ j k lt here. lt };
    };
    only_fields = λ k x e. fields k;
    only_methods = λ k x e. methods k;
    kept_fields = λ j x e holds. (j, refl, x, e);
    kept_methods = λ j x e holds. (j, refl, x, e);
  },
)

at_zero : (P : ℕ → Type 0) (k : ℕ) → P (zero + k) → P k
at_zero P k p = subst P (omega arith) p

from_zero : (P : ℕ → Type 0) (k : ℕ) → P k → P (zero + k)
from_zero P k p = subst P (omega arith) p

some_of : {X : Type 0} (R : X → X → Type 0) → ((x : X) → R x x) → (P : ℕ → Type 0) (xs picked : List X) (at : ℕ → ℕ) → ArePicked P zero xs picked at → AreSomeOf R xs picked at
some_of R same P xs picked at p = record { each = λ k x e. (x, (p.each k x e).0, same x); rising = p.rising }

-- a class whose members are picked by their places
pub cut_picked : (F M : Shape → ℕ → Type 0) (s t : Shape) → t.name ≡ s.name → t.flags ≡ s.flags → t.parent ≡ s.parent → t.interfaces ≡ s.interfaces
    → (field_at method_at : ℕ → ℕ) → ArePicked (F s) zero s.fields t.fields field_at → ArePicked (M s) zero s.methods t.methods method_at → HasCut F M s t
cut_picked F M s t name flags parent interfaces field_at method_at fields methods = (
  field_at,
  method_at,
  record {
    part = record {
      name = sym name;
      public = ((λ p. subst IsPublic (sym flags) p), λ p. subst IsPublic flags p);
      interface = ((λ p. subst Interface (sym flags) p), λ p. subst Interface flags p);
      parent = sym parent;
      interfaces = sym interfaces;
      fields = some_of IsSameField same_field (F s) s.fields t.fields field_at fields;
      methods = some_of IsSameMethod same_method (M s) s.methods t.methods method_at methods;
    };
    only_fields = λ k x e. at_zero (F s) (field_at k) (fields.each k x e).1;
    only_methods = λ k x e. at_zero (M s) (method_at k) (methods.each k x e).1;
    kept_fields = λ j x e holds. let r = fields.kept j x e (from_zero (F s) j holds) in (r.0, r.1, x, r.2);
    kept_methods = λ j x e holds. let r = methods.kept j x e (from_zero (M s) j holds) in (r.0, r.1, x, r.2);
  },
)
  where
    Interface : Access → Type 0
    Interface a = bit_and a.0 512 ≡ 512

-- ---- all classes

pub zip_itself : {X : Type 0} (R : X → X → Type 0) (xs : List X) → ((k : ℕ) (x : X) → slice_get xs k ≡ Some x → R x x) → AllZip R xs xs
zip_itself R [] each = tt
zip_itself R (x ∷ xs) each = (each zero x refl, zip_itself R xs (λ k y e. each (suc k) y e))

pub zip_weaker : {X Y : Type 0} (R Q : X → Y → Type 0) (xs : List X) (ys : List Y) → AllZip R xs ys → ((k : ℕ) (x : X) (y : Y) → slice_get xs k ≡ Some x → R x y → Q x y) → AllZip Q xs ys
zip_weaker R Q [] [] all weaker = tt
zip_weaker R Q [] (y ∷ ys) all weaker = absurd all
zip_weaker R Q (x ∷ xs) [] all weaker = absurd all
zip_weaker R Q (x ∷ xs) (y ∷ ys) all weaker = (weaker zero x y refl all.0, zip_weaker R Q xs ys all.1 (λ k a b e r. weaker (suc k) a b e r))

pub zip_append : {X Y : Type 0} (R : X → Y → Type 0) (xs : List X) (ys : List Y) (us : List X) (vs : List Y) → AllZip R xs ys → AllZip R us vs → AllZip R (xs ++ us) (ys ++ vs)
zip_append R [] [] us vs all more = more
zip_append R [] (y ∷ ys) us vs all more = absurd all
zip_append R (x ∷ xs) [] us vs all more = absurd all
zip_append R (x ∷ xs) (y ∷ ys) us vs all more = (all.0, zip_append R xs ys us vs all.1 more)

pub zip_length : {X Y : Type 0} (R : X → Y → Type 0) (xs : List X) (ys : List Y) → AllZip R xs ys → length ys ≡ length xs
zip_length R [] [] all = refl
zip_length R [] (y ∷ ys) all = absurd all
zip_length R (x ∷ xs) [] all = absurd all
zip_length R (x ∷ xs) (y ∷ ys) all = ap (λ (n : ℕ). suc n) (zip_length R xs ys all.1)

-- the places of one class, and of those behind it
abbrev first_or : (ℕ → ℕ) → (ℕ → ℕ → ℕ) → ℕ → ℕ → ℕ
first_or at rest zero = at
first_or at rest (suc c) = rest c

abbrev pub ArePaired : (Shape → ℕ → Type 0) → (Shape → ℕ → Type 0) → List Shape → List Shape → Places → Type 0
ArePaired F M w v at = (c : ℕ) (s : Shape) → slice_get w c ≡ Some s → (t : Shape) × (slice_get v c ≡ Some t) × IsCut F M s t (at.of_field c) (at.of_method c)

pub paired : (F M : Shape → ℕ → Type 0) (w v : List Shape) → AllZip (HasCut F M) w v → (at : Places) × ArePaired F M w v at
paired F M [] [] all = (record { of_field = λ c k. k; of_method = λ c k. k }, λ c s e. absurd cc)
paired F M [] (t ∷ v) all = absurd all
paired F M (s ∷ w) [] all = absurd all
paired F M (s ∷ w) (t ∷ v) all =
    let rest = paired F M w v all.1 in
    (record { of_field = first_or all.0.0 rest.0.of_field; of_method = first_or all.0.1 rest.0.of_method }, each rest.0 rest.1)
  where
    each : (at : Places) → ArePaired F M w v at → (c : ℕ) (x : Shape) → slice_get (s ∷ w) c ≡ Some x
        → (y : Shape) × (slice_get (t ∷ v) c ≡ Some y) × IsCut F M x y (first_or all.0.0 at.of_field c) (first_or all.0.1 at.of_method c)
    each at more zero x e = (t, refl, subst (λ (z : Shape). IsCut F M z t all.0.0 all.0.1) (same_Some s x e) all.0.2)
    each at more (suc c) x e = more c x e
