-- The classes that are here, number by number; and core methods.
use Rattle.std.proofs.Common.{◌≡◌, ℕ, ◌+◌, ◌↔◌, ◌⊎◌, inl, inr, true, List, Contains, sym, subst, arith, ⊎_elim}
use Rattle.std.proofs.lemmas.Bool.{cases_eq}
use Rattle.std.specs.Cmp.Lexicographic.{slice_cmp}
use Rattle.std.specs.Ordering.{nat_cmp}
use Rattle.jv_fix.specs.Order.{IsSet}
use Rattle.jv_types.specs.declared.shapes.MethodShape.{MethodShape}
use Rattle.jv_types.specs.declared.shapes.Shape.{Shape}
use Rattle.jv_world.specs.Worlds.{object_name}
use Rattle.jv_resolve.proofs.PlacesLemmas.{among_from_get}
use Rattle.av_named.specs.Appending.{Appends, OfEach}
use Rattle.av_named.proofs.Appending.{appends_both, appends_none, appends_same}
use Rattle.av_tables.specs.Tables.{Known, NameAt, ShapeAt}
use Rattle.av_tables.proofs.Noting.{one_shape_at}
use Rattle.av_forcing.specs.declared.fact.RoundFact.{RoundFact}
use Rattle.av_forcing.specs.declared.fact.RoundFact.TheVariants.{Method}
use Rattle.av_forcing.specs.Forcing.{Numbered}
use Rattle.av_round.specs.Seeds.{CoreAt, CoreMethod, CoreMethodOf, IsCoreMethod, SuperOf}
use Rattle.av_round.specs.Steps.{IsShapeBelow}
use Rattle.av_round.proofs.Numbers.{one_number}

pub not_read : (k : Known) (c : ℕ) (old : List Shape) → ((shape : Shape) → ShapeAt k c shape → ⊥) → Appends (ShapeAt k c) old old
not_read k c old none = appends_none (ShapeAt k c) old none

pub one_read : (k : Known) (c : ℕ) (shape : Shape) (old new : List Shape) → ShapeAt k c shape → Appends (λ x. shape ≡ x) old new → Appends (ShapeAt k c) old new
one_read k c shape old new has h =
    appends_same (λ x. shape ≡ x) (ShapeAt k c) old new (λ x e. subst (λ (s : Shape). ShapeAt k c s) e has) (λ x other. one_shape_at k c shape x has other) h

pub none_read : (k : Known) (old : List Shape) → Appends (IsShapeBelow 0 k) old old
none_read k old = appends_none (IsShapeBelow 0 k) old (λ shape h. absurd (omega (arith, h.1)))

pub more_read : (k : Known) (n : ℕ) (first old new : List Shape) → Appends (IsShapeBelow n k) first old → Appends (ShapeAt k n) old new → Appends (IsShapeBelow (n + 1) k) first new
more_read k n first old new before now =
    appends_same (λ x. IsShapeBelow n k x ⊎ ShapeAt k n x) (IsShapeBelow (n + 1) k) first new
    (λ x. ⊎_elim (λ h. (h.0, omega (arith, h.1), h.2)) (λ h. (n, omega arith, h)))
    (λ x h. elim (cases_eq h.0 n) [
      | inl same ↦ inr (subst (λ (c : ℕ). ShapeAt k c x) same h.2)
      | inr apart ↦ inl (h.0, omega (arith, h.1, apart), h.2)
    ])
    (appends_both (IsShapeBelow n k) (ShapeAt k n) first old new before now)

pub all_read : (k : Known) (n m : ℕ) (old new : List Shape) → n ≡ m → Appends (IsShapeBelow n k) old new → Appends (IsShapeBelow m k) old new
all_read k n m old new e h = subst (λ (x : ℕ). Appends (IsShapeBelow x k) old new) e h

-- ---- core methods

pub no_object : (k : Known) (old : List RoundFact) → (Contains k.names object_name → ⊥) → Appends (CoreMethod k) old old
no_object k old none = appends_none (CoreMethod k) old (λ fact h. none (among_from_get k.names h.0 object_name h.1))

pub of_object : (k : Known) (names : IsSet (slice_cmp nat_cmp) k.names) (c : ℕ) (old new : List RoundFact) → NameAt k c object_name → Appends (CoreMethodOf k c) old new → Appends (CoreMethod k) old new
of_object k names c old new at h =
    appends_same (CoreMethodOf k c) (CoreMethod k) old new (λ fact p. (c, at, p))
    (λ fact p. subst (λ (x : ℕ). CoreMethodOf k x fact) (one_number k.names names p.0 c object_name p.1 at) p.2) h

pub core_is : (c : ℕ) (method : MethodShape) (place : ℕ) (old new : List RoundFact) → IsCoreMethod method → Appends (λ each. Method c place ≡ each) old new → Appends (CoreAt c method place) old new
core_is c method place old new core h = appends_same (λ each. Method c place ≡ each) (CoreAt c method place) old new (λ x e. (core, e)) (λ x p. p.1) h

-- ---- the supertypes of the application's classes

pub supers_numbered : (k : Known) (app : List Shape) (names slice : List (List ℕ)) (old new : List RoundFact) → ((name : List ℕ) → Contains names name ↔ OfEach SuperOf app name) → slice ≡ names
    → Appends (OfEach (Numbered k true) slice) old new → Appends (λ fact. (name : List ℕ) × OfEach SuperOf app name × Numbered k true name fact) old new
supers_numbered k app names slice old new exact same h =
    appends_same (OfEach (Numbered k true) slice) (λ fact. (name : List ℕ) × OfEach SuperOf app name × Numbered k true name fact) old new
    (λ fact p. (p.0, (exact p.0).0 (subst (λ (l : List (List ℕ)). Contains l p.0) same p.1), p.2))
    (λ fact p. (p.0, subst (λ (l : List (List ℕ)). Contains l p.0) (sym same) ((exact p.0).1 p.1), p.2)) h
