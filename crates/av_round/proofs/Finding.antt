-- The one member to which a reference resolves, by its number.
use Rattle.std.proofs.Common.{◌≡◌, ℕ, List, Some, slice_get, Contains, Bool, true, false, refl, sym, ap, ◌∙◌, subst}
use Rattle.std.specs.Cmp.Lexicographic.{slice_cmp}
use Rattle.std.specs.Ordering.{nat_cmp}
use Rattle.jv_fix.specs.Order.{IsSet}
use Rattle.jv_types.specs.declared.ids.MethodId.{MethodId}
use Rattle.jv_types.specs.declared.references.MethodRef.{MethodRef}
use Rattle.jv_types.specs.declared.shapes.Shape.{Shape}
use Rattle.jv_world.specs.Worlds.{IsNamed, IsWorld}
use Rattle.jv_resolve.proofs.PlacesLemmas.{among_from_get}
use Rattle.jv_resolve.proofs.Hierarchy.{one_shape}
use Rattle.jv_resolve.specs.Resolving.{ResolvesInterfaceMethod, ResolvesMethod}
use Rattle.av_conditions.specs.Members.{ResolvesBy}
use Rattle.av_named.specs.Appending.{Appends}
use Rattle.av_named.proofs.Appending.{appends_none, appends_same}
use Rattle.av_tables.specs.Tables.{Known, NameAt}
use Rattle.av_forcing.specs.declared.fact.RoundFact.{RoundFact}
use Rattle.av_round.proofs.Numbers.{one_number}

module _ (w : List Shape) (k : Known) {Id : Type 0} (class_of index_of : Id → ℕ) (make : ℕ → ℕ → RoundFact) (P : Id → Type 0) where
  abbrev pub Finds : RoundFact → Type 0
  Finds fact = (f : Id) × (name : List ℕ) × (c : ℕ) × P f × IsNamed w (class_of f) name × NameAt k c name × (make c (index_of f) ≡ fact)

  pub finds_nothing : (old : List RoundFact) → ((f : Id) → P f → ⊥) → Appends Finds old old
  finds_nothing old none = appends_none Finds old (λ fact h. none h.0 h.3)

  module _ (one : (f g : Id) → P f → P g → f ≡ g) (f : Id) (resolves : P f) (shape : Shape) (at : slice_get w (class_of f) ≡ Some shape) where
    same_name : (g : Id) (name : List ℕ) → P g → IsNamed w (class_of g) name → name ≡ shape.name
    same_name g name h named =
        let is : named.0 ≡ shape = one_shape w (class_of f) named.0 shape (subst (λ (x : Id). slice_get w (class_of x) ≡ Some named.0) (one g f h resolves) named.1) at in
        sym named.2 ∙ ap (λ (s : Shape). s.name) is

    pub finds_no_number : (old : List RoundFact) → (Contains k.names shape.name → ⊥) → Appends Finds old old
    finds_no_number old none = appends_none Finds old (λ fact h.
        none (among_from_get k.names h.2 shape.name (subst (λ (n : List ℕ). NameAt k h.2 n) (same_name h.0 h.1 h.3 h.4) h.5)))

    pub finds_number : (names : IsSet (slice_cmp nat_cmp) k.names) (c : ℕ) (old new : List RoundFact) → NameAt k c shape.name → Appends (λ fact. make c (index_of f) ≡ fact) old new → Appends Finds old new
    finds_number names c old new numbered h =
        appends_same (λ fact. make c (index_of f) ≡ fact) Finds old new (λ fact e. (f, shape.name, c, resolves, (shape, at, refl), numbered, e))
        (λ fact found.
        let same : found.0 ≡ f = one found.0 f found.3 resolves in
        let number : found.2 ≡ c = one_number k.names names found.2 c shape.name (subst (λ (n : List ℕ). NameAt k found.2 n) (same_name found.0 found.1 found.3 found.4) found.5) numbered in
        ap (λ (x : ℕ). make x (index_of f)) (sym number) ∙ ap (λ (x : Id). make found.2 (index_of x)) (sym same) ∙ found.6) h

-- a reference to a method resolves to one
pub one_call : ((w : List Shape) (r : MethodRef) (m n : MethodId) → IsWorld w → ResolvesMethod w r m → ResolvesMethod w r n → m ≡ n)
    → ((w : List Shape) (r : MethodRef) (m n : MethodId) → IsWorld w → ResolvesInterfaceMethod w r m → ResolvesInterfaceMethod w r n → m ≡ n)
    → (b : Bool) (w : List Shape) (r : MethodRef) → IsWorld w → (m n : MethodId) → ResolvesBy b w r m → ResolvesBy b w r n → m ≡ n
one_call class interface false w r world m n p q = class w r m n world p q
one_call class interface true w r world m n p q = interface w r m n world p q
