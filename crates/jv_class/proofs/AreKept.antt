-- What is kept of the texts of a pool is right at each index.
use Rattle.std.proofs.Common.{◌≡◌, ◌-◌, ◌≤◌, ℕ, zero, suc, Bool, true, false, cond, eqb, List, [], ◌∷◌, Option, Some, None, refl, sym, ap, subst, ◌∙◌, take, length}
use Rattle.std.specs.Prelude.{◌↔◌, IsTrue}
use Rattle.std.specs.List.{AllZip, slice_get}
use Rattle.std.specs.Option.{option_and_then}
use Rattle.std.proofs.lemmas.List.{take_all}
use Rattle.jv_pool.specs.declared.item.PoolItem.{PoolItem}
use Rattle.jv_pool.specs.declared.item.PoolItem.TheVariants.{Utf8, Integer, Float, Long, Double, Class, Text, Field, Method, InterfaceMethod, NameAndType, MethodHandle, MethodType, InvokeDynamic, Hole}
use Rattle.jv_pool.specs.Lookups.{text_in, text_at}
use Rattle.jv_names.specs.PoolNames.{HasText}
use Rattle.jv_class.specs.declared.kinds.Kind.{Kind}
use Rattle.jv_class.specs.declared.kinds.TextKinds.{TextKinds}
use Rattle.jv_class.specs.Steps.Kinds.{IsOfKind, says, AreKindsOf, IsKeptOf, AreKept, kept_at}

-- ---- what is kept at an index

-- an item, where there is one, and what is kept of it
Tells : Option PoolItem → Option (Option TextKinds) → Type 0
Tells (Some item) (Some entry) = IsKeptOf item entry
Tells (Some item) None = ⊥
Tells None (Some entry) = ⊥
Tells None None = Unit {0}

tells : (items : List PoolItem) (kept : List (Option TextKinds)) (i : ℕ) → AllZip IsKeptOf items kept → Tells (slice_get items i) (slice_get kept i)
unfolding Tells
tells [] [] i p = tt
tells [] (e ∷ es) i p = absurd p
tells (x ∷ xs) [] i p = absurd p
tells (x ∷ xs) (e ∷ es) zero p = p.0
tells (x ∷ xs) (e ∷ es) (suc i) p = tells xs es i p.1

-- a text and its kinds, or neither
pub Both : Option (List ℕ) → Option TextKinds → Type 0
Both (Some text) (Some kinds) = AreKindsOf text kinds
Both (Some text) None = ⊥
Both None (Some kinds) = ⊥
Both None None = Unit {0}

both_of : (item : PoolItem) (entry : Option TextKinds) → IsKeptOf item entry → Both (text_in item) entry
unfolding Both
both_of (Utf8 text) (Some k) h = h
both_of (Utf8 text) None h = h
both_of (Integer n) (Some k) h = h
both_of (Integer n) None h = h
both_of (Float n) (Some k) h = h
both_of (Float n) None h = h
both_of (Long n) (Some k) h = h
both_of (Long n) None h = h
both_of (Double n) (Some k) h = h
both_of (Double n) None h = h
both_of (Class n) (Some k) h = h
both_of (Class n) None h = h
both_of (Text n) (Some k) h = h
both_of (Text n) None h = h
both_of (Field n m) (Some k) h = h
both_of (Field n m) None h = h
both_of (Method n m) (Some k) h = h
both_of (Method n m) None h = h
both_of (InterfaceMethod n m) (Some k) h = h
both_of (InterfaceMethod n m) None h = h
both_of (NameAndType n m) (Some k) h = h
both_of (NameAndType n m) None h = h
both_of (MethodHandle n m) (Some k) h = h
both_of (MethodHandle n m) None h = h
both_of (MethodType n) (Some k) h = h
both_of (MethodType n) None h = h
both_of (InvokeDynamic n m) (Some k) h = h
both_of (InvokeDynamic n m) None h = h
both_of Hole (Some k) h = h
both_of Hole None h = h

told : (o : Option PoolItem) (e : Option (Option TextKinds)) → Tells o e → Both (option_and_then text_in o) (option_and_then (λ (x : Option TextKinds). x) e)
unfolding Tells Both
told (Some item) (Some entry) h = both_of item entry h
told (Some item) None h = absurd h
told None (Some entry) h = absurd h
told None None h = tt

pub both_at : (items : List PoolItem) (kept : List (Option TextKinds)) (i : ℕ) → AreKept items kept → Both (text_at items i) (kept_at kept i)
unfolding Both
both_at items kept i h = by_test (eqb i 0)
  where
    by_test : (b : Bool) → Both (option_and_then text_in (cond b None (slice_get items (i - 1)))) (cond b None (option_and_then (λ (x : Option TextKinds). x) (slice_get kept (i - 1))))
    by_test true = tt
    by_test false = told (slice_get items (i - 1)) (slice_get kept (i - 1)) (tells items kept (i - 1) h.each)

-- ---- what the index of a text names

text_of : Option (List ℕ) → List ℕ
text_of (Some t) = t
text_of None = []

some_text : (a b : List ℕ) → Some a ≡ Some b → a ≡ b
unfolding text_of
some_text a b e = ap text_of e

text_told : (items : List PoolItem) (index : ℕ) (kind : Kind) (kinds : TextKinds) (o : Option (List ℕ)) → text_at items index ≡ o → Both o (Some kinds) → IsTrue (says kinds kind) ↔ HasText items index (IsOfKind kind)
unfolding Both
text_told items index kind kinds (Some text) is h = (
  λ yes. record { text = text; found = is; kind = (h.right kind).0 yes },
  λ other. let same : text ≡ other.text = some_text text other.text (sym is ∙ other.found) in (h.right kind).1 (subst (IsOfKind kind) (sym same) other.kind),
)
text_told items index kind kinds None is h = absurd h

no_text_told : (items : List PoolItem) (index : ℕ) (kind : Kind) (o : Option (List ℕ)) → text_at items index ≡ o → Both o None → IsTrue false ↔ HasText items index (IsOfKind kind)
unfolding Both
no_text_told items index kind (Some text) is h = absurd h
no_text_told items index kind None is h = (λ f. absurd cc, λ other. absurd (let e : None ≡ Some other.text = sym is ∙ other.found in cc))

pub names_some : (items : List PoolItem) (kept : List (Option TextKinds)) (index : ℕ) (kind : Kind) (kinds : TextKinds) (answer : Bool) → AreKept items kept → Some kinds ≡ kept_at kept index → answer ≡ says kinds kind → IsTrue answer ↔ HasText items index (IsOfKind kind)
names_some items kept index kind kinds answer h is says_is =
    let both : Both (text_at items index) (Some kinds) = subst (Both (text_at items index)) (sym is) (both_at items kept index h) in
    subst (λ (b : Bool). IsTrue b ↔ HasText items index (IsOfKind kind)) (sym says_is) (text_told items index kind kinds (text_at items index) refl both)

pub names_none : (items : List PoolItem) (kept : List (Option TextKinds)) (index : ℕ) (kind : Kind) → AreKept items kept → None ≡ kept_at kept index → IsTrue false ↔ HasText items index (IsOfKind kind)
names_none items kept index kind h is =
    let both : Both (text_at items index) None = subst (Both (text_at items index)) (sym is) (both_at items kept index h) in
    no_text_told items index kind (text_at items index) refl both

pub all_kept : (items : List PoolItem) (kept : List (Option TextKinds)) (i : ℕ) → length items ≤ i → AllZip IsKeptOf (take i items) kept → AreKept items kept
all_kept items kept i le h = record { each = subst (λ (xs : List PoolItem). AllZip IsKeptOf xs kept) (take_all i items le) h }
