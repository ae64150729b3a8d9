-- Classes of a world that stand in another one: their numbers, names and kinds, and that Object is there.
use Rattle.std.proofs.Common.{◌≡◌, ℕ, zero, suc, ◌<◌, ◌⊎◌, Bool, true, false, List, [], ◌∷◌, Option, Some, None, length, nat_eq, Contains, slice_get, refl, sym, ap, ◌∙◌, subst, inl, inr, ⊎_elim, arith}
use Rattle.std.specs.Prelude.{MatchOption}
use Rattle.std.specs.Cmp.Lexicographic.{pointwise, bytes_decides}
use Rattle.std.proofs.lemmas.Bool.{false≢true}
use Rattle.std.proofs.lemmas.Option.{same_Some}
use Rattle.jv_lists.proofs.Places.{element_at}
use Rattle.jv_types.specs.declared.shapes.Shape.{Shape}
use Rattle.jv_world.specs.Worlds.{object_name, HasSuperclass, IsFinal, IsInterface, IsNamed, IsWorld}
use Rattle.jv_resolve.proofs.Hierarchy.{super_here}
use Rattle.jv_resolve.proofs.PlacesLemmas.{among_from_get}
use Rattle.jv_resolve.specs.Members.{IsInterfaceClass}
use Rattle.jv_two_worlds.specs.Renumbering.{StandsIn}
use Rattle.jv_two_worlds.specs.SameClasses.{IsSameClass}

-- a class has the name, or none has
named_or_not : (w : List Shape) (name : List ℕ) → ((d : ℕ) × IsNamed w d name) ⊎ ((d : ℕ) → IsNamed w d name → ⊥)
named_or_not [] name = inr (λ d p. absurd (nothing d p.0 p.1))
  where
    nothing : (d : ℕ) (s : Shape) → slice_get [] d ≡ Some s → ⊥
    nothing d s e = absurd cc
named_or_not (shape ∷ rest) name =
    ⊎_elim
    (λ (there : (d : ℕ) × IsNamed rest d name). inl (suc there.0, there.1))
    (λ (none : (d : ℕ) → IsNamed rest d name → ⊥). by_first (pointwise nat_eq shape.name name) refl none)
    (named_or_not rest name)
  where
    by_first : (b : Bool) → pointwise nat_eq shape.name name ≡ b → ((d : ℕ) → IsNamed rest d name → ⊥)
        → ((d : ℕ) × IsNamed (shape ∷ rest) d name) ⊎ ((d : ℕ) → IsNamed (shape ∷ rest) d name → ⊥)
    by_first true e none = inl (0, (shape, refl, (bytes_decides shape.name name).0 e))
    by_first false e none = inr (λ d p. other d p)
      where
        other : (d : ℕ) → IsNamed (shape ∷ rest) d name → ⊥
        other zero p =
            let own : shape ≡ p.0 = same_Some shape p.0 p.1 in
            false≢true (sym e ∙ (bytes_decides shape.name name).1 (ap (λ (s : Shape). s.name) own ∙ p.2))
        other (suc d) p = none d p

-- what a class of a world names is there
pub there : (w : List Shape) → IsWorld w → (c : ℕ) (s : Shape) (name : List ℕ) → slice_get w c ≡ Some s → (s.parent ≡ Some name) ⊎ Contains s.interfaces name → (d : ℕ) × IsNamed w d name
there w world c s name at names =
    ⊎_elim
    (λ (found : (d : ℕ) × IsNamed w d name). found)
    (λ (none : (d : ℕ) → IsNamed w d name → ⊥). absurd (world.none_absent name (record { shape = s; here = among_from_get w c s at; names = names; nowhere = none })))
    (named_or_not w name)

-- the superclass is there and right, or there is none and the class is Object
abbrev IsRightParent : List Shape → List ℕ → Option (List ℕ) → Type 0
IsRightParent w name parent =
    MatchOption parent (name ≡ object_name) (λ p. (other : Shape) → Contains w other → other.name ≡ p → (IsInterface other → ⊥) × (IsFinal other → ⊥))

-- the class is Object, or its superclass is there and leads to Object
object_by : (w : List Shape) → IsWorld w → (c : ℕ) (s : Shape) → slice_get w c ≡ Some s → (parent : Option (List ℕ)) → s.parent ≡ parent
    → ((d : ℕ) → HasSuperclass w c d → (o : ℕ) × IsNamed w o object_name) → (o : ℕ) × IsNamed w o object_name
object_by w world c s at None e on = (c, (s, at, subst (IsRightParent w s.name) e (world.right_supers s (among_from_get w c s at)).superclass))
object_by w world c s at (Some name) e on = let found = there w world c s name at (inl e) in on found.0 (s, name, at, e, found.1)

-- superclass links lead to Object
object_from : (w : List Shape) (world : IsWorld w) (n c : ℕ) → c < length w → world.rank c < n → (o : ℕ) × IsNamed w o object_name
object_from w world zero c here low = absurd (omega (arith, low))
object_from w world (suc n) c here low =
    let own = element_at w c here in
    object_by w world c own.0 own.1 own.0.parent refl
    (λ d step. let falls = world.falls c d (inl step) in object_from w world n d (super_here w c d (inl step)) (omega (arith, low, falls)))

pub object_there : (w : List Shape) → IsWorld w → (c : ℕ) → c < length w → (o : ℕ) × IsNamed w o object_name
object_there w world c here = object_from w world (suc (world.rank c)) c here (omega arith)

module _ {w v : List Shape} {to : ℕ → ℕ} (inside : StandsIn w v to) where
  -- what stands at the other number
  pub shape_back : (c : ℕ) (t : Shape) → c < length w → slice_get v (to c) ≡ Some t → (s : Shape) × (slice_get w c ≡ Some s) × IsSameClass s t
  shape_back c t here at =
      let own = element_at w c here in
      let other = inside.shapes c own.0 own.1 in
      (own.0, own.1, subst (IsSameClass own.0) (same_Some other.0 t (sym other.1 ∙ at)) other.2)

  pub named_into : (c : ℕ) (name : List ℕ) → IsNamed w c name → IsNamed v (to c) name
  named_into c name p = let r = inside.shapes c p.0 p.1 in (r.0, r.1, sym r.2.name ∙ p.2)

  pub named_back : (c : ℕ) (name : List ℕ) → c < length w → IsNamed v (to c) name → IsNamed w c name
  named_back c name here p = let r = shape_back c p.0 here p.1 in (r.0, r.1, r.2.name ∙ p.2)

  -- a name of the one is that of the same class in the other
  pub named_only : (c e : ℕ) (name : List ℕ) → IsNamed w c name → IsNamed v e name → e ≡ to c
  named_only c e name p q = inside.distinct e (to c) name q (named_into c name p)

  pub one_number : (c d : ℕ) → c < length w → d < length w → to c ≡ to d → c ≡ d
  one_number c d here there e =
      let own = element_at w c here in
      let named : IsNamed w c own.0.name = (own.0, own.1, refl) in
      inside.world.numbered.distinct c d own.0.name named (named_back d own.0.name there (subst (λ (x : ℕ). IsNamed v x own.0.name) e (named_into c own.0.name named)))

  pub interface_into : (c : ℕ) → IsInterfaceClass w c → IsInterfaceClass v (to c)
  interface_into c p = let r = inside.shapes c p.0 p.1 in (r.0, r.1, r.2.interface.0 p.2)

  pub interface_back : (c : ℕ) → c < length w → IsInterfaceClass v (to c) → IsInterfaceClass w c
  interface_back c here p = let r = shape_back c p.0 here p.1 in (r.0, r.1, r.2.interface.1 p.2)
