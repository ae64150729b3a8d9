-- The part of a world is a world.
use Rattle.std.proofs.Common.{◌≡◌, ℕ, zero, suc, ◌<◌, ◌≤◌, ◌⊎◌, List, Option, Some, None, length, Contains, refl, sym, ◌∙◌, subst, inl, inr, arith}
use Rattle.std.specs.Prelude.{◌↔◌, MatchOption}
use Rattle.std.proofs.lemmas.Option.{slice_get_within}
use Rattle.jv_lists.proofs.Places.{placed, element_at}
use Rattle.jv_types.specs.declared.shapes.Shape.{Shape}
use Rattle.jv_world.specs.Worlds.{object_name, AreNumbered, HasRightSupers, IsAbsent, IsFinal, IsInterface, IsWorld}
use Rattle.jv_resolve.proofs.PlacesLemmas.{among_from_get}
use Rattle.jv_fewer_members.specs.Parts.{AreSomeOf, HasFewerMembers, HaveSameFinals, Places}
use Rattle.jv_fewer_members.proofs.Heads.{heads_into, heads_back, named, part_back, super}

-- ---- some elements of a list are no more than all

module _ {X : Type 0} {R : X → X → Type 0} {all some : List X} {at : ℕ → ℕ} (part : AreSomeOf R all some at) where
  no_lower : (k : ℕ) → k < length some → k ≤ at k
  no_lower zero here = omega arith
  no_lower (suc k) here =
      let low = no_lower k (omega (arith, here)) in
      let rise = part.rising k (suc k) (omega arith) here in
      omega (arith, low, rise)

  shorter_by : (n : ℕ) → n ≡ length some → n ≤ length all
  shorter_by zero e = omega arith
  shorter_by (suc k) e =
      let here : k < length some = omega (arith, e) in
      let x = element_at some k here in
      let y = part.each k x.0 x.1 in
      let within = slice_get_within all (at k) y.0 y.1 in
      let low = no_lower k here in
      omega (arith, within, low)

  shorter : length some ≤ length all
  shorter = shorter_by (length some) refl

module _ {w v : List Shape} {at : Places} (fewer : HasFewerMembers w v at) (finals : HaveSameFinals w v) where
  part_numbered : AreNumbered v
  part_numbered = record {
    distinct = λ c d name p q. fewer.world.numbered.distinct c d name (named (heads_back fewer) c name p) (named (heads_back fewer) d name q);
    count = let few = fewer.world.numbered.count in let same = fewer.count in omega (arith, few, same);
    fields = λ shape there.
        let s = part_back fewer there.0 shape (placed v shape there) in
        let few = fewer.world.numbered.fields s.0 (among_from_get w there.0 s.0 s.1) in
        let less = shorter s.2.fields in
        omega (arith, few, less);
    methods = λ shape there.
        let s = part_back fewer there.0 shape (placed v shape there) in
        let few = fewer.world.numbered.methods s.0 (among_from_get w there.0 s.0 s.1) in
        let less = shorter s.2.methods in
        omega (arith, few, less);
  }

  part_absent : (name : List ℕ) → IsAbsent v name → ⊥
  part_absent name p =
      let s = part_back fewer p.here.0 p.shape (placed v p.shape p.here) in
      fewer.world.none_absent name (record {
        shape = s.0;
        here = among_from_get w p.here.0 s.0 s.1;
        names = pick s.0 s.2.parent s.2.interfaces p.names;
        nowhere = λ c q. p.nowhere c (named (heads_into fewer) c name q);
      })
    where
      pick : (s : Shape) → s.parent ≡ p.shape.parent → s.interfaces ≡ p.shape.interfaces → (p.shape.parent ≡ Some name) ⊎ Contains p.shape.interfaces name → (s.parent ≡ Some name) ⊎ Contains s.interfaces name
      pick s e k (inl q) = inl (e ∙ q)
      pick s e k (inr q) = inr (subst (λ (l : List (List ℕ)). Contains l name) (sym k) q)

  -- a class of the part is of the kind that it has in the whole
  kinds : (other : Shape) → Contains v other → (s : Shape) × Contains w s × (s.name ≡ other.name) × (IsInterface s ↔ IsInterface other) × (IsFinal s ↔ IsFinal other)
  kinds other there =
      let got = placed v other there in
      let s = part_back fewer there.0 other got in
      (s.0, among_from_get w there.0 s.0 s.1, s.2.name, s.2.interface, finals there.0 s.0 other s.1 got)

  right_parent : (s t : Shape) → s.name ≡ t.name → (o : Option (List ℕ)) → MatchOption o (s.name ≡ object_name) (λ name. (other : Shape) → Contains w other → other.name ≡ name → (IsInterface other → ⊥) × (IsFinal other → ⊥))
      → MatchOption o (t.name ≡ object_name) (λ name. (other : Shape) → Contains v other → other.name ≡ name → (IsInterface other → ⊥) × (IsFinal other → ⊥))
  right_parent s t e None p = sym e ∙ p
  right_parent s t e (Some name) p = λ other there is.
      let k = kinds other there in
      let right = p k.0 k.1 (k.2 ∙ is) in
      ((λ q. right.0 (k.3.1 q)), λ q. right.1 (k.4.1 q))

  part_right : (t : Shape) → Contains v t → HasRightSupers v t
  part_right t there =
      let s = part_back fewer there.0 t (placed v t there) in
      let right = fewer.world.right_supers s.0 (among_from_get w there.0 s.0 s.1) in record {
        superclass =
            right_parent s.0 t s.2.name t.parent
            (subst (λ (o : Option (List ℕ)). MatchOption o (s.0.name ≡ object_name) (λ name. (other : Shape) → Contains w other → other.name ≡ name → (IsInterface other → ⊥) × (IsFinal other → ⊥))) s.2.parent right.superclass);
        superinterfaces = λ other here named_there.
            let k = kinds other here in
            let own : Contains s.0.interfaces other.name = subst (λ (l : List (List ℕ)). Contains l other.name) (sym s.2.interfaces) named_there in
            k.3.0 (right.superinterfaces k.0 k.1 (subst (Contains s.0.interfaces) (sym k.2) own));
        of_interface = λ q. sym s.2.parent ∙ right.of_interface (s.2.interface.1 q);
      }

  pub part_world : IsWorld v
  part_world = record {
    numbered = part_numbered;
    none_absent = part_absent;
    right_supers = part_right;
    rank = fewer.world.rank;
    falls = λ c d step. fewer.world.falls c d (super (heads_back fewer) c d step);
    bound = λ c here.
        let low = fewer.world.bound c (subst (λ (n : ℕ). c < n) fewer.count here) in
        subst (λ (n : ℕ). fewer.world.rank c < n) (sym fewer.count) low;
  }
