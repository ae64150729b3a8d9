-- Searches depth first, in both worlds.
use Rattle.std.proofs.Common.{◌≡◌, ℕ, zero, suc, ◌<◌, ◌⊎◌, List, [], ◌∷◌, ◌++◌, Option, Some, None, length, slice_get, refl, sym, ap, ◌∙◌, subst, inl, inr, ⊎_elim}
use Rattle.std.specs.Prelude.{option_to_list}
use Rattle.jv_types.specs.declared.shapes.Shape.{Shape}
use Rattle.jv_world.specs.Worlds.{IsNamed, Sub}
use Rattle.jv_resolve.specs.DepthFirst.{direct_supers, IsFirst, IsFirstBy, IsFirstLeading, IsFirstWay}
use Rattle.jv_resolve.proofs.Hierarchy.{named_here, sub_here}
use Rattle.jv_resolve.proofs.PlacesLemmas.{among_from_get}
use Rattle.jv_two_worlds.specs.Renumbering.{StandsIn}
use Rattle.jv_two_worlds.specs.SameClasses.{IsSameClass}
use Rattle.jv_two_worlds.proofs.Classes.{there, shape_back, named_into, named_only}
use Rattle.jv_two_worlds.proofs.Supertypes.{sub_into, sub_back}

-- P holds of a class of w exactly where Q holds of the one with the other number
pub record ClassesAlike (w : List Shape) (to : ℕ → ℕ) (P Q : ℕ → Type 0) : Type 0 where
  pub into : (c : ℕ) → c < length w → P c → Q (to c)
  pub back : (c : ℕ) → c < length w → Q (to c) → P c

-- P holds of the class or of one above it
abbrev IsBelow : List Shape → (ℕ → Type 0) → ℕ → Type 0
IsBelow w P d = (e : ℕ) × Sub w d e × P e

-- each of the names is that of a class
abbrev AreThere : List Shape → List (List ℕ) → Type 0
AreThere w names = (k : ℕ) (name : List ℕ) → slice_get names k ≡ Some name → (d : ℕ) × IsNamed w d name

get_split : (xs ys : List (List ℕ)) (k : ℕ) (x : List ℕ) → slice_get (xs ++ ys) k ≡ Some x → ((j : ℕ) × (slice_get xs j ≡ Some x)) ⊎ ((j : ℕ) × (slice_get ys j ≡ Some x))
get_split [] ys k x e = inr (k, e)
get_split (y ∷ xs) ys zero x e = inl (0, e)
get_split (y ∷ xs) ys (suc k) x e =
    ⊎_elim
    (λ (p : (j : ℕ) × (slice_get xs j ≡ Some x)). inl (suc p.0, p.1))
    (λ (p : (j : ℕ) × (slice_get ys j ≡ Some x)). inr p)
    (get_split xs ys k x e)

get_option : (o : Option (List ℕ)) (k : ℕ) (x : List ℕ) → slice_get (option_to_list o) k ≡ Some x → o ≡ Some x
get_option None k x e = absurd cc
get_option (Some y) zero x e = e
get_option (Some y) (suc k) x e = absurd cc

first_by_here : (w : List Shape) (P : ℕ → Type 0) (n c d : ℕ) → c < length w → IsFirstBy w P n c d → d < length w
first_by_here w P zero c d here p = subst (λ (x : ℕ). x < length w) p.0 here
first_by_here w P (suc n) c d here p = first_by_here w P n p.1 d (named_here w p.1 p.2.2.name p.2.2.named) p.3

pub first_here : (w : List Shape) (P : ℕ → Type 0) (c d : ℕ) → c < length w → IsFirst w P c d → d < length w
first_here w P c d here p = first_by_here w P p.0 c d here p.1

same_supers : (s t : Shape) → IsSameClass s t → direct_supers s ≡ direct_supers t
same_supers s t same =
    ap (λ (l : List (List ℕ)). l ++ option_to_list s.parent) same.interfaces ∙ ap (λ (o : Option (List ℕ)). t.interfaces ++ option_to_list o) same.parent

module _ {w v : List Shape} {to : ℕ → ℕ} (inside : StandsIn w v to) where
  supers_there : (c : ℕ) (s : Shape) → slice_get w c ≡ Some s → AreThere w (direct_supers s)
  supers_there c s at k name got =
      ⊎_elim
      (λ (p : (j : ℕ) × (slice_get s.interfaces j ≡ Some name)). there w inside.world c s name at (inr (among_from_get s.interfaces p.0 name p.1)))
      (λ (p : (j : ℕ) × (slice_get (option_to_list s.parent) j ≡ Some name)). there w inside.world c s name at (inl (get_option s.parent p.0 name p.1)))
      (get_split s.interfaces (option_to_list s.parent) k name got)

  module _ {P Q : ℕ → Type 0} (alike : ClassesAlike w to P Q) where
    below_into : (d : ℕ) → d < length w → IsBelow w P d → IsBelow v Q (to d)
    below_into d here p = (to p.0, sub_into inside d p.0 p.1, alike.into p.0 (sub_here w d p.0 here p.1) p.2)

    below_back : (d : ℕ) → d < length w → IsBelow v Q (to d) → IsBelow w P d
    below_back d here q = let r = sub_back inside d q.0 here q.1 in (r.0, r.2, alike.back r.0 (sub_here w d r.0 here r.2) (subst Q r.1 q.2))

    leading_into : (names : List (List ℕ)) → AreThere w names → (d : ℕ) → IsFirstLeading w P names d → IsFirstLeading v Q names (to d)
    leading_into names all d p = record {
      place = p.place;
      name = p.name;
      at_place = p.at_place;
      named = named_into inside d p.name p.named;
      leads = below_into d (named_here w d p.name p.named) p.leads;
      before = λ k other e lt got named leads.
          let own = all k other got in
          let is : e ≡ to own.0 = named_only inside own.0 e other own.1 named in
          p.before k other own.0 lt got own.1 (below_back own.0 (named_here w own.0 other own.1) (subst (IsBelow v Q) is leads));
    }

    leading_back : (names : List (List ℕ)) → AreThere w names → (e : ℕ) → IsFirstLeading v Q names e → (d : ℕ) × (e ≡ to d) × IsFirstLeading w P names d
    leading_back names all e q =
        let own = all q.place q.name q.at_place in
        let is : e ≡ to own.0 = named_only inside own.0 e q.name own.1 q.named in (
          own.0,
          is,
          record {
            place = q.place;
            name = q.name;
            at_place = q.at_place;
            named = own.1;
            leads = below_back own.0 (named_here w own.0 q.name own.1) (subst (IsBelow v Q) is q.leads);
            before = λ k other d lt got named leads.
                q.before k other (to d) lt got (named_into inside d other named) (below_into d (named_here w d other named) leads);
          },
        )

    way_into : (c d : ℕ) → IsFirstWay w P c d → IsFirstWay v Q (to c) (to d)
    way_into c d p =
        let r = inside.shapes c p.0 p.1 in
        (r.0, r.1, subst (λ (names : List (List ℕ)). IsFirstLeading v Q names (to d)) (same_supers p.0 r.0 r.2) (leading_into (direct_supers p.0) (supers_there c p.0 p.1) d p.2))

    way_back : (c e : ℕ) → c < length w → IsFirstWay v Q (to c) e → (d : ℕ) × (e ≡ to d) × (d < length w) × IsFirstWay w P c d
    way_back c e here q =
        let r = shape_back inside c q.0 here q.1 in
        let way : IsFirstLeading v Q (direct_supers r.0) e = subst (λ (names : List (List ℕ)). IsFirstLeading v Q names e) (sym (same_supers r.0 q.0 r.2)) q.2 in
        let own = leading_back (direct_supers r.0) (supers_there c r.0 r.1) e way in
        (own.0, own.1, named_here w own.0 own.2.name own.2.named, (r.0, r.1, own.2))

    first_by_into : (n c d : ℕ) → c < length w → IsFirstBy w P n c d → IsFirstBy v Q n (to c) (to d)
    first_by_into zero c d here p = (ap to p.0, alike.into d (subst (λ (x : ℕ). x < length w) p.0 here) p.1)
    first_by_into (suc n) c d here p =
        let next : p.1 < length w = named_here w p.1 p.2.2.name p.2.2.named in
        ((λ q. p.0 (alike.back c here q)), to p.1, way_into c p.1 p.2, first_by_into n p.1 d next p.3)

    first_by_back : (n c e : ℕ) → c < length w → IsFirstBy v Q n (to c) e → (d : ℕ) × (e ≡ to d) × (d < length w) × IsFirstBy w P n c d
    first_by_back zero c e here q = (c, sym q.0, here, (refl, alike.back c here (subst Q (sym q.0) q.1)))
    first_by_back (suc n) c e here q =
        let way = way_back c q.1 here q.2 in
        let more = first_by_back n way.0 e way.2 (subst (λ (x : ℕ). IsFirstBy v Q n x e) way.1 q.3) in
        (more.0, more.1, more.2, ((λ p. q.0 (alike.into c here p)), way.0, way.3, more.3))

    pub first_into : (c d : ℕ) → c < length w → IsFirst w P c d → IsFirst v Q (to c) (to d)
    first_into c d here p = (p.0, first_by_into p.0 c d here p.1)

    pub first_back : (c e : ℕ) → c < length w → IsFirst v Q (to c) e → (d : ℕ) × (e ≡ to d) × (d < length w) × IsFirst w P c d
    first_back c e here q = let r = first_by_back q.0 c e here q.1 in (r.0, r.1, r.2, (q.0, r.3))
