-- The shapes of a world that have a property make a world, where supertypes of such a shape have it too.
use Rattle.std.proofs.Common.{◌≡◌, ℕ, ◌<◌, ◌⊎◌, inl, inr, List, [], ◌∷◌, Option, None, Some, slice_get, Contains, refl, sym, ◌∙◌, subst, arith, ⊎_elim, MatchOption}
use Rattle.jv_types.specs.declared.shapes.Shape.{Shape}
use Rattle.jv_resolve.proofs.PlacesLemmas.{among_from_get}
use Rattle.jv_world.specs.Worlds.{object_name, AreNumbered, HasRightSupers, HasSuper, HaveDistinctNames, IsAbsent, IsFinal, IsInterface, IsWorld, NamesSuper}
use Rattle.av_collected.specs.Parts.{IsPart}
use Rattle.av_collected.proofs.Lists.{in_head, in_tail, of_cons, in_none, at_place, apart_tail, apart_head, apart_cons}
use Rattle.av_collected.proofs.Ranked.{ranked}

pub none_apart : HaveDistinctNames []
none_apart c d name p q = absurd (in_none p.0 (among_from_get [] c p.0 p.1))

pub part_of : (P : Shape → Type 0) → ((s : Shape) → P s ⊎ (P s → ⊥)) → (w : List Shape) → HaveDistinctNames w → (v : List Shape) × IsPart P w v
part_of P decide [] apart = (
  [],
  record {
    from = λ s h. absurd (in_none s h);
    all = λ s h p. absurd (in_none s h);
    apart = none_apart;
    count = omega arith;
  },
)
part_of P decide (x ∷ xs) apart = by (decide x) (part_of P decide xs (apart_tail x xs apart))
  where
    by : P x ⊎ (P x → ⊥) → (v : List Shape) × IsPart P xs v → (v : List Shape) × IsPart P (x ∷ xs) v
    by (inl has) (v, part) = (
      x ∷ v,
      record {
        from = λ s h. ⊎_elim (λ is. (subst (λ (t : Shape). Contains (x ∷ xs) t) is (in_head x xs), subst P is has)) (λ more. (in_tail x xs s (part.from s more).0, (part.from s more).1)) (of_cons x v s h);
        all = λ s h p. ⊎_elim (λ is. subst (λ (t : Shape). Contains (x ∷ v) t) is (in_head x v)) (λ more. in_tail x v s (part.all s more p)) (of_cons x xs s h);
        apart = apart_cons x v (λ s h same. apart_head x xs apart s (part.from s h).0 same) part.apart;
        count = omega (arith, part.count);
      },
    )
    by (inr lacks) (v, part) = (
      v,
      record {
        from = λ s h. (in_tail x xs s (part.from s h).0, (part.from s h).1);
        all = λ s h p. ⊎_elim (λ is. absurd (lacks (subst P (sym is) p))) (λ more. part.all s more p) (of_cons x xs s h);
        apart = part.apart;
        count = omega (arith, part.count);
      },
    )

-- where a shape of the part stands in the whole
abbrev pub Find : List Shape → List Shape → Type 0
Find v w = (s : Shape) → Contains v s → Contains w s

unfoldable pub spot : (v w : List Shape) → Find v w → (c : ℕ) (o : Option Shape) → slice_get v c ≡ o → ℕ
spot v w find c None e = 0
spot v w find c (Some s) e = (find s (among_from_get v c s e)).0

pub spot-is : (v w : List Shape) (find : Find v w) (c : ℕ) (s : Shape) (o : Option Shape) (e : slice_get v c ≡ o) → o ≡ Some s → slice_get w (spot v w find c o e) ≡ Some s
unfolding spot
spot-is v w find c s None e at = absurd cc
spot-is v w find c s (Some t) e at = at_place w t (find t (among_from_get v c t e)) ∙ at

-- links of the part are links of the whole
pub spot-link : (v w : List Shape) (find : Find v w) (c d : ℕ) → HasSuper v c d → HasSuper w (spot v w find c (slice_get v c) refl) (spot v w find d (slice_get v d) refl)
spot-link v w find c d (inl (s, name, at, parent, (t, t_at, named))) =
    inl (s, name, spot-is v w find c s (slice_get v c) refl at, parent, (t, spot-is v w find d t (slice_get v d) refl t_at, named))
spot-link v w find c d (inr (s, name, at, has, (t, t_at, named))) =
    inr (s, name, spot-is v w find c s (slice_get v c) refl at, has, (t, spot-is v w find d t (slice_get v d) refl t_at, named))

-- supertypes of the right kinds in the whole are so in the part
right_parent : (w v : List Shape) → Find v w → (s : Shape) (o : Option (List ℕ))
    → MatchOption o (s.name ≡ object_name) (λ name. (other : Shape) → Contains w other → other.name ≡ name → ¬ IsInterface other × ¬ IsFinal other)
    → MatchOption o (s.name ≡ object_name) (λ name. (other : Shape) → Contains v other → other.name ≡ name → ¬ IsInterface other × ¬ IsFinal other)
right_parent w v find s None h = h
right_parent w v find s (Some name) h = λ other has. h other (find other has)

pub right_in_part : (w v : List Shape) → Find v w → (s : Shape) → HasRightSupers w s → HasRightSupers v s
right_in_part w v find s right = record {
  superclass = right_parent w v find s s.parent right.superclass;
  superinterfaces = λ other has. right.superinterfaces other (find other has);
  of_interface = right.of_interface;
}

pub part_is_world : (P : Shape → Type 0) (w v : List Shape) → IsWorld w → IsPart P w v
    → ((s t : Shape) → Contains v s → Contains w t → NamesSuper s t.name → P t) → IsWorld v
part_is_world P w v world part up = ranked v numbered there right (λ c. world.rank (spot v w find c (slice_get v c) refl)) falls
  where
    find : Find v w
    find s h = (part.from s h).0

    numbered : AreNumbered v
    numbered = record {
      distinct = part.apart;
      count = omega (arith, part.count, world.numbered.count);
      fields = λ s h. world.numbered.fields s (find s h);
      methods = λ s h. world.numbered.methods s (find s h);
    }

    there : (name : List ℕ) → IsAbsent v name → ⊥
    there name absent = world.none_absent name (record {
      shape = absent.shape;
      here = find absent.shape absent.here;
      names = absent.names;
      nowhere = λ c named.
          let t = named.0 in
          let in_w = among_from_get w c t named.1 in
          let in_v = part.all t in_w (up absent.shape t absent.here in_w (subst (λ (n : List ℕ). NamesSuper absent.shape n) (sym named.2) absent.names)) in
          absent.nowhere in_v.0 (t, at_place v t in_v, named.2);
    })

    right : (s : Shape) → Contains v s → HasRightSupers v s
    right s h = right_in_part w v find s (world.right_supers s (find s h))

    falls : (c d : ℕ) → HasSuper v c d → world.rank (spot v w find d (slice_get v d) refl) < world.rank (spot v w find c (slice_get v c) refl)
    falls c d link = world.falls (spot v w find c (slice_get v c) refl) (spot v w find d (slice_get v d) refl) (spot-link v w find c d link)
