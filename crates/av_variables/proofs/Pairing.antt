-- Packed facts by their pairs.
use Rattle.std.proofs.Common.{ℕ, Bool, List, refl, sym, subst}
use Rattle.std.specs.Prelude.{Contains, IsTrue}
use Rattle.jv_fix.specs.Facts.{Premises, One, Two, AreIn, IsClosedOver, IsLeast}
use Rattle.jv_types.specs.declared.place.Place.{Place}
use Rattle.av_rules.specs.Program.{Program}
use Rattle.av_variables.specs.Packing.{HasPacked, PackClosed, Packed, PackLeast}
use Rattle.av_variables.specs.Pairs.{ArePairs, ArePairSeeds, AreUnpaired, PairForces, paired_premises}

module _ (p : Program) (number : Place → ℕ) (paired : Packed → Bool) (pair : Packed → ℕ × ℕ) (fact : ℕ × ℕ → Packed) (are : ArePairs p number paired pair fact) where
  -- premises that are unpaired have pairs, and these are found
  all_paired : (pairs : List (ℕ × ℕ)) (packs : List Packed) → AreUnpaired paired pair pairs packs → (from : Premises Packed) → AreIn (Contains packs) from → AreIn (HasPacked paired) from
  all_paired pairs packs unpaired (One each) held = ((unpaired each).0 held).0
  all_paired pairs packs unpaired (Two one other) held = (((unpaired one).0 held.0).0, ((unpaired other).0 held.1).0)

  all_found : (pairs : List (ℕ × ℕ)) (packs : List Packed) → AreUnpaired paired pair pairs packs → (from : Premises Packed) → AreIn (Contains packs) from
      → AreIn (Contains pairs) (paired_premises pair from)
  all_found pairs packs unpaired (One each) held = ((unpaired each).0 held).1
  all_found pairs packs unpaired (Two one other) held = (((unpaired one).0 held.0).1, ((unpaired other).0 held.1).1)

  unpaired_closed : (pairs seeds : List (ℕ × ℕ)) (packs : List Packed) → ArePairSeeds p number pair seeds → IsClosedOver (PairForces p number paired pair) seeds (Contains pairs)
      → AreUnpaired paired pair pairs packs → PackClosed p number (Contains packs)
  unpaired_closed pairs seeds packs seeded over unpaired = record {
    seeded = λ each seed. (unpaired each).1 (are.closed.seeded each seed, over.seeded (pair each) ((seeded (pair each)).1 (each, seed, refl)));
    closed = λ from each held forces.
        let known : AreIn (HasPacked paired) from = all_paired pairs packs unpaired from held in
        (unpaired each).1 (
          are.closed.closed from each known forces,
          over.closed (paired_premises pair from) (pair each) (all_found pairs packs unpaired from held)
              (record { from = from; fact = each; known = known; of_premises = refl; of_fact = refl; forces = forces }),
        );
  }

  -- a pair is of a set where its packed fact is
  of_pair : (set : Packed → Bool) (each : Packed) → HasPacked paired each → HasPacked set (fact (pair each)) → HasPacked set each
  of_pair set each known held = subst (HasPacked set) (are.back each known) held

  to_pair : (set : Packed → Bool) (each : Packed) → HasPacked paired each → HasPacked set each → HasPacked set (fact (pair each))
  to_pair set each known held = subst (HasPacked set) (sym (are.back each known)) held

  all_of_pairs : (set : Packed → Bool) (from : Premises Packed) → AreIn (HasPacked paired) from → AreIn (λ (each : ℕ × ℕ). HasPacked set (fact each)) (paired_premises pair from)
      → AreIn (HasPacked set) from
  all_of_pairs set (One each) known held = of_pair set each known held
  all_of_pairs set (Two one other) known held = (of_pair set one known.0 held.0, of_pair set other known.1 held.1)

  pairs_closed : (set : Packed → Bool) (seeds : List (ℕ × ℕ)) → ArePairSeeds p number pair seeds → PackClosed p number (HasPacked set)
      → IsClosedOver (PairForces p number paired pair) seeds (λ (each : ℕ × ℕ). IsTrue (set (fact each)))
  pairs_closed set seeds seeded closed = record {
    seeded = λ each within.
        let x = (seeded each).0 within in
        subst (λ (q : ℕ × ℕ). HasPacked set (fact q)) x.2 (to_pair set x.0 (are.closed.seeded x.0 x.1) (closed.seeded x.0 x.1));
    closed = λ premises each held x.
        let before : AreIn (λ (q : ℕ × ℕ). HasPacked set (fact q)) (paired_premises pair x.from) =
        subst (AreIn (λ (q : ℕ × ℕ). HasPacked set (fact q))) (sym x.of_premises) held in
        let after : HasPacked set x.fact = closed.closed x.from x.fact (all_of_pairs set x.from x.known before) x.forces in
        subst (λ (q : ℕ × ℕ). HasPacked set (fact q)) x.of_fact (to_pair set x.fact (are.closed.closed x.from x.fact x.known x.forces) after);
  }

pub unpairs : (p : Program) (number : Place → ℕ) (paired : Packed → Bool) (pair : Packed → ℕ × ℕ) (fact : ℕ × ℕ → Packed) (seeds pairs : List (ℕ × ℕ)) (packs : List Packed)
    → ArePairs p number paired pair fact → ArePairSeeds p number pair seeds → IsLeast (PairForces p number paired pair) seeds pairs → AreUnpaired paired pair pairs packs
    → PackLeast p number packs
unpairs p number paired pair fact seeds pairs packs are seeded least unpaired = record {
  closed = unpaired_closed p number paired pair fact are pairs seeds packs seeded least.closed unpaired;
  inside = λ set closed each held.
      let x = (unpaired each).0 held in
      of_pair p number paired pair fact are set each x.0
      (least.inside (pair each) x.1 (λ q. set (fact q)) (pairs_closed p number paired pair fact are set seeds seeded closed));
}
