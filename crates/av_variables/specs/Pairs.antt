-- Packed facts as pairs of a row and a column, as a worklist over rows of bits keeps them.
use Rattle.std.specs.Prelude.{◌≡◌, ◌↔◌, ℕ, Bool, List, Contains}
use Rattle.jv_fix.specs.Facts.{Premises, One, Two, AreIn}
use Rattle.jv_types.specs.declared.place.Place.{Place}
use Rattle.av_rules.specs.Program.{Program}
use Rattle.av_variables.specs.Packing.{HasPacked, IsPackedSeed, PackClosed, Packed, PackForces}

-- The packed facts that have pairs: those that hold without a premise, and what follows from them. A pair stands for one
-- of them at most.
pub record ArePairs (p : Program) (number : Place → ℕ) (paired : Packed → Bool) (pair : Packed → ℕ × ℕ) (fact : ℕ × ℕ → Packed) : Type 0 where
  pub closed : PackClosed p number (HasPacked paired)
  pub back : (each : Packed) → HasPacked paired each → fact (pair each) ≡ each

abbrev pub paired_premises : (Packed → ℕ × ℕ) → Premises Packed → Premises (ℕ × ℕ)
paired_premises pair (One each) = One (pair each)
paired_premises pair (Two first second) = Two (pair first) (pair second)

-- a pair follows from pairs, where the packed fact for which it stands follows from those for which they stand
pub record PairForces (p : Program) (number : Place → ℕ) (paired : Packed → Bool) (pair : Packed → ℕ × ℕ) (premises : Premises (ℕ × ℕ)) (forced : ℕ × ℕ) : Type 0 where
  pub from : Premises Packed
  pub fact : Packed
  pub known : AreIn (HasPacked paired) from
  pub of_premises : paired_premises pair from ≡ premises
  pub of_fact : pair fact ≡ forced
  pub forces : PackForces p number from fact

-- the list has just the pairs of the packed facts that hold without a premise
abbrev pub ArePairSeeds : Program → (Place → ℕ) → (Packed → ℕ × ℕ) → List (ℕ × ℕ) → Type 0
ArePairSeeds p number pair seeds = (each : ℕ × ℕ) → Contains seeds each ↔ ((fact : Packed) × IsPackedSeed p number fact × (pair fact ≡ each))

-- the list has just the packed facts for which these pairs stand
abbrev pub AreUnpaired : (Packed → Bool) → (Packed → ℕ × ℕ) → List (ℕ × ℕ) → List Packed → Type 0
AreUnpaired paired pair pairs packs = (fact : Packed) → Contains packs fact ↔ (HasPacked paired fact × Contains pairs (pair fact))
