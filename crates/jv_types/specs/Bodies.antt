-- The instructions of a code, and where they lead.
use Rattle.std.specs.Prelude.{ℕ, ◌+◌, Bool, true, ◌&&◌, nat_le, ◌==◌, if◌then◌else◌, List, [], ◌∷◌, Option, None, Some, map, IsSome, ◌<◌, ◌≤◌}
use Rattle.jv_types.specs.declared.instruction.Arg.{Arg}
use Rattle.jv_types.specs.declared.instruction.Arg.TheVariants.{Jump, Table, Lookup}
use Rattle.jv_types.specs.declared.instruction.Insn.{Insn}

-- the starts are at least `low`, and each is above the one before
abbrev pub rises_from : {I : Type 0} → ℕ → List (ℕ × I) → Bool
rises_from low [] = true
rises_from low (row ∷ rows) = nat_le low row.0 && rises_from (row.0 + 1) rows

-- what starts at an offset, of an instruction or of what stands beside it
abbrev pub at_offset : {I : Type 0} → ℕ → List (ℕ × I) → Option I
at_offset pc [] = None
at_offset pc (row ∷ rows) = if row.0 == pc then Some row.1 else at_offset pc rows

-- the targets of the operands, the default first and then in written order
abbrev pub arg_targets : Arg → List ℕ
arg_targets (Jump target) = target ∷ []
arg_targets (Table default low targets) = default ∷ targets
arg_targets (Lookup default cases) = default ∷ map (λ (case : _). case.1) cases
arg_targets _ = []

-- the targets of the instruction that starts at an offset
abbrev pub targets_at : ℕ → List (ℕ × Insn) → List ℕ
targets_at pc insns = targets_of (at_offset pc insns)
  where
    targets_of : Option Insn → List ℕ
    targets_of None = []
    targets_of (Some insn) = arg_targets insn.arg

-- an instruction starts at an offset
abbrev pub IsStart : {I : Type 0} → List (ℕ × I) → ℕ → Type 0
IsStart rows pc = IsSome (at_offset pc rows)

-- the least offset above this one at which an instruction starts
pub record IsNextStart {I : Type 0} (pc : ℕ) (rows : List (ℕ × I)) (start : ℕ) : Type 0 where
  pub above : pc < start
  pub starts : IsStart rows start
  pub least : (other : ℕ) → pc < other → IsStart rows other → start ≤ other
