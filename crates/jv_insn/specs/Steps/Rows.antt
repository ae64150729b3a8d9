-- The rows of a code: its instructions as they are written, each with its offset.
use Rattle.std.specs.Prelude.{◌<◌, ◌≤◌, ℕ, IsTrue, List, Result, Ok, Err, Option, Some, None, min}
use Rattle.std.specs.declared.vec.Vec.{Vec}
use Rattle.std.specs.List.{AllZip}
use Rattle.jv_types.specs.Bodies.{IsStart, rises_from}
use Rattle.jv_types.specs.declared.instruction.Insn.{Insn}
use Rattle.jv_types.specs.declared.raw_handler.RawHandler.{RawHandler}
use Rattle.jv_types.specs.declared.body.Handler.{Handler}
use Rattle.jv_pool.specs.declared.item.PoolItem.{PoolItem}
use Rattle.jv_insn.specs.declared.written.Written.{Written}
use Rattle.jv_insn.specs.Decoding.{IsRow, IsHandler, FailsInsn, FailsHandler}

-- offsets of two bytes, which rise
pub record AreRows (rows : List (ℕ × Written)) : Type 0 where
  pub rises : IsTrue (rises_from 0 rows)
  pub below : (pc : ℕ) → IsStart rows pc → pc < 65536

-- the least number with a property
pub record IsFirst (P : ℕ → Type 0) (first : ℕ) : Type 0 where
  pub holds : P first
  pub least : (other : ℕ) → P other → first ≤ other

-- the least number with a property, where there is one
abbrev pub IsFirstOf : (ℕ → Type 0) → Option ℕ → Type 0
IsFirstOf P None = (other : ℕ) → P other → ⊥
IsFirstOf P (Some first) = IsFirst P first

-- the instructions of rows, or the first of them that is none
abbrev pub AreInsns : {Z : Type 0} → List PoolItem → ℕ → List (ℕ × Written) → Result (Vec (ℕ × Insn) Z) ℕ → Type 0
AreInsns pool max_locals rows (Ok insns) = AllZip (IsRow pool max_locals rows) rows insns.items
AreInsns pool max_locals rows (Err pc) = IsFirst (FailsInsn pool max_locals rows) pc

-- the handlers of entries, or the least offset at which one starts that is none
abbrev pub AreHandlers : List PoolItem → ℕ → List (ℕ × Written) → List RawHandler → Result (List Handler) ℕ → Type 0
AreHandlers pool length rows raws (Ok handlers) = AllZip (IsHandler pool length rows) raws handlers
AreHandlers pool length rows raws (Err pc) = IsFirst (FailsHandler pool length rows raws) pc

-- the same while entries are gone through
abbrev pub HandlersSoFar : List PoolItem → ℕ → List (ℕ × Written) → List RawHandler → List Handler → Option ℕ → Type 0
HandlersSoFar pool length rows raws handlers None = AllZip (IsHandler pool length rows) raws handlers
HandlersSoFar pool length rows raws handlers (Some pc) = IsFirst (FailsHandler pool length rows raws) pc

-- the lesser of two numbers, where the first may be missing
abbrev pub lesser : Option ℕ → ℕ → ℕ
lesser None second = second
lesser (Some first) second = min first second
