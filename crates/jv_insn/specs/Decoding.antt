-- The body that a code spells, and where a code isn't well formed (JVMS 4.7.3, 4.9.1).
use Rattle.std.specs.Prelude.{◌≡◌, ◌<◌, ◌≤◌, ◌⊎◌, ℕ, List, length, Contains, Option, Some, None}
use Rattle.std.specs.List.{AllZip}
use Rattle.jv_types.specs.declared.raw_handler.RawHandler.{RawHandler}
use Rattle.jv_types.specs.declared.instruction.Insn.{Insn}
use Rattle.jv_types.specs.declared.body.Handler.{Handler}
use Rattle.jv_types.specs.declared.body.Body.{Body}
use Rattle.jv_types.specs.Bodies.{IsStart, at_offset}
use Rattle.jv_pool.specs.declared.item.PoolItem.{PoolItem}
use Rattle.jv_insn.specs.declared.fault.BadCode.{BadCode}
use Rattle.jv_insn.specs.declared.fault.BadCode.TheVariants as bad
use Rattle.jv_insn.specs.declared.written.Written.{Written}
use Rattle.jv_insn.specs.Layouts.{Lays}
use Rattle.jv_names.specs.Naming.{NamesClass}
use Rattle.jv_insn.specs.Meanings.{IsInsn}

-- a row of a code is an instruction, with its offset
pub record IsRow (pool : List PoolItem) (max_locals : ℕ) (rows : List (ℕ × Written)) (row : ℕ × Written) (insn : ℕ × Insn) : Type 0 where
  pub pc : insn.0 ≡ row.0
  pub is_insn : IsInsn pool max_locals rows row.0 row.1 insn.1

-- ---- handlers

-- the class that a handler catches: index 0 catches all
abbrev pub Catches : List PoolItem → ℕ → Option (List ℕ) → Type 0
Catches pool catch None = catch ≡ 0
Catches pool catch (Some name) = (0 < catch) × NamesClass pool catch name

-- an entry of the exception table of a code of this length covers something, its bounds and its target are
-- instructions, but that it may end behind the code
pub record HasBounds (length : ℕ) (rows : List (ℕ × Written)) (raw : RawHandler) : Type 0 where
  pub covers : raw.start < raw.end
  pub starts : IsStart rows raw.start
  pub ends : IsStart rows raw.end ⊎ (raw.end ≡ length)
  pub leads : IsStart rows raw.target

-- an entry of the exception table is this handler
pub record IsHandler (pool : List PoolItem) (length : ℕ) (rows : List (ℕ × Written)) (raw : RawHandler) (handler : Handler) : Type 0 where
  pub start : handler.start ≡ raw.start
  pub end : handler.end ≡ raw.end
  pub target : handler.target ≡ raw.target
  pub bounds : HasBounds length rows raw
  pub catch : Catches pool raw.catch handler.catch

-- ---- a code

-- the code, with these numbers and handlers, spells this body over the pool
pub record Decodes (pool : List PoolItem) (max_stack max_locals : ℕ) (code : List ℕ) (handlers : List RawHandler) (body : Body) : Type 0 where
  pub stack_is : body.max_stack ≡ max_stack
  pub locals_is : body.max_locals ≡ max_locals
  pub rows : List (ℕ × Written)
  pub laid : Lays 0 code rows None
  pub insns : AllZip (IsRow pool max_locals rows) rows body.insns
  pub handlers_are : AllZip (IsHandler pool (length code) rows) handlers body.handlers
  pub length_is : body.length ≡ length code

-- ---- where it fails

-- an instruction is written at an offset, and is none
pub record FailsInsn (pool : List PoolItem) (max_locals : ℕ) (rows : List (ℕ × Written)) (pc : ℕ) : Type 0 where
  pub written : Written
  pub stands : at_offset pc rows ≡ Some written
  pub is_none : (insn : Insn) → IsInsn pool max_locals rows pc written insn → ⊥

-- an entry of the exception table that starts at an offset is no handler
pub record FailsHandler (pool : List PoolItem) (length : ℕ) (rows : List (ℕ × Written)) (handlers : List RawHandler) (pc : ℕ) : Type 0 where
  pub handler : RawHandler
  pub among : Contains handlers handler
  pub starts : handler.start ≡ pc
  pub is_none : (made : Handler) → IsHandler pool length rows handler made → ⊥

-- a code fails at an offset: an instruction or a handler fails there, or the code breaks off
pub record FailsAt (pool : List PoolItem) (max_locals : ℕ) (code : List ℕ) (handlers : List RawHandler) (pc : ℕ) : Type 0 where
  pub rows : List (ℕ × Written)
  pub end : Option ℕ
  pub laid : Lays 0 code rows end
  pub fails : FailsInsn pool max_locals rows pc ⊎ (FailsHandler pool (length code) rows handlers pc ⊎ (end ≡ Some pc))

-- the least offset at which it fails
pub record IsLeastFailure (pool : List PoolItem) (max_locals : ℕ) (code : List ℕ) (handlers : List RawHandler) (pc : ℕ) : Type 0 where
  pub fails : FailsAt pool max_locals code handlers pc
  pub least : (other : ℕ) → FailsAt pool max_locals code handlers other → pc ≤ other

-- the offset that an answer names has a property
abbrev pub BadAt : (ℕ → Type 0) → BadCode → Type 0
BadAt P (bad.At pc) = P pc
BadAt P bad.Memory = Unit {0}
