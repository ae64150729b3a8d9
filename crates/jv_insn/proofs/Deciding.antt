-- What the parts of a code answered.
use Rattle.std.proofs.Common.{◌≡◌, ℕ, true, List, Ok, Err, Result, subst}
use Rattle.std.specs.List.{AllZip}
use Rattle.std.specs.declared.vec.Vec.{Vec}
use Rattle.jv_types.specs.Bodies.{rises_from}
use Rattle.jv_types.specs.declared.raw_handler.RawHandler.{RawHandler}
use Rattle.jv_types.specs.declared.instruction.Insn.{Insn}
use Rattle.jv_types.specs.declared.body.Handler.{Handler}
use Rattle.jv_pool.specs.declared.item.PoolItem.{PoolItem}
use Rattle.jv_insn.specs.declared.written.Written.{Written}
use Rattle.jv_insn.specs.Decoding.{IsRow, FailsInsn, FailsHandler}
use Rattle.jv_insn.specs.Steps.Rows.{IsFirst, AreInsns, AreHandlers}
use Rattle.jv_insn.proofs.RowLoops.{no_insn_fails, no_handler_fails, insns_rise}

module _ {Z : Type 0} (pool : List PoolItem) (max_locals : ℕ) (rows : List (ℕ × Written)) (answer : Result (Vec (ℕ × Insn) Z) ℕ) where
  insns_are : (insns : Vec (ℕ × Insn) Z) → AreInsns pool max_locals rows answer → answer ≡ Ok insns → AllZip (IsRow pool max_locals rows) rows insns.items
  insns_are insns h e = subst (λ (r : Result (Vec (ℕ × Insn) Z) ℕ). AreInsns pool max_locals rows r) e h

  pub insns_ok : (insns : Vec (ℕ × Insn) Z) → rises_from 0 rows ≡ true → AreInsns pool max_locals rows answer → answer ≡ Ok insns → (pc : ℕ) → FailsInsn pool max_locals rows pc → ⊥
  insns_ok insns rises h e = no_insn_fails pool max_locals rows insns.items rises (insns_are insns h e)

  pub insns_err : (pc : ℕ) → AreInsns pool max_locals rows answer → answer ≡ Err pc → IsFirst (FailsInsn pool max_locals rows) pc
  insns_err pc h e = subst (λ (r : Result (Vec (ℕ × Insn) Z) ℕ). AreInsns pool max_locals rows r) e h

  pub insns_rising : (insns : Vec (ℕ × Insn) Z) → rises_from 0 rows ≡ true → AreInsns pool max_locals rows answer → answer ≡ Ok insns → rises_from 0 insns.items ≡ true
  insns_rising insns rises h e = insns_rise pool max_locals rows rows insns.items (insns_are insns h e) 0 rises

module _ (pool : List PoolItem) (size : ℕ) (rows : List (ℕ × Written)) (raws : List RawHandler) (answer : Result (List Handler) ℕ) where
  pub handlers_ok : (handlers : List Handler) → AreHandlers pool size rows raws answer → answer ≡ Ok handlers → (pc : ℕ) → FailsHandler pool size rows raws pc → ⊥
  handlers_ok handlers h e = no_handler_fails pool size rows raws handlers (subst (λ (r : Result (List Handler) ℕ). AreHandlers pool size rows raws r) e h)

  pub handlers_err : (pc : ℕ) → AreHandlers pool size rows raws answer → answer ≡ Err pc → IsFirst (FailsHandler pool size rows raws) pc
  handlers_err pc h e = subst (λ (r : Result (List Handler) ℕ). AreHandlers pool size rows raws r) e h
