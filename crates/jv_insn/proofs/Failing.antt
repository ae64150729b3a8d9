-- The least offset at which a code fails, from the least ones of its parts.
use Rattle.std.proofs.Common.{◌≡◌, ℕ, List, length, min, Option, Some, None, subst, ◌⊎◌, inl, inr, arith}
use Rattle.jv_types.specs.declared.raw_handler.RawHandler.{RawHandler}
use Rattle.jv_pool.specs.declared.item.PoolItem.{PoolItem}
use Rattle.jv_insn.specs.declared.written.Written.{Written}
use Rattle.jv_insn.specs.Layouts.{Lays}
use Rattle.jv_insn.specs.Decoding.{Decodes, FailsInsn, FailsHandler, FailsAt, IsLeastFailure}
use Rattle.jv_insn.specs.Steps.Rows.{IsFirst, IsFirstOf, lesser}
use Rattle.jv_insn.proofs.Firsts.{first_right, first_of_right, first_lesser, first_either, first_given}
use Rattle.jv_types.specs.declared.body.Body.{Body}
use Rattle.jv_insn.proofs.Laying.{lays_agree, lays_rise}
use Rattle.jv_insn.proofs.RowLoops.{no_insn_fails, no_handler_fails}

-- no offset, at a type that is known
abbrev no_offset : Option ℕ
no_offset = None

module _ (pool : List PoolItem) (max_locals : ℕ) (code : List ℕ) (handlers : List RawHandler) (rows : List (ℕ × Written)) (end : Option ℕ) where
  -- an instruction fails, a handler fails, or the code breaks off
  abbrev Fails : ℕ → Type 0
  Fails pc = FailsInsn pool max_locals rows pc ⊎ (FailsHandler pool (length code) rows handlers pc ⊎ (end ≡ Some pc))

  pub fails_here : Lays 0 code rows end → (pc : ℕ) → FailsAt pool max_locals code handlers pc → Fails pc
  fails_here laid pc f =
      let same = lays_agree 0 code f.rows rows f.end end f.laid laid in
      let by_rows = subst (λ (r : List (ℕ × Written)). FailsInsn pool max_locals r pc ⊎ (FailsHandler pool (length code) r handlers pc ⊎ (f.end ≡ Some pc))) same.0 f.fails in
      subst (λ (e : Option ℕ). FailsInsn pool max_locals rows pc ⊎ (FailsHandler pool (length code) rows handlers pc ⊎ (e ≡ Some pc))) same.1 by_rows

  least_failure : (pc : ℕ) → Lays 0 code rows end → IsFirst Fails pc → IsLeastFailure pool max_locals code handlers pc
  least_failure pc laid first = record {
    fails = record { rows = rows; end = end; laid = laid; fails = first.holds };
    least = λ other f. first.least other (fails_here laid other f);
  }

  abbrev Insn : ℕ → Type 0
  Insn pc = FailsInsn pool max_locals rows pc

  abbrev Entry : ℕ → Type 0
  Entry pc = FailsHandler pool (length code) rows handlers pc

  abbrev End : ℕ → Type 0
  End pc = end ≡ Some pc

  pub breaks_first : (pc : ℕ) → Lays 0 code rows end → ((n : ℕ) → FailsInsn pool max_locals rows n → ⊥) → ((n : ℕ) → FailsHandler pool (length code) rows handlers n → ⊥) → end ≡ Some pc → IsLeastFailure pool max_locals code handlers pc
  breaks_first pc laid insns entries e =
      let given : IsFirst End pc = subst (λ (o : Option ℕ). IsFirstOf (λ n. end ≡ Some n) o) e (first_given end) in
      least_failure pc laid (first_right Insn (λ n. Entry n ⊎ End n) pc insns (first_right Entry (End) pc entries given))

  pub handler_first : (pc : ℕ) → Lays 0 code rows end → ((n : ℕ) → FailsInsn pool max_locals rows n → ⊥) → IsFirst (FailsHandler pool (length code) rows handlers) pc → IsLeastFailure pool max_locals code handlers (lesser end pc)
  handler_first pc laid insns entry =
      least_failure (lesser end pc) laid (first_right Insn (λ n. Entry n ⊎ End n) (lesser end pc) insns (first_lesser Entry (End) pc end entry (first_given end)))

  pub insn_first : (pc : ℕ) → Lays 0 code rows end → IsFirst (FailsInsn pool max_locals rows) pc → ((n : ℕ) → FailsHandler pool (length code) rows handlers n → ⊥) → IsLeastFailure pool max_locals code handlers (lesser end pc)
  insn_first pc laid insn entries =
      least_failure (lesser end pc) laid (first_lesser Insn (λ n. Entry n ⊎ End n) pc end insn (first_of_right Entry (End) end entries (first_given end)))

  pub either_first : (pc other : ℕ) → Lays 0 code rows end → IsFirst (FailsInsn pool max_locals rows) pc → IsFirst (FailsHandler pool (length code) rows handlers) other → IsLeastFailure pool max_locals code handlers (min pc (lesser end other))
  either_first pc other laid insn entry =
      least_failure (min pc (lesser end other)) laid (first_either Insn (λ n. Entry n ⊎ End n) pc (lesser end other) insn (first_lesser Entry (End) other end entry (first_given end)))

-- a code that decodes fails nowhere
pub decoded_fails_nowhere : (pool : List PoolItem) (max_stack max_locals : ℕ) (code : List ℕ) (handlers : List RawHandler) (body : Body) (pc : ℕ) → Decodes pool max_stack max_locals code handlers body → FailsAt pool max_locals code handlers pc → ⊥
decoded_fails_nowhere pool max_stack max_locals code handlers body pc d f =
    elim (fails_here pool max_locals code handlers d.rows None d.laid pc f) [
      | inl insn ↦ no_insn_fails pool max_locals d.rows body.insns (lays_rise 0 code d.rows None d.laid 0 (omega arith)) d.insns pc insn
      | inr other ↦ elim other [
        | inl entry ↦ no_handler_fails pool (length code) d.rows handlers body.handlers d.handlers_are pc entry
        | inr end ↦ none_is_none pc end
      ]
    ]
  where
    none_is_none : (n : ℕ) → no_offset ≡ Some n → ⊥
    none_is_none n e = absurd cc
