-- Which local variables a store writes.
use Rattle.std.proofs.Common.{◌≡◌, ◌+◌, ℕ, Bool, true, cond, ◌||◌, ◌&&◌, List, [], ◌∷◌, map, refl, sym, ap, ◌∙◌}
use Rattle.std.specs.Prelude.{nat_eq, nat_le, nat_lt}
use Rattle.std.specs.List.{list_any}
use Rattle.jv_table.specs.declared.code_tables.Cell.{Cell}
use Rattle.jv_table.specs.declared.code_tables.Cell.TheVariants.{Int}
use Rattle.jv_table.specs.declared.ops.TheConstants.{IINC}
use Rattle.jv_types.specs.declared.instruction.Insn.{Insn}
use Rattle.jv_insn.specs.Effects.{cell_width, cells_taken, is_store, local_of}
use Rattle.jv_insn.specs.Leaving.{is_written}
use Rattle.jv_leaving.specs.Words.{spans}

-- the test of a write
abbrev writes : ℕ → ℕ × Cell → Bool
writes local write = nat_le write.0 local && nat_lt local (write.0 + cell_width write.1)

spanned : (first local : ℕ) (cells : List Cell) → spans first cells local ≡ list_any (writes local) (map (λ (cell : Cell). (first, cell)) cells)
spanned first local [] = refl
spanned first local (cell ∷ cells) = ap (λ (b : Bool). writes local (first, cell) || b) (spanned first local cells)

pub store_writes : (insn : Insn) (cells : List Cell) (first local : ℕ) (found : Bool) → is_store insn.op ≡ true → cells ≡ cells_taken insn.op insn.arg
    → first ≡ local_of insn.op insn.arg → found ≡ spans first cells local → found ≡ is_written insn local
store_writes insn cells first local found store taken named is =
    is
    ∙ ap (λ (cs : List Cell). spans first cs local) taken
    ∙ ap (λ (n : ℕ). spans n (cells_taken insn.op insn.arg) local) named
    ∙ spanned (local_of insn.op insn.arg) local (cells_taken insn.op insn.arg)
    ∙ sym (ap
    (λ (b : Bool). list_any (writes local)
    (cond b (map (λ (cell : Cell). (local_of insn.op insn.arg, cell)) (cells_taken insn.op insn.arg))
    (cond (nat_eq insn.op IINC) ((local_of insn.op insn.arg, Int) ∷ []) [])))
    store)
