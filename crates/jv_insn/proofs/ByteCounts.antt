-- The bytes of an instruction are as many as its size says.
use Rattle.std.proofs.Common.{◌≡◌, ℕ, suc, ◌+◌, ◌*◌, ℤ, pos, ◌+ℤ◌, ◌-ℤ◌, Bool, true, false, List, [], ◌∷◌, ◌++◌, length, refl, ap, ◌∙◌, length-append, arith}
use Rattle.std.specs.Int.{w8, w16, w32, cast_unsigned}
use Rattle.std.specs.List.{flat_map}
use Rattle.std.proofs.lemmas.List.{length-replicate}
use Rattle.jv_bytes.specs.Numbers.{number_text}
use Rattle.jv_bytes.proofs.NumberLaws.{length-number_text}
use Rattle.jv_table.specs.declared.code_tables.Form.{Form}
use Rattle.jv_table.specs.declared.code_tables.Form.TheVariants as forms
use Rattle.jv_types.specs.declared.references.MethodRef.{MethodRef}
use Rattle.jv_types.specs.declared.instruction.Arg.{Arg}
use Rattle.jv_types.specs.declared.instruction.Arg.TheVariants as args
use Rattle.jv_types.specs.declared.instruction.Insn.{Insn}
use Rattle.jv_desc.specs.Texts.{words_of}
use Rattle.jv_pool.specs.declared.item.PoolItem.{PoolItem}
use Rattle.jv_insn.specs.Layouts.{s4_text, padding_at, head_text}
use Rattle.jv_insn.specs.Encoding.{form_of, is_narrow, small_text, signed_text, behind_method, branch_offset, jump_text, padding_text, table_text, case_text, lookup_text, operand_text, index_in, insn_text, is_left_out, number_size, method_size, jump_size, arg_size, insn_size, atype_of}

small_size : (narrow : Bool) (number : ℕ) → length (small_text narrow number) ≡ number_size narrow
small_size true number = length-number_text 1 number
small_size false number = length-number_text 2 number

signed_size : (narrow : Bool) (value : ℤ) → length (signed_text narrow value) ≡ number_size narrow
signed_size true value = length-number_text 1 (cast_unsigned w8 value)
signed_size false value = length-number_text 2 (cast_unsigned w16 value)

-- two parts, each of its length
pub both : {X : Type 0} (a b : List X) (m n : ℕ) → length a ≡ m → length b ≡ n → length (a ++ b) ≡ m + n
both {X} a b m n e f = length-append a b ∙ ap (λ (k : ℕ). k + length b) e ∙ ap (λ (k : ℕ). m + k) f

pub s4_size : (value : ℤ) → length (s4_text value) ≡ 4
s4_size value = length-number_text 4 (cast_unsigned w32 value)

method_text_size : (form : Form) (method : MethodRef) (index : ℕ) → length (number_text 2 index ++ behind_method form method) ≡ method_size form
method_text_size forms.InterfaceMethod method index =
    both (number_text 2 index) (number_text 1 (words_of method.desc true) ++ number_text 1 0) 2 2 (length-number_text 2 index)
    (both (number_text 1 (words_of method.desc true)) (number_text 1 0) 1 1 (length-number_text 1 (words_of method.desc true)) (length-number_text 1 0))
method_text_size _ method index = both (number_text 2 index) [] 2 0 (length-number_text 2 index) refl

jump_text_size : (form : Form) (offset : ℤ) → length (jump_text form offset) ≡ jump_size form
jump_text_size forms.Jump4 offset = s4_size offset
jump_text_size _ offset = length-number_text 2 (cast_unsigned w16 offset)

padding_size : (pc : ℕ) → length (padding_text pc) ≡ padding_at (pc + 1)
padding_size pc = length-replicate (padding_at (pc + 1)) 0

targets_size : (pc : ℕ) (targets : List ℕ) → length (flat_map (λ (target : ℕ). s4_text (branch_offset pc target)) targets) ≡ 4 * length targets
targets_size pc [] = refl
targets_size pc (t ∷ targets) =
    both (s4_text (branch_offset pc t)) (flat_map (λ (target : ℕ). s4_text (branch_offset pc target)) targets) 4 (4 * length targets) (s4_size (branch_offset pc t)) (targets_size pc targets)
    ∙ more (length targets)
  where
    more : (n : ℕ) → 4 + 4 * n ≡ 4 * suc n
    more n = omega arith

cases_size : (pc : ℕ) (cases : List (ℤ × ℕ)) → length (flat_map (case_text pc) cases) ≡ 8 * length cases
cases_size pc [] = refl
cases_size pc (c ∷ cases) =
    both (case_text pc c) (flat_map (case_text pc) cases) 8 (8 * length cases) (both (s4_text c.0) (s4_text (branch_offset pc c.1)) 4 4 (s4_size c.0) (s4_size (branch_offset pc c.1))) (cases_size pc cases)
    ∙ more (length cases)
  where
    more : (n : ℕ) → 8 + 8 * n ≡ 8 * suc n
    more n = omega arith

table_size : (pc default : ℕ) (low : ℤ) (targets : List ℕ) → length (table_text pc default low targets) ≡ padding_at (pc + 1) + (12 + 4 * length targets)
table_size pc default low targets =
    let high = low +ℤ (pos (length targets) -ℤ pos 1) in
    let all = flat_map (λ (target : ℕ). s4_text (branch_offset pc target)) targets in
    let a = both (s4_text high) all 4 (4 * length targets) (s4_size high) (targets_size pc targets) in
    let b = both (s4_text low) (s4_text high ++ all) 4 (4 + 4 * length targets) (s4_size low) a in
    let c = both (s4_text (branch_offset pc default)) (s4_text low ++ (s4_text high ++ all)) 4 (4 + (4 + 4 * length targets)) (s4_size (branch_offset pc default)) b in
    both (padding_text pc) (s4_text (branch_offset pc default) ++ (s4_text low ++ (s4_text high ++ all))) (padding_at (pc + 1)) (4 + (4 + (4 + 4 * length targets))) (padding_size pc) c
    ∙ ap (λ (n : ℕ). padding_at (pc + 1) + n) (sum (4 * length targets))
  where
    sum : (n : ℕ) → 4 + (4 + (4 + n)) ≡ 12 + n
    sum n = omega arith

lookup_size : (pc default : ℕ) (cases : List (ℤ × ℕ)) → length (lookup_text pc default cases) ≡ padding_at (pc + 1) + (8 + 8 * length cases)
lookup_size pc default cases =
    let all = flat_map (case_text pc) cases in
    let count = number_text 4 (length cases) in
    let a = both count all 4 (8 * length cases) (length-number_text 4 (length cases)) (cases_size pc cases) in
    let b = both (s4_text (branch_offset pc default)) (count ++ all) 4 (4 + 8 * length cases) (s4_size (branch_offset pc default)) a in
    both (padding_text pc) (s4_text (branch_offset pc default) ++ (count ++ all)) (padding_at (pc + 1)) (4 + (4 + 8 * length cases)) (padding_size pc) b
    ∙ ap (λ (n : ℕ). padding_at (pc + 1) + n) (sum (8 * length cases))
  where
    sum : (n : ℕ) → 4 + (4 + n) ≡ 8 + n
    sum n = omega arith

operands_size : (form : Form) (wide : Bool) (pc : ℕ) (arg : Arg) (index : ℕ) → is_left_out arg ≡ false → length (operand_text form wide pc arg index) ≡ arg_size form wide pc arg
operands_size form wide pc args.Nothing index e = refl
operands_size form wide pc (args.Local local) index e = small_size (is_narrow form wide) local
operands_size form wide pc (args.Small value) index e = signed_size (is_narrow form wide) value
operands_size form wide pc (args.Inc local by) index e =
    let n = is_narrow form wide in both (small_text n local) (signed_text n by) (number_size n) (number_size n) (small_size n local) (signed_size n by)
operands_size form wide pc (args.Constant constant) index e = small_size (is_narrow form wide) index
operands_size form wide pc (args.Class type) index e = length-number_text 2 index
operands_size form wide pc (args.Field field) index e = length-number_text 2 index
operands_size form wide pc (args.Method method) index e = method_text_size form method index
operands_size form wide pc args.Dynamic index e = absurd cc
operands_size form wide pc (args.NewPrim prim) index e = length-number_text 1 (atype_of prim)
operands_size form wide pc (args.Multi type dims) index e = both (number_text 2 index) (number_text 1 dims) 2 1 (length-number_text 2 index) (length-number_text 1 dims)
operands_size form wide pc (args.Jump target) index e = jump_text_size form (branch_offset pc target)
operands_size form wide pc (args.Table default low targets) index e = table_size pc default low targets
operands_size form wide pc (args.Lookup default cases) index e = lookup_size pc default cases

pub size_of_text : (pool : List PoolItem) (pc : ℕ) (insn : Insn) → is_left_out insn.arg ≡ false → length (insn_text pool pc insn) ≡ insn_size pc insn
size_of_text pool pc insn e =
    let head = head_text insn.wide insn.op in
    let text = operand_text (form_of insn.op) insn.wide pc insn.arg (index_in pool insn.arg) in
    both head text (length head) (arg_size (form_of insn.op) insn.wide pc insn.arg) refl (operands_size (form_of insn.op) insn.wide pc insn.arg (index_in pool insn.arg) e)
