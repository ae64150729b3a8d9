-- An instruction that leads nowhere fits a code wherever it stands, and takes few bytes.
use Rattle.std.proofs.Common.{◌≡◌, ℕ, ◌≤◌, Bool, true, false, List, [], length, Option, Some, sym, ap, subst, arith}
use Rattle.std.specs.Option.{option_map_or}
use Rattle.jv_table.specs.CodeRows.{OpForm}
use Rattle.jv_table.specs.declared.code_tables.Form.{Form}
use Rattle.jv_table.specs.declared.code_tables.Form.TheVariants as forms
use Rattle.jv_types.specs.declared.instruction.Arg.{Arg}
use Rattle.jv_types.specs.declared.instruction.Arg.TheVariants as args
use Rattle.jv_types.specs.declared.instruction.Insn.{Insn}
use Rattle.jv_insn.specs.Effects.{op_row}
use Rattle.jv_insn.specs.Layouts.{head_text}
use Rattle.jv_insn.specs.Encoding.{form_of, arg_size, insn_size}
use Rattle.jv_insn.specs.Building.{FitsForm, FitsWide, FitsUnder, FitsCode}

-- ---- wherever it stands

form_anywhere : (insns : List (ℕ × Insn)) (pc op : ℕ) (form : Form) (arg : Arg) → FitsForm [] 0 op form arg → FitsForm insns pc op form arg
form_anywhere insns pc op forms.Nothing arg h = h
form_anywhere insns pc op forms.Local arg h = h
form_anywhere insns pc op forms.Small1 arg h = h
form_anywhere insns pc op forms.Small2 arg h = h
form_anywhere insns pc op forms.Inc arg h = h
form_anywhere insns pc op forms.Load1 arg h = h
form_anywhere insns pc op forms.Load2 arg h = h
form_anywhere insns pc op forms.LoadTwo arg h = h
form_anywhere insns pc op forms.Class arg h = h
form_anywhere insns pc op forms.Field arg h = h
form_anywhere insns pc op forms.Method arg h = h
form_anywhere insns pc op forms.InterfaceMethod arg h = h
form_anywhere insns pc op forms.Dynamic arg h = h
form_anywhere insns pc op forms.NewPrim arg h = h
form_anywhere insns pc op forms.Multi arg h = h
form_anywhere insns pc op forms.Jump2 arg h = let none : false ≡ true = h.2 in absurd cc
form_anywhere insns pc op forms.Jump4 arg h = let none : false ≡ true = h.2 in absurd cc
form_anywhere insns pc op forms.TableSwitch arg h = absurd h
form_anywhere insns pc op forms.LookupSwitch arg h = absurd h
form_anywhere insns pc op forms.Wide arg h = absurd h

under_anywhere : (wide : Bool) (insns : List (ℕ × Insn)) (pc op : ℕ) (form : Form) (arg : Arg) → FitsUnder wide [] 0 op form arg → FitsUnder wide insns pc op form arg
under_anywhere false insns pc op form arg h = form_anywhere insns pc op form arg h
under_anywhere true insns pc op form arg h = h

pub fits_anywhere : (max_locals : ℕ) (insns : List (ℕ × Insn)) (pc : ℕ) (insn : Insn) → FitsCode max_locals [] 0 insn → FitsCode max_locals insns pc insn
fits_anywhere max_locals insns pc insn h = record {
  row = h.row;
  known = h.known;
  operands = under_anywhere insn.wide insns pc insn.op h.row.form insn.arg h.operands;
  local = h.local;
}

-- ---- few bytes

few_more : (form : Form) (wide : Bool) (pc : ℕ) (arg other : Arg) → arg ≡ other → arg_size form wide pc other ≤ 4 → arg_size form wide pc arg ≤ 4
few_more form wide pc arg other e le = let P : Arg → Type 0 = λ (a : Arg). arg_size form wide pc a ≤ 4 in subst P (sym e) le

few_in_form : (insns : List (ℕ × Insn)) (pc at op : ℕ) (form : Form) (arg : Arg) → FitsForm insns at op form arg → arg_size form false pc arg ≤ 4
few_in_form insns pc at op forms.Nothing arg h = few_more forms.Nothing false pc arg args.Nothing h (omega arith)
few_in_form insns pc at op forms.Local arg h = few_more forms.Local false pc arg (args.Local h.0) h.1 (omega arith)
few_in_form insns pc at op forms.Small1 arg h = few_more forms.Small1 false pc arg (args.Small h.0) h.1 (omega arith)
few_in_form insns pc at op forms.Small2 arg h = few_more forms.Small2 false pc arg (args.Small h.0) h.1 (omega arith)
few_in_form insns pc at op forms.Inc arg h = few_more forms.Inc false pc arg (args.Inc h.0 h.1) h.2 (omega arith)
few_in_form insns pc at op forms.Load1 arg h = few_more forms.Load1 false pc arg (args.Constant h.0) h.1 (omega arith)
few_in_form insns pc at op forms.Load2 arg h = few_more forms.Load2 false pc arg (args.Constant h.0) h.1 (omega arith)
few_in_form insns pc at op forms.LoadTwo arg h = few_more forms.LoadTwo false pc arg (args.Constant h.0) h.1 (omega arith)
few_in_form insns pc at op forms.Class arg h = few_more forms.Class false pc arg (args.Class h.0) h.1 (omega arith)
few_in_form insns pc at op forms.Field arg h = few_more forms.Field false pc arg (args.Field h.0) h.1 (omega arith)
few_in_form insns pc at op forms.Method arg h = few_more forms.Method false pc arg (args.Method h.0) h.1 (omega arith)
few_in_form insns pc at op forms.InterfaceMethod arg h = few_more forms.InterfaceMethod false pc arg (args.Method h.0) h.1 (omega arith)
few_in_form insns pc at op forms.Dynamic arg h = few_more forms.Dynamic false pc arg args.Dynamic h (omega arith)
few_in_form insns pc at op forms.NewPrim arg h = few_more forms.NewPrim false pc arg (args.NewPrim h.0) h.1 (omega arith)
few_in_form insns pc at op forms.Multi arg h = few_more forms.Multi false pc arg (args.Multi h.0 h.1) h.2 (omega arith)
few_in_form insns pc at op forms.Jump2 arg h = few_more forms.Jump2 false pc arg (args.Jump h.0) h.1 (omega arith)
few_in_form insns pc at op forms.Jump4 arg h = few_more forms.Jump4 false pc arg (args.Jump h.0) h.1 (omega arith)
few_in_form insns pc at op forms.TableSwitch arg h = absurd h
few_in_form insns pc at op forms.LookupSwitch arg h = absurd h
few_in_form insns pc at op forms.Wide arg h = absurd h

few_wide : (pc op : ℕ) (form : Form) (arg : Arg) → FitsWide op form arg → arg_size form true pc arg ≤ 4
few_wide pc op forms.Local arg h = few_more forms.Local true pc arg (args.Local h.0) h.1 (omega arith)
few_wide pc op forms.Inc arg h = few_more forms.Inc true pc arg (args.Inc h.0 h.1) h.2 (omega arith)
few_wide pc op forms.Nothing arg h = absurd h
few_wide pc op forms.Small1 arg h = absurd h
few_wide pc op forms.Small2 arg h = absurd h
few_wide pc op forms.Load1 arg h = absurd h
few_wide pc op forms.Load2 arg h = absurd h
few_wide pc op forms.LoadTwo arg h = absurd h
few_wide pc op forms.Class arg h = absurd h
few_wide pc op forms.Field arg h = absurd h
few_wide pc op forms.Method arg h = absurd h
few_wide pc op forms.InterfaceMethod arg h = absurd h
few_wide pc op forms.Dynamic arg h = absurd h
few_wide pc op forms.NewPrim arg h = absurd h
few_wide pc op forms.Multi arg h = absurd h
few_wide pc op forms.Jump2 arg h = absurd h
few_wide pc op forms.Jump4 arg h = absurd h
few_wide pc op forms.TableSwitch arg h = absurd h
few_wide pc op forms.LookupSwitch arg h = absurd h
few_wide pc op forms.Wide arg h = absurd h

few_under : (wide : Bool) (insns : List (ℕ × Insn)) (pc at op : ℕ) (form : Form) (arg : Arg) → FitsUnder wide insns at op form arg → arg_size form wide pc arg ≤ 4
few_under false insns pc at op form arg h = few_in_form insns pc at op form arg h
few_under true insns pc at op form arg h = few_wide pc op form arg h

head_few : (wide : Bool) (op : ℕ) → length (head_text wide op) ≤ 2
head_few true op = omega arith
head_few false op = omega arith

-- the form of an opcode that has a row
pub form_known : (op : ℕ) (row : OpForm) → op_row op ≡ Some row → form_of op ≡ row.form
form_known op row e = ap (λ (found : Option OpForm). option_map_or (λ (r : OpForm). r.form) found forms.Nothing) e

pub fit_size : (max_locals : ℕ) (insns : List (ℕ × Insn)) (pc at : ℕ) (insn : Insn) → FitsCode max_locals insns at insn → insn_size pc insn ≤ 6
fit_size max_locals insns pc at insn h =
    let few = few_under insn.wide insns pc at insn.op h.row.form insn.arg h.operands in
    let P : Form → Type 0 = λ (form : Form). arg_size form insn.wide pc insn.arg ≤ 4 in
    let size : arg_size (form_of insn.op) insn.wide pc insn.arg ≤ 4 = subst P (sym (form_known insn.op h.row h.known)) few in
    omega (arith, size, head_few insn.wide insn.op)
