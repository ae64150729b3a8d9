-- Operands are written again, with another index of a pool and zeros as padding.
use Rattle.std.proofs.Common.{◌≡◌, ℕ, ◌+◌, ◌^◌, ◌<◌, ℤ, pos, ◌+ℤ◌, ◌-ℤ◌, ◌≤ℤ◌, Bool, true, false, cond, eqb, nat_abs, List, [], ◌∷◌, ◌++◌, length, Option, Some, None, refl, sym, ap, subst, ◌∙◌, length-append, arith}
use Rattle.std.specs.Prelude.{option_and_then, FitsSigned, int_le}
use Rattle.std.specs.Int.{w8, w16, w32, cast_unsigned}
use Rattle.std.specs.List.{flat_map, AllZip}
use Rattle.std.proofs.lemmas.Int.{of_z-to_z, ints}
use Rattle.std.proofs.lemmas.List.{append-nil, length-replicate}
use Rattle.std.proofs.lemmas.Slice.Zip.{AllZip-long}
use borrow.Author.Gap.{read_sfits}
use Rattle.jv_bytes.specs.Numbers.{number_text}
use Rattle.jv_bytes.proofs.NumberLaws.{length-number_text}
use Rattle.jv_table.specs.CodeRows.{OpForm}
use Rattle.jv_table.specs.declared.code_tables.Form.{Form}
use Rattle.jv_table.specs.declared.code_tables.Form.TheVariants as forms
use Rattle.jv_types.specs.Bodies.{IsStart}
use Rattle.jv_types.specs.declared.instruction.Arg.{Arg}
use Rattle.jv_types.specs.declared.instruction.Arg.TheVariants as args
use Rattle.jv_desc.specs.Texts.{words_of}
use Rattle.jv_pool.specs.declared.item.PoolItem.{PoolItem}
use Rattle.jv_read.proofs.Fronts.{given_as}
use Rattle.jv_insn.specs.declared.written.Operands.{Operands}
use Rattle.jv_insn.specs.declared.written.Operands.TheVariants.{Nothing, Local, Small, Inc, Index, Called, Site, NewPrim, Multi, Jump, Table, Lookup}
use Rattle.jv_insn.specs.declared.written.Written.{Written}
use Rattle.jv_insn.specs.Effects.{op_row}
use Rattle.jv_insn.specs.Layouts.{Layout, Alone, One, Two, Three, TableSwitch, LookupSwitch, s1, s2, s4, s4_text, pair_text, padding_at, span, layout_of, wide_layout_of, layout_for, IsOne, AreTwo, AreThree, IsTable, IsLookup, AreOperands, is_allowed}
use Rattle.jv_insn.specs.Meanings.{LeadsTo, LeadsCase, NamesOperands}
use Rattle.jv_insn.specs.Entries.{entry_of, arg_place}
use Rattle.jv_insn.specs.Encoding.{branch_offset, padding_text, case_text, table_text, lookup_text, operand_text, is_left_out, atype_of}
use Rattle.jv_insn.specs.Steps.Writing.{FitsArg}
use Rattle.jv_insn.proofs.Placed.{arg_stays}
use Rattle.jv_insn.proofs.Named.{type_named, field_named, method_named, const_named}
use Rattle.jv_insn.proofs.Tables.{one_code}

-- ---- layouts

-- the layout of a form, under wide or not
abbrev pub layout_by : Bool → ℕ → Form → Option Layout
layout_by false op form = layout_of form
layout_by true op form = wide_layout_of op form

pub layout_row : (wide : Bool) (op : ℕ) (row : OpForm) (layout : Layout) → op_row op ≡ Some row → layout_for wide op ≡ Some layout → layout_by wide op row.form ≡ Some layout
layout_row false op row layout e h = sym (ap (option_and_then (λ (r : OpForm). layout_of r.form)) e) ∙ h
layout_row true op row layout e h = sym (ap (option_and_then (λ (r : OpForm). wide_layout_of op r.form)) e) ∙ h

-- ---- what is written again

-- starts of rows are starts of others too
abbrev pub Starts : List (ℕ × Written) → List (ℕ × Written) → Type 0
Starts rows others = (q : ℕ) → IsStart rows q → IsStart others q

-- operands of the same layout and size that name the same, where their index is this one
pub record IsAgain (rows : List (ℕ × Written)) (pool : List PoolItem) (index pc op size : ℕ) (form : Form) (wide : Bool) (layout : Layout) (arg : Arg) : Type 0 where
  pub operands : Operands
  pub fits : FitsArg form wide pc arg index
  pub size_is : length (operand_text form wide pc arg index) ≡ size
  pub laid : AreOperands layout (pc + 1) (operand_text form wide pc arg index) operands
  pub allowed : is_allowed operands ≡ true
  pub names : (more : List PoolItem) (others : List (ℕ × Written)) → Starts rows others → NamesOperands (pool ++ more) others pc op form operands arg

-- the operands name something that stands at the index
pub record IsAt (pool : List PoolItem) (index : ℕ) (arg : Arg) : Type 0 where
  pub small : index < 65536
  pub whole : is_left_out arg ≡ false
  pub placed : arg_place pool (entry_of arg) ≡ Some index

later_at : (pool more : List PoolItem) (index : ℕ) (arg : Arg) → IsAt pool index arg → arg_place (pool ++ more) (entry_of arg) ≡ Some index
later_at pool more index arg at = arg_stays pool more (entry_of arg) index at.placed

-- ---- places

-- how far a target is
pub far_as : (pc target : ℕ) (offset : ℤ) → pos pc +ℤ offset ≡ pos target → branch_offset pc target ≡ offset
far_as pc target offset e = omega (arith, ints)

lead_on : (rows others : List (ℕ × Written)) (pc : ℕ) (offset : ℤ) (target : ℕ) → Starts rows others → LeadsTo rows pc offset target → LeadsTo others pc offset target
lead_on rows others pc offset target on h = record { distance = h.distance; starts = on target h.starts }

zip_on : {A B : Type 0} (P Q : A → B → Type 0) (xs : List A) (ys : List B) → ((x : A) (y : B) → P x y → Q x y) → AllZip P xs ys → AllZip Q xs ys
zip_on P Q [] [] on h = h
zip_on P Q [] (y ∷ ys) on h = absurd h
zip_on P Q (x ∷ xs) [] on h = absurd h
zip_on P Q (x ∷ xs) (y ∷ ys) on h = (on x y h.0, zip_on P Q xs ys on h.1)

targets_again : (rows : List (ℕ × Written)) (pc : ℕ) (offsets : List ℤ) (targets : List ℕ) → AllZip (LeadsTo rows pc) offsets targets → flat_map (λ (target : ℕ). s4_text (branch_offset pc target)) targets ≡ flat_map s4_text offsets
targets_again rows pc [] [] h = refl
targets_again rows pc [] (t ∷ ts) h = absurd h
targets_again rows pc (o ∷ os) [] h = absurd h
targets_again rows pc (o ∷ os) (t ∷ ts) h =
    let first : s4_text (branch_offset pc t) ≡ s4_text o = ap s4_text (far_as pc t o h.0.distance) in
    ap (λ (x : List ℕ). x ++ flat_map (λ (target : ℕ). s4_text (branch_offset pc target)) ts) first ∙ ap (λ (x : List ℕ). s4_text o ++ x) (targets_again rows pc os ts h.1)

cases_again : (rows : List (ℕ × Written)) (pc : ℕ) (cases : List (ℤ × ℤ)) (targets : List (ℤ × ℕ)) → AllZip (LeadsCase rows pc) cases targets → flat_map (case_text pc) targets ≡ flat_map pair_text cases
cases_again rows pc [] [] h = refl
cases_again rows pc [] (t ∷ ts) h = absurd h
cases_again rows pc (c ∷ cs) [] h = absurd h
cases_again rows pc (c ∷ cs) (t ∷ ts) h =
    let value : s4_text t.0 ≡ s4_text c.0 = ap s4_text h.0.value in
    let offset : s4_text (branch_offset pc t.1) ≡ s4_text c.1 = ap s4_text (far_as pc t.1 c.1 h.0.leads.distance) in
    let first : case_text pc t ≡ pair_text c = ap (λ (x : List ℕ). x ++ s4_text (branch_offset pc t.1)) value ∙ ap (λ (x : List ℕ). s4_text c.0 ++ x) offset in
    ap (λ (x : List ℕ). x ++ flat_map (case_text pc) ts) first ∙ ap (λ (x : List ℕ). pair_text c ++ x) (cases_again rows pc cs ts h.1)

-- the value at the end of so many from a low one on
high_is : (low high : ℤ) (count : ℕ) → int_le low high ≡ true → count ≡ span low high → (0 < count) × (low +ℤ (pos count -ℤ pos 1) ≡ high)
high_is low high count le e =
    let up : low ≤ℤ high = grind (arith, ints) in
    let gap : pos (nat_abs (high -ℤ low)) ≡ high -ℤ low = omega (arith, ints) in
    (omega (arith, e), omega (arith, ints, e, gap))

-- ---- operands of numbers

module _ (rows : List (ℕ × Written)) (pool : List PoolItem) (index pc op : ℕ) where
  -- what holds of the operands that were made holds of these
  made_so : (P : Arg → Type 0) (arg made : Arg) → arg ≡ made → P made → P arg
  made_so P arg made e h = subst P (sym e) h

  nothing_again : (form : Form) (wide : Bool) (text : List ℕ) (w : Operands) (old : List PoolItem) (arg : Arg) → AreOperands Alone (pc + 1) text w → NamesOperands old rows pc op form w arg → IsAgain rows pool index pc op (length text) form wide Alone arg
  nothing_again form wide text w old arg h named =
      let n : arg ≡ args.Nothing = subst (λ (v : Operands). NamesOperands old rows pc op form v arg) h.1 named in
      made_so (IsAgain rows pool index pc op (length text) form wide Alone) arg args.Nothing n
      (record { operands = Nothing; fits = tt; size_is = ap length (sym h.0); laid = (refl, refl); allowed = refl; names = λ more others on. refl })

  local_again : (text : List ℕ) (w : Operands) (old : List PoolItem) (arg : Arg) → IsOne 1 Local text w → NamesOperands old rows pc op forms.Local w arg → IsAgain rows pool index pc op (length text) forms.Local false (One 1 Local) arg
  local_again text w old arg h named =
      let n : arg ≡ args.Local h.number = subst (λ (v : Operands). NamesOperands old rows pc op forms.Local v arg) h.made named in
      made_so (IsAgain rows pool index pc op (length text) forms.Local false (One 1 Local)) arg (args.Local h.number) n
      (record {
        operands = Local h.number;
        fits = λ _. h.fits;
        size_is = ap length (sym h.spelled);
        laid = record { number = h.number; fits = h.fits; spelled = refl; made = refl };
        allowed = refl;
        names = λ more others on. refl;
      })

  wide_local_again : (text : List ℕ) (w : Operands) (old : List PoolItem) (arg : Arg) → IsOne 2 Local text w → NamesOperands old rows pc op forms.Local w arg → IsAgain rows pool index pc op (length text) forms.Local true (One 2 Local) arg
  wide_local_again text w old arg h named =
      let n : arg ≡ args.Local h.number = subst (λ (v : Operands). NamesOperands old rows pc op forms.Local v arg) h.made named in
      made_so (IsAgain rows pool index pc op (length text) forms.Local true (One 2 Local)) arg (args.Local h.number) n
      (record {
        operands = Local h.number;
        fits = λ narrow. absurd cc;
        size_is = ap length (sym h.spelled);
        laid = record { number = h.number; fits = h.fits; spelled = refl; made = refl };
        allowed = refl;
        names = λ more others on. refl;
      })

  small1_again : (text : List ℕ) (w : Operands) (old : List PoolItem) (arg : Arg) → IsOne 1 (λ number. Small (s1 number)) text w → NamesOperands old rows pc op forms.Small1 w arg → IsAgain rows pool index pc op (length text) forms.Small1 false (One 1 (λ number. Small (s1 number))) arg
  small1_again text w old arg h named =
      let n : arg ≡ args.Small (s1 h.number) = subst (λ (v : Operands). NamesOperands old rows pc op forms.Small1 v arg) h.made named in
      let back : number_text 1 (cast_unsigned w8 (s1 h.number)) ≡ number_text 1 h.number = ap (number_text 1) (of_z-to_z w8 h.number h.fits) in
      made_so (IsAgain rows pool index pc op (length text) forms.Small1 false (One 1 (λ number. Small (s1 number)))) arg (args.Small (s1 h.number)) n
      (record {
        operands = Small (s1 h.number);
        fits = λ _. read_sfits w8 h.number;
        size_is = ap length back ∙ ap length (sym h.spelled);
        laid = record { number = h.number; fits = h.fits; spelled = back; made = refl };
        allowed = refl;
        names = λ more others on. refl;
      })

  small2_again : (text : List ℕ) (w : Operands) (old : List PoolItem) (arg : Arg) → IsOne 2 (λ number. Small (s2 number)) text w → NamesOperands old rows pc op forms.Small2 w arg → IsAgain rows pool index pc op (length text) forms.Small2 false (One 2 (λ number. Small (s2 number))) arg
  small2_again text w old arg h named =
      let n : arg ≡ args.Small (s2 h.number) = subst (λ (v : Operands). NamesOperands old rows pc op forms.Small2 v arg) h.made named in
      let back : number_text 2 (cast_unsigned w16 (s2 h.number)) ≡ number_text 2 h.number = ap (number_text 2) (of_z-to_z w16 h.number h.fits) in
      made_so (IsAgain rows pool index pc op (length text) forms.Small2 false (One 2 (λ number. Small (s2 number)))) arg (args.Small (s2 h.number)) n
      (record {
        operands = Small (s2 h.number);
        fits = λ narrow. absurd cc;
        size_is = ap length back ∙ ap length (sym h.spelled);
        laid = record { number = h.number; fits = h.fits; spelled = back; made = refl };
        allowed = refl;
        names = λ more others on. refl;
      })

  inc_again : (text : List ℕ) (w : Operands) (old : List PoolItem) (arg : Arg) → AreTwo 1 1 (λ local by. Inc local (s1 by)) text w → NamesOperands old rows pc op forms.Inc w arg → IsAgain rows pool index pc op (length text) forms.Inc false (Two 1 1 (λ local by. Inc local (s1 by))) arg
  inc_again text w old arg h named =
      let n : arg ≡ args.Inc h.first (s1 h.second) = subst (λ (v : Operands). NamesOperands old rows pc op forms.Inc v arg) h.made named in
      let back : number_text 1 h.first ++ number_text 1 (cast_unsigned w8 (s1 h.second)) ≡ number_text 1 h.first ++ number_text 1 h.second = ap (λ (k : ℕ). number_text 1 h.first ++ number_text 1 k) (of_z-to_z w8 h.second h.second_fits) in
      made_so (IsAgain rows pool index pc op (length text) forms.Inc false (Two 1 1 (λ local by. Inc local (s1 by)))) arg (args.Inc h.first (s1 h.second)) n
      (record {
        operands = Inc h.first (s1 h.second);
        fits = λ _. (h.first_fits, read_sfits w8 h.second);
        size_is = ap length back ∙ ap length (sym h.spelled);
        laid = record { first = h.first; second = h.second; first_fits = h.first_fits; second_fits = h.second_fits; spelled = back; made = refl };
        allowed = refl;
        names = λ more others on. refl;
      })

  wide_inc_again : (text : List ℕ) (w : Operands) (old : List PoolItem) (arg : Arg) → AreTwo 2 2 (λ local by. Inc local (s2 by)) text w → NamesOperands old rows pc op forms.Inc w arg → IsAgain rows pool index pc op (length text) forms.Inc true (Two 2 2 (λ local by. Inc local (s2 by))) arg
  wide_inc_again text w old arg h named =
      let n : arg ≡ args.Inc h.first (s2 h.second) = subst (λ (v : Operands). NamesOperands old rows pc op forms.Inc v arg) h.made named in
      let back : number_text 2 h.first ++ number_text 2 (cast_unsigned w16 (s2 h.second)) ≡ number_text 2 h.first ++ number_text 2 h.second = ap (λ (k : ℕ). number_text 2 h.first ++ number_text 2 k) (of_z-to_z w16 h.second h.second_fits) in
      made_so (IsAgain rows pool index pc op (length text) forms.Inc true (Two 2 2 (λ local by. Inc local (s2 by)))) arg (args.Inc h.first (s2 h.second)) n
      (record {
        operands = Inc h.first (s2 h.second);
        fits = λ narrow. absurd cc;
        size_is = ap length back ∙ ap length (sym h.spelled);
        laid = record { first = h.first; second = h.second; first_fits = h.first_fits; second_fits = h.second_fits; spelled = back; made = refl };
        allowed = refl;
        names = λ more others on. refl;
      })

  prim_again : (text : List ℕ) (w : Operands) (old : List PoolItem) (arg : Arg) → IsOne 1 NewPrim text w → is_allowed w ≡ true → NamesOperands old rows pc op forms.NewPrim w arg → IsAgain rows pool index pc op (length text) forms.NewPrim false (One 1 NewPrim) arg
  prim_again text w old arg h allowed named =
      let n = subst (λ (v : Operands). NamesOperands old rows pc op forms.NewPrim v arg) h.made named in
      let code : number_text 1 (atype_of n.0) ≡ number_text 1 h.number = ap (number_text 1) (sym (one_code h.number n.0 n.2)) in
      made_so (IsAgain rows pool index pc op (length text) forms.NewPrim false (One 1 NewPrim)) arg (args.NewPrim n.0) n.1
      (record {
        operands = NewPrim h.number;
        fits = tt;
        size_is = ap length code ∙ ap length (sym h.spelled);
        laid = record { number = h.number; fits = h.fits; spelled = code; made = refl };
        allowed = subst (λ (v : Operands). is_allowed v ≡ true) h.made allowed;
        names = λ more others on. (n.0, refl, n.2);
      })

  -- ---- jumps

  jump2_again : (text : List ℕ) (w : Operands) (old : List PoolItem) (arg : Arg) → IsOne 2 (λ offset. Jump (s2 offset)) text w → NamesOperands old rows pc op forms.Jump2 w arg → IsAgain rows pool index pc op (length text) forms.Jump2 false (One 2 (λ offset. Jump (s2 offset))) arg
  jump2_again text w old arg h named =
      let n = subst (λ (v : Operands). NamesOperands old rows pc op forms.Jump2 v arg) h.made named in
      let far : branch_offset pc n.0 ≡ s2 h.number = far_as pc n.0 (s2 h.number) n.2.distance in
      let back : number_text 2 (cast_unsigned w16 (branch_offset pc n.0)) ≡ number_text 2 h.number = ap (λ (z : ℤ). number_text 2 (cast_unsigned w16 z)) far ∙ ap (number_text 2) (of_z-to_z w16 h.number h.fits) in
      made_so (IsAgain rows pool index pc op (length text) forms.Jump2 false (One 2 (λ offset. Jump (s2 offset)))) arg (args.Jump n.0) n.1
      (record {
        operands = Jump (s2 h.number);
        fits = subst (FitsSigned w16) (sym far) (read_sfits w16 h.number);
        size_is = ap length back ∙ ap length (sym h.spelled);
        laid = record { number = h.number; fits = h.fits; spelled = back; made = refl };
        allowed = refl;
        names = λ more others on. (n.0, refl, lead_on rows others pc (s2 h.number) n.0 on n.2);
      })

  jump4_again : (text : List ℕ) (w : Operands) (old : List PoolItem) (arg : Arg) → IsOne 4 (λ offset. Jump (s4 offset)) text w → NamesOperands old rows pc op forms.Jump4 w arg → IsAgain rows pool index pc op (length text) forms.Jump4 false (One 4 (λ offset. Jump (s4 offset))) arg
  jump4_again text w old arg h named =
      let n = subst (λ (v : Operands). NamesOperands old rows pc op forms.Jump4 v arg) h.made named in
      let far : branch_offset pc n.0 ≡ s4 h.number = far_as pc n.0 (s4 h.number) n.2.distance in
      let back : s4_text (branch_offset pc n.0) ≡ number_text 4 h.number = ap s4_text far ∙ ap (number_text 4) (of_z-to_z w32 h.number h.fits) in
      made_so (IsAgain rows pool index pc op (length text) forms.Jump4 false (One 4 (λ offset. Jump (s4 offset)))) arg (args.Jump n.0) n.1
      (record {
        operands = Jump (s4 h.number);
        fits = tt;
        size_is = ap length back ∙ ap length (sym h.spelled);
        laid = record { number = h.number; fits = h.fits; spelled = back; made = refl };
        allowed = refl;
        names = λ more others on. (n.0, refl, lead_on rows others pc (s4 h.number) n.0 on n.2);
      })

  -- ---- switches

  zeros_fill : length (padding_text pc) ≡ padding_at (pc + 1)
  zeros_fill = length-replicate (padding_at (pc + 1)) 0

  -- two texts that differ in their padding
  same_size : (padding rest : List ℕ) → length padding ≡ padding_at (pc + 1) → length (padding_text pc ++ rest) ≡ length (padding ++ rest)
  same_size padding rest e = omega (arith, length-append (padding_text pc) rest, length-append padding rest, zeros_fill, e)

  table_again : (text : List ℕ) (w : Operands) (old : List PoolItem) (arg : Arg) → IsTable (pc + 1) text w → NamesOperands old rows pc op forms.TableSwitch w arg → IsAgain rows pool index pc op (length text) forms.TableSwitch false TableSwitch arg
  table_again text w old arg h named =
      let n = subst (λ (v : Operands). NamesOperands old rows pc op forms.TableSwitch v arg) h.made named in
      let count : length n.1 ≡ length h.offsets = AllZip-long (LeadsTo rows pc) h.offsets n.1 n.4 in
      let high = high_is h.low h.high (length n.1) h.in_order (count ∙ h.count) in
      let behind : List ℕ = s4_text h.default ++ (s4_text h.low ++ (s4_text h.high ++ flat_map s4_text h.offsets)) in
      let far : branch_offset pc n.0 ≡ h.default = far_as pc n.0 h.default n.3.distance in
      let spelled : table_text pc n.0 h.low n.1 ≡ padding_text pc ++ behind =
      ap (λ (z : ℤ). padding_text pc ++ (s4_text z ++ (s4_text h.low ++ (s4_text (h.low +ℤ (pos (length n.1) -ℤ pos 1)) ++ flat_map (λ (target : ℕ). s4_text (branch_offset pc target)) n.1)))) far
      ∙ ap (λ (z : ℤ). padding_text pc ++ (s4_text h.default ++ (s4_text h.low ++ (s4_text z ++ flat_map (λ (target : ℕ). s4_text (branch_offset pc target)) n.1)))) high.1
      ∙ ap (λ (t : List ℕ). padding_text pc ++ (s4_text h.default ++ (s4_text h.low ++ (s4_text h.high ++ t)))) (targets_again rows pc h.offsets n.1 n.4) in
      made_so (IsAgain rows pool index pc op (length text) forms.TableSwitch false TableSwitch) arg (args.Table n.0 h.low n.1) n.2
      (record {
        operands = Table h.default h.low h.offsets;
        fits = (high.0, subst (FitsSigned w32) (sym high.1) h.high_fits);
        size_is = ap length spelled ∙ same_size h.padding behind h.aligned ∙ ap length (sym h.spelled);
        laid = record {
          padding = padding_text pc;
          default = h.default;
          low = h.low;
          high = h.high;
          offsets = h.offsets;
          aligned = zeros_fill;
          default_fits = h.default_fits;
          low_fits = h.low_fits;
          high_fits = h.high_fits;
          each_fits = h.each_fits;
          in_order = h.in_order;
          count = h.count;
          spelled = spelled;
          made = refl;
        };
        allowed = refl;
        names = λ more others on. (n.0, n.1, refl, lead_on rows others pc h.default n.0 on n.3, zip_on (LeadsTo rows pc) (LeadsTo others pc) h.offsets n.1 (λ o t. lead_on rows others pc o t on) n.4);
      })

  case_on : (others : List (ℕ × Written)) → Starts rows others → (c : ℤ × ℤ) (t : ℤ × ℕ) → LeadsCase rows pc c t → LeadsCase others pc c t
  case_on others on c t h = record { value = h.value; leads = lead_on rows others pc c.1 t.1 on h.leads }

  lookup_again : (text : List ℕ) (w : Operands) (old : List PoolItem) (arg : Arg) → IsLookup (pc + 1) text w → is_allowed w ≡ true → NamesOperands old rows pc op forms.LookupSwitch w arg → IsAgain rows pool index pc op (length text) forms.LookupSwitch false LookupSwitch arg
  lookup_again text w old arg h allowed named =
      let n = subst (λ (v : Operands). NamesOperands old rows pc op forms.LookupSwitch v arg) h.made named in
      let count : length n.1 ≡ length h.cases = AllZip-long (LeadsCase rows pc) h.cases n.1 n.4 in
      let behind : List ℕ = s4_text h.default ++ (number_text 4 (length h.cases) ++ flat_map pair_text h.cases) in
      let far : branch_offset pc n.0 ≡ h.default = far_as pc n.0 h.default n.3.distance in
      let few : length h.cases < 2 ^ 31 = h.count in
      let spelled : lookup_text pc n.0 n.1 ≡ padding_text pc ++ behind =
      ap (λ (z : ℤ). padding_text pc ++ (s4_text z ++ (number_text 4 (length n.1) ++ flat_map (case_text pc) n.1))) far
      ∙ ap (λ (k : ℕ). padding_text pc ++ (s4_text h.default ++ (number_text 4 k ++ flat_map (case_text pc) n.1))) count
      ∙ ap (λ (t : List ℕ). padding_text pc ++ (s4_text h.default ++ (number_text 4 (length h.cases) ++ t))) (cases_again rows pc h.cases n.1 n.4) in
      made_so (IsAgain rows pool index pc op (length text) forms.LookupSwitch false LookupSwitch) arg (args.Lookup n.0 n.1) n.2
      (record {
        operands = Lookup h.default h.cases;
        fits = omega (arith, few, count);
        size_is = ap length spelled ∙ same_size h.padding behind h.aligned ∙ ap length (sym h.spelled);
        laid = record {
          padding = padding_text pc;
          default = h.default;
          cases = h.cases;
          aligned = zeros_fill;
          default_fits = h.default_fits;
          each_fits = h.each_fits;
          count = h.count;
          spelled = spelled;
          made = refl;
        };
        allowed = subst (λ (v : Operands). is_allowed v ≡ true) h.made allowed;
        names = λ more others on. (n.0, n.1, refl, lead_on rows others pc h.default n.0 on n.3, zip_on (LeadsCase rows pc) (LeadsCase others pc) h.cases n.1 (case_on others on) n.4);
      })

  -- ---- indices of the pool

  -- the same for operands whose item stands at the index
  abbrev IsAgainAt : ℕ → Form → Layout → Arg → Type 0
  IsAgainAt size form layout arg = IsAt pool index arg → IsAgain rows pool index pc op size form false layout arg

  two_size : (n : ℕ) (text : List ℕ) → text ≡ number_text 2 n → length (number_text 2 index) ≡ length text
  two_size n text e = length-number_text 2 index ∙ sym (length-number_text 2 n) ∙ ap length (sym e)

  load1_again : (text : List ℕ) (w : Operands) (old : List PoolItem) (arg : Arg) → index < 256 → IsOne 1 Index text w → NamesOperands old rows pc op forms.Load1 w arg → IsAgainAt (length text) forms.Load1 (One 1 Index) arg
  load1_again text w old arg near h named =
      let n = subst (λ (v : Operands). NamesOperands old rows pc op forms.Load1 v arg) h.made named in
      made_so (IsAgainAt (length text) forms.Load1 (One 1 Index)) arg (args.Constant n.0) n.1
      (λ at. record {
        operands = Index index;
        fits = λ _. near;
        size_is = length-number_text 1 index ∙ sym (length-number_text 1 h.number) ∙ ap length (sym h.spelled);
        laid = record { number = index; fits = near; spelled = refl; made = refl };
        allowed = refl;
        names = λ more others on. (n.0, refl, const_named (pool ++ more) index n.0 old h.number n.2 at.whole (later_at pool more index (args.Constant n.0) at), n.3);
      })

  load2_again : (text : List ℕ) (w : Operands) (old : List PoolItem) (arg : Arg) → IsOne 2 Index text w → NamesOperands old rows pc op forms.Load2 w arg → IsAgainAt (length text) forms.Load2 (One 2 Index) arg
  load2_again text w old arg h named =
      let n = subst (λ (v : Operands). NamesOperands old rows pc op forms.Load2 v arg) h.made named in
      made_so (IsAgainAt (length text) forms.Load2 (One 2 Index)) arg (args.Constant n.0) n.1
      (λ at. record {
        operands = Index index;
        fits = λ narrow. absurd cc;
        size_is = two_size h.number text h.spelled;
        laid = record { number = index; fits = at.small; spelled = refl; made = refl };
        allowed = refl;
        names = λ more others on. (n.0, refl, const_named (pool ++ more) index n.0 old h.number n.2 at.whole (later_at pool more index (args.Constant n.0) at), n.3);
      })

  load_two_again : (text : List ℕ) (w : Operands) (old : List PoolItem) (arg : Arg) → IsOne 2 Index text w → NamesOperands old rows pc op forms.LoadTwo w arg → IsAgainAt (length text) forms.LoadTwo (One 2 Index) arg
  load_two_again text w old arg h named =
      let n = subst (λ (v : Operands). NamesOperands old rows pc op forms.LoadTwo v arg) h.made named in
      made_so (IsAgainAt (length text) forms.LoadTwo (One 2 Index)) arg (args.Constant n.0) n.1
      (λ at. record {
        operands = Index index;
        fits = λ narrow. absurd cc;
        size_is = two_size h.number text h.spelled;
        laid = record { number = index; fits = at.small; spelled = refl; made = refl };
        allowed = refl;
        names = λ more others on. (n.0, refl, const_named (pool ++ more) index n.0 old h.number n.2 at.whole (later_at pool more index (args.Constant n.0) at), n.3);
      })

  class_again : (text : List ℕ) (w : Operands) (old : List PoolItem) (arg : Arg) → IsOne 2 Index text w → NamesOperands old rows pc op forms.Class w arg → IsAgainAt (length text) forms.Class (One 2 Index) arg
  class_again text w old arg h named =
      let n = subst (λ (v : Operands). NamesOperands old rows pc op forms.Class v arg) h.made named in
      made_so (IsAgainAt (length text) forms.Class (One 2 Index)) arg (args.Class n.0) n.1
      (λ at. record {
        operands = Index index;
        fits = tt;
        size_is = two_size h.number text h.spelled;
        laid = record { number = index; fits = at.small; spelled = refl; made = refl };
        allowed = refl;
        names = λ more others on. (n.0, refl, type_named (pool ++ more) index n.0 old h.number n.2 (later_at pool more index (args.Class n.0) at), n.3);
      })

  field_again : (text : List ℕ) (w : Operands) (old : List PoolItem) (arg : Arg) → IsOne 2 Index text w → NamesOperands old rows pc op forms.Field w arg → IsAgainAt (length text) forms.Field (One 2 Index) arg
  field_again text w old arg h named =
      let n = subst (λ (v : Operands). NamesOperands old rows pc op forms.Field v arg) h.made named in
      made_so (IsAgainAt (length text) forms.Field (One 2 Index)) arg (args.Field n.0) n.1
      (λ at. record {
        operands = Index index;
        fits = tt;
        size_is = two_size h.number text h.spelled;
        laid = record { number = index; fits = at.small; spelled = refl; made = refl };
        allowed = refl;
        names = λ more others on. (n.0, refl, field_named (pool ++ more) index n.0 old h.number n.2 (later_at pool more index (args.Field n.0) at));
      })

  method_again : (text : List ℕ) (w : Operands) (old : List PoolItem) (arg : Arg) → IsOne 2 Index text w → NamesOperands old rows pc op forms.Method w arg → IsAgainAt (length text) forms.Method (One 2 Index) arg
  method_again text w old arg h named =
      let n = subst (λ (v : Operands). NamesOperands old rows pc op forms.Method v arg) h.made named in
      let alone : number_text 2 index ++ [] ≡ number_text 2 index = append-nil (number_text 2 index) in
      made_so (IsAgainAt (length text) forms.Method (One 2 Index)) arg (args.Method n.0) n.1
      (λ at. record {
        operands = Index index;
        fits = tt;
        size_is = ap length alone ∙ two_size h.number text h.spelled;
        laid = record { number = index; fits = at.small; spelled = alone; made = refl };
        allowed = refl;
        names = λ more others on. (n.0, refl, method_named (pool ++ more) index n.0 old h.number n.2 (later_at pool more index (args.Method n.0) at), n.3);
      })

  called_again : (text : List ℕ) (w : Operands) (old : List PoolItem) (arg : Arg) → AreThree 2 1 1 Called text w → NamesOperands old rows pc op forms.InterfaceMethod w arg → IsAgainAt (length text) forms.InterfaceMethod (Three 2 1 1 Called) arg
  called_again text w old arg h named =
      let n = subst (λ (v : Operands). NamesOperands old rows pc op forms.InterfaceMethod v arg) h.made named in
      let behind : number_text 1 (words_of n.0.desc true) ++ number_text 1 0 ≡ number_text 1 h.second ++ number_text 1 h.third =
      ap (λ (k : ℕ). number_text 1 k ++ number_text 1 0) (sym n.3.words_are) ∙ ap (λ (k : ℕ). number_text 1 h.second ++ number_text 1 k) (sym n.3.last_is) in
      let spelled : number_text 2 index ++ (number_text 1 (words_of n.0.desc true) ++ number_text 1 0) ≡ number_text 2 index ++ (number_text 1 h.second ++ number_text 1 h.third) =
      ap (λ (t : List ℕ). number_text 2 index ++ t) behind in
      made_so (IsAgainAt (length text) forms.InterfaceMethod (Three 2 1 1 Called)) arg (args.Method n.0) n.1
      (λ at. record {
        operands = Called index h.second h.third;
        fits = subst (λ (k : ℕ). k < 256) n.3.words_are h.second_fits;
        size_is =
            ap length spelled ∙ length-append (number_text 2 index) (number_text 1 h.second ++ number_text 1 h.third)
            ∙ ap (λ (k : ℕ). k + length (number_text 1 h.second ++ number_text 1 h.third)) (length-number_text 2 index ∙ sym (length-number_text 2 h.first))
            ∙ sym (length-append (number_text 2 h.first) (number_text 1 h.second ++ number_text 1 h.third)) ∙ ap length (sym h.spelled);
        laid = record {
          first = index;
          second = h.second;
          third = h.third;
          first_fits = at.small;
          second_fits = h.second_fits;
          third_fits = h.third_fits;
          spelled = spelled;
          made = refl;
        };
        allowed = refl;
        names = λ more others on. (n.0, refl, method_named (pool ++ more) index n.0 old h.first n.2 (later_at pool more index (args.Method n.0) at), n.3);
      })

  multi_again : (text : List ℕ) (w : Operands) (old : List PoolItem) (arg : Arg) → AreTwo 2 1 Multi text w → is_allowed w ≡ true → NamesOperands old rows pc op forms.Multi w arg → IsAgainAt (length text) forms.Multi (Two 2 1 Multi) arg
  multi_again text w old arg h allowed named =
      let n = subst (λ (v : Operands). NamesOperands old rows pc op forms.Multi v arg) h.made named in
      made_so (IsAgainAt (length text) forms.Multi (Two 2 1 Multi)) arg (args.Multi n.0 h.second) n.1
      (λ at. record {
        operands = Multi index h.second;
        fits = tt;
        size_is =
            length-append (number_text 2 index) (number_text 1 h.second)
            ∙ ap (λ (k : ℕ). k + length (number_text 1 h.second)) (length-number_text 2 index ∙ sym (length-number_text 2 h.first))
            ∙ sym (length-append (number_text 2 h.first) (number_text 1 h.second)) ∙ ap length (sym h.spelled);
        laid = record { first = index; second = h.second; first_fits = at.small; second_fits = h.second_fits; spelled = refl; made = refl };
        allowed = subst (λ (v : Operands). is_allowed v ≡ true) h.made allowed;
        names = λ more others on. (n.0, refl, type_named (pool ++ more) index n.0 old h.first n.2 (later_at pool more index (args.Multi n.0 h.second) at), n.3);
      })

  site_again : (text : List ℕ) (w : Operands) (old : List PoolItem) (arg : Arg) → AreThree 2 1 1 Site text w → NamesOperands old rows pc op forms.Dynamic w arg → IsAgainAt (length text) forms.Dynamic (Three 2 1 1 Site) arg
  site_again text w old arg h named =
      let n = subst (λ (v : Operands). NamesOperands old rows pc op forms.Dynamic v arg) h.made named in
      made_so (IsAgainAt (length text) forms.Dynamic (Three 2 1 1 Site)) arg args.Dynamic n.3 (λ at. absurd (let left : is_left_out args.Dynamic ≡ false = at.whole in cc))

  -- ---- operands of each layout

  abbrev pub Again : Form → Bool → Layout → Type 0
  Again form wide layout =
      (text : List ℕ) (w : Operands) (old : List PoolItem) (arg : Arg) → AreOperands layout (pc + 1) text w → is_allowed w ≡ true → NamesOperands old rows pc op form w arg
      → (form ≡ forms.Load1 → index < 256) → IsAt pool index arg → IsAgain rows pool index pc op (length text) form wide layout arg

  by_form : (form : Form) (layout : Layout) → layout_of form ≡ Some layout → Again form false layout
  by_form forms.Nothing layout e = given_as (Again forms.Nothing false) Alone layout e (λ text w old arg h allowed named near at. nothing_again forms.Nothing false text w old arg h named)
  by_form forms.Local layout e = given_as (Again forms.Local false) (One 1 Local) layout e (λ text w old arg h allowed named near at. local_again text w old arg h named)
  by_form forms.Small1 layout e = given_as (Again forms.Small1 false) (One 1 (λ number. Small (s1 number))) layout e (λ text w old arg h allowed named near at. small1_again text w old arg h named)
  by_form forms.Small2 layout e = given_as (Again forms.Small2 false) (One 2 (λ number. Small (s2 number))) layout e (λ text w old arg h allowed named near at. small2_again text w old arg h named)
  by_form forms.Inc layout e = given_as (Again forms.Inc false) (Two 1 1 (λ local by. Inc local (s1 by))) layout e (λ text w old arg h allowed named near at. inc_again text w old arg h named)
  by_form forms.Load1 layout e = given_as (Again forms.Load1 false) (One 1 Index) layout e (λ text w old arg h allowed named near at. load1_again text w old arg (near refl) h named at)
  by_form forms.Load2 layout e = given_as (Again forms.Load2 false) (One 2 Index) layout e (λ text w old arg h allowed named near at. load2_again text w old arg h named at)
  by_form forms.LoadTwo layout e = given_as (Again forms.LoadTwo false) (One 2 Index) layout e (λ text w old arg h allowed named near at. load_two_again text w old arg h named at)
  by_form forms.Class layout e = given_as (Again forms.Class false) (One 2 Index) layout e (λ text w old arg h allowed named near at. class_again text w old arg h named at)
  by_form forms.Field layout e = given_as (Again forms.Field false) (One 2 Index) layout e (λ text w old arg h allowed named near at. field_again text w old arg h named at)
  by_form forms.Method layout e = given_as (Again forms.Method false) (One 2 Index) layout e (λ text w old arg h allowed named near at. method_again text w old arg h named at)
  by_form forms.InterfaceMethod layout e = given_as (Again forms.InterfaceMethod false) (Three 2 1 1 Called) layout e (λ text w old arg h allowed named near at. called_again text w old arg h named at)
  by_form forms.Dynamic layout e = given_as (Again forms.Dynamic false) (Three 2 1 1 Site) layout e (λ text w old arg h allowed named near at. site_again text w old arg h named at)
  by_form forms.NewPrim layout e = given_as (Again forms.NewPrim false) (One 1 NewPrim) layout e (λ text w old arg h allowed named near at. prim_again text w old arg h allowed named)
  by_form forms.Multi layout e = given_as (Again forms.Multi false) (Two 2 1 Multi) layout e (λ text w old arg h allowed named near at. multi_again text w old arg h allowed named at)
  by_form forms.Jump2 layout e = given_as (Again forms.Jump2 false) (One 2 (λ offset. Jump (s2 offset))) layout e (λ text w old arg h allowed named near at. jump2_again text w old arg h named)
  by_form forms.Jump4 layout e = given_as (Again forms.Jump4 false) (One 4 (λ offset. Jump (s4 offset))) layout e (λ text w old arg h allowed named near at. jump4_again text w old arg h named)
  by_form forms.TableSwitch layout e = given_as (Again forms.TableSwitch false) TableSwitch layout e (λ text w old arg h allowed named near at. table_again text w old arg h named)
  by_form forms.LookupSwitch layout e = given_as (Again forms.LookupSwitch false) LookupSwitch layout e (λ text w old arg h allowed named near at. lookup_again text w old arg h allowed named)
  by_form forms.Wide layout e = absurd cc

  -- a choice of a layout
  chosen_is : (b : Bool) (made layout : Layout) → cond b None (Some made) ≡ Some layout → made ≡ layout
  chosen_is true made layout e = absurd cc
  chosen_is false made layout e = cc

  by_wide_form : (form : Form) (layout : Layout) → wide_layout_of op form ≡ Some layout → Again form true layout
  by_wide_form forms.Local layout e = subst (Again forms.Local true) (chosen_is (eqb op 169) (One 2 Local) layout e) (λ text w old arg h allowed named near at. wide_local_again text w old arg h named)
  by_wide_form forms.Inc layout e = given_as (Again forms.Inc true) (Two 2 2 (λ local by. Inc local (s2 by))) layout e (λ text w old arg h allowed named near at. wide_inc_again text w old arg h named)
  by_wide_form _ layout e = absurd cc

  -- operands of a form are written again
  pub again : (form : Form) (wide : Bool) (layout : Layout) → layout_by wide op form ≡ Some layout → Again form wide layout
  again form false layout e = by_form form layout e
  again form true layout e = by_wide_form form layout e
