-- An instruction that is read is spelled so, and what is spelled so is read.
use Rattle.std.proofs.Common.{◌≡◌, ℕ, ◌+◌, Bool, true, false, cond, eqb, List, [], ◌∷◌, ◌++◌, Option, Some, None, refl, sym, ap, subst, ◌∙◌, append_assoc}
use Rattle.std.specs.Prelude.{option_and_then}
use Rattle.std.proofs.lemmas.Bool.{eqb-true}
use Rattle.jv_table.specs.CodeRows.{OpForm, opcode_rows}
use Rattle.jv_table.specs.declared.code_tables.Form.{Form}
use Rattle.jv_table.specs.declared.code_tables.Form.TheVariants as forms
use Rattle.jv_read.specs.Reading.{◌>>=◌, u1_at}
use Rattle.jv_read.proofs.Fronts.{bind_some, bind_is, given_as, some_is, past_true, u1_takes, u1_again}
use Rattle.jv_insn.specs.declared.written.Operands.{Operands}
use Rattle.jv_insn.specs.declared.written.Operands.TheVariants.{Nothing, Local, Inc}
use Rattle.jv_insn.specs.declared.written.Written.{Written}
use Rattle.jv_insn.specs.Effects.{op_row}
use Rattle.jv_insn.specs.Layouts.{Layout, Alone, One, Two, Three, TableSwitch, LookupSwitch, s2, layout_of, wide_layout_of, layout_for, AreOperands, is_allowed, wide_op, head_text, BeginsWithInsn}
use Rattle.jv_insn.specs.Steps.Reading.{operands_at, laid_at, insn_of, plain_at, wide_at, written_at}
use Rattle.jv_insn.proofs.Spelled.{Takes, one_takes, one_again, two_take, two_again, three_take, three_again}
use Rattle.jv_insn.proofs.SpelledSwitches.{table_takes, table_again, lookup_takes, lookup_again}

-- ---- operands

pub operands_take : (layout : Layout) (at : ℕ) (bytes : List ℕ) (x : Operands × List ℕ) → operands_at layout at bytes ≡ Some x → Takes (AreOperands layout at) bytes x
unfolding operands_at
operands_take Alone at bytes x e =
    let made : Operands × List ℕ = (Nothing, bytes) in
    given_as (λ (y : Operands × List ℕ). Takes (AreOperands Alone at) bytes y) made x e (record { front = []; holds = (refl, refl); parts = refl })
operands_take (One n make) at bytes x e = let t = one_takes n make bytes x e in record { front = t.front; holds = t.holds; parts = t.parts }
operands_take (Two m n make) at bytes x e = let t = two_take m n make bytes x e in record { front = t.front; holds = t.holds; parts = t.parts }
operands_take (Three m n k make) at bytes x e = let t = three_take m n k make bytes x e in record { front = t.front; holds = t.holds; parts = t.parts }
operands_take TableSwitch at bytes x e = let t = table_takes at bytes x e in record { front = t.front; holds = t.holds; parts = t.parts }
operands_take LookupSwitch at bytes x e = let t = lookup_takes at bytes x e in record { front = t.front; holds = t.holds; parts = t.parts }

pub operands_again : (layout : Layout) (at : ℕ) (text : List ℕ) (operands : Operands) (rest : List ℕ) → AreOperands layout at text operands → operands_at layout at (text ++ rest) ≡ Some (operands, rest)
unfolding operands_at
operands_again Alone at text operands rest h = rw (h.0, h.1) refl
operands_again (One n make) at text operands rest h = one_again n make text operands rest h
operands_again (Two m n make) at text operands rest h = two_again m n make text operands rest h
operands_again (Three m n k make) at text operands rest h = three_again m n k make text operands rest h
operands_again TableSwitch at text operands rest h = table_again at text operands rest h
operands_again LookupSwitch at text operands rest h = lookup_again at text operands rest h

-- a layout that doesn't ask where it begins
is_anywhere : Layout → Bool
is_anywhere TableSwitch = false
is_anywhere LookupSwitch = false
is_anywhere _ = true

moved : (layout : Layout) (a b : ℕ) (text : List ℕ) (operands : Operands) → is_anywhere layout ≡ true → AreOperands layout a text operands → AreOperands layout b text operands
unfolding is_anywhere
moved Alone a b text operands e h = h
moved (One n make) a b text operands e h = h
moved (Two m n make) a b text operands e h = h
moved (Three m n k make) a b text operands e h = h
moved TableSwitch a b text operands e h = absurd cc
moved LookupSwitch a b text operands e h = absurd cc

-- a choice of a layout
chosen_is : (b : Bool) (made layout : Layout) → cond b None (Some made) ≡ Some layout → made ≡ layout
chosen_is true made layout e = absurd cc
chosen_is false made layout e = cc

-- no layout under wide asks where it begins
wide_anywhere : (op : ℕ) (form : Form) (layout : Layout) → wide_layout_of op form ≡ Some layout → is_anywhere layout ≡ true
unfolding is_anywhere
wide_anywhere op forms.Local layout e = subst (λ (l : Layout). is_anywhere l ≡ true) (chosen_is (eqb op 169) (One 2 Local) layout e) refl
wide_anywhere op forms.Inc layout e = subst (λ (l : Layout). is_anywhere l ≡ true) (some_is (Two 2 2 (λ local by. Inc local (s2 by))) layout e) refl
wide_anywhere op _ layout e = absurd cc

-- ---- with a head

-- a step that gave a value
and_then_some : {A B : Type 0} (f : A → Option B) (o : Option A) (y : B) → option_and_then f o ≡ Some y → (x : A) × (o ≡ Some x) × (f x ≡ Some y)
and_then_some f None y e = absurd cc
and_then_some f (Some x) y e = (x, refl, e)

and_then_is : {A B : Type 0} (f : A → Option B) (o : Option A) (x : A) → o ≡ Some x → option_and_then f o ≡ f x
and_then_is {A} {B} f o x e = ap (λ (p : Option A). option_and_then f p) e

-- a layout that was read by is there
laid_some : (layout : Option Layout) (at : ℕ) (bytes : List ℕ) (x : Operands × List ℕ) → laid_at layout at bytes ≡ Some x → (l : Layout) × (layout ≡ Some l) × (operands_at l at bytes ≡ Some x)
unfolding laid_at
laid_some None at bytes x e = absurd cc
laid_some (Some layout) at bytes x e = (layout, refl, e)

laid_is : (layout : Option Layout) (l : Layout) (at : ℕ) (bytes : List ℕ) → layout ≡ Some l → laid_at layout at bytes ≡ operands_at l at bytes
unfolding laid_at
laid_is layout l at bytes e = rw e refl

-- an instruction of these operands
abbrev with_operands : Bool → ℕ → Operands × List ℕ → Written × List ℕ
with_operands wide op read = (record { op = op; wide = wide; operands = read.0 }, read.1)

insn_some : (wide : Bool) (op : ℕ) (read : Option (Operands × List ℕ)) (x : Written × List ℕ) → insn_of wide op read ≡ Some x
    → (y : Operands × List ℕ) × (read ≡ Some y) × (is_allowed y.0 ≡ true) × (Some (with_operands wide op y) ≡ Some x)
unfolding insn_of
insn_some wide op read x e =
    let a = bind_some read (λ operands. cond (is_allowed operands.0) (Some (with_operands wide op operands)) None) x e in
    let g = past_true (is_allowed a.0.0) (Some (with_operands wide op a.0)) x a.2 in
    (a.0, a.1, g.0, g.1)

insn_is : (wide : Bool) (op : ℕ) (operands : Operands) (rest : List ℕ) (read : Option (Operands × List ℕ)) → read ≡ Some (operands, rest) → is_allowed operands ≡ true
    → insn_of wide op read ≡ Some (with_operands wide op (operands, rest))
unfolding insn_of
insn_is wide op operands rest read e allowed = rw (e, allowed) refl

-- what was read behind a head is an instruction
headed : (wide : Bool) (op pc at : ℕ) (layout : Option Layout) (bytes : List ℕ) (x : Written × List ℕ) → layout_for wide op ≡ layout
    → ((l : Layout) (text : List ℕ) (o : Operands) → layout ≡ Some l → AreOperands l at text o → AreOperands l (pc + 1) text o)
    → insn_of wide op (laid_at layout at bytes) ≡ Some x → BeginsWithInsn pc (head_text wide op ++ bytes) x.0 x.1
headed wide op pc at layout bytes x known move e =
    let s = insn_some wide op (laid_at layout at bytes) x e in
    let l = laid_some layout at bytes s.0 s.1 in
    let t = operands_take l.0 at bytes s.0 l.2 in
    given_as (λ (y : Written × List ℕ). BeginsWithInsn pc (head_text wide op ++ bytes) y.0 y.1) (with_operands wide op s.0) x s.3
    (record {
      front = head_text wide op ++ t.front;
      is_text = record { layout = l.0; known = known ∙ l.1; operands = t.front; spelled = refl; laid = move l.0 t.front s.0.0 l.1 t.holds; allowed = s.2 };
      parts = ap (λ (r : List ℕ). head_text wide op ++ r) t.parts ∙ sym (append_assoc (head_text wide op) t.front s.0.1);
    })

plain_takes : (pc op : ℕ) (bytes : List ℕ) (x : Written × List ℕ) → plain_at pc op bytes ≡ Some x → BeginsWithInsn pc (op ∷ bytes) x.0 x.1
unfolding plain_at
plain_takes pc op bytes x e =
    let row = bind_some (op_row op) (λ row. insn_of false op (laid_at (layout_of row.form) (pc + 1) bytes)) x e in
    headed false op pc (pc + 1) (layout_of row.0.form) bytes x (and_then_is (λ (r : OpForm). layout_of r.form) (op_row op) row.0 row.1) (λ l text o is h. h) row.2

wide_takes : (pc : ℕ) (bytes : List ℕ) (x : Written × List ℕ) → wide_at bytes ≡ Some x → BeginsWithInsn pc (wide_op ∷ bytes) x.0 x.1
unfolding wide_at
wide_takes pc bytes x e =
    let o = bind_some (u1_at bytes) (λ op. op_row op.0 >>= λ row. insn_of true op.0 (laid_at (wide_layout_of op.0 row.form) 0 op.1)) x e in
    let row = bind_some (op_row o.0.0) (λ row. insn_of true o.0.0 (laid_at (wide_layout_of o.0.0 row.form) 0 o.0.1)) x o.2 in
    let h = headed true o.0.0 pc 0 (wide_layout_of o.0.0 row.0.form) o.0.1 x (and_then_is (λ (r : OpForm). wide_layout_of o.0.0 r.form) (op_row o.0.0) row.0 row.1)
    (λ l text operands is h. moved l 0 (pc + 1) text operands (wide_anywhere o.0.0 row.0.form l is) h) row.2 in
    subst (λ (b : List ℕ). BeginsWithInsn pc (wide_op ∷ b) x.0 x.1) (sym (u1_takes bytes o.0 o.1)) h

pub written_takes : (pc : ℕ) (bytes : List ℕ) (x : Written × List ℕ) → written_at pc bytes ≡ Some x → BeginsWithInsn pc bytes x.0 x.1
unfolding written_at
written_takes pc bytes x e =
    let o = bind_some (u1_at bytes) (λ op. cond (eqb op.0 wide_op) (wide_at op.1) (plain_at pc op.0 op.1)) x e in
    subst (λ (b : List ℕ). BeginsWithInsn pc b x.0 x.1) (sym (u1_takes bytes o.0 o.1)) (by o.0.0 o.0.1 (eqb o.0.0 wide_op) refl o.2)
  where
    by : (op : ℕ) (rest : List ℕ) (b : Bool) → eqb op wide_op ≡ b → cond b (wide_at rest) (plain_at pc op rest) ≡ Some x → BeginsWithInsn pc (op ∷ rest) x.0 x.1
    by op rest true is e = subst (λ (o : ℕ). BeginsWithInsn pc (o ∷ rest) x.0 x.1) (sym (eqb-true op wide_op is)) (wide_takes pc rest x e)
    by op rest false is e = plain_takes pc op rest x e

-- ---- and again

-- wide alone is no instruction
wide_has_none : layout_for false wide_op ≡ None
unfolding opcode_rows
wide_has_none = refl

not_wide : (op : ℕ) (layout : Layout) → layout_for false op ≡ Some layout → eqb op wide_op ≡ false
not_wide op layout e = by (eqb op wide_op) refl
  where
    by : (b : Bool) → eqb op wide_op ≡ b → eqb op wide_op ≡ false
    by true is = let none : layout_for false op ≡ None = ap (layout_for false) (eqb-true op wide_op is) ∙ wide_has_none in absurd cc
    by false is = is

plain_again : (pc op : ℕ) (layout : Layout) (text rest : List ℕ) (operands : Operands) → layout_for false op ≡ Some layout → AreOperands layout (pc + 1) text operands → is_allowed operands ≡ true
    → plain_at pc op (text ++ rest) ≡ Some (with_operands false op (operands, rest))
unfolding plain_at
plain_again pc op layout text rest operands known laid allowed =
    let row = and_then_some (λ (r : OpForm). layout_of r.form) (op_row op) layout known in
    bind_is (op_row op) (λ r. insn_of false op (laid_at (layout_of r.form) (pc + 1) (text ++ rest))) row.0 row.1
    ∙ insn_is false op operands rest (laid_at (layout_of row.0.form) (pc + 1) (text ++ rest)) (laid_is (layout_of row.0.form) layout (pc + 1) (text ++ rest) row.2 ∙ operands_again layout (pc + 1) text operands rest laid) allowed

wide_again : (pc op : ℕ) (layout : Layout) (text rest : List ℕ) (operands : Operands) → layout_for true op ≡ Some layout → AreOperands layout (pc + 1) text operands → is_allowed operands ≡ true
    → wide_at (op ∷ (text ++ rest)) ≡ Some (with_operands true op (operands, rest))
unfolding wide_at
wide_again pc op layout text rest operands known laid allowed =
    let row = and_then_some (λ (r : OpForm). wide_layout_of op r.form) (op_row op) layout known in
    let there = moved layout (pc + 1) 0 text operands (wide_anywhere op row.0.form layout row.2) laid in
    bind_is (u1_at (op ∷ (text ++ rest))) (λ o. op_row o.0 >>= λ r. insn_of true o.0 (laid_at (wide_layout_of o.0 r.form) 0 o.1)) (op, text ++ rest) (u1_again op (text ++ rest))
    ∙ bind_is (op_row op) (λ r. insn_of true op (laid_at (wide_layout_of op r.form) 0 (text ++ rest))) row.0 row.1
    ∙ insn_is true op operands rest (laid_at (wide_layout_of op row.0.form) 0 (text ++ rest)) (laid_is (wide_layout_of op row.0.form) layout 0 (text ++ rest) row.2 ∙ operands_again layout 0 text operands rest there) allowed

again_by : (wide : Bool) (op pc : ℕ) (layout : Layout) (text rest : List ℕ) (operands : Operands) → layout_for wide op ≡ Some layout → AreOperands layout (pc + 1) text operands → is_allowed operands ≡ true
    → written_at pc (head_text wide op ++ (text ++ rest)) ≡ Some (with_operands wide op (operands, rest))
unfolding written_at
again_by false op pc layout text rest operands known laid allowed =
    bind_is (u1_at (op ∷ (text ++ rest))) (λ o. cond (eqb o.0 wide_op) (wide_at o.1) (plain_at pc o.0 o.1)) (op, text ++ rest) (u1_again op (text ++ rest))
    ∙ ap (λ (b : Bool). cond b (wide_at (text ++ rest)) (plain_at pc op (text ++ rest))) (not_wide op layout known)
    ∙ plain_again pc op layout text rest operands known laid allowed
again_by true op pc layout text rest operands known laid allowed =
    bind_is (u1_at (wide_op ∷ (op ∷ (text ++ rest)))) (λ o. cond (eqb o.0 wide_op) (wide_at o.1) (plain_at pc o.0 o.1)) (wide_op, op ∷ (text ++ rest)) (u1_again wide_op (op ∷ (text ++ rest)))
    ∙ wide_again pc op layout text rest operands known laid allowed

pub written_again : (pc : ℕ) (bytes : List ℕ) (written : Written) (rest : List ℕ) → BeginsWithInsn pc bytes written rest → written_at pc bytes ≡ Some (written, rest)
written_again pc bytes written rest b =
    let t = b.is_text in
    let whole : bytes ≡ head_text written.wide written.op ++ (t.operands ++ rest) = b.parts ∙ ap (λ (f : List ℕ). f ++ rest) t.spelled ∙ append_assoc (head_text written.wide written.op) t.operands rest in
    ap (written_at pc) whole ∙ again_by written.wide written.op pc t.layout t.operands rest written.operands t.known t.laid t.allowed
