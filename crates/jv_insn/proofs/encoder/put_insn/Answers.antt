-- An instruction that is written.
use Rattle.std.proofs.Common.{◌≡◌, ◌<◌, ◌++◌, ℕ, List, Some, sym, ap, subst, ◌∙◌, append_assoc, arith}
use Rattle.jv_table.specs.declared.code_tables.Form.{Form}
use Rattle.jv_insn.specs.Encoding.{form_of, operand_text}
use Rattle.jv_insn.specs.Layouts.{head_text}
use Rattle.jv_insn.proofs.Placed.{arg_put, index_is}
use Rattle.jv_insn.specs.Steps.Writing.{FitsArg}
use Rattle.jv_insn.proofs.Encoded.{insn_again, near_index}
use Rattle.jv_insn.proofs.encoder.put_insn.Goals as goal

pub put_arg-requires : goal.put_arg-requires
put_arg-requires c =
    let insn = c.args.insn.now in
    let new = c.index_of.new.pool in
    let index = c.in_ok-index.index in
    let put = arg_put insn.arg c.args.pool.now (index, new) c.in_ok-index.ensures.put in
    let s = c.requires.spelled in
    let small : index < 65536 = omega arith in
    let a = insn_again s.pool s.max_locals s.rows new c.args.pc s.written s.text insn s.is_insn s.is_text
    (record { index = index; small = small; whole = c.requires.whole; placed = put.stands; near = near_index c.args.pool.now new insn index put.grows c.requires.near put.stands }) in
    subst (λ (f : Form). FitsArg f insn.wide c.args.pc insn.arg index) (sym c.form_of.ensures) a.fits

pub returns-clause-added : goal.returns-clause-added
returns-clause-added c =
    let put = arg_put c.args.insn.now.arg c.args.pool.now (c.in_ok-index.index, c.index_of.new.pool) c.in_ok-index.ensures.put in
    let index = index_is c.index_of.new.pool c.args.insn.now.arg c.in_ok-index.index put.stands in
    c.in_ok-index.ensures.put ∙ ap (λ (k : ℕ). Some (k, c.index_of.new.pool)) (sym index)

pub returns-clause-text : goal.returns-clause-text
returns-clause-text c =
    let insn = c.args.insn.now in
    let put = arg_put insn.arg c.args.pool.now (c.in_ok-index.index, c.index_of.new.pool) c.in_ok-index.ensures.put in
    let index = index_is c.index_of.new.pool insn.arg c.in_ok-index.index put.stands in
    let head = head_text insn.wide insn.op in
    let behind : c.put_arg.new.writer ≡ c.put_head.new.writer ++ operand_text c.form_of.result insn.wide c.args.pc insn.arg c.in_ok-index.index = c.in_ok-put_arg.ensures in
    let before : c.put_head.new.writer ≡ c.args.writer.now ++ head = c.in_ok-put_head.ensures in
    behind
    ∙ ap (λ (w : List ℕ). w ++ operand_text c.form_of.result insn.wide c.args.pc insn.arg c.in_ok-index.index) before
    ∙ append_assoc c.args.writer.now head (operand_text c.form_of.result insn.wide c.args.pc insn.arg c.in_ok-index.index)
    ∙ ap (λ (f : Form). c.args.writer.now ++ (head ++ operand_text f insn.wide c.args.pc insn.arg c.in_ok-index.index)) c.form_of.ensures
    ∙ ap (λ (k : ℕ). c.args.writer.now ++ (head ++ operand_text (form_of insn.op) insn.wide c.args.pc insn.arg k)) (sym index)

pub returns-clause-small : goal.returns-clause-small
returns-clause-small c =
    let put = arg_put c.args.insn.now.arg c.args.pool.now (c.in_ok-index.index, c.index_of.new.pool) c.in_ok-index.ensures.put in
    let index = index_is c.index_of.new.pool c.args.insn.now.arg c.in_ok-index.index put.stands in
    let small : c.in_ok-index.index < 65536 = omega arith in
    omega (arith, index, small)
