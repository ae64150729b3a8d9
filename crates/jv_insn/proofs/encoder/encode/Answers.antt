-- Each turn of the loop is one instruction.
use Rattle.std.proofs.Common.{List, ℕ, length, Err, sym, ap, subst, ◌∙◌}
use Rattle.std.proofs.lemmas.Result.{err_from_is_err_and}
use Rattle.jv_insn.specs.declared.fault.EncodeRefusal.TheVariants.{PoolFull}
use Rattle.jv_insn.specs.Encoding.{DecodesTo}
use Rattle.jv_insn.proofs.EncodingLoop.{may_later, encoded_more, encoded_full, encoded_whole, lent_at, lent_whole, passed_on}
use Rattle.jv_insn.proofs.encoder.encode.Goals as goal

pub put_insn-requires : goal.put_insn-requires
put_insn-requires c =
    let body = c.args.body.now in
    let at = lent_at c.as_slice-row-items.result.now body.insns c.loop-row.row-index c.row-item.result c.as_slice-row-items.ensures c.loop-row-test.true c.row-item.is in
    may_later c.args.pool.now c.loop-row.pool body c.loop-row.row-index c.row-item.result c.requires at.0 at.1 c.loop-row.invariant.grows

pub returns-in_err-put_insn-clause-full : goal.returns-in_err-put_insn-clause-full
returns-in_err-put_insn-clause-full c = λ e.
    let insns = c.args.body.now.insns in
    let at = lent_at c.as_slice-row-items.result.now insns c.loop-row.row-index c.row-item.result c.as_slice-row-items.ensures c.loop-row-test.true c.row-item.is in
    let p = err_from_is_err_and c.from_residual.result c.from_residual.ensures.1 in
    let full = c.in_err-put_insn.ensures.full (ap Err (passed_on c.from_residual.result p.0 c.in_err-put_insn.field-0.0 PoolFull p.1 p.2 e)) in
    encoded_full c.args.pool.now c.loop-row.pool insns c.loop-row.row-index c.row-item.result c.loop-row.writer at.0 at.1 c.loop-row.invariant full

pub loop-row-preserved : goal.loop-row-preserved
loop-row-preserved c =
    let body = c.args.body.now in
    let at = lent_at c.as_slice-row-items.result.now body.insns c.loop-row.row-index c.row-item.result c.as_slice-row-items.ensures c.loop-row-test.true c.row-item.is in
    let e = c.in_ok-put_insn.ensures in
    encoded_more c.args.pool.now c.loop-row.pool c.put_insn.new.pool body c.loop-row.row-index c.row-item.result c.loop-row.writer c.put_insn.new.writer c.requires at.0 at.1 c.loop-row.invariant e.added e.small e.text

pub returns-clause-decodes : goal.returns-clause-decodes
returns-clause-decodes c =
    let le = lent_whole c.as_slice-row-items.result.now c.args.body.now.insns c.loop-row.row-index c.as_slice-row-items.ensures c.loop-row-test.false in
    let w = encoded_whole c.args.pool.now c.loop-row.pool c.args.body.now c.loop-row.row-index c.loop-row.writer c.requires le c.loop-row.invariant in
    subst (λ (code : List ℕ). DecodesTo c.loop-row.pool code c.args.body.now) (sym (c.done.ensures ∙ w.text)) w.again.decodes

pub returns-clause-text : goal.returns-clause-text
returns-clause-text c =
    let le = lent_whole c.as_slice-row-items.result.now c.args.body.now.insns c.loop-row.row-index c.as_slice-row-items.ensures c.loop-row-test.false in
    let w = encoded_whole c.args.pool.now c.loop-row.pool c.args.body.now c.loop-row.row-index c.loop-row.writer c.requires le c.loop-row.invariant in
    c.done.ensures ∙ w.text

pub returns-clause-length : goal.returns-clause-length
returns-clause-length c =
    let le = lent_whole c.as_slice-row-items.result.now c.args.body.now.insns c.loop-row.row-index c.as_slice-row-items.ensures c.loop-row-test.false in
    let w = encoded_whole c.args.pool.now c.loop-row.pool c.args.body.now c.loop-row.row-index c.loop-row.writer c.requires le c.loop-row.invariant in
    ap length (c.done.ensures ∙ w.text) ∙ w.again.size_is

pub returns-clause-added : goal.returns-clause-added
returns-clause-added c =
    let le = lent_whole c.as_slice-row-items.result.now c.args.body.now.insns c.loop-row.row-index c.as_slice-row-items.ensures c.loop-row-test.false in
    (encoded_whole c.args.pool.now c.loop-row.pool c.args.body.now c.loop-row.row-index c.loop-row.writer c.requires le c.loop-row.invariant).added
