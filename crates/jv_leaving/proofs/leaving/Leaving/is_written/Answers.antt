use Rattle.std.proofs.Common.{◌≡◌, true, sym, ◌∙◌}
use Rattle.jv_insn.specs.Effects.{is_store}
use Rattle.jv_leaving.proofs.Written.{store_writes}
use Rattle.jv_leaving.proofs.leaving.Leaving.is_written.Goals as goal

pub returns-then-is_store : goal.returns-then-is_store
returns-then-is_store c =
    let insn = c.args.self.now.insn.now in
    let store : is_store insn.op ≡ true = sym c.is_store.ensures ∙ c.if-is_store.true in
    store_writes insn c.as_slice.result.now c.local_of-first.result c.args.local c.spans.result store (c.as_slice.ensures.value ∙ c.args.self.now.cells_taken_here) c.local_of-first.ensures
    c.spans.ensures
