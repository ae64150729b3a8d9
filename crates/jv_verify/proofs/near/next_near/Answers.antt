use Rattle.jv_verify.proofs.Places.{next_is_near}
use Rattle.jv_verify.proofs.near.next_near.Goals as goal

pub returns-then-is_next-clause-least : goal.returns-then-is_next-clause-least
returns-then-is_next-clause-least c =
    let own = rw c.as_slice.ensures at c.in-Some.ensures in
    let behind = rw c.as_slice-2.ensures at c.in-Some-insn_behind.ensures in
    let both = c.is_next.ensures.0 c.if-is_next.true in
    next_is_near c.args.body.now.insns c.args.place behind.0 c.args.pc c.in-Some.own.now c.in-Some-insn_behind.next.now c.args.body.now.rising own behind.1 behind.2 both.0 both.1
