-- A search by halves finds the row of an offset.
use Rattle.std.proofs.Common.{rules, sym, refl, ℕ, Option, Some, None, ◌≡◌, true, false, is_some}
use Rattle.std.proofs.lemmas.Cmp.{ranked}
use Rattle.std.proofs.lemmas.List.Sorted.{answers_always}
use Rattle.jv_types.proofs.Starts.{at_offset-at, search_none}
use Rattle.jv_insn.specs.declared.written.Written.{Written}
use Rattle.jv_insn.specs.declared.written.Operands.TheVariants.{Nothing}
use Rattle.jv_insn.proofs.places.is_start.Goals as goal

found : {A : Type 0} (o : Option A) (x : A) → o ≡ Some x → true ≡ is_some o
found o x e = rw e refl

missing : {A : Type 0} (o : Option A) → o ≡ None → false ≡ is_some o
missing o e = rw e refl

-- any row
any : ℕ × Written
any = (0, record { op = 0; wide = false; operands = Nothing })

pub returns-in-Ok : goal.returns-in-Ok
returns-in-Ok c =
    let facts = c.in-Ok.ensures in
    let by_start = facts.position (λ row. row.0) (answers_always _ _ _ (λ f a r g called. search rules)) in
    found _ _ (at_offset-at 0 c.args.pc c.args.rows.now c.requires.rises c.in-Ok.field-0 any facts.bound (ranked _ c.args.pc _ (sym (by_start any))))

pub returns-in-Err : goal.returns-in-Err
returns-in-Err c =
    let facts = c.in-Err.ensures in
    let by_start = facts.position (λ row. row.0) (answers_always _ _ _ (λ f a r g called. search rules)) in
    missing _ (search_none 0 c.args.pc c.in-Err.field-0 c.args.rows.now c.requires.rises by_start facts.bound)
