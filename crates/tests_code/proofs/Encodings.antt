-- What the tests find out of a body before they encode it.
use Rattle.std.proofs.Common.{◌≡◌, ℕ, ◌+◌, ◌<◌, ◌≤◌, true, false, leb, List, length, get_or, take, Option, Some, sym, subst, arith}
use Rattle.std.specs.Prelude.{IsSomeAnd}
use Rattle.std.specs.List.{AllByRecursion}
use Rattle.std.proofs.lemmas.Bool.Decides.{nat_tests}
use Rattle.std.proofs.lemmas.List.{take_all}
use Rattle.jv_types.specs.declared.instruction.Insn.{Insn}
use Rattle.jv_types.specs.declared.body.Body.{Body}
use Rattle.jv_pool.specs.declared.item.PoolItem.{PoolItem}
use Rattle.jv_insn.specs.Entries.{entry_of, put_named, Grows}
use Rattle.jv_insn.specs.Encoding.{IsSpelled, is_left_out, StandsNear, MayEncode}
use Rattle.jv_insn.proofs.Placed.{arg_put}
use Rattle.jv_insn.proofs.Encoded.{near_later}
use Rattle.jv_insn.proofs.SpelledBodies.{may_of_spelled}
use Rattle.jv_insn.proofs.EncodingLoop.{all_push, all_on, one_more}

-- the operands are whole, and a near constant stands near
abbrev pub MayBe : List PoolItem → ℕ × Insn → Type 0
MayBe pool row = (is_left_out row.1.arg ≡ false) × StandsNear pool row.1

-- a constant that was added near stands near
pub near_put : (old new : List PoolItem) (insn : Insn) (index : ℕ) → put_named (entry_of insn.arg) old ≡ Some (index, new) → leb index 255 ≡ true → StandsNear new insn
near_put old new insn index put low is =
    let p = arg_put insn.arg old (index, new) put in
    let le : index ≤ 255 = grind (arith, nat_tests) in
    subst (λ (o : Option ℕ). IsSomeAnd o (λ i. i ≤ 255)) (sym p.stands) le

pub may_more : (now new : List PoolItem) (items insns : List (ℕ × Insn)) (i : ℕ) (row : ℕ × Insn) → items ≡ insns → i < length items → row ≡ get_or items i row → Grows now new → AllByRecursion (MayBe now) (take i insns)
    → is_left_out row.1.arg ≡ false → StandsNear new row.1 → AllByRecursion (MayBe new) (take (i + 1) insns)
may_more now new items insns i row same lt is g before whole near =
    let here = subst (λ (rows : List (ℕ × Insn)). i < length rows) same lt in
    let at = subst (λ (rows : List (ℕ × Insn)). row ≡ get_or rows i row) same is in
    subst (AllByRecursion (MayBe new)) (sym (one_more insns i row here at))
    (all_push (MayBe new) (take i insns) row (all_on (MayBe now) (MayBe new) (take i insns) (λ r h. (h.0, near_later now new r.1 g h.1)) before) (whole, near))

pub may_all : (pool : List PoolItem) (items insns : List (ℕ × Insn)) (i : ℕ) → items ≡ insns → length items ≤ i → AllByRecursion (MayBe pool) (take i insns) → AllByRecursion (MayBe pool) insns
may_all pool items insns i same le h = subst (AllByRecursion (MayBe pool)) (take_all i insns (subst (λ (rows : List (ℕ × Insn)). length rows ≤ i) same le)) h

-- a body of such instructions may be encoded
pub may_of : (pool : List PoolItem) (body : Body) → IsSpelled body → AllByRecursion (MayBe pool) body.insns → MayEncode pool body
may_of pool body spelled each =
    may_of_spelled pool body spelled (all_on (MayBe pool) (λ (row : ℕ × Insn). is_left_out row.1.arg ≡ false) body.insns (λ row h. h.0) each)
    (all_on (MayBe pool) (λ (row : ℕ × Insn). StandsNear pool row.1) body.insns (λ row h. h.1) each)
