-- The loop over the instructions of a body that is encoded.
use Rattle.std.proofs.Common.{◌≡◌, ℕ, zero, suc, ◌+◌, ◌<◌, ◌≤◌, List, [], ◌∷◌, ◌++◌, length, get_or, take, drop, Option, Some, None, refl, sym, ap, subst, ◌∙◌, arith}
use Rattle.std.specs.Prelude.{Result, Err}
use Rattle.std.specs.List.{AllByRecursion}
use Rattle.std.proofs.lemmas.List.{take_more, take_all, drop_all, append-nil}
use Rattle.std.proofs.lemmas.Grind.{flat_map-append}
use Rattle.jv_lists.proofs.Places.{drop_one}
use Rattle.jv_types.specs.declared.instruction.Insn.{Insn}
use Rattle.jv_types.specs.declared.body.Body.{Body}
use Rattle.jv_pool.specs.declared.item.PoolItem.{PoolItem}
use Rattle.jv_read.specs.Reading.{◌>>=◌}
use Rattle.jv_read.proofs.Fronts.{bind_is}
use Rattle.jv_insn.specs.Entries.{entry_of, put_named, put_all, Grows}
use Rattle.jv_insn.specs.Encoding.{form_of, operand_text, index_in, insn_text, insns_text, MayEncode}
use Rattle.jv_insn.specs.Layouts.{head_text}
use Rattle.jv_insn.specs.Steps.Writing.{MayPut}
use Rattle.jv_insn.proofs.Placed.{grows_on, arg_later, arg_put, index_is}
use Rattle.jv_insn.proofs.Encoded.{IsReady, IsBodyAgain, body_again, each_may, near_later, near_index}

-- ---- each element

pub all_at : {A : Type 0} (P : A → Type 0) (xs : List A) (i : ℕ) (d : A) → AllByRecursion P xs → i < length xs → P (get_or xs i d)
all_at P [] i d h lt = absurd (omega arith)
all_at P (x ∷ xs) zero d h lt = h.0
all_at P (x ∷ xs) (suc i) d h lt = all_at P xs i d h.1 (omega arith)

pub all_push : {A : Type 0} (P : A → Type 0) (xs : List A) (x : A) → AllByRecursion P xs → P x → AllByRecursion P (xs ++ x ∷ [])
all_push P [] x h p = (p, tt)
all_push P (y ∷ ys) x h p = (h.0, all_push P ys x h.1 p)

pub all_on : {A : Type 0} (P Q : A → Type 0) (xs : List A) → ((x : A) → P x → Q x) → AllByRecursion P xs → AllByRecursion Q xs
all_on P Q [] on h = tt
all_on P Q (x ∷ xs) on h = (on x h.0, all_on P Q xs on h.1)

-- ---- a pool that grows

ready_later : (old new : List PoolItem) (insn : Insn) → Grows old new → IsReady old insn → IsReady new insn
ready_later old new insn g r = record { index = r.index; small = r.small; whole = r.whole; placed = arg_later old new (entry_of insn.arg) r.index g r.placed; near = r.near }

-- the text of an instruction whose item stands stays
text_later : (old new : List PoolItem) (pc : ℕ) (insn : Insn) → Grows old new → IsReady old insn → insn_text new pc insn ≡ insn_text old pc insn
text_later old new pc insn g r =
    let now = index_is old insn.arg r.index r.placed in
    let then = index_is new insn.arg r.index (arg_later old new (entry_of insn.arg) r.index g r.placed) in
    ap (λ (k : ℕ). head_text insn.wide insn.op ++ operand_text (form_of insn.op) insn.wide pc insn.arg k) (then ∙ sym now)

code_later : (old new : List PoolItem) (insns : List (ℕ × Insn)) → Grows old new → AllByRecursion (λ (row : ℕ × Insn). IsReady old row.1) insns → insns_text new insns ≡ insns_text old insns
code_later old new [] g r = refl
code_later old new (i ∷ insns) g r =
    ap (λ (t : List ℕ). t ++ insns_text new insns) (text_later old new i.0 i.1 g r.0) ∙ ap (λ (t : List ℕ). insn_text old i.0 i.1 ++ t) (code_later old new insns g r.1)

-- ---- the loop

-- the instructions before a place are written, and what they name stands in the pool
pub record IsEncoded (initial now : List PoolItem) (insns : List (ℕ × Insn)) (i : ℕ) (written : List ℕ) : Type 0 where
  pub grows : Grows initial now
  pub left : put_all insns initial ≡ put_all (drop i insns) now
  pub ready : AllByRecursion (λ (row : ℕ × Insn). IsReady now row.1) (take i insns)
  pub text : written ≡ insns_text now (take i insns)

pub encoded_begin : (initial : List PoolItem) (insns : List (ℕ × Insn)) (written : List ℕ) → written ≡ [] → IsEncoded initial initial insns 0 written
encoded_begin initial insns written none = record { grows = ([], sym (append-nil initial)); left = refl; ready = tt; text = none }

-- an instruction may be written where the pool has grown
pub may_later : (initial now : List PoolItem) (body : Body) (i : ℕ) (row : ℕ × Insn) → MayEncode initial body → i < length body.insns → row ≡ get_or body.insns i row → Grows initial now → MayPut now row.0 row.1
may_later initial now body i row may lt is g =
    let there = all_at (λ (r : ℕ × Insn). MayPut initial r.0 r.1) body.insns i row (each_may initial body may) lt in
    let here = subst (λ (r : ℕ × Insn). MayPut initial r.0 r.1) (sym is) there in
    record { spelled = here.spelled; whole = here.whole; near = near_later initial now row.1 g here.near }

pub one_more : (insns : List (ℕ × Insn)) (i : ℕ) (row : ℕ × Insn) → i < length insns → row ≡ get_or insns i row → take (i + 1) insns ≡ take i insns ++ row ∷ []
one_more insns i row lt is = take_more insns i row lt ∙ ap (λ (r : ℕ × Insn). take i insns ++ r ∷ []) (sym is)

pub encoded_more : (initial now new : List PoolItem) (body : Body) (i : ℕ) (row : ℕ × Insn) (written after : List ℕ) → MayEncode initial body → i < length body.insns → row ≡ get_or body.insns i row → IsEncoded initial now body.insns i written
    → put_named (entry_of row.1.arg) now ≡ Some (index_in new row.1.arg, new) → index_in new row.1.arg < 65536 → after ≡ written ++ insn_text new row.0 row.1 → IsEncoded initial new body.insns (i + 1) after
unfolding put_all
encoded_more initial now new body i row written after may lt is so_far put small text =
    let insns = body.insns in
    let index = index_in new row.1.arg in
    let p = arg_put row.1.arg now (index, new) put in
    let here = may_later initial now body i row may lt is so_far.grows in
    let one : IsReady new row.1 = record { index = index; small = small; whole = here.whole; placed = p.stands; near = near_index now new row.1 index p.grows here.near p.stands } in
    let before = all_on (λ (r : ℕ × Insn). IsReady now r.1) (λ (r : ℕ × Insn). IsReady new r.1) (take i insns) (λ r h. ready_later now new r.1 p.grows h) so_far.ready in
    let taken = one_more insns i row lt is in
    let last : insns_text new (row ∷ []) ≡ insn_text new row.0 row.1 = append-nil (insn_text new row.0 row.1) in
    record {
      grows = grows_on initial now new so_far.grows p.grows;
      left =
          so_far.left ∙ ap (λ (rows : List (ℕ × Insn)). put_all rows now) (drop_one insns i row lt is)
          ∙ bind_is (put_named (entry_of row.1.arg) now) (λ named. put_all (drop (i + 1) insns) named.1) (index, new) put;
      ready = subst (AllByRecursion (λ (r : ℕ × Insn). IsReady new r.1)) (sym taken) (all_push (λ (r : ℕ × Insn). IsReady new r.1) (take i insns) row before one);
      text =
          text ∙ ap (λ (t : List ℕ). t ++ insn_text new row.0 row.1) (so_far.text ∙ sym (code_later now new (take i insns) p.grows so_far.ready))
          ∙ ap (λ (t : List ℕ). insns_text new (take i insns) ++ t) (sym last)
          ∙ sym (flat_map-append (λ (r : ℕ × Insn). insn_text new r.0 r.1) (take i insns) (row ∷ []))
          ∙ ap (insns_text new) (sym taken);
    }

-- an instruction whose item finds no room
pub encoded_full : (initial now : List PoolItem) (insns : List (ℕ × Insn)) (i : ℕ) (row : ℕ × Insn) (written : List ℕ) → i < length insns → row ≡ get_or insns i row → IsEncoded initial now insns i written
    → put_named (entry_of row.1.arg) now ≡ None → put_all insns initial ≡ None
unfolding put_all
encoded_full initial now insns i row written lt is so_far none =
    so_far.left ∙ ap (λ (rows : List (ℕ × Insn)). put_all rows now) (drop_one insns i row lt is)
    ∙ ap (λ (o : Option (ℕ × List PoolItem)). o >>= λ named. put_all (drop (i + 1) insns) named.1) none

-- all instructions are written
pub record IsWhole (initial now : List PoolItem) (body : Body) (written : List ℕ) : Type 0 where
  pub added : put_all body.insns initial ≡ Some now
  pub text : written ≡ insns_text now body.insns
  pub again : IsBodyAgain now body

pub encoded_whole : (initial now : List PoolItem) (body : Body) (i : ℕ) (written : List ℕ) → MayEncode initial body → length body.insns ≤ i → IsEncoded initial now body.insns i written → IsWhole initial now body written
unfolding put_all
encoded_whole initial now body i written may le so_far =
    let all = take_all i body.insns le in
    record {
      added = so_far.left ∙ ap (λ (rows : List (ℕ × Insn)). put_all rows now) (drop_all i body.insns le);
      text = so_far.text ∙ ap (insns_text now) all;
      again = body_again initial now body may (subst (AllByRecursion (λ (r : ℕ × Insn). IsReady now r.1)) all so_far.ready);
    }

-- a place of the instructions as they are lent is one of the body's
pub lent_at : (items insns : List (ℕ × Insn)) (i : ℕ) (row : ℕ × Insn) → items ≡ insns → i < length items → row ≡ get_or items i row → (i < length insns) × (row ≡ get_or insns i row)
lent_at items insns i row same lt is = (subst (λ (rows : List (ℕ × Insn)). i < length rows) same lt, subst (λ (rows : List (ℕ × Insn)). row ≡ get_or rows i row) same is)

pub lent_whole : (items insns : List (ℕ × Insn)) (i : ℕ) → items ≡ insns → length items ≤ i → length insns ≤ i
lent_whole items insns i same le = subst (λ (rows : List (ℕ × Insn)). length rows ≤ i) same le

-- an error that was passed on is the one that came
pub passed_on : {T E : Type 0} (r : Result T E) (x y z : E) → r ≡ Err x → x ≡ y → r ≡ Err z → y ≡ z
passed_on {T} {E} r x y z p q e =
    let a : Result T E = Err x in
    let b : Result T E = Err z in
    let same : a ≡ b = sym p ∙ e in
    let one : x ≡ z = cc in
    sym q ∙ one
