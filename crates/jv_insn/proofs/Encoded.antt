-- Instructions that are written again, one behind the other, are a code of the same body.
use Rattle.std.proofs.Common.{◌≡◌, ℕ, ◌+◌, ◌-◌, ◌<◌, ◌≤◌, Bool, true, false, cond, eqb, List, [], ◌∷◌, ◌++◌, length, Option, Some, None, IsSome, refl, sym, ap, subst, ◌∙◌, ◌⊎◌, inl, inr, length-append, arith}
use Rattle.std.specs.Prelude.{IsSomeAnd}
use Rattle.std.specs.List.{AllZip, AllByRecursion}
use Rattle.std.specs.Option.{option_map_or}
use Rattle.jv_table.specs.CodeRows.{OpForm}
use Rattle.jv_table.specs.declared.code_tables.Form.{Form}
use Rattle.jv_table.specs.declared.code_tables.Form.TheVariants as forms
use Rattle.jv_types.specs.Bodies.{IsStart, at_offset}
use Rattle.jv_types.specs.declared.raw_handler.RawHandler.{RawHandler}
use Rattle.jv_types.specs.declared.instruction.Insn.{Insn}
use Rattle.jv_types.specs.declared.body.Handler.{Handler}
use Rattle.jv_types.specs.declared.body.Body.{Body}
use Rattle.jv_pool.specs.declared.item.PoolItem.{PoolItem}
use Rattle.jv_insn.specs.declared.written.Written.{Written}
use Rattle.jv_insn.specs.Layouts.{head_text, IsInsnText, BeginsWithInsn, AtEnd, Lays}
use Rattle.jv_insn.specs.Meanings.{IsInsn}
use Rattle.jv_insn.specs.Decoding.{IsRow, IsHandler, Decodes}
use Rattle.jv_insn.specs.Entries.{entry_of, arg_place, Grows}
use Rattle.jv_insn.specs.Encoding.{form_of, operand_text, index_in, insn_text, insns_text, is_left_out, insn_size, StandsNear, MayStand, AreLaid, HasPlaces, MayEncode, NamesHandler, DecodesTo}
use Rattle.jv_insn.specs.Steps.Writing.{FitsArg, IsSpelledInsn, MayPut}
use Rattle.jv_insn.proofs.Placed.{arg_later, index_is}
use Rattle.jv_insn.proofs.Rewriting.{Starts, layout_row, again}
use Rattle.jv_insn.proofs.Tables.{ldc_alone}
use Rattle.jv_insn.proofs.ByteCounts.{size_of_text}

-- ---- an instruction

-- what operands name stands in a pool, at an index of two bytes, and that of an ldc at one of one byte
pub record IsReady (pool : List PoolItem) (insn : Insn) : Type 0 where
  pub index : ℕ
  pub small : index < 65536
  pub whole : is_left_out insn.arg ≡ false
  pub placed : arg_place pool (entry_of insn.arg) ≡ Some index
  pub near : eqb insn.op 18 ≡ true → index < 256

-- an instruction of the same size that is written over a pool, and is the same
pub record IsInsnAgain (max_locals : ℕ) (rows : List (ℕ × Written)) (pool : List PoolItem) (index pc size : ℕ) (insn : Insn) : Type 0 where
  pub written : Written
  pub fits : FitsArg (form_of insn.op) insn.wide pc insn.arg index
  pub is_text : IsInsnText pc (insn_text pool pc insn) written
  pub size_is : length (insn_text pool pc insn) ≡ size
  pub names : (more : List PoolItem) (others : List (ℕ × Written)) → Starts rows others → IsInsn (pool ++ more) max_locals others pc written insn

pub insn_again : (old : List PoolItem) (max_locals : ℕ) (rows : List (ℕ × Written)) (pool : List PoolItem) (pc : ℕ) (w : Written) (text : List ℕ) (insn : Insn) → IsInsn old max_locals rows pc w insn → IsInsnText pc text w
    → (ready : IsReady pool insn) → IsInsnAgain max_locals rows pool ready.index pc (length text) insn
insn_again old max_locals rows pool pc w text insn h t ready =
    let form = h.form.form in
    let index = ready.index in
    let near : form ≡ forms.Load1 → index < 256 = λ is. ready.near (ap (λ (op : ℕ). eqb op 18) h.op ∙ ldc_alone w.op h.form h.known is) in
    let a = again rows pool index pc w.op form w.wide t.layout (layout_row w.wide w.op h.form t.layout h.known t.known) t.operands w.operands old insn.arg t.laid t.allowed h.arg near
    (record { small = ready.small; whole = ready.whole; placed = ready.placed }) in
    let form_is : form_of insn.op ≡ form = ap form_of h.op ∙ ap (λ (o : Option OpForm). option_map_or (λ (row : OpForm). row.form) o forms.Nothing) h.known in
    let index_same : index_in pool insn.arg ≡ index = index_is pool insn.arg index ready.placed in
    let spelled : insn_text pool pc insn ≡ head_text w.wide w.op ++ operand_text form w.wide pc insn.arg index =
    ap (λ (k : ℕ). head_text insn.wide insn.op ++ operand_text (form_of insn.op) insn.wide pc insn.arg k) index_same
    ∙ ap (λ (f : Form). head_text insn.wide insn.op ++ operand_text f insn.wide pc insn.arg index) form_is
    ∙ ap (λ (b : Bool). head_text b insn.op ++ operand_text form b pc insn.arg index) h.wide
    ∙ ap (λ (op : ℕ). head_text w.wide op ++ operand_text form w.wide pc insn.arg index) h.op in
    record {
      written = record { op = w.op; wide = w.wide; operands = a.operands };
      fits = subst (λ (f : Form). FitsArg f insn.wide pc insn.arg index) (sym form_is) (subst (λ (b : Bool). FitsArg form b pc insn.arg index) (sym h.wide) a.fits);
      is_text = record { layout = t.layout; known = t.known; operands = operand_text form w.wide pc insn.arg index; spelled = spelled; laid = a.laid; allowed = a.allowed };
      size_is =
          ap length spelled ∙ length-append (head_text w.wide w.op) (operand_text form w.wide pc insn.arg index)
          ∙ ap (λ (n : ℕ). length (head_text w.wide w.op) + n) a.size_is
          ∙ sym (length-append (head_text w.wide w.op) t.operands) ∙ ap length (sym t.spelled);
      names = λ more others on. record { op = h.op; wide = h.wide; form = h.form; known = h.known; arg = a.names more others on; local = h.local };
    }

-- ---- a code

-- an instruction and how it is written have the same offset
pub SameStart : ℕ × Insn → ℕ × Written → Type 0
SameStart a b = a.0 ≡ b.0

-- starts of instructions are starts of these rows too
abbrev pub StartsOf : List (ℕ × Insn) → List (ℕ × Written) → Type 0
StartsOf insns rows = (q : ℕ) → IsStart insns q → IsStart rows q

starts_on : (insns : List (ℕ × Insn)) (news : List (ℕ × Written)) → AllZip SameStart insns news → StartsOf insns news
unfolding SameStart
starts_on [] [] h q s = s
starts_on [] (n ∷ news) h q s = absurd h
starts_on (r ∷ rows) [] h q s = absurd h
starts_on (r ∷ rows) (n ∷ news) h q s = subst (λ (k : ℕ). IsSome (cond (eqb k q) (Some n.1) (at_offset q news))) h.0 (by (eqb r.0 q) s (starts_on rows news h.1 q))
  where
    by : (b : Bool) → IsSome (cond b (Some r.1) (at_offset q rows)) → (IsStart rows q → IsStart news q) → IsSome (cond b (Some n.1) (at_offset q news))
    by true s more = refl
    by false s more = more s

-- a code that is written over a pool, of the same instructions
pub record IsCodeAgain (max_locals : ℕ) (all : List (ℕ × Insn)) (pool : List PoolItem) (pc end : ℕ) (insns : List (ℕ × Insn)) : Type 0 where
  pub news : List (ℕ × Written)
  pub laid : Lays pc (insns_text pool insns) news None
  pub size_is : pc + length (insns_text pool insns) ≡ end
  pub same : AllZip SameStart insns news
  pub names : (more : List PoolItem) (others : List (ℕ × Written)) → StartsOf all others → AllZip (IsRow (pool ++ more) max_locals others) news insns

pub code_again : (max_locals : ℕ) (all : List (ℕ × Insn)) (pool : List PoolItem) (pc end : ℕ) (insns : List (ℕ × Insn)) → AreLaid pc insns end
    → AllByRecursion (λ (row : ℕ × Insn). MayStand max_locals all row.0 row.1) insns → AllByRecursion (λ (row : ℕ × Insn). IsReady pool row.1) insns → IsCodeAgain max_locals all pool pc end insns
unfolding SameStart
code_again max_locals all pool pc end [] l each ready = record { news = []; laid = AtEnd; size_is = omega (arith, l); same = tt; names = λ more others on. tt }
code_again max_locals all pool pc end (i ∷ insns) l each ready =
    let here : i.0 ≡ pc = l.0 in
    let m = each.0 in
    let is_insn : IsInsn m.pool max_locals m.rows pc m.written i.1 = subst (λ (p : ℕ). IsInsn m.pool max_locals m.rows p m.written i.1) here m.is_insn in
    let is_text : IsInsnText pc m.text m.written = subst (λ (p : ℕ). IsInsnText p m.text m.written) here m.is_text in
    let a = insn_again m.pool max_locals m.rows pool pc m.written m.text i.1 is_insn is_text ready.0 in
    let size = insn_size pc i.1 in
    let r = code_again max_locals all pool (pc + size) end insns l.1 each.1 ready.1 in
    let front = insn_text pool pc i.1 in
    let behind = insns_text pool insns in
    let text : insns_text pool (i ∷ insns) ≡ front ++ behind = ap (λ (p : ℕ). insn_text pool p i.1 ++ behind) here in
    let as_long : length front ≡ size = size_of_text pool pc i.1 ready.0.whole in
    let whole : length (front ++ behind) ≡ size + length behind = length-append front behind ∙ ap (λ (n : ℕ). n + length behind) as_long in
    let next : pc + size ≡ pc + (length (front ++ behind) - length behind) = steps pc size (length behind) (length (front ++ behind)) whole in
    let begins : BeginsWithInsn pc (front ++ behind) a.written behind = record { front = front; is_text = a.is_text; parts = refl } in
    let laid : Lays pc (front ++ behind) ((pc, a.written) ∷ r.news) None = (behind, (refl, begins, subst (λ (p : ℕ). Lays p behind r.news None) next r.laid)) in
    record {
      news = (pc, a.written) ∷ r.news;
      laid = subst (λ (t : List ℕ). Lays pc t ((pc, a.written) ∷ r.news) None) (sym text) laid;
      size_is = ap (λ (t : List ℕ). pc + length t) text ∙ sums pc size (length behind) (length (front ++ behind)) end whole r.size_is;
      same = (here, r.same);
      names = λ more others on. (record { pc = here; is_insn = a.names more others (λ q s. on q (m.starts q s)) }, r.names more others on);
    }
  where
    steps : (pc size behind whole : ℕ) → whole ≡ size + behind → pc + size ≡ pc + (whole - behind)
    steps pc size behind whole e = omega (arith, e)

    sums : (pc size behind whole end : ℕ) → whole ≡ size + behind → (pc + size) + behind ≡ end → pc + whole ≡ end
    sums pc size behind whole end e f = omega (arith, e, f)

-- ---- handlers

handlers_again : (pool : List PoolItem) (size : ℕ) (insns : List (ℕ × Insn)) (news : List (ℕ × Written)) → StartsOf insns news → (raws : List RawHandler) (handlers : List Handler) → AllByRecursion (HasPlaces insns size) handlers
    → AllZip (NamesHandler pool) raws handlers → AllZip (IsHandler pool size news) raws handlers
handlers_again pool size insns news on [] [] h k = tt
handlers_again pool size insns news on [] (x ∷ xs) h k = absurd k
handlers_again pool size insns news on (r ∷ raws) [] h k = absurd k
handlers_again pool size insns news on (r ∷ raws) (x ∷ xs) h k =
    let a = h.0 in
    let b = k.0 in
    let covers : x.start < x.end = a.covers in
    let ends : IsStart news r.end ⊎ (r.end ≡ size) = elim a.ends [ inl s ↦ inl (on r.end (subst (IsStart insns) b.end s)) | inr e ↦ inr (sym b.end ∙ e) ] in (
      record {
        start = b.start;
        end = b.end;
        target = b.target;
        bounds = record {
          covers = omega (arith, covers, b.start, b.end);
          starts = on r.start (subst (IsStart insns) b.start a.starts);
          ends = ends;
          leads = on r.target (subst (IsStart insns) b.target a.leads);
        };
        catch = b.catch;
      },
      handlers_again pool size insns news on raws xs h.1 k.1,
    )

-- ---- a body

-- the code decodes to the body, and is as long
pub record IsBodyAgain (pool : List PoolItem) (body : Body) : Type 0 where
  pub decodes : DecodesTo pool (insns_text pool body.insns) body
  pub size_is : length (insns_text pool body.insns) ≡ body.length

pub body_again : (initial pool : List PoolItem) (body : Body) → MayEncode initial body → AllByRecursion (λ (row : ℕ × Insn). IsReady pool row.1) body.insns → IsBodyAgain pool body
body_again initial pool body may ready =
    let a = code_again body.max_locals body.insns pool 0 body.length body.insns may.laid may.each ready in
    let on = starts_on body.insns a.news a.same in
    let size : length (insns_text pool body.insns) ≡ body.length = omega (arith, a.size_is) in
    record {
      decodes = λ later handlers grows named. subst (λ (p : List PoolItem). Decodes p body.max_stack body.max_locals (insns_text pool body.insns) handlers body) (sym grows.1) (record {
        stack_is = refl;
        locals_is = refl;
        rows = a.news;
        laid = a.laid;
        insns = a.names grows.0 a.news on;
        handlers_are =
            subst (λ (n : ℕ). AllZip (IsHandler (pool ++ grows.0) n a.news) handlers body.handlers) (sym size)
            (handlers_again (pool ++ grows.0) body.length body.insns a.news on handlers body.handlers may.handlers (subst (λ (p : List PoolItem). AllZip (NamesHandler p) handlers body.handlers) grows.1 named));
        length_is = sym size;
      });
      size_is = size;
    }

-- ---- each instruction

-- some bytes are this instruction, over a pool and among rows
pub record IsSpelledOver (pool : List PoolItem) (max_locals : ℕ) (rows : List (ℕ × Written)) (pc : ℕ) (insn : Insn) : Type 0 where
  pub written : Written
  pub text : List ℕ
  pub is_insn : IsInsn pool max_locals rows pc written insn
  pub is_text : IsInsnText pc text written

pub spelled_insns : (pool : List PoolItem) (max_locals : ℕ) (all : List (ℕ × Written)) (pc : ℕ) (bytes : List ℕ) (rows : List (ℕ × Written)) (insns : List (ℕ × Insn)) → Lays pc bytes rows None
    → AllZip (IsRow pool max_locals all) rows insns → AllByRecursion (λ (row : ℕ × Insn). IsSpelledOver pool max_locals all row.0 row.1) insns
spelled_insns pool max_locals all pc bytes [] [] h z = tt
spelled_insns pool max_locals all pc bytes [] (i ∷ insns) h z = absurd z
spelled_insns pool max_locals all pc bytes (row ∷ rows) [] h z = absurd z
spelled_insns pool max_locals all pc bytes (row ∷ rows) (i ∷ insns) h z =
    let b = h.1.1 in
    let here : i.0 ≡ pc = z.0.pc ∙ h.1.0 in (
      record {
        written = row.1;
        text = b.front;
        is_insn = subst (λ (p : ℕ). IsInsn pool max_locals all p row.1 i.1) (sym z.0.pc) z.0.is_insn;
        is_text = subst (λ (p : ℕ). IsInsnText p b.front row.1) (sym here) b.is_text;
      },
      spelled_insns pool max_locals all (pc + (length bytes - length h.0)) h.0 rows insns h.1.2 z.1,
    )

all_may : (max_locals : ℕ) (all : List (ℕ × Insn)) (pool : List PoolItem) (insns : List (ℕ × Insn)) → AllByRecursion (λ (row : ℕ × Insn). MayStand max_locals all row.0 row.1) insns → AllByRecursion (λ (row : ℕ × Insn). is_left_out row.1.arg ≡ false) insns
    → AllByRecursion (λ (row : ℕ × Insn). StandsNear pool row.1) insns → AllByRecursion (λ (row : ℕ × Insn). MayPut pool row.0 row.1) insns
all_may max_locals all pool [] s w n = tt
all_may max_locals all pool (i ∷ insns) s w n =
    let m = s.0 in
    let spelled : IsSpelledInsn i.0 i.1 = record { pool = m.pool; max_locals = max_locals; rows = m.rows; written = m.written; text = m.text; is_insn = m.is_insn; is_text = m.is_text } in
    (record { spelled = spelled; whole = w.0; near = n.0 }, all_may max_locals all pool insns s.1 w.1 n.1)

-- each instruction of a body that may be encoded may be written
pub each_may : (pool : List PoolItem) (body : Body) → MayEncode pool body → AllByRecursion (λ (row : ℕ × Insn). MayPut pool row.0 row.1) body.insns
each_may pool body may = all_may body.max_locals body.insns pool body.insns may.each may.whole may.near

-- ---- near constants

near_at : (o : Option ℕ) → IsSomeAnd o (λ index. index ≤ 255) → (i : ℕ) × (o ≡ Some i) × (i ≤ 255)
near_at None h = absurd h
near_at (Some i) h = (i, refl, h)

one_index : (o : Option ℕ) (i j : ℕ) → o ≡ Some i → o ≡ Some j → i ≡ j
one_index o i j e f = let x : Option ℕ = Some i in let y : Option ℕ = Some j in let same : x ≡ y = sym e ∙ f in cc

-- a constant that stood near stands there as the pool grows
pub near_later : (old new : List PoolItem) (insn : Insn) → Grows old new → StandsNear old insn → StandsNear new insn
near_later old new insn g near is =
    let n = near_at (arg_place old (entry_of insn.arg)) (near is) in
    let there = arg_later old new (entry_of insn.arg) n.0 g n.1 in
    subst (λ (o : Option ℕ). IsSomeAnd o (λ index. index ≤ 255)) (sym there) n.2

pub near_index : (old new : List PoolItem) (insn : Insn) (index : ℕ) → Grows old new → StandsNear old insn → arg_place new (entry_of insn.arg) ≡ Some index → eqb insn.op 18 ≡ true → index < 256
near_index old new insn index g near placed is =
    let n = near_at (arg_place old (entry_of insn.arg)) (near is) in
    let there = arg_later old new (entry_of insn.arg) n.0 g n.1 in
    let same = one_index (arg_place new (entry_of insn.arg)) index n.0 placed there in
    let le : n.0 ≤ 255 = n.2 in
    omega (arith, same, le)
