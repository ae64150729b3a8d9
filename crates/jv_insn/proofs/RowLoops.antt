-- The loops over the rows of a code and over the entries of its exception table.
use Rattle.std.proofs.Common.{◌≡◌, ℕ, ◌+◌, ◌<◌, ◌≤◌, true, List, [], ◌∷◌, ◌++◌, length, get_or, take, leb, min, Option, Some, None, refl, sym, ap, subst, ◌∙◌, ◌⊎◌, inl, inr, arith}
use Rattle.std.specs.List.{AllZip}
use Rattle.std.proofs.lemmas.Bool.{and_parts, cases_lt}
use Rattle.std.proofs.lemmas.List.{get_or-take, length-take, take_more, take_all}
use Rattle.std.proofs.lemmas.List.Elements.{Contains-push, Contains-append_left, Contains-push_cases}
use Rattle.std.proofs.lemmas.Slice.Zip.{all_zipped_more}
use Rattle.jv_lists.proofs.Zips.{zip_at}
use Rattle.jv_types.specs.Bodies.{IsStart, rises_from, at_offset}
use Rattle.jv_types.specs.declared.raw_handler.RawHandler.{RawHandler}
use Rattle.jv_types.specs.declared.instruction.Insn.{Insn}
use Rattle.jv_types.specs.declared.body.Handler.{Handler}
use Rattle.jv_types.proofs.Starts.{at_offset-at, start_place, starts_rise}
use Rattle.jv_pool.specs.declared.item.PoolItem.{PoolItem}
use Rattle.jv_insn.specs.declared.written.Written.{Written}
use Rattle.jv_insn.specs.Meanings.{IsInsn}
use Rattle.jv_insn.specs.Decoding.{IsRow, IsHandler, FailsInsn, FailsHandler}
use Rattle.jv_insn.specs.Steps.Rows.{AreRows, IsFirst, HandlersSoFar, lesser}
use Rattle.jv_read.proofs.Fronts.{some_is}

-- ---- instructions

-- a row whose instruction is none, behind rows that have one, is the first that fails
pub insn_fails : (pool : List PoolItem) (max_locals : ℕ) (rows : List (ℕ × Written)) (i : ℕ) (d : ℕ × Written) (insns : List (ℕ × Insn)) → AreRows rows → i < length rows
    → AllZip (IsRow pool max_locals rows) (take i rows) insns → ((insn : Insn) → IsInsn pool max_locals rows (get_or rows i d).0 (get_or rows i d).1 insn → ⊥) → IsFirst (FailsInsn pool max_locals rows) (get_or rows i d).0
insn_fails pool max_locals rows i d insns table lt before none = record {
  holds = record { written = (get_or rows i d).1; stands = at_offset-at 0 (get_or rows i d).0 rows table.rises i d lt refl; is_none = none };
  least = λ other f.
      let s : IsStart rows other = rw f.stands refl in
      let there = start_place other rows s in
      let j = there.place in
      let stands : at_offset other rows ≡ Some (get_or rows j d).1 = at_offset-at 0 other rows table.rises j d there.within (there.start d) in
      let same : (get_or rows j d).1 ≡ f.written = some_is (get_or rows j d).1 f.written (sym stands ∙ f.stands) in
      elim (cases_lt j i) [
        | inl under ↦ absurd (earlier other f j there.within (there.start d) same under)
        | inr over ↦ let le = starts_rise 0 rows table.rises i j d over there.within in subst (λ (n : ℕ). (get_or rows i d).0 ≤ n) (there.start d) le
      ];
}
  where
    earlier : (other : ℕ) (f : FailsInsn pool max_locals rows other) (j : ℕ) → j < length rows → (get_or rows j d).0 ≡ other → (get_or rows j d).1 ≡ f.written → j < i → ⊥
    earlier other f j within starts same under =
        let partner = zip_at (IsRow pool max_locals rows) (take i rows) insns j d before (omega (arith, length-take i rows)) in
        let is_row = subst (λ (r : ℕ × Written). IsRow pool max_locals rows r partner.0) (get_or-take i rows j d under) partner.1 in
        let by_pc = subst (λ (p : ℕ). IsInsn pool max_locals rows p (get_or rows j d).1 partner.0.1) starts is_row.is_insn in
        f.is_none partner.0.1 (subst (λ (w : Written). IsInsn pool max_locals rows other w partner.0.1) same by_pc)

-- rows that all have an instruction don't fail
pub no_insn_fails : (pool : List PoolItem) (max_locals : ℕ) (rows : List (ℕ × Written)) (insns : List (ℕ × Insn)) → rises_from 0 rows ≡ true → AllZip (IsRow pool max_locals rows) rows insns → (pc : ℕ) → FailsInsn pool max_locals rows pc → ⊥
no_insn_fails pool max_locals rows insns rises all pc f =
    let s : IsStart rows pc = rw f.stands refl in
    let there = start_place pc rows s in
    let j = there.place in
    let d : ℕ × Written = (pc, f.written) in
    let stands : at_offset pc rows ≡ Some (get_or rows j d).1 = at_offset-at 0 pc rows rises j d there.within (there.start d) in
    let same : (get_or rows j d).1 ≡ f.written = some_is (get_or rows j d).1 f.written (sym stands ∙ f.stands) in
    let partner = zip_at (IsRow pool max_locals rows) rows insns j d all there.within in
    let by_pc = subst (λ (p : ℕ). IsInsn pool max_locals rows p (get_or rows j d).1 partner.0.1) (there.start d) partner.1.is_insn in
    f.is_none partner.0.1 (subst (λ (w : Written). IsInsn pool max_locals rows pc w partner.0.1) same by_pc)

-- instructions start where their rows do
pub insns_rise : (pool : List PoolItem) (max_locals : ℕ) (all rows : List (ℕ × Written)) (insns : List (ℕ × Insn)) → AllZip (IsRow pool max_locals all) rows insns → (low : ℕ) → rises_from low rows ≡ true → rises_from low insns ≡ true
insns_rise pool max_locals all [] [] h low r = refl
insns_rise pool max_locals all [] (i ∷ insns) h low r = absurd h
insns_rise pool max_locals all (row ∷ rows) [] h low r = absurd h
insns_rise pool max_locals all (row ∷ rows) (i ∷ insns) h low r =
    let here : i.0 ≡ row.0 = h.0.pc in
    let parts = and_parts (leb low row.0) (rises_from (row.0 + 1) rows) r in
    let more = insns_rise pool max_locals all rows insns h.1 (row.0 + 1) parts.1 in
    rw (here, parts.0) more

-- ---- handlers

-- no entry among those that have handlers fails
pub no_handler_fails : (pool : List PoolItem) (size : ℕ) (rows : List (ℕ × Written)) (raws : List RawHandler) (handlers : List Handler) → AllZip (IsHandler pool size rows) raws handlers → (pc : ℕ) → FailsHandler pool size rows raws pc → ⊥
no_handler_fails pool size rows raws handlers all pc f =
    let partner = zip_at (IsHandler pool size rows) raws handlers f.among.0 f.handler all f.among.1 in
    f.is_none partner.0 (subst (λ (r : RawHandler). IsHandler pool size rows r partner.0) f.among.2 partner.1)

-- one entry more, which is a handler
pub handler_goes_on : (pool : List PoolItem) (size : ℕ) (rows : List (ℕ × Written)) (raws : List RawHandler) (handlers : List Handler) (least : Option ℕ) (raw : RawHandler) (handler : Handler)
    → HandlersSoFar pool size rows raws handlers least → IsHandler pool size rows raw handler → HandlersSoFar pool size rows (raws ++ raw ∷ []) (handlers ++ handler ∷ []) least
handler_goes_on pool size rows raws handlers None raw handler h is = all_zipped_more (IsHandler pool size rows) raws handlers raw handler h is
handler_goes_on pool size rows raws handlers (Some pc) raw handler h is = record {
  holds = record { handler = h.holds.handler; among = Contains-append_left raws (raw ∷ []) h.holds.handler h.holds.among; starts = h.holds.starts; is_none = h.holds.is_none };
  least = λ other f.
      elim (Contains-push_cases raws raw f.handler f.among) [
        | inl among ↦ h.least other (record { handler = f.handler; among = among; starts = f.starts; is_none = f.is_none })
        | inr same ↦ absurd (f.is_none handler (subst (λ (r : RawHandler). IsHandler pool size rows r handler) same is))
      ];
}

-- one entry more, which is none
pub handler_fails : (pool : List PoolItem) (size : ℕ) (rows : List (ℕ × Written)) (raws : List RawHandler) (handlers : List Handler) (least : Option ℕ) (raw : RawHandler)
    → HandlersSoFar pool size rows raws handlers least → ((handler : Handler) → IsHandler pool size rows raw handler → ⊥) → IsFirst (FailsHandler pool size rows (raws ++ raw ∷ [])) (lesser least raw.start)
handler_fails pool size rows raws handlers None raw h none = record {
  holds = record { handler = raw; among = Contains-push raws raw; starts = refl; is_none = none };
  least = λ other f.
      elim (Contains-push_cases raws raw f.handler f.among) [
        | inl among ↦ absurd (no_handler_fails pool size rows raws handlers h other (record { handler = f.handler; among = among; starts = f.starts; is_none = f.is_none }))
        | inr same ↦ let e : raw.start ≡ other = ap (λ (r : RawHandler). r.start) same ∙ f.starts in omega arith
      ];
}
handler_fails pool size rows raws handlers (Some pc) raw h none =
    let moved : FailsHandler pool size rows (raws ++ raw ∷ []) pc = record { handler = h.holds.handler; among = Contains-append_left raws (raw ∷ []) h.holds.handler h.holds.among; starts = h.holds.starts; is_none = h.holds.is_none } in
    let here : FailsHandler pool size rows (raws ++ raw ∷ []) raw.start = record { handler = raw; among = Contains-push raws raw; starts = refl; is_none = none } in
    record {
      holds = one_of (cases_lt pc (raw.start + 1)) moved here;
      least = λ other f.
          elim (Contains-push_cases raws raw f.handler f.among) [
            | inl among ↦ let le = h.least other (record { handler = f.handler; among = among; starts = f.starts; is_none = f.is_none }) in omega arith
            | inr same ↦ let e : raw.start ≡ other = ap (λ (r : RawHandler). r.start) same ∙ f.starts in omega arith
          ];
    }
  where
    one_of : (pc < raw.start + 1) ⊎ (raw.start + 1 ≤ pc) → FailsHandler pool size rows (raws ++ raw ∷ []) pc → FailsHandler pool size rows (raws ++ raw ∷ []) raw.start → FailsHandler pool size rows (raws ++ raw ∷ []) (min pc raw.start)
    one_of (inl le) moved here = let m : pc ≡ min pc raw.start = omega arith in subst (λ (n : ℕ). FailsHandler pool size rows (raws ++ raw ∷ []) n) m moved
    one_of (inr lt) moved here = let m : raw.start ≡ min pc raw.start = omega arith in subst (λ (n : ℕ). FailsHandler pool size rows (raws ++ raw ∷ []) n) m here

-- ---- a loop over a list

-- all places
pub zip_whole : {A B : Type 0} (R : A → B → Type 0) (xs : List A) (ys : List B) (i : ℕ) → length xs ≤ i → AllZip R (take i xs) ys → AllZip R xs ys
zip_whole {A} {B} R xs ys i le h = subst (λ (zs : List A). AllZip R zs ys) (take_all i xs le) h

-- one entry more of a list, a handler or none
pub handler_more : (pool : List PoolItem) (size : ℕ) (rows : List (ℕ × Written)) (raws : List RawHandler) (handlers : List Handler) (least : Option ℕ) (i : ℕ) (d : RawHandler) (handler : Handler) → i < length raws
    → HandlersSoFar pool size rows (take i raws) handlers least → IsHandler pool size rows (get_or raws i d) handler → HandlersSoFar pool size rows (take (i + 1) raws) (handlers ++ handler ∷ []) least
handler_more pool size rows raws handlers least i d handler lt h is =
    subst (λ (rs : List RawHandler). HandlersSoFar pool size rows rs (handlers ++ handler ∷ []) least) (sym (take_more raws i d lt)) (handler_goes_on pool size rows (take i raws) handlers least (get_or raws i d) handler h is)

pub failure_more : (pool : List PoolItem) (size : ℕ) (rows : List (ℕ × Written)) (raws : List RawHandler) (handlers : List Handler) (least : Option ℕ) (i : ℕ) (d : RawHandler) → i < length raws
    → HandlersSoFar pool size rows (take i raws) handlers least → ((handler : Handler) → IsHandler pool size rows (get_or raws i d) handler → ⊥) → IsFirst (FailsHandler pool size rows (take (i + 1) raws)) (lesser least (get_or raws i d).start)
failure_more pool size rows raws handlers least i d lt h none =
    subst (λ (rs : List RawHandler). IsFirst (FailsHandler pool size rows rs) (lesser least (get_or raws i d).start)) (sym (take_more raws i d lt)) (handler_fails pool size rows (take i raws) handlers least (get_or raws i d) h none)

pub handlers_whole : (pool : List PoolItem) (size : ℕ) (rows : List (ℕ × Written)) (raws : List RawHandler) (handlers : List Handler) (least : Option ℕ) (i : ℕ) → length raws ≤ i
    → HandlersSoFar pool size rows (take i raws) handlers least → HandlersSoFar pool size rows raws handlers least
handlers_whole pool size rows raws handlers least i le h = subst (λ (rs : List RawHandler). HandlersSoFar pool size rows rs handlers least) (take_all i raws le) h

pub insn_fails_of : (pool : List PoolItem) (max_locals : ℕ) (rows : List (ℕ × Written)) (i : ℕ) (row : ℕ × Written) (insns : List (ℕ × Insn)) → AreRows rows → i < length rows → row ≡ get_or rows i row
    → AllZip (IsRow pool max_locals rows) (take i rows) insns → ((insn : Insn) → IsInsn pool max_locals rows row.0 row.1 insn → ⊥) → IsFirst (FailsInsn pool max_locals rows) row.0
insn_fails_of pool max_locals rows i row insns table lt is before none =
    subst (λ (r : ℕ × Written). IsFirst (FailsInsn pool max_locals rows) r.0) (sym is)
    (insn_fails pool max_locals rows i row insns table lt before (subst (λ (r : ℕ × Written). (insn : Insn) → IsInsn pool max_locals rows r.0 r.1 insn → ⊥) is none))
