-- What is put one by one, each with the pool that the one before left, and stays as the pool grows.
use Rattle.std.proofs.Common.{◌≡◌, ℕ, ◌≤◌, Bool, true, ◌&&◌, leb, ltb, List, [], ◌∷◌, length, Option, Some, refl, sym, subst, arith}
use Rattle.std.specs.List.{AllByRecursion, AllZip, list_all}
use Rattle.std.proofs.lemmas.Bool.{and_parts, leb-true, ltb-true}
use Rattle.jv_bytes.specs.Utf8.{IsText}
use Rattle.jv_pool.specs.declared.item.PoolItem.{PoolItem}
use Rattle.jv_read.proofs.Fronts.{given_as}
use Rattle.jv_insn.specs.Entries.{Grows}
use Rattle.av_asm.specs.Mapping.{put_each}
use Rattle.av_asm.proofs.Putting.{put_first}
use Rattle.av_read_back.specs.Fileable.{FitsPool}
use Rattle.av_read_back.proofs.Pools.{IsFilePool, Grown, grown_not, grown_on}

-- ---- zipped lists

pub zip_weaker : {A B : Type 0} (R Q : A → B → Type 0) → ((x : A) (y : B) → R x y → Q x y) → (xs : List A) (ys : List B) → AllZip R xs ys → AllZip Q xs ys
zip_weaker R Q f [] [] h = tt
zip_weaker R Q f [] (y ∷ ys) h = absurd h
zip_weaker R Q f (x ∷ xs) [] h = absurd h
zip_weaker R Q f (x ∷ xs) (y ∷ ys) h = (f x y h.0, zip_weaker R Q f xs ys h.1)

pub zip_second : {A B : Type 0} (R : A → B → Type 0) (P : B → Type 0) → ((x : A) (y : B) → R x y → P y) → (xs : List A) (ys : List B) → AllZip R xs ys → AllByRecursion P ys
zip_second R P f [] [] h = tt
zip_second R P f [] (y ∷ ys) h = absurd h
zip_second R P f (x ∷ xs) [] h = absurd h
zip_second R P f (x ∷ xs) (y ∷ ys) h = (f x y h.0, zip_second R P f xs ys h.1)

-- ---- one by one

-- all were put
pub record AreEachPut {A B : Type 0} (Q : List PoolItem → A → B → Type 0) (old new : List PoolItem) (xs : List A) (ys : List B) : Type 0 where
  pub grown : Grown old new
  pub are : AllZip (Q new) xs ys

-- one was put
pub record IsOnePut {A B : Type 0} (Q : List PoolItem → A → B → Type 0) (old new : List PoolItem) (x : A) (y : B) : Type 0 where
  pub grown : Grown old new
  pub is : Q new x y

module _ {A B : Type 0} (one : A → List PoolItem → Option (B × List PoolItem)) (May : A → Type 0) (Q : List PoolItem → A → B → Type 0)
    (step : (x : A) (old : List PoolItem) (made : B × List PoolItem) → IsFilePool old → May x → one x old ≡ Some made → IsOnePut Q old made.1 x made.0)
    (stays : (x : A) (y : B) (old new : List PoolItem) → Grows old new → Q old x y → Q new x y) where
  pub each_put : (xs : List A) (old : List PoolItem) (made : List B × List PoolItem) → IsFilePool old → AllByRecursion May xs → put_each one xs old ≡ Some made → AreEachPut Q old made.1 xs made.0
  each_put [] old made g may e =
      let here : List B × List PoolItem = ([], old) in
      given_as (λ (w : List B × List PoolItem). AreEachPut Q old w.1 [] w.0) here made e (record { grown = grown_not old g; are = tt })
  each_put (x ∷ xs) old made g may e =
      let h = put_first one x xs old made.1 made.0 e in
      let p = step x old h.first g may.0 h.one_is in
      let more = each_put xs h.first.1 h.more p.grown.good may.1 h.more_are in
      let first : Q h.more.1 x h.first.0 = stays x h.first.0 h.first.1 h.more.1 more.grown.grows p.is in
      let all : AreEachPut Q old h.more.1 (x ∷ xs) (h.first.0 ∷ h.more.0) = record { grown = grown_on old h.first.1 h.more.1 p.grown more.grown; are = (first, more.are) } in
      subst (λ (ys : List B). AreEachPut Q old made.1 (x ∷ xs) ys) (sym h.written_are) (subst (λ (p : List PoolItem). AreEachPut Q old p (x ∷ xs) (h.first.0 ∷ h.more.0)) (sym h.now_is) all)

-- ---- texts of ASCII

abbrev pub is_ascii : ℕ → Bool
is_ascii byte = leb 1 byte && ltb byte 128

ascii_text : (bytes : List ℕ) → list_all is_ascii bytes ≡ true → IsText bytes bytes
ascii_text [] e = refl
ascii_text (b ∷ bytes) e =
    let h = and_parts (is_ascii b) (list_all is_ascii bytes) e in
    let k = and_parts (leb 1 b) (ltb b 128) h.0 in
    (bytes, record { front = b ∷ []; spelled = (leb-true 1 b k.0, ltb-true b 128 k.1, refl); parts = refl }, ascii_text bytes h.1)

-- a short text of ASCII is one that a pool may hold
pub ascii_fits : (text : List ℕ) → list_all is_ascii text ≡ true → length text ≤ 100 → FitsPool text
ascii_fits text e short = record { spelled = (text, ascii_text text e); short = omega (arith, short) }
