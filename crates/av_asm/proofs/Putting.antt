-- What is written one by one, each with the pool that the one before left.
use Rattle.std.proofs.Common.{◌≡◌, List, [], ◌∷◌, ◌++◌, Option, Some, None, refl, sym, ap, ◌∙◌, append_assoc}
use Rattle.std.specs.Prelude.{option_map}
use Rattle.std.proofs.lemmas.List.{append-nil}
use Rattle.jv_pool.specs.declared.item.PoolItem.{PoolItem}
use Rattle.jv_read.specs.Reading.{◌>>=◌}
use Rattle.jv_read.proofs.Fronts.{bind_is, bind_some}
use Rattle.jv_insn.specs.Entries.{Grows}
use Rattle.jv_insn.proofs.Placed.{grows_on}
use Rattle.av_asm.specs.Mapping.{put_each}

-- these were written before the rest
abbrev pub behind : {B : Type 0} → List B → Option (List B × List PoolItem) → Option (List B × List PoolItem)
behind {B} written rest = option_map (λ (more : List B × List PoolItem). (written ++ more.0, more.1)) rest

-- of all some are left, and those before them are written
pub record IsPutSoFar {A B : Type 0} (one : A → List PoolItem → Option (B × List PoolItem)) (all left : List A) (initial now : List PoolItem) (written : List B) : Type 0 where
  pub puts : put_each one all initial ≡ behind written (put_each one left now)
  pub grows : Grows initial now

pub grows_not : (pool : List PoolItem) → Grows pool pool
grows_not pool = ([], sym (append-nil pool))

pub put_begun : {A B : Type 0} (one : A → List PoolItem → Option (B × List PoolItem)) (all : List A) (pool : List PoolItem) → IsPutSoFar one all all pool pool []
put_begun {A} {B} one all pool = record { puts = by (put_each one all pool); grows = grows_not pool }
  where
    by : (o : Option (List B × List PoolItem)) → o ≡ behind [] o
    by None = refl
    by (Some more) = refl

pub put_more : {A B : Type 0} (one : A → List PoolItem → Option (B × List PoolItem)) (all left : List A) (x : A) (y : B) (initial now new : List PoolItem) (written : List B)
    → IsPutSoFar one all (x ∷ left) initial now written → one x now ≡ Some (y, new) → Grows now new → IsPutSoFar one all left initial new (written ++ y ∷ [])
put_more {A} {B} one all left x y initial now new written so_far put grows = record {
  puts = so_far.puts ∙ ap (behind written) (bind_is (one x now) (λ first. put_each one left first.1 >>= λ more. Some (first.0 ∷ more.0, more.1)) (y, new) put) ∙ by (put_each one left new);
  grows = grows_on initial now new so_far.grows grows;
}
  where
    by : (o : Option (List B × List PoolItem)) → behind written (o >>= λ more. Some (y ∷ more.0, more.1)) ≡ behind (written ++ y ∷ []) o
    by None = refl
    by (Some more) = ap (λ (ys : List B). Some (ys, more.1)) (sym (append_assoc written (y ∷ []) more.0))

pub put_stopped : {A B : Type 0} (one : A → List PoolItem → Option (B × List PoolItem)) (all left : List A) (x : A) (initial now : List PoolItem) (written : List B)
    → IsPutSoFar one all (x ∷ left) initial now written → one x now ≡ None → put_each one all initial ≡ None
put_stopped {A} {B} one all left x initial now written so_far none =
    so_far.puts ∙ ap (λ (o : Option (B × List PoolItem)). behind written (o >>= λ first. put_each one left first.1 >>= λ more. Some (first.0 ∷ more.0, more.1))) none

pub put_ended : {A B : Type 0} (one : A → List PoolItem → Option (B × List PoolItem)) (all left : List A) (initial now : List PoolItem) (written : List B)
    → left ≡ [] → IsPutSoFar one all left initial now written → put_each one all initial ≡ Some (written, now)
put_ended {A} {B} one all left initial now written none so_far =
    so_far.puts ∙ ap (λ (xs : List A). behind written (put_each one xs now)) none ∙ ap (λ (ys : List B). Some (ys, now)) (append-nil written)

-- what was written first, and what behind it
pub record IsPutFirst {A B : Type 0} (one : A → List PoolItem → Option (B × List PoolItem)) (x : A) (xs : List A) (initial now : List PoolItem) (written : List B) : Type 0 where
  pub first : B × List PoolItem
  pub more : List B × List PoolItem
  pub one_is : one x initial ≡ Some first
  pub more_are : put_each one xs first.1 ≡ Some more
  pub written_are : written ≡ first.0 ∷ more.0
  pub now_is : now ≡ more.1

pub put_first : {A B : Type 0} (one : A → List PoolItem → Option (B × List PoolItem)) (x : A) (xs : List A) (initial now : List PoolItem) (written : List B)
    → put_each one (x ∷ xs) initial ≡ Some (written, now) → IsPutFirst one x xs initial now written
put_first {A} {B} one x xs initial now written e =
    let result : List B × List PoolItem = (written, now) in
    let a = bind_some (one x initial) (λ first. put_each one xs first.1 >>= λ more. Some (first.0 ∷ more.0, more.1)) result e in
    let b = bind_some (put_each one xs a.0.1) (λ more. Some (a.0.0 ∷ more.0, more.1)) result a.2 in
    let made : List B × List PoolItem = (a.0.0 ∷ b.0.0, b.0.1) in
    let same : made ≡ result = one_of made result b.2 in
    record { first = a.0; more = b.0; one_is = a.1; more_are = b.1; written_are = ap (λ (r : List B × List PoolItem). r.0) (sym same); now_is = ap (λ (r : List B × List PoolItem). r.1) (sym same) }
  where
    one_of : {X : Type 0} (x y : X) → Some x ≡ Some y → x ≡ y
    one_of x y e = cc
