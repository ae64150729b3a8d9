-- What is put one by one, each with the pool that the one before left.
use Rattle.std.proofs.Common.{◌≡◌, ℕ, ◌+◌, ◌<◌, List, [], ◌∷◌, ◌++◌, length, map, take, get_or, Option, Some, None, refl, sym, ap, subst, ◌∙◌, append_assoc, append-nil}
use Rattle.std.specs.List.{AllZip, flat_map}
use Rattle.std.proofs.lemmas.List.{map-append}
use Rattle.std.proofs.lemmas.Grind.{flat_map-append}
use Rattle.jv_lists.proofs.Places.{take_one}
use Rattle.jv_types.specs.declared.frames.FramedBody.{FramedBody}
use Rattle.jv_types.specs.declared.shapes.Shape.{Shape}
use Rattle.jv_pool.specs.declared.item.PoolItem.{PoolItem}
use Rattle.jv_read.specs.Reading.{◌>>=◌}
use Rattle.jv_read.proofs.Fronts.{bind_is}
use Rattle.av_asm.specs.Mapping.{put_each}
use Rattle.av_asm.proofs.Putting.{behind}
use Rattle.av_standin_of.specs.Codes.{Code}
use Rattle.av_standin_of.specs.Classes.{MadeMethod}
use Rattle.av_standin_of.specs.Worlds.{coded_method, IsBodyOf}
use Rattle.av_class_files.specs.Steps.{listed, HasBody}

-- ---- what is put so far

-- of all some are left, and those before them were put
pub record IsPutSoFar {A B : Type 0} (one : A → List PoolItem → Option (B × List PoolItem)) (all left : List A) (initial now : List PoolItem) (written : List B) : Type 0 where
  pub puts : put_each one all initial ≡ behind written (put_each one left now)

pub one_more_put : {A B : Type 0} (one : A → List PoolItem → Option (B × List PoolItem)) (all left rest : List A) (x : A) (y : B) (initial now new : List PoolItem) (written more : List B)
    → left ≡ x ∷ rest → IsPutSoFar one all left initial now written → one x now ≡ Some (y, new) → more ≡ written ++ y ∷ [] → IsPutSoFar one all rest initial new more
one_more_put {A} {B} one all left rest x y initial now new written more first so_far put is = record {
  puts =
      so_far.puts ∙ ap (λ (xs : List A). behind written (put_each one xs now)) first
      ∙ ap (behind written) (bind_is (one x now) (λ a. put_each one rest a.1 >>= λ b. Some (a.0 ∷ b.0, b.1)) (y, new) put) ∙ by (put_each one rest new)
      ∙ ap (λ (ys : List B). behind ys (put_each one rest new)) (sym is);
}
  where
    by : (o : Option (List B × List PoolItem)) → behind written (o >>= λ b. Some (y ∷ b.0, b.1)) ≡ behind (written ++ y ∷ []) o
    by None = refl
    by (Some b) = ap (λ (ys : List B). Some (ys, b.1)) (sym (append_assoc written (y ∷ []) b.0))

-- ---- the bodies of methods

joined : {A B : Type 0} (R : A → B → Type 0) (xs more : List A) (ys next : List B) → AllZip R xs ys → AllZip R more next → AllZip R (xs ++ more) (ys ++ next)
joined R [] more [] next h k = k
joined R [] more (y ∷ ys) next h k = absurd h
joined R (x ∷ xs) more [] next h k = absurd h
joined R (x ∷ xs) more (y ∷ ys) next h k = (h.0, joined R xs more ys next h.1 k)

-- the body of a method where it has code
pub one_body : (w : List Shape) (class : List ℕ) (made : MadeMethod) (body : Option FramedBody) → HasBody w class made.shape made.code body → AllZip (IsBodyOf w) (coded_method class made) (listed body)
one_body w class made body has = by made.code body has
  where
    by : (code : Option Code) (body : Option FramedBody) → HasBody w class made.shape code body → AllZip (IsBodyOf w) (coded_method class (record { shape = made.shape; code = code })) (listed body)
    by None None has = tt
    by None (Some b) has = absurd cc
    by (Some code) None has = absurd has
    by (Some code) (Some b) has = (has, tt)

mapped_one : {A B C : Type 0} (f : A → B) (g : B → List C) (xs : List A) (i : ℕ) (x : A) → i < length xs → x ≡ get_or xs i x
    → flat_map g (map f (take (i + 1) xs)) ≡ flat_map g (map f (take i xs)) ++ g (f x)
mapped_one {A} {B} {C} f g xs i x lt is =
    ap (λ (ys : List A). flat_map g (map f ys)) (take_one xs i x lt is) ∙ ap (flat_map g) (map-append f (take i xs) (x ∷ []))
    ∙ flat_map-append g (map f (take i xs)) (f x ∷ []) ∙ ap (λ (cs : List C). flat_map g (map f (take i xs)) ++ cs) (append-nil (g (f x)))

pub one_more_body : {A B C D : Type 0} (R : C → D → Type 0) (f : A → B) (g : B → List C) (xs : List A) (i : ℕ) (x : A) (ys next more : List D) → i < length xs → x ≡ get_or xs i x
    → AllZip R (flat_map g (map f (take i xs))) ys → AllZip R (g (f x)) next → more ≡ ys ++ next → AllZip R (flat_map g (map f (take (i + 1) xs))) more
one_more_body {A} {B} {C} {D} R f g xs i x ys next more lt is so_far body pushed =
    subst (λ (cs : List C). AllZip R cs more) (sym (mapped_one f g xs i x lt is))
    (subst (λ (ds : List D). AllZip R (flat_map g (map f (take i xs)) ++ g (f x)) ds) (sym pushed) (joined R (flat_map g (map f (take i xs))) (g (f x)) ys next so_far body))
