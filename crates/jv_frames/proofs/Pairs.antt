-- Relations of two lists, place by place.
use Rattle.std.proofs.Common.{◌≡◌, ℕ, ◌+◌, ◌<◌, List, length, take, get_or, subst, arith}
use Rattle.std.proofs.lemmas.List.{take_more, take_all}
use Rattle.std.proofs.lemmas.List.Elements.{AllZip-push}
use Rattle.std.specs.List.{AllZip}
use Rattle.jv_frames.specs.Steps.Pairs.{AllZipBefore}

pub AllZipBefore-more : {X : Type 0} (R : X → X → Type 0) (xs ys : List X) (i : ℕ) (d e : X) → i < length xs → AllZipBefore R xs ys i → R (get_or xs i d) (get_or ys i e)
    → AllZipBefore R xs ys (i + 1)
AllZipBefore-more R xs ys i d e here before holds =
    let there : i < length ys = omega (arith, before.long) in
    record {
      long = before.long;
      so_far = rw (take_more xs i d here, take_more ys i e there) (AllZip-push R (take i xs) (take i ys) (get_or xs i d) (get_or ys i e) before.so_far holds);
    }

pub AllZipBefore-all : {X : Type 0} (R : X → X → Type 0) (xs ys : List X) → AllZipBefore R xs ys (length xs) → AllZip R xs ys
AllZipBefore-all R xs ys before =
    let left : take (length xs) xs ≡ xs = take_all (length xs) xs (omega arith) in
    let right : take (length xs) ys ≡ ys = take_all (length xs) ys (omega (arith, before.long)) in
    subst (λ (l : List _). AllZip R l ys) left (subst (λ (l : List _). AllZip R (take (length xs) xs) l) right before.so_far)
