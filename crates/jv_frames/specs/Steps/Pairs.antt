-- A relation of two lists, place by place, as far as a loop has come.
use Rattle.std.specs.Prelude.{◌≡◌, ℕ, List, length, take}
use Rattle.std.specs.List.{AllZip}

pub record AllZipBefore {A : Type 0} (R : A → A → Type 0) (xs ys : List A) (n : ℕ) : Type 0 where
  pub long : length xs ≡ length ys
  pub so_far : AllZip R (take n xs) (take n ys)
