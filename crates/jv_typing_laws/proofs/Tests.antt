-- Tests that hold together.
use Rattle.std.proofs.Common.{◌≡◌, Bool, true, false}
use Rattle.std.specs.Prelude.{◌||◌}

pub where_false : (b c : Bool) → b ≡ false → (b || c) ≡ true → c ≡ true
where_false false c t h = h
where_false true c t h = absurd cc
