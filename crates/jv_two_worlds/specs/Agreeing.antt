-- What it is for two worlds to agree.
use Rattle.std.specs.Prelude.{◌≡◌}

-- What P says of something in the one world, Q says of it in the other, under its other number; and Q says it of
-- nothing else.
pub record Agree {X : Type 0} (to : X → X) (P Q : X → Type 0) : Type 0 where
  pub into : (x : X) → P x → Q (to x)
  pub back : (y : X) → Q y → (x : X) × (y ≡ to x) × P x
