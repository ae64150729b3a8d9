-- Lists in which nothing stands twice.
use Rattle.std.specs.Prelude.{List, [], ◌∷◌, Contains}

-- no element stands at two places
abbrev pub StandOnce : {X : Type 0} → List X → Type 0
StandOnce [] = Unit {0}
StandOnce (x ∷ xs) = (Contains xs x → ⊥) × StandOnce xs
