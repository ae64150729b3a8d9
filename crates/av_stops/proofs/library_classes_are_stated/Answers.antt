use Rattle.std.proofs.Common.{ℕ, List, subst, sym}
use Rattle.av_stops.specs.LibraryFolders.{IsClassOf}
use Rattle.av_stops.proofs.library_classes_are_stated.Goals as goal

pub returns : goal.returns
returns _ = λ name bytes shape p. (bytes, subst (λ (n : List ℕ). IsClassOf n bytes shape) (sym p.named) p)
