-- The class of a sketch in a world.
use Rattle.std.proofs.Common.{◌≡◌, ℕ, List, Some, slice_get, sym, subst}
use Rattle.jv_lists.proofs.Places.{placed}
use Rattle.jv_types.specs.declared.shapes.Shape.{Shape}
use Rattle.jv_world.specs.Worlds.{IsNamed, HaveDistinctNames}
use Rattle.av_sketches.specs.declared.sketch.Sketch.{Sketch}
use Rattle.av_class_files.specs.Filing.{IsThere, MayBeFiled}
use Rattle.av_class_files.specs.Steps.{HasClass, MayAllBePut}

pub class_there : (w : List Shape) (name : List ℕ) → HasClass w name → ((c : ℕ) → ¬ IsNamed w c name) → ⊥
class_there w name (class, here, named) none = none here.0 (class, placed w class here, named)

-- it has the methods, each once
pub methods_there : (w : List Shape) (c dims : ℕ) (sketch : Sketch) → IsThere w sketch → HaveDistinctNames w → IsNamed w c sketch.name → MayBeFiled dims sketch → MayAllBePut w c dims sketch.name sketch.methods
methods_there w c dims sketch there distinct named fits sketched has =
    let at = placed w there.class there.here in
    let number : c ≡ there.here.0 = distinct c there.here.0 sketch.name named (there.class, at, there.named) in
    let here = there.methods sketched has in record {
      there = record {
        class = there.class;
        of_class = subst (λ (d : ℕ). slice_get w d ≡ Some there.class) (sym number) at;
        has = here;
        once = λ other among called. there.distinct other sketched.shape among here called.0 called.1;
      };
      coded = fits sketched has;
    }
