-- The names of the classes that a stand-in adds are free: neither the application nor a library may have a class of
-- such a name.
use Rattle.std.proofs.Common.{◌≡◌, ℕ, inl, inr, ⊎_elim, List, [], ◌∷◌, ◌++◌, codes, refl, sym, ◌∙◌, subst}
use Rattle.std.proofs.lemmas.List.{append_assoc}
use Rattle.jv_types.specs.declared.shapes.Shape.{Shape}
use Rattle.av_collected.specs.Answers.{IsUnfitName}
use Rattle.av_collected.specs.Libraries.{IsOfLibrary}
use Rattle.av_app_files.specs.FileRules.{IsReserved}
use Rattle.av_conditions.specs.StandIn.{any_name, library_name}
use Rattle.av_standin_of.specs.Names.{part_name}
use Rattle.av_stops.specs.Programs.{IsCollectedWorld}
use Rattle.av_sketches.specs.Conditions.{HasFreeNames, IsFreeName}
use Rattle.av_can_stand_in.proofs.Parts.{cut_of, fit_name, own_of, parts}

-- a name that neither a class of an application nor one of a library may have
pub record IsSpare (name : List ℕ) : Type 0 where
  pub reserved : IsReserved name
  pub unfit : IsUnfitName name

pub library_spare : IsSpare library_name
library_spare = record { reserved = inl (codes "Library", refl); unfit = inl (codes "Library", refl) }

-- the mark of a stand-in stands in the name
marked : (name before after : List ℕ) → name ≡ before ++ codes "averroes$" ++ after → IsSpare name
marked name before after e = record { reserved = inr (inr (before, after, e)); unfit = inr (inl (before, after, e)) }

any_spare : (class : List ℕ) → IsSpare (any_name class)
any_spare class =
    marked (any_name class) (class ++ codes "$") (codes "any")
    (sym (append_assoc (class ++ codes "$") (codes "averroes$") (codes "any") ∙ append_assoc class (codes "$") (codes "averroes$any")))

part_spare : (folder : List ℕ) → IsSpare (part_name folder)
part_spare [] = marked (part_name []) [] (codes "part") refl
part_spare (byte ∷ bytes) =
    let folder = byte ∷ bytes in
    marked (part_name folder) (folder ++ codes "/") (codes "part")
    (sym (append_assoc (folder ++ codes "/") (codes "averroes$") (codes "part") ∙ append_assoc folder (codes "/") (codes "averroes$part")))

module _ (w : List Shape) (dims : ℕ) (p : IsCollectedWorld w dims) where
  -- the application has no class of such a name
  pub no_own : (name : List ℕ) → IsSpare name → IsOfLibrary p.given.shapes name
  no_own name spare s among named =
      let own = own_of w dims p s among in
      (p.of_files own.class own.here).1 (s.name, own.states.name, subst IsReserved (sym named) spare.reserved)

  free_name : (name : List ℕ) → IsSpare name → IsFreeName w name
  free_name name spare s here named =
      ⊎_elim
      (λ own. no_own name spare s own named)
      (λ behind.
      let cut = cut_of w dims p s behind in
      fit_name p.given p.library p.fails_not cut.full.name cut.collected (subst IsUnfitName (sym named ∙ cut.reduced.name) spare.unfit))
      (parts w dims p s here)

  pub free_names : HasFreeNames w
  free_names = record {
    library = free_name library_name library_spare;
    any = λ class. free_name (any_name class) (any_spare class);
    part = λ folder. free_name (part_name folder) (part_spare folder);
  }
