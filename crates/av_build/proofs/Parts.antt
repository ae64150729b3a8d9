-- The world of a program, beside that of the whole classes.
use Rattle.std.proofs.Common.{◌≡◌, ℕ, zero, suc, ◌++◌, List, [], ◌∷◌, Some, slice_get, sym, ap, ◌∙◌, subst}
use Rattle.std.specs.Prelude.{◌↔◌, bit_and}
use Rattle.std.specs.List.{AllZip}
use Rattle.std.proofs.lemmas.Option.{same_Some}
use Rattle.jv_types.specs.declared.access.Access.{Access}
use Rattle.jv_types.specs.declared.shapes.Shape.{Shape}
use Rattle.jv_class.specs.declared.class_file.ClassFile.{ClassFile}
use Rattle.jv_world.specs.Worlds.{IsFinal, IsWorld}
use Rattle.jv_fewer_members.specs.Parts.{HasFewerMembers, HaveSameFinals, Places}
use Rattle.av_agreement.specs.Agreement.{HaveDistinctMembers, KeepsEnough, collected_classes, whole_classes}
use Rattle.av_collected.specs.declared.collected.Collected.{Collected}
use Rattle.av_collected.specs.Answers.{AreCollected, FailsNot, IsReduced}
use Rattle.av_collected.specs.Conditions.{AreGiven}
use Rattle.av_collected.specs.Libraries.{IsLibrary, LibraryFile}
use Rattle.av_collected.specs.Naming.{Application}
use Rattle.av_stages.specs.Stages.{IsCollectedOfSome, IsKnown}
use Rattle.av_stops.specs.FirstStops.{program_world, whole_world}

-- the laws of what is collected, of parts of worlds and of whole classes
pub record Laws : Type 0 where
  pub enough : (given : Application) (library : List LibraryFile) (found : Collected) → AreGiven given → IsLibrary library → AreCollected given library found → FailsNot given library
      → IsWorld (whole_classes given found) → HaveDistinctMembers (whole_classes given found) → (at : Places) × KeepsEnough given (whole_classes given found) (collected_classes given found) at
  pub worlds : (w v : List Shape) (at : Places) → HasFewerMembers w v at → HaveSameFinals w v → IsWorld v
  pub distinct : (classes : List ClassFile) (given : Application) (found : Collected) → IsKnown classes given → IsCollectedOfSome given found
      → HaveDistinctMembers (whole_world given found)

same_final : (s t : Shape) → t.flags ≡ s.flags → IsFinal s ↔ IsFinal t
same_final s t e = ((λ p. subst Final (sym e) p), (λ p. subst Final e p))
  where
    Final : Access → Type 0
    Final a = bit_and a.0 16 ≡ 16

finals_behind : (given : Application) (library : List LibraryFile) (full cut : List Shape) → AllZip (IsReduced given library) full cut → HaveSameFinals full cut
finals_behind given library [] cut all c s t p q = absurd cc
finals_behind given library (x ∷ full) [] all c s t p q = absurd cc
finals_behind given library (x ∷ full) (y ∷ cut) all zero s t p q =
    let e : t.flags ≡ s.flags = sym (ap (λ (a : Shape). a.flags) (same_Some y t q)) ∙ all.0.flags ∙ ap (λ (a : Shape). a.flags) (same_Some x s p) in
    same_final s t e
finals_behind given library (x ∷ full) (y ∷ cut) all (suc c) s t p q = finals_behind given library full cut all.1 c s t p q

same_finals : (front full cut : List Shape) → HaveSameFinals full cut → HaveSameFinals (front ++ full) (front ++ cut)
same_finals [] full cut behind c s t p q = behind c s t p q
same_finals (x ∷ front) full cut behind zero s t p q =
    let e : t.flags ≡ s.flags = ap (λ (a : Shape). a.flags) (sym (same_Some x t q) ∙ same_Some x s p) in
    same_final s t e
same_finals (x ∷ front) full cut behind (suc c) s t p q = same_finals front full cut behind c s t p q

pub program_is_world : Laws → (classes : List ClassFile) (given : Application) (found : Collected) → IsKnown classes given → IsCollectedOfSome given found → IsWorld (whole_world given found)
    → IsWorld (program_world given found)
program_is_world laws classes given found known of world =
    let distinct = laws.distinct classes given found known of in
    let kept = laws.enough given of.library found known.collectable of.is_library of.collected of.fails_not world distinct in
    let finals = same_finals given.shapes found.full found.shapes (finals_behind given of.library found.full found.shapes of.collected.reduced) in
    laws.worlds (whole_world given found) (program_world given found) kept.0 kept.1.part finals
