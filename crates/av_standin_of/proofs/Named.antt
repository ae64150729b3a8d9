-- Files have the names of their classes.
use Rattle.std.proofs.Common.{◌≡◌, ℕ, List, [], ◌∷◌, map, refl, sym, ap, subst, ◌∙◌}
use Rattle.std.specs.List.{AllZip}
use Rattle.std.specs.List.Sorted.{IsStrictlySortedBy}
use Rattle.jv_types.specs.declared.shapes.Shape.{Shape}
use Rattle.av_standin_of.specs.declared.standin.Standin.{Standin}
use Rattle.av_standin_of.specs.declared.standin.StandinFile.{StandinFile}
use Rattle.av_standin_of.specs.Names.{name_order, file_name}
use Rattle.av_standin_of.specs.Classes.{MadeClass}
use Rattle.av_standin_of.specs.Files.{IsFileOf}
use Rattle.av_standin_of.specs.Worlds.{StandinOf}

names_are : (classes : List MadeClass) (files : List StandinFile) → AllZip IsFileOf classes files → map (λ (made : MadeClass). file_name made.name) classes ≡ map (λ (file : StandinFile). file.name) files
names_are [] [] h = refl
names_are [] (file ∷ files) h = absurd h
names_are (made ∷ classes) [] h = absurd h
names_are (made ∷ classes) (file ∷ files) h =
    ap (λ (name : List ℕ). name ∷ map (λ (m : MadeClass). file_name m.name) classes) (sym h.0.name)
    ∙ ap (λ (names : List (List ℕ)). file.name ∷ names) (names_are classes files h.1)

pub in_order : (w : List Shape) (dims : ℕ) (standin : Standin) → StandinOf w dims standin → IsStrictlySortedBy name_order (map (λ (file : StandinFile). file.name) standin.files)
in_order w dims standin h = subst (IsStrictlySortedBy name_order) (names_are h.classes standin.files h.files) h.are.rising
