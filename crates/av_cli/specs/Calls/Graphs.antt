-- What the search for a class's lines answers.
use Rattle.std.specs.Prelude.{ℕ, List, Result, Ok, Err}
use Rattle.std.specs.BTreeSet.{BTreeSet}
use Rattle.calls_form.specs.declared.object_class.ObjectClass.{ObjectClass}
use Rattle.calls_form.specs.ObjectForm.{IsObjectClass}
use Rattle.calls_lines.specs.First.Lines.{text_of_lines}
use Rattle.av_cli.specs.declared.calls.graph.GraphError.{GraphError}
use Rattle.av_cli.specs.declared.calls.graph.GraphError.TheVariants.{Memory, TooLarge, NotClass, OutsideForm, NoMain}
use Rattle.av_cli.specs.Calls.FileKinds.{IsTooLarge, IsClassFile, IsNoClass, IsOutsideForm, DeclaresMain, LacksMain}
use Rattle.av_cli.specs.Calls.Promise.{IsCallGraph}

-- why bytes have no lines; where memory is wanting, nothing is said of them
abbrev pub LacksLines : List ℕ → List ℕ → GraphError → Type 0
LacksLines name bytes TooLarge = IsTooLarge bytes
LacksLines name bytes NotClass = IsNoClass bytes
LacksLines name bytes OutsideForm = IsOutsideForm name bytes
LacksLines name bytes NoMain = LacksMain name bytes
LacksLines name bytes Memory = Unit {0}

-- the bytes are a class file, this is the class that they are by the form, and it has a main
pub record IsMainClass (name bytes : List ℕ) (class : ObjectClass) : Type 0 where
  pub class_file : IsClassFile bytes
  pub is_class : IsObjectClass name bytes class
  pub main : DeclaresMain class

-- the class of the bytes, or why they have no lines
abbrev pub IsClassOf : List ℕ → List ℕ → Result ObjectClass GraphError → Type 0
IsClassOf name bytes (Ok class) = IsMainClass name bytes class
IsClassOf name bytes (Err error) = LacksLines name bytes error

-- the lines of the bytes, or why they have none
abbrev pub IsGraphOf : List ℕ → List ℕ → Result (BTreeSet (List ℕ)) GraphError → Type 0
IsGraphOf name bytes (Ok lines) = IsCallGraph name bytes (text_of_lines lines.keys)
IsGraphOf name bytes (Err error) = LacksLines name bytes error
