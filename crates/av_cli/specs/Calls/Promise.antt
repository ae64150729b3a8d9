-- What is promised of the text that is printed for a class.
use Rattle.std.specs.Prelude.{◌≡◌, ℕ, List}
use Rattle.calls_form.specs.declared.object_class.ObjectClass.{ObjectClass}
use Rattle.calls_form.specs.ObjectForm.{IsObjectClass}
use Rattle.calls_lines.specs.First.Lines.{text_of_lines}
use Rattle.calls_lines.specs.First.Covered.{AreClassLines}
use Rattle.av_cli.specs.Calls.FileKinds.{IsClassFile, DeclaresMain}

-- The bytes are a class file, and one class of the form and no other, with a main. The text is exactly the
-- lines of the least facts of that class, sorted and none twice; and whatever run the class has, on any
-- threads, each of its calls has its line, and so has each object of the class where it stands after the run:
-- in a local, on a stack, in a static field or in a field
pub record IsCallGraph (name bytes text : List ℕ) : Type 0 where
  pub class_file : IsClassFile bytes
  pub class : ObjectClass
  pub is_class : IsObjectClass name bytes class
  pub only : (other : ObjectClass) → IsObjectClass name bytes other → other ≡ class
  pub main : DeclaresMain class
  pub lines : List (List ℕ)
  pub are_lines : AreClassLines class lines
  pub text_is : text ≡ text_of_lines lines
