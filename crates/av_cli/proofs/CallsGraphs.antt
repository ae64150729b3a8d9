-- What the readers say of bytes, and what is promised of their lines.
use Rattle.std.proofs.Common.{◌≡◌, ℕ, List, Result, Err, ap, subst, refl}
use Rattle.jv_class.specs.declared.class_file.ClassFile.{ClassFile}
use Rattle.jv_class.specs.declared.fault.BadClass.{BadClass}
use Rattle.jv_class.specs.declared.fault.BadClass.TheVariants as fault
use Rattle.jv_class.specs.ClassTexts.{ClassText}
use Rattle.calls_form.specs.declared.object_class.ObjectClass.{ObjectClass}
use Rattle.calls_form.specs.declared.read_error.ReadError.{ReadError}
use Rattle.calls_form.specs.declared.read_error.ReadError.TheVariants.{Malformed}
use Rattle.calls_form.specs.ObjectForm.{IsObjectClass}
use Rattle.calls_lines.specs.First.Lines.{text_of_lines}
use Rattle.calls_lines.specs.First.Covered.{AreClassLines}
use Rattle.av_cli.specs.Calls.FileKinds.{IsClassFile, IsInForm, DeclaresMain, LacksMain}
use Rattle.av_cli.specs.Calls.Promise.{IsCallGraph}
use Rattle.av_cli.specs.Calls.Graphs.{IsMainClass}

abbrev no_file : BadClass → Result ClassFile BadClass
no_file e = Err e

-- bytes that are refused are no class file
pub no_class_file : (bytes : List ℕ) (e : BadClass) → e ≡ fault.NotClass → (no_file e ≡ no_file fault.NotClass → (file : ClassFile) → ClassText file bytes → ⊥) → ¬ IsClassFile bytes
no_class_file bytes e is h = λ file. h (ap no_file is) file.0 file.1

abbrev no_class : ReadError → Result ObjectClass ReadError
no_class e = Err e

-- bytes that are refused aren't in the form
pub outside_form : (name bytes : List ℕ) (e : ReadError) → e ≡ Malformed → (no_class e ≡ no_class Malformed → (class : ObjectClass) → IsObjectClass name bytes class → ⊥)
    → ¬ IsInForm name bytes
outside_form name bytes e is h = λ form. h (ap no_class is) form.0 form.1

-- bytes have one class of a name
abbrev pub AreOne : Type 0
AreOne = (name bytes : List ℕ) (c d : ObjectClass) → IsObjectClass name bytes c → IsObjectClass name bytes d → c ≡ d

-- the one class that the bytes are lacks a main
pub lacks_main : (name bytes : List ℕ) (class : ObjectClass) → AreOne → IsClassFile bytes → IsObjectClass name bytes class → ¬ DeclaresMain class → LacksMain name bytes
lacks_main name bytes class one file form none =
    (file, (class, form), λ other is main. none (subst DeclaresMain (one name bytes other class is form) main))

-- the lines of the class that the bytes are make their call graph
pub call_graph_of : (name bytes : List ℕ) (class : ObjectClass) (lines : List (List ℕ)) → AreOne → IsMainClass name bytes class → AreClassLines class lines
    → IsCallGraph name bytes (text_of_lines lines)
call_graph_of name bytes class lines one is are = record {
  class_file = is.class_file;
  class = class;
  is_class = is.is_class;
  only = λ other form. one name bytes other class form is.is_class;
  main = is.main;
  lines = lines;
  are_lines = are;
  text_is = refl;
}
