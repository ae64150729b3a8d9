-- What is asked of a class's file, in this order: how long it is, whether it is a class file, and whether
-- it is in the form.
use Rattle.std.specs.Prelude.{◌<◌, ℕ, List, length}
use Rattle.jv_class.specs.declared.class_file.ClassFile.{ClassFile}
use Rattle.jv_class.specs.ClassTexts.{ClassText}
use Rattle.calls_form.specs.declared.object_class.ObjectClass.{ObjectClass}
use Rattle.calls_form.specs.ObjectForm.{file_limit, IsObjectClass}
use Rattle.calls_model.specs.First.Machine.{IsMain}

-- the file is longer than a class file may be
abbrev pub IsTooLarge : List ℕ → Type 0
IsTooLarge bytes = file_limit < length bytes

-- the bytes are the text of a class file (JVMS 4.1)
abbrev pub IsClassFile : List ℕ → Type 0
IsClassFile bytes = (file : ClassFile) × ClassText file bytes

-- the bytes are a class of this name in the form
abbrev pub IsInForm : List ℕ → List ℕ → Type 0
IsInForm name bytes = (class : ObjectClass) × IsObjectClass name bytes class

-- the file isn't too long, and isn't a class file
abbrev pub IsNoClass : List ℕ → Type 0
IsNoClass bytes = (¬ IsTooLarge bytes) × (¬ IsClassFile bytes)

-- the file isn't too long and is a class file, and isn't in the form
abbrev pub IsOutsideForm : List ℕ → List ℕ → Type 0
IsOutsideForm name bytes = (¬ IsTooLarge bytes) × IsClassFile bytes × (¬ IsInForm name bytes)

-- the class declares its own public static main
abbrev pub DeclaresMain : ObjectClass → Type 0
DeclaresMain class = (place : ℕ) × IsMain class place

-- the bytes are a class file in the form, and the class declares no such main
abbrev pub LacksMain : List ℕ → List ℕ → Type 0
LacksMain name bytes =
    IsClassFile bytes × IsInForm name bytes × ((class : ObjectClass) → IsObjectClass name bytes class → ¬ DeclaresMain class)
