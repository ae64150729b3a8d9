-- What the writer of a class file writes (JVMS 4.1).
use Rattle.std.specs.Prelude.{◌≡◌, ℕ, List}
use Rattle.jv_class.specs.declared.class_file.ClassFile.{ClassFile}
use Rattle.jv_class.specs.ClassTexts.{class_text, HasFewItems, HasFewParts, HasShortParts}

-- each count and each length fits the bytes that it has, and these are the bytes of the class
pub record IsWritten (c : ClassFile) (bytes : List ℕ) : Type 0 where
  pub few_items : HasFewItems c
  pub few_parts : HasFewParts c
  pub short_parts : HasShortParts c
  pub spelled : bytes ≡ class_text c
