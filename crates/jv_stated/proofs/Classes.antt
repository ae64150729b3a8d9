-- Whether bytes are the text of a class is decided.
use Rattle.std.proofs.Common.{◌≡◌, ◌⊎◌, inl, inr, ℕ, List, Option, Some, None, refl}
use Rattle.jv_class.specs.declared.class_file.ClassFile.{ClassFile}
use Rattle.jv_class.specs.ClassTexts.{ClassText, KeepsRules}
use Rattle.jv_class.specs.Steps.LayoutReading.{layout_at}
use Rattle.jv_class.proofs.ClassTexts.{no_layout, ruled, unruled}
use Rattle.jv_stated.proofs.Deciding.{IsDecided}
use Rattle.jv_stated.proofs.Rules.{rules}

-- bytes are the text of a class, or that of none
abbrev pub IsTextDecided : List ℕ → Type 0
IsTextDecided bytes = ((class : ClassFile) × ClassText class bytes) ⊎ ((class : ClassFile) → ClassText class bytes → ⊥)

pub decided : (bytes : List ℕ) → IsTextDecided bytes
decided bytes = by (layout_at bytes) refl
  where
    keeps : (c : ClassFile) → layout_at bytes ≡ Some c → IsDecided (KeepsRules c) → IsTextDecided bytes
    keeps c e (inl r) = inl (c, ruled bytes c e r)
    keeps c e (inr n) = inr (unruled bytes c e n)

    by : (found : Option ClassFile) → layout_at bytes ≡ found → IsTextDecided bytes
    by None e = inr (no_layout bytes e)
    by (Some c) e = keeps c e (rules c)
