-- What a reader finds at the front of bytes.
use Rattle.std.specs.Prelude.{◌≡◌, ℕ, Bool, true, ◌&&◌, not, ◌==◌, List, [], ◌∷◌, ◌++◌}
use Rattle.std.specs.List.{flat_map, AllByRecursion}
use Rattle.jv_types.specs.declared.desc.RefType.{RefType}
use Rattle.jv_types.specs.declared.desc.Desc as desc
use Rattle.jv_desc.specs.Texts.{IsRef, ref_text, IsDesc, desc_text}

-- no byte is `;`
abbrev pub no_semicolon : List ℕ → Bool
no_semicolon [] = true
no_semicolon (byte ∷ bytes) = not (byte == 59) && no_semicolon bytes

-- the bytes begin with the text of a reference type of at most so many arrays
pub record ReadsRef (most : ℕ) (bytes : List ℕ) (type : RefType) (rest : List ℕ) : Type 0 where
  pub valid : IsRef most type
  pub parts : bytes ≡ ref_text type ++ rest

-- the bytes begin with the text of a type
pub record ReadsDesc (bytes : List ℕ) (d : desc.Desc) (rest : List ℕ) : Type 0 where
  pub valid : IsDesc d
  pub parts : bytes ≡ desc_text d ++ rest

-- the bytes begin with the texts of types and `)`
pub record ReadsParams (bytes : List ℕ) (ds : List desc.Desc) (rest : List ℕ) : Type 0 where
  pub valid : AllByRecursion IsDesc ds
  pub parts : bytes ≡ flat_map desc_text ds ++ 41 ∷ rest
