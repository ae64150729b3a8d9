-- The names of classes, fields and methods (JVMS 4.2).
use Rattle.std.specs.Prelude.{◌≡◌, ℕ, Bool, true, false, ◌&&◌, ◌||◌, not, ◌==◌, if◌then◌else◌, IsTrue, List, [], ◌∷◌, ◌++◌, codes, nat_eq}
use Rattle.std.specs.List.{list_all, flat_map, AllByRecursion}
use Rattle.std.specs.Cmp.Lexicographic.{pointwise}

-- a byte that may stand in a part of a name: none of `.` `;` `[` `/`
abbrev pub may_stand : ℕ → Bool
may_stand byte = ((not (byte == 46) && not (byte == 59)) && not (byte == 91)) && not (byte == 47)

-- a part of a name, as a field has: one byte or more, each of which may stand there
abbrev pub is_part : List ℕ → Bool
is_part [] = false
is_part (byte ∷ bytes) = may_stand byte && list_all may_stand bytes

-- what goes on with a class name, where the last part has bytes already or has none yet
abbrev pub goes_on : Bool → List ℕ → Bool
goes_on begun [] = begun
goes_on begun (byte ∷ bytes) = if byte == 47 then begun && goes_on false bytes else may_stand byte && goes_on true bytes

-- a class name in its internal form: one part or more, joined by `/`
abbrev pub is_class_name : List ℕ → Bool
is_class_name bytes = goes_on false bytes

-- a class name, as the standard says it: parts that are joined by `/`
pub record IsClassName (bytes : List ℕ) : Type 0 where
  pub first : List ℕ
  pub others : List (List ℕ)
  pub first_part : IsTrue (is_part first)
  pub other_parts : AllByRecursion (λ part. IsTrue (is_part part)) others
  pub joined : bytes ≡ first ++ flat_map (λ part. 47 ∷ part) others

-- a byte other than `<` and `>`
abbrev pub is_plain : ℕ → Bool
is_plain byte = not (byte == 60) && not (byte == 62)

-- a method's name: a part without `<` and `>`, or one of the two special names (JVMS 4.2.2)
abbrev pub is_method_name : List ℕ → Bool
is_method_name bytes =
    is_part bytes && (list_all is_plain bytes || (pointwise nat_eq bytes (codes "<init>") || pointwise nat_eq bytes (codes "<clinit>")))
