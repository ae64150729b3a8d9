-- What is made on the way to a world: the direct supertypes of each class by number, and the search for
-- the others.
use Rattle.std.specs.Prelude.{◌≡◌, ℕ, ◌<◌, ◌^◌, ◌⊎◌, Bool, false, nat_eq, IsTrue, List, [], ◌++◌, Some, length, map, slice_get, slice_index_or, Contains}
use Rattle.std.specs.List.{IsDistinct}
use Rattle.std.specs.List.Sorted.{IsStrictlyIncreasing}
use Rattle.std.specs.declared.alloc.Global.{Global}
use Rattle.std.specs.declared.vec.Vec.{Vec}
use Rattle.jv_types.specs.declared.ids.ClassId.{ClassId}
use Rattle.jv_types.specs.declared.shapes.Shape.{Shape}
use Rattle.jv_world.specs.Worlds.{AreProperSupers, HasSuper}

-- a list of classes has the class of this number
abbrev pub Has : List ClassId → ℕ → Type 0
Has ds n = Contains ds (record { number = n })

-- a name stands at one place, and there are few enough for numbers of 32 bits
pub record AreClassNames (names : List (List ℕ)) : Type 0 where
  pub one : (c d : ℕ) (name : List ℕ) → slice_get names c ≡ Some name → slice_get names d ≡ Some name → c ≡ d
  pub few : length names < 2 ^ 32

-- the class of a name was added, if there is one
pub record AddsNamed (names : List (List ℕ)) (name : List ℕ) (old new : List ClassId) : Type 0 where
  pub kept : (n : ℕ) → Has old n → Has new n
  pub added : (n : ℕ) → slice_get names n ≡ Some name → Has new n
  pub only : (n : ℕ) → Has new n → Has old n ⊎ (slice_get names n ≡ Some name)

-- the classes that have the names of P
pub record RowFor (P : List ℕ → Type 0) (names : List (List ℕ)) (row : List ClassId) : Type 0 where
  pub all : (n : ℕ) (name : List ℕ) → P name → slice_get names n ≡ Some name → Has row n
  pub only : (n : ℕ) → Has row n → (name : List ℕ) × P name × (slice_get names n ≡ Some name)

-- the direct supertypes of each class
pub record AreLinks (w : List Shape) (links : List (Vec ClassId Global)) : Type 0 where
  pub count : length links ≡ length w
  pub all : (c d : ℕ) (row : Vec ClassId Global) → slice_get links c ≡ Some row → HasSuper w c d → Has row.items d
  pub only : (c d : ℕ) (row : Vec ClassId Global) → slice_get links c ≡ Some row → Has row.items d → HasSuper w c d

-- the mark of a number; past the end nothing is marked
abbrev pub marked : List Bool → ℕ → Bool
marked marks n = slice_index_or marks n false

-- the marks are those of the classes found, each of which was found once
pub record IsMarking (marks : List Bool) (found : List ClassId) : Type 0 where
  pub into : (n : ℕ) → IsTrue (marked marks n) → Has found n
  pub from : (n : ℕ) → Has found n → IsTrue (marked marks n)
  pub distinct : IsDistinct nat_eq (map (λ d. d.number) found)

-- the classes of P were found, behind those found before
pub record AddsAll (P : ℕ → Type 0) (marks : List Bool) (found : List ClassId) (new_marks : List Bool) (new_found : List ClassId) : Type 0 where
  pub marking : IsMarking new_marks new_found
  pub count : length new_marks ≡ length marks
  pub more : List ClassId
  pub grown : new_found ≡ found ++ more
  pub all : (n : ℕ) → P n → Has new_found n
  pub only : (n : ℕ) → Has new_found n → Has found n ⊎ P n

-- a link from one class to another
abbrev pub IsLinked : List (Vec ClassId Global) → ℕ → ℕ → Type 0
IsLinked links c d = (row : Vec ClassId Global) × (slice_get links c ≡ Some row) × Has row.items d

-- one link or more lead from one class to another
pub data IsLedTo (links : List (Vec ClassId Global)) : ℕ → ℕ → Type 0 where
  straight : (c d : ℕ) → IsLinked links c d → IsLedTo links c d
  onward : (c m d : ℕ) → IsLinked links c m → IsLedTo links m d → IsLedTo links c d

-- each link leads to a class of the list
pub record AreInRange (links : List (Vec ClassId Global)) : Type 0 where
  pub below : (c d : ℕ) → IsLinked links c d → d < length links

-- the classes that links lead to, by rising numbers
pub record AreLed (links : List (Vec ClassId Global)) (c : ℕ) (ds : List ClassId) : Type 0 where
  pub all : (d : ℕ) → IsLedTo links c d → Has ds d
  pub only : (d : ℕ) → Has ds d → IsLedTo links c d
  pub rising : IsStrictlyIncreasing (map (λ d. d.number) ds)

-- no class is marked or found
pub record IsClear (links : List (Vec ClassId Global)) (marks : List Bool) (found : List ClassId) : Type 0 where
  pub marking : IsMarking marks found
  pub count : length marks ≡ length links
  pub empty : found ≡ []

-- the classes that links lead to are found
pub record IsFound (links : List (Vec ClassId Global)) (c : ℕ) (marks : List Bool) (found : List ClassId) : Type 0 where
  pub marking : IsMarking marks found
  pub count : length marks ≡ length links
  pub all : (d : ℕ) → IsLedTo links c d → Has found d
  pub only : (d : ℕ) → Has found d → IsLedTo links c d

-- what each of the first classes leads to
pub record AreLedFrom (links : List (Vec ClassId Global)) (n : ℕ) (rows : List (Vec ClassId Global)) : Type 0 where
  pub count : length rows ≡ n
  pub rows_are : (c : ℕ) (row : Vec ClassId Global) → slice_get rows c ≡ Some row → AreLed links c row.items

-- the rows have the proper supertypes of each class
pub record HaveSupers (w : List Shape) (rows : List (Vec ClassId Global)) : Type 0 where
  pub count : length rows ≡ length w
  pub exact : (c : ℕ) (row : Vec ClassId Global) → slice_get rows c ≡ Some row → AreProperSupers w c row.items
