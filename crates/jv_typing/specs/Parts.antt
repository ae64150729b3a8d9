-- The parts of a step: what stands below cells on a stack, and what local variables hold.
use Rattle.std.specs.Prelude.{◌≡◌, ℕ, List, ◌++◌, length, take, drop}
use Rattle.std.specs.List.{AllZip}
use Rattle.jv_table.specs.declared.code_tables.Cell.{Cell}
use Rattle.jv_types.specs.declared.shapes.Shape.{Shape}
use Rattle.jv_types.specs.declared.frames.VType.{VType}
use Rattle.jv_insn.specs.Kinds.{HoldsCell, HoldsCells, cell_words}
use Rattle.jv_frames.specs.Types.{in_words}
use Rattle.jv_frames.specs.Assignable.{IsAssignable}

-- the topmost words of a stack hold a cell, and these stand below
pub record LeavesCell (cell : Cell) (stack below : List VType) : Type 0 where
  pub top : List VType
  pub whole : stack ≡ below ++ top
  pub holds : HoldsCell cell top

-- the topmost words of a stack hold these cells, and these stand below
pub record LeavesCells (cells : List Cell) (stack below : List VType) : Type 0 where
  pub top : List VType
  pub whole : stack ≡ below ++ top
  pub holds : HoldsCells cells top

-- the local variables from one on hold a cell
abbrev pub HoldsFrom : List VType → ℕ → Cell → Type 0
HoldsFrom locals local cell = HoldsCell cell (take (length (cell_words cell)) (drop local locals))

-- a stack has these two parts, of which the upper one has values that can be popped
pub record PopsParts (w : List Shape) (cells : List Cell) (wanted stack below top : List VType) : Type 0 where
  pub whole : stack ≡ below ++ top
  pub holds : HoldsCells cells top
  pub fits : AllZip (IsAssignable w) top (in_words wanted)
