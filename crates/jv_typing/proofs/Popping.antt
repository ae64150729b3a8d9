-- Cells that are taken from the top of a stack, one by one.
use Rattle.std.proofs.Common.{◌≡◌, List, [], ◌∷◌, ◌++◌, length, drop, refl, sym, ap, ◌∙◌, subst, append_assoc}
use Rattle.std.proofs.lemmas.List.{append_cancel_right}
use Rattle.std.proofs.Math.Seq.{drop-append_seam}
use Rattle.jv_table.specs.declared.code_tables.Cell.{Cell}
use Rattle.jv_types.specs.declared.frames.VType.{VType, Top}
use Rattle.jv_insn.specs.Kinds.{HoldsCell, HoldsCells, EndsWithCells}
use Rattle.jv_typing.proofs.TypingOnce.{same_ends, cell_long}
use Rattle.jv_typing.specs.Parts.{LeavesCell, LeavesCells}

-- ---- one cell

-- under Top stands what stands under the second word
pub under_top : (stack first below : List VType) (word : VType) → stack ≡ first ++ Top ∷ [] → stack ≡ below ++ word ∷ Top ∷ [] → first ≡ below ++ word ∷ []
under_top stack first below word e f =
    append_cancel_right first (below ++ word ∷ []) (Top ∷ []) (sym e ∙ f ∙ sym (append_assoc below (word ∷ []) (Top ∷ [])))

-- what stands below a cell is one
pub one_below : (cell : Cell) (stack a b : List VType) → LeavesCell cell stack a → LeavesCell cell stack b → a ≡ b
one_below cell stack a b x y =
    (same_ends a x.top b y.top (sym x.whole ∙ y.whole) (cell_long cell x.top x.holds ∙ sym (cell_long cell y.top y.holds))).first

-- words that hold a cell leave nothing
pub all_held : (cell : Cell) (words below : List VType) → LeavesCell cell words below → HoldsCell cell words → below ≡ []
all_held cell words below x h =
    one_below cell words below [] x (record { top = words; whole = refl; holds = h })

pub held_all : (cell : Cell) (words below : List VType) → LeavesCell cell words below → below ≡ [] → HoldsCell cell words
held_all cell words below x e =
    subst (λ (w : List VType). HoldsCell cell w) (sym (x.whole ∙ ap (λ (b : List VType). b ++ x.top) e)) x.holds

-- ---- the last of the cells

pub record LastHeld (cells : List Cell) (cell : Cell) (words : List VType) : Type 0 where
  pub front : List VType
  pub last : List VType
  pub whole : words ≡ front ++ last
  pub fronts : HoldsCells cells front
  pub lasts : HoldsCell cell last

append_nil : (words : List VType) → words ++ [] ≡ words
append_nil [] = refl
append_nil (word ∷ words) = ap (λ (ws : List VType). word ∷ ws) (append_nil words)

last_held : (cells : List Cell) (cell : Cell) (words : List VType) → HoldsCells (cells ++ cell ∷ []) words → LastHeld cells cell words
last_held [] cell words h =
    let rest : h.1.0 ≡ [] = h.1.1.2 in
    record { front = []; last = h.0; whole = h.1.1.0 ∙ ap (λ (ws : List VType). h.0 ++ ws) rest ∙ append_nil h.0; fronts = refl; lasts = h.1.1.1 }
last_held (first ∷ cells) cell words h =
    let more = last_held cells cell h.1.0 h.1.1.2 in
    record {
      front = h.0 ++ more.front;
      last = more.last;
      whole = h.1.1.0 ∙ ap (λ (ws : List VType). h.0 ++ ws) more.whole ∙ sym (append_assoc h.0 more.front more.last);
      fronts = (h.0, (more.front, (refl, h.1.1.1, more.fronts)));
      lasts = more.lasts;
    }

held_last : (cells : List Cell) (cell : Cell) (front last : List VType) → HoldsCells cells front → HoldsCell cell last → HoldsCells (cells ++ cell ∷ []) (front ++ last)
held_last [] cell front last h k =
    (last, ([], (ap (λ (ws : List VType). ws ++ last) h ∙ sym (append_nil last), k, refl)))
held_last (first ∷ cells) cell front last h k =
    (h.0, (h.1.0 ++ last, (ap (λ (ws : List VType). ws ++ last) h.1.1.0 ∙ append_assoc h.0 h.1.0 last, h.1.1.1, held_last cells cell h.1.0 last h.1.1.2 k)))

-- ---- what is left

pub record Under (cells : List Cell) (cell : Cell) (stack below : List VType) : Type 0 where
  pub under : List VType
  pub one : LeavesCell cell stack under
  pub rest : LeavesCells cells under below

under_of : (cells : List Cell) (cell : Cell) (stack below : List VType) → LeavesCells (cells ++ cell ∷ []) stack below → Under cells cell stack below
under_of cells cell stack below h =
    let parts = last_held cells cell h.top h.holds in
    record {
      under = below ++ parts.front;
      one = record { top = parts.last; whole = h.whole ∙ ap (λ (ws : List VType). below ++ ws) parts.whole ∙ sym (append_assoc below parts.front parts.last); holds = parts.lasts };
      rest = record { top = parts.front; whole = refl; holds = parts.fronts };
    }

of_under : (cells : List Cell) (cell : Cell) (stack under below : List VType) → LeavesCell cell stack under → LeavesCells cells under below → LeavesCells (cells ++ cell ∷ []) stack below
of_under cells cell stack under below one rest = record {
  top = rest.top ++ one.top;
  whole = one.whole ∙ ap (λ (ws : List VType). ws ++ one.top) rest.whole ∙ append_assoc below rest.top one.top;
  holds = held_last cells cell rest.top one.top rest.holds one.holds;
}

-- what stands below all cells on a stack is what stands below those that are left on what is left of it
pub record SameBelow (all : List Cell) (stack : List VType) (left : List Cell) (rest : List VType) : Type 0 where
  pub to_all : (below : List VType) → LeavesCells left rest below → LeavesCells all stack below
  pub of_all : (below : List VType) → LeavesCells all stack below → LeavesCells left rest below

pub same_below_first : (all : List Cell) (stack : List VType) → SameBelow all stack all stack
same_below_first all stack = record { to_all = λ below h. h; of_all = λ below h. h }

pub same_below_more : (all left cells : List Cell) (cell : Cell) (stack rest under : List VType) → SameBelow all stack left rest → left ≡ cells ++ cell ∷ [] → LeavesCell cell rest under → SameBelow all stack cells under
same_below_more all left cells cell stack rest under same e one = record {
  to_all = λ below h. same.to_all below (subst (λ (cs : List Cell). LeavesCells cs rest below) (sym e) (of_under cells cell rest under below one h));
  of_all = λ below h.
      let parts = under_of cells cell rest below (subst (λ (cs : List Cell). LeavesCells cs rest below) e (same.of_all below h)) in
      subst (λ (ws : List VType). LeavesCells cells ws below) (one_below cell rest parts.under under parts.one one) parts.rest;
}

pub none_below : (all left cells : List Cell) (cell : Cell) (stack rest : List VType) → SameBelow all stack left rest → left ≡ cells ++ cell ∷ [] → ((under : List VType) → LeavesCell cell rest under → ⊥) → (below : List VType) → LeavesCells all stack below → ⊥
none_below all left cells cell stack rest same e none below h =
    let parts = under_of cells cell rest below (subst (λ (cs : List Cell). LeavesCells cs rest below) e (same.of_all below h)) in
    none parts.under parts.one

pub same_below_last : (all left : List Cell) (stack rest : List VType) → SameBelow all stack left rest → left ≡ [] → LeavesCells all stack rest
same_below_last all left stack rest same e =
    same.to_all rest (subst (λ (cs : List Cell). LeavesCells cs rest rest) (sym e) (record { top = []; whole = sym (append_nil rest); holds = refl }))

-- ---- what was taken

-- what was taken stands behind what is left
pub taken_behind : (cells : List Cell) (stack below : List VType) (leaves : LeavesCells cells stack below) → leaves.top ≡ drop (length below) stack
taken_behind cells stack below leaves =
    sym (ap (drop (length below)) leaves.whole ∙ drop-append_seam below leaves.top)

pub held_behind : (cells : List Cell) (stack below : List VType) → LeavesCells cells stack below → HoldsCells cells (drop (length below) stack)
held_behind cells stack below leaves = subst (λ (top : List VType). HoldsCells cells top) (taken_behind cells stack below leaves) leaves.holds

pub leaves_of_ends : (cells : List Cell) (stack : List VType) → (ends : EndsWithCells cells stack) → LeavesCells cells stack ends.below
leaves_of_ends cells stack ends = record { top = ends.top; whole = ends.whole; holds = ends.holds }
