-- The kinds of words that hold cells.
use Rattle.std.proofs.Common.{◌≡◌, Bool, true, false, List, [], ◌∷◌, ◌++◌, refl, ap, ◌∙◌}
use Rattle.std.specs.List.{flat_map}
use Rattle.jv_table.specs.declared.code_tables.Cell.{Cell}
use Rattle.jv_table.specs.declared.code_tables.Cell.TheVariants.{Int, Float, Long, Double, Ref, Null}
use Rattle.jv_types.specs.declared.frames.VType.{VType}
use Rattle.jv_types.specs.declared.frames.VType as types
use Rattle.jv_insn.specs.Kinds.{is_reference, HoldsCell, HoldsCells, WordKind, Word, Reference, cell_words, is_wide, kind_of, kinds_after}

-- the kind of a reference
pub reference_kind : (second : Bool) (type : VType) → is_reference type ≡ true → kind_of second type ≡ Reference
reference_kind second types.Top e = absurd cc
reference_kind second types.Integer e = absurd cc
reference_kind second types.Float e = absurd cc
reference_kind second types.Long e = absurd cc
reference_kind second types.Double e = absurd cc
reference_kind second types.Null e = refl
reference_kind second types.UninitThis e = refl
reference_kind second (types.Uninit pc) e = refl
reference_kind second (types.Class name) e = refl
reference_kind second (types.PrimArray prim) e = refl
reference_kind second (types.Array' shape all) e = refl

-- the words of one cell, and what follows them
one_cell : (cell : Cell) (second : Bool) (first rest : List VType) (kinds : List WordKind) → HoldsCell cell first → ((second : Bool) → kinds_after second rest ≡ kinds) → kinds_after second (first ++ rest) ≡ cell_words cell ++ kinds
one_cell Int second first rest kinds h more = rw h (ap (λ (ks : List WordKind). Word ∷ ks) (more false))
one_cell Float second first rest kinds h more = rw h (ap (λ (ks : List WordKind). Word ∷ ks) (more false))
one_cell Long second first rest kinds h more = rw h (ap (λ (ks : List WordKind). Word ∷ Word ∷ ks) (more false))
one_cell Double second first rest kinds h more = rw h (ap (λ (ks : List WordKind). Word ∷ Word ∷ ks) (more false))
one_cell Ref second first rest kinds h more =
    let is = h.1.0 in
    let kind = reference_kind second h.0 h.1.1 in
    rw is (ap (λ (k : WordKind). k ∷ kinds_after (is_wide h.0) rest) kind ∙ ap (λ (ks : List WordKind). Reference ∷ ks) (more (is_wide h.0)))
one_cell Null second first rest kinds h more = rw h (ap (λ (ks : List WordKind). Reference ∷ ks) (more false))

-- the words of cells
cells_kinds : (cells : List Cell) (second : Bool) (words : List VType) → HoldsCells cells words → kinds_after second words ≡ flat_map cell_words cells
cells_kinds [] second words h = rw h refl
cells_kinds (cell ∷ cells) second words h =
    let first = h.0 in
    let rest = h.1.0 in
    let parts = h.1.1 in
    rw parts.0 (one_cell cell second first rest (flat_map cell_words cells) parts.1 (λ second. cells_kinds cells second rest parts.2))

pub held_kinds : (cells : List Cell) (second : Bool) (below top : List VType) → HoldsCells cells top → kinds_after second (below ++ top) ≡ kinds_after second below ++ flat_map cell_words cells
held_kinds cells second [] top h = cells_kinds cells second top h
held_kinds cells second (type ∷ below) top h =
    ap (λ (ks : List WordKind). kind_of second type ∷ ks) (held_kinds cells (is_wide type) below top h)
