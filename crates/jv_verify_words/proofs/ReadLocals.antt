-- The local variables that an instruction reads.
use Rattle.std.proofs.Common.{◌≡◌, ℕ, Bool, true, IsTrue, List, [], ◌∷◌, map, All, refl, sym, ap, subst}
use Rattle.std.proofs.lemmas.List.Elements.{All-nil, All-cons, All-head, All-tail, All-map}
use Rattle.jv_table.specs.declared.code_tables.Cell.{Cell}
use Rattle.jv_table.specs.declared.code_tables.Cell.TheVariants.{Int}
use Rattle.jv_types.specs.declared.instruction.Arg.{Arg}
use Rattle.jv_types.specs.declared.frames.VType.{VType}
use Rattle.jv_insn.specs.Effects.{is_load, local_of, cells_given, locals_read}
use Rattle.jv_typing.specs.Parts.{HoldsFrom}
use Rattle.jv_verify_words.specs.Parts.{ReadHolds}

-- ---- all of a list

pub all_of_map : {X Y : Type 0} (P : X → Type 0) (f : Y → X) (ys : List Y) → All P (map f ys) → All (λ (y : Y). P (f y)) ys
all_of_map {Y = Y} P f [] h = All-nil (λ (y : Y). P (f y))
all_of_map {Y = Y} P f (y ∷ ys) h =
    All-cons (λ (y : Y). P (f y)) y ys (All-head P (f y) (map f ys) h) (all_of_map P f ys (All-tail P (f y) (map f ys) h))

-- ---- reads

-- a truth value tells whether something holds
abbrev pub Tells : Bool → Type 0 → Type 0
Tells r P = (IsTrue r → P) × (P → IsTrue r)

pub tells_load : (locals : List VType) (op : ℕ) (arg : Arg) (cells : List Cell) (r : Bool) → is_load op ≡ true → cells ≡ cells_given op arg
    → Tells r (All (HoldsFrom locals (local_of op arg)) cells) → Tells r (All (ReadHolds locals) (locals_read op arg))
tells_load locals op arg cells r e gives tells =
    let read : Cell → ℕ × Cell = λ cell. (local_of op arg, cell) in
    let same : map read cells ≡ locals_read op arg = rw e (ap (map read) gives) in (
      λ yes. subst (All (ReadHolds locals)) same (All-map (ReadHolds locals) read cells (tells.0 yes)),
      λ all. tells.1 (all_of_map (ReadHolds locals) read cells (subst (All (ReadHolds locals)) (sym same) all)),
    )

pub tells_iinc : (locals : List VType) (op : ℕ) (arg : Arg) (r : Bool) → op ≡ 132 → Tells r (HoldsFrom locals (local_of op arg) Int) → Tells r (All (ReadHolds locals) (locals_read op arg))
tells_iinc locals op arg r e tells =
    let read : ℕ × Cell = (local_of op arg, Int) in
    let same : read ∷ [] ≡ locals_read op arg = rw e refl in (
      λ yes. subst (All (ReadHolds locals)) same (All-cons (ReadHolds locals) read [] (tells.0 yes) (All-nil (ReadHolds locals))),
      λ all. tells.1 (All-head (ReadHolds locals) read [] (subst (All (ReadHolds locals)) (sym same) all)),
    )
