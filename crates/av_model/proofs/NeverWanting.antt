-- An instruction of a kind safe method finds its operands in a frame of the right kinds.
use Rattle.std.proofs.Common.{◌≡◌, ℕ, zero, suc, Bool, false, List, [], ◌∷◌, ◌++◌, Option, Some, map, length, take, drop, refl, sym, ap, subst, ◌∙◌, ⊎_elim, arith}
use Rattle.std.specs.Prelude.{slice_get, slice_index_or}
use Rattle.std.specs.List.{flat_map}
use Rattle.std.proofs.lemmas.List.{append-nil, length-map, take-append-drop}
use Rattle.std.proofs.lemmas.Option.{none-some}
use Rattle.jv_table.specs.declared.code_tables.Cell.{Cell}
use Rattle.jv_table.specs.declared.code_tables.Cell.TheVariants.{Int, Float, Long, Double, Ref, Null}
use Rattle.jv_types.specs.Bodies.{at_offset}
use Rattle.jv_types.specs.declared.frames.Frame.{Frame}
use Rattle.jv_types.specs.declared.frames.VType.{VType}
use Rattle.jv_types.specs.declared.shapes.Shape.{Shape}
use Rattle.jv_insn.specs.Effects.{Shuffle, effect_of}
use Rattle.jv_insn.specs.KindSafe.{HasWords, IsKindSafe, LocalHolds}
use Rattle.jv_insn.specs.Kinds.{EndsWithCells, HoldsCell, SaysOnly, WordKind, Word, Reference, Unknown, cell_words, is_wide, kind_of, kinds_after}
use Rattle.jv_insn.proofs.HeldCells.{held_kinds}
use Rattle.jv_insn.proofs.KindSafe.{fits_start}
use Rattle.jv_insn.proofs.OneEach.{value_of}
use Rattle.av_states.specs.declared.held.Held.{Held}
use Rattle.av_model.specs.NeverWanting.{HasKinds, IsNotWanting, kinds_held}
use Rattle.av_model.specs.Operands.{HoldCells, LocalHoldsCell, kind_of_held}
use Rattle.av_model.specs.Spots.{Spot}

-- ---- kinds that say something

abbrev Says : WordKind → Type 0
Says Word = Unit {0}
Says Reference = Unit {0}
Says Unknown = ⊥

abbrev AllSay : List WordKind → Type 0
AllSay [] = Unit {0}
AllSay (kind ∷ kinds) = Says kind × AllSay kinds

says_known : (kind : WordKind) → Says kind → kind ≡ Unknown → ⊥
says_known Word s e = cc
says_known Reference s e = cc
says_known Unknown s e = s

append_say : (ks ls : List WordKind) → AllSay ks → AllSay ls → AllSay (ks ++ ls)
append_say [] ls a b = b
append_say (k ∷ ks) ls a b = (a.0, append_say ks ls a.1 b)

cell_say : (cell : Cell) → AllSay (cell_words cell)
cell_say Int = (tt, tt)
cell_say Float = (tt, tt)
cell_say Long = (tt, (tt, tt))
cell_say Double = (tt, (tt, tt))
cell_say Ref = (tt, tt)
cell_say Null = (tt, tt)

cells_say : (cells : List Cell) → AllSay (flat_map cell_words cells)
cells_say [] = tt
cells_say (cell ∷ cells) = append_say (cell_words cell) (flat_map cell_words cells) (cell_say cell) (cells_say cells)

-- ---- words of which the kinds are said

said_at : (said words : List WordKind) (place : ℕ) (kind : WordKind) → SaysOnly said words → slice_get said place ≡ Some kind → Says kind → slice_get words place ≡ Some kind
said_at said words place kind only at says = ⊎_elim (λ unknown. absurd (says_known kind says unknown)) (λ h. h) (only place kind at)

-- the first one
first_said : (k : WordKind) (said : List WordKind) (x : Held) (ws : List Held) → SaysOnly (k ∷ said) (map kind_of_held (x ∷ ws)) → Says k → kind_of_held x ≡ k
first_said k said x ws only says =
    let head : Some (kind_of_held x) ≡ Some k = said_at (k ∷ said) (map kind_of_held (x ∷ ws)) zero k only refl says in
    cc

cons_same : (k : WordKind) (x : Held) (ws : List Held) (ks : List WordKind) → kind_of_held x ≡ k → map kind_of_held ws ≡ ks → map kind_of_held (x ∷ ws) ≡ k ∷ ks
cons_same k x ws ks first rest = ap (λ (z : WordKind). z ∷ map kind_of_held ws) first ∙ ap (λ (zs : List WordKind). k ∷ zs) rest

-- all of them
exactly : (K : List WordKind) (ws : List Held) → SaysOnly K (map kind_of_held ws) → AllSay K → length K ≡ length ws → map kind_of_held ws ≡ K
exactly [] [] only say e = refl
exactly [] (x ∷ ws) only say e = absurd (omega arith)
exactly (k ∷ K) [] only say e = absurd (omega arith)
exactly (k ∷ K) (x ∷ ws) only say e =
    cons_same k x ws K (first_said k K x ws only say.0) (exactly K ws (λ place kind at. only (suc place) kind at) say.1 (omega (arith, e)))

-- the topmost ones
on_top : (B K : List WordKind) (ws : List Held) → SaysOnly (B ++ K) (map kind_of_held ws) → AllSay K → length (B ++ K) ≡ length ws
    → (below : List Held) × (top : List Held) × (ws ≡ below ++ top) × (map kind_of_held top ≡ K)
on_top [] K ws only say e = ([], ws, refl, exactly K ws only say e)
on_top (b ∷ B) K [] only say e = absurd (omega arith)
on_top (b ∷ B) K (x ∷ ws) only say e =
    let more = on_top B K ws (λ place kind at. only (suc place) kind at) say (omega (arith, e)) in
    (x ∷ more.0, more.1, ap (λ (l : List Held). x ∷ l) more.2, more.3)

-- the lowest ones
in_front : (K C : List WordKind) (ws : List Held) → SaysOnly (K ++ C) (map kind_of_held ws) → AllSay K → map kind_of_held (take (length K) ws) ≡ K
in_front [] C [] only say = refl
in_front [] C (x ∷ ws) only say = refl
in_front (k ∷ K) C [] only say = absurd (none-some k (said_at (k ∷ (K ++ C)) [] zero k only refl say.0))
in_front (k ∷ K) C (x ∷ ws) only say =
    cons_same k x (take (length K) ws) K (first_said k (K ++ C) x ws only say.0) (in_front K C ws (λ place kind at. only (suc place) kind at) say.1)

-- those from a place on
from_place : (A K C : List WordKind) (ws : List Held) → SaysOnly ((A ++ K) ++ C) (map kind_of_held ws) → AllSay K → map kind_of_held (take (length K) (drop (length A) ws)) ≡ K
from_place [] K C [] only say = in_front K C [] only say
from_place [] K C (x ∷ ws) only say = in_front K C (x ∷ ws) only say
from_place (a ∷ A) K C [] only say = none_there A K C (λ place kind at. only (suc place) kind at) say
  where
    none_there : (A K C : List WordKind) → SaysOnly ((A ++ K) ++ C) [] → AllSay K → map kind_of_held (take (length K) []) ≡ K
    none_there [] K C only say = in_front K C [] only say
    none_there (a ∷ A) K C only say = none_there A K C (λ place kind at. only (suc place) kind at) say
from_place (a ∷ A) K C (x ∷ ws) only say = from_place A K C ws (λ place kind at. only (suc place) kind at) say

-- ---- the kinds of a frame

pub kinds_count : (second : Bool) (types : List VType) → length (kinds_after second types) ≡ length types
kinds_count second [] = refl
kinds_count second (type ∷ types) = ap suc (kinds_count (is_wide type) types)

-- those of the first of two lists come first
kinds_split : (second : Bool) (a b : List VType) → (c : List WordKind) × (kinds_after second (a ++ b) ≡ kinds_after second a ++ c)
kinds_split second [] b = (kinds_after second b, refl)
kinds_split second (type ∷ a) b =
    let more = kinds_split (is_wide type) a b in
    (more.0, ap (λ (ks : List WordKind). kind_of second type ∷ ks) more.1)

-- no words hold no cell
holds_some : (cell : Cell) → HoldsCell cell (take (length (cell_words cell)) []) → ⊥
holds_some Int h = cc
holds_some Float h = cc
holds_some Long h = cc
holds_some Double h = cc
holds_some Ref h = let e = h.1.0 in cc
holds_some Null h = cc

-- where local variables hold a cell, the frame says the kinds of its words
pub local_kinds : (cell : Cell) (local : ℕ) (second : Bool) (types : List VType) → HoldsCell cell (take (length (cell_words cell)) (drop local types))
    → (A : List WordKind) × (C : List WordKind) × (length A ≡ local) × (kinds_after second types ≡ (A ++ flat_map cell_words (cell ∷ [])) ++ C)
local_kinds cell zero second types h =
    let count = length (cell_words cell) in
    let first = take count types in
    let rest = drop count types in
    let split = kinds_split second first rest in
    let held = held_kinds (cell ∷ []) second [] first (first, ([], (sym (append-nil first), h, refl))) in (
      [],
      split.0,
      refl,
      ap (kinds_after second) (sym (take-append-drop count types)) ∙ split.1 ∙ ap (λ (ks : List WordKind). ks ++ split.0) held,
    )
local_kinds cell (suc local) second [] h = absurd (holds_some cell h)
local_kinds cell (suc local) second (type ∷ types) h =
    let more = local_kinds cell local (is_wide type) types h in
    (kind_of second type ∷ more.0, more.1, ap suc more.2, ap (λ (ks : List WordKind). kind_of second type ∷ ks) more.3)

-- ---- operands

module _ (frame : Frame) (locals stack : List Held)
    (only_locals : SaysOnly (kinds_after false frame.locals) (map kind_of_held locals))
    (only_stack : SaysOnly (kinds_after false frame.stack) (map kind_of_held stack))
    (depth : length frame.stack ≡ length stack) where
  finds_taken : (cells : List Cell) → EndsWithCells cells frame.stack → (below : List Held) × (top : List Held) × (stack ≡ below ++ top) × HoldCells cells top
  finds_taken cells ends =
      let B = kinds_after false ends.below in
      let K = flat_map cell_words cells in
      let is : kinds_after false frame.stack ≡ B ++ K = ap (kinds_after false) ends.whole ∙ held_kinds cells false ends.below ends.top ends.holds in
      let P : List WordKind → Type 0 = λ said. SaysOnly said (map kind_of_held stack) in
      on_top B K stack (subst P is only_stack) (cells_say cells) (sym (ap length is) ∙ kinds_count false frame.stack ∙ depth)

  finds_local : (read : ℕ × Cell) → LocalHolds frame read → LocalHoldsCell locals read
  finds_local read holds =
      let cell = read.1 in
      let K = flat_map cell_words (cell ∷ []) in
      let found = local_kinds cell read.0 false frame.locals holds in
      let P : List WordKind → Type 0 = λ said. SaysOnly said (map kind_of_held locals) in
      let Q : ℕ → Type 0 = λ count. map kind_of_held (take count (drop read.0 locals)) ≡ K in
      let R : ℕ → Type 0 = λ place. map kind_of_held (take (length K) (drop place locals)) ≡ K in
      subst Q (ap length (append-nil (cell_words cell))) (subst R found.2 (from_place found.0 K found.1 locals (subst P found.3 only_locals) (cells_say (cell ∷ []))))

finds_words : (shuffle : Option Shuffle) (a b : ℕ) → a ≡ b → HasWords shuffle a → HasWords shuffle b
finds_words shuffle a b e h = subst (HasWords shuffle) e h

pub is_not_wanting : (w : List Shape) (spot : Spot) → IsKindSafe w spot.framed → HasKinds spot → IsNotWanting spot
is_not_wanting w spot safe kinds =
    let at = kinds.fits in
    let frame = at.frame in
    let locals = spot.words.locals in
    let stack = spot.words.stack in
    let depth : length frame.stack ≡ length stack = sym (kinds_count false frame.stack) ∙ at.fits.depth ∙ length-map stack kind_of_held in
    let found = value_of (at_offset spot.pc spot.framed.body.insns) (fits_start w spot.framed safe spot.pc (kinds_held spot.words) at) in
    let insn = found.0 in
    let here = safe.each spot.pc insn frame found.1 at.stands in
    let taken = finds_taken frame locals stack at.fits.locals at.fits.stack depth (effect_of insn).takes here.takes in
    record {
      insn = insn;
      stands = found.1;
      taken = taken.1;
      has = record {
        below = taken.0;
        whole = taken.2;
        takes = taken.3;
        moves = finds_words (effect_of insn).shuffle (length frame.stack) (length stack) depth here.moves;
        reads = λ k d lt. finds_local frame locals stack at.fits.locals at.fits.stack depth (slice_index_or (effect_of insn).reads k d) (here.reads k d lt);
      };
    }
