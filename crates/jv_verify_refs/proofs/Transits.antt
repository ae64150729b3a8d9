-- What is popped from a stack, and what a transition leaves.
use Rattle.std.proofs.Common.{◌≡◌, ℕ, List, ◌++◌, length, drop, refl, sym, ap, ◌∙◌, subst}
use Rattle.std.specs.List.{AllZip}
use Rattle.jv_table.specs.declared.code_tables.Cell.{Cell}
use Rattle.jv_types.specs.declared.shapes.Shape.{Shape}
use Rattle.jv_types.specs.declared.frames.VType.{VType}
use Rattle.jv_types.specs.declared.frames.Frame.{Frame}
use Rattle.jv_insn.specs.Kinds.{EndsWithCells}
use Rattle.jv_frames.specs.Types.{in_words}
use Rattle.jv_frames.specs.Assignable.{IsAssignable}
use Rattle.jv_typing.proofs.TypingOnce.{SameParts, same_tops}
use Rattle.jv_typing.proofs.Popping.{taken_behind, leaves_of_ends}
use Rattle.jv_typing.specs.Parts.{LeavesCells}
use Rattle.jv_typing.specs.Transitions.{CanPop, IsTransition}
use Rattle.jv_verify_refs.specs.Steps.Parts.{Pops, IsWithStack}

-- ---- what is popped

pub ends_with : (cells : List Cell) (stack below : List VType) → LeavesCells cells stack below → EndsWithCells cells stack
ends_with cells stack below leaves = record { below = below; top = leaves.top; whole = leaves.whole; holds = leaves.holds }

pub pops_of : (w : List Shape) (cells : List Cell) (wanted stack below : List VType) → LeavesCells cells stack below
    → AllZip (IsAssignable w) (drop (length below) stack) (in_words wanted) → Pops w cells wanted stack below
unfolding ends_with
pops_of w cells wanted stack below leaves fits = (
  record {
    takes = ends_with cells stack below leaves;
    fits = subst (λ (top : List VType). AllZip (IsAssignable w) top (in_words wanted)) (sym (taken_behind cells stack below leaves)) fits;
  },
  refl,
)

pub no_cells : (w : List Shape) (cells : List Cell) (wanted stack : List VType) → ((below : List VType) → LeavesCells cells stack below → ⊥) → CanPop w cells wanted stack → ⊥
no_cells w cells wanted stack none p = none p.takes.below (leaves_of_ends cells stack p.takes)

pub no_fits : (w : List Shape) (cells : List Cell) (wanted stack below : List VType) → LeavesCells cells stack below
    → (AllZip (IsAssignable w) (drop (length below) stack) (in_words wanted) → ⊥) → CanPop w cells wanted stack → ⊥
unfolding ends_with
no_fits w cells wanted stack below leaves none p =
    let parts : SameParts p.takes.below p.takes.top below leaves.top = same_tops cells stack p.takes (ends_with cells stack below leaves) in
    none (subst (λ (top : List VType). AllZip (IsAssignable w) top (in_words wanted)) (parts.second ∙ taken_behind cells stack below leaves) p.fits)

-- what stands below what is popped is one
pub one_below : (w : List Shape) (cells : List Cell) (wanted others stack below : List VType) → Pops w cells wanted stack below → (p : CanPop w cells others stack) → p.takes.below ≡ below
one_below w cells wanted others stack below q p =
    (same_tops cells stack p.takes q.0.takes).first ∙ q.1

-- ---- transitions

pub transits : (w : List Shape) (max_stack : ℕ) (cells : List Cell) (wanted given below : List VType) (frame after : Frame) → Pops w cells wanted frame.stack below
    → IsWithStack max_stack (below ++ in_words given) frame after → IsTransition w max_stack cells wanted given frame after
transits w max_stack cells wanted given below frame after pops leaves = record {
  pops = pops.0;
  stack = leaves.stack ∙ ap (λ (ws : List VType). ws ++ in_words given) (sym pops.1);
  room = leaves.room;
  locals = leaves.locals;
  flag = leaves.flag;
}

pub transits_not : (w : List Shape) (max_stack : ℕ) (cells : List Cell) (wanted given below : List VType) (frame : Frame) → Pops w cells wanted frame.stack below
    → ((after : Frame) → IsWithStack max_stack (below ++ in_words given) frame after → ⊥) → (after : Frame) → IsTransition w max_stack cells wanted given frame after → ⊥
transits_not w max_stack cells wanted given below frame pops none after h =
    none after (record {
      stack = h.stack ∙ ap (λ (ws : List VType). ws ++ in_words given) (one_below w cells wanted wanted frame.stack below pops h.pops);
      room = h.room;
      locals = h.locals;
      flag = h.flag;
    })
