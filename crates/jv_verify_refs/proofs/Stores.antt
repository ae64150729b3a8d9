-- What a store of a reference leaves.
use Rattle.std.proofs.Common.{◌≡◌, ◌≤◌, ◌<◌, List, [], ◌∷◌, ◌++◌, length, drop, refl, sym, ap, ◌∙◌, subst, append-nil, arith}
use Rattle.jv_table.specs.declared.code_tables.Cell.{Cell}
use Rattle.jv_types.specs.declared.frames.VType.{VType, Top}
use Rattle.jv_types.specs.declared.shapes.Shape.{Shape}
use Rattle.jv_insn.specs.Effects.{effect_of, local_of}
use Rattle.jv_typing.proofs.Popping.{taken_behind}
use Rattle.jv_typing.specs.Typing.{AreStored}
use Rattle.jv_typing.specs.Transitions.{CanPop}
use Rattle.jv_typing.specs.declared.rules.RefRule.TheVariants as rules
use Rattle.jv_verify_refs.specs.declared.step.Step.{Step}
use Rattle.jv_verify_refs.specs.Steps.Parts.{Pops, HasTyping, HasNoTyping}
use Rattle.jv_verify_refs.proofs.Transits.{one_below}

-- what was popped stands behind what is left
top_behind : (w : List Shape) (cells : List Cell) (wanted stack : List VType) (p : CanPop w cells wanted stack) → p.takes.top ≡ drop (length p.takes.below) stack
top_behind w cells wanted stack p = taken_behind cells stack p.takes.below (record { top = p.takes.top; whole = p.takes.whole; holds = p.takes.holds })

abbrev pub StoresAt : Step → List VType → List VType → Type 0
StoresAt step below locals = AreStored (local_of step.insn.now.op step.insn.now.arg) (drop (length below) step.frame.now.stack) step.frame.now.locals locals

pub stores : (step : Step) (below stack locals : List VType) → Pops step.world.now (effect_of step.insn.now).takes (Top ∷ []) step.frame.now.stack below → StoresAt step below locals
    → stack ≡ below ++ [] → length stack ≤ step.body.now.max_stack → HasTyping step rules.Store (record { locals = locals; stack = stack; this_uninit = step.frame.now.this_uninit })
unfolding top_behind
stores step below stack locals pops stored is room =
    let cells = (effect_of step.insn.now).takes in
    let tops : pops.0.takes.top ≡ drop (length below) step.frame.now.stack =
    top_behind step.world.now cells (Top ∷ []) step.frame.now.stack pops.0 ∙ ap (λ (ws : List VType). drop (length ws) step.frame.now.stack) pops.1 in
    record {
      pops = pops.0;
      stack = is ∙ append-nil below ∙ sym pops.1;
      room = room;
      locals = subst (λ (ws : List VType). AreStored (local_of step.insn.now.op step.insn.now.arg) ws step.frame.now.locals locals) (sym tops) stored;
      flag = refl;
    }

pub no_store : (step : Step) (below : List VType) → Pops step.world.now (effect_of step.insn.now).takes (Top ∷ []) step.frame.now.stack below
    → ((locals : List VType) → StoresAt step below locals → ⊥) → HasNoTyping step rules.Store
no_store step below pops none after h =
    let cells = (effect_of step.insn.now).takes in
    let belows = one_below step.world.now cells (Top ∷ []) (Top ∷ []) step.frame.now.stack below pops h.pops in
    let tops : h.pops.takes.top ≡ drop (length below) step.frame.now.stack =
    top_behind step.world.now cells (Top ∷ []) step.frame.now.stack h.pops ∙ ap (λ (ws : List VType). drop (length ws) step.frame.now.stack) belows in
    none after.locals (subst (λ (ws : List VType). AreStored (local_of step.insn.now.op step.insn.now.arg) ws step.frame.now.locals after.locals) tops h.locals)

pub no_room : (step : Step) (below : List VType) → Pops step.world.now (effect_of step.insn.now).takes (Top ∷ []) step.frame.now.stack below
    → step.body.now.max_stack < length (below ++ []) → HasNoTyping step rules.Store
no_room step below pops more after h =
    let cells = (effect_of step.insn.now).takes in
    let belows = one_below step.world.now cells (Top ∷ []) (Top ∷ []) step.frame.now.stack below pops h.pops in
    let long : length after.stack ≡ length (below ++ []) = ap length (h.stack ∙ belows ∙ sym (append-nil below)) in
    let room : length after.stack ≤ step.body.now.max_stack = h.room in
    absurd (omega arith)
