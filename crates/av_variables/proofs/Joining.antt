-- What leads into straight code.
use Rattle.std.proofs.Common.{◌≡◌, ◌<◌, ◌≤◌, ℕ, List, Option, Some, refl, sym, ◌∙◌, ap, subst, inl, inr, ⊎_elim, arith}
use Rattle.std.proofs.lemmas.Bool.{cases_lt}
use Rattle.std.proofs.lemmas.Option.{same_Some}
use Rattle.std.specs.Prelude.{Contains, IsSome, IsTrue, slice_get}
use Rattle.jv_fix.specs.Facts.{Premises, One}
use Rattle.jv_types.specs.Bodies.{at_offset, IsNextStart, IsStart}
use Rattle.jv_types.specs.declared.body.Handler.{Handler}
use Rattle.jv_types.specs.declared.fact.Fact.{Fact}
use Rattle.jv_types.specs.declared.fact.Fact.TheVariants as facts
use Rattle.jv_types.specs.declared.frames.Frame.{Frame}
use Rattle.jv_types.specs.declared.frames.FramedBody.{FramedBody}
use Rattle.jv_types.specs.declared.ids.MethodId.{MethodId}
use Rattle.jv_types.specs.declared.instruction.Insn.{Insn}
use Rattle.jv_types.specs.declared.label.Label.{Label}
use Rattle.jv_types.specs.declared.place.Place.{Place}
use Rattle.jv_types.specs.declared.place.Place.TheVariants as places
use Rattle.jv_insn.specs.Effects.{effect_of}
use Rattle.jv_insn.specs.Leaving.{Place as Word, AtLocal, AtStack, Leaves}
use Rattle.jv_insn.proofs.Leaving.{below_left, stays_left}
use Rattle.jv_resolve.proofs.PlacesLemmas.{read_at}
use Rattle.av_rules.specs.Forcing.{Forces, by_move}
use Rattle.av_rules.specs.Program.{Program, Point, IsAnalysable, IsEntryLocal, IsPoint, IsPushed, depth_of, lowest_word, method_of, place_of}
use Rattle.av_rules.specs.Rules.Move.{LeavesWord, goes_on, caught}
use Rattle.av_variables.specs.Variables.{AreJoined, Joins, IsUntouched}
use Rattle.av_variables.proofs.Arriving.{Arrives, IsNoWord, pushed, entered, elsewhere, thrown, moved, arrives}

-- ---- one method has one body

-- different bodies are of different methods
abbrev AreDistinct : List FramedBody → Type 0
AreDistinct methods =
    (i j : ℕ) (a b : FramedBody) → slice_get methods i ≡ Some a → slice_get methods j ≡ Some b → a.method ≡ b.method → i ≡ j

body_one : (methods : List FramedBody) (a b : FramedBody) → AreDistinct methods → Contains methods a → Contains methods b → a.method ≡ b.method → a ≡ b
body_one methods a b distinct x y same =
    let first : slice_get methods x.0 ≡ Some a = read_at methods x.0 a x.1 (sym x.2) in
    let second : slice_get methods y.0 ≡ Some b = read_at methods y.0 b y.1 (sym y.2) in
    let place : x.0 ≡ y.0 = distinct x.0 y.0 a b first second same in
    same_Some a b (sym first ∙ ap (slice_get methods) place ∙ second)

-- ---- one place is one word

pub place_parts : (m n : MethodId) (pc other : ℕ) (word word_other : Word) → place_of m pc word ≡ place_of n other word_other → (m ≡ n) × (pc ≡ other) × (word ≡ word_other)
place_parts m n pc other (AtLocal a) (AtLocal b) e =
    let i : places.Local m pc a ≡ places.Local n other b = e in
    let x : m ≡ n = cc in
    let y : pc ≡ other = cc in
    let z : a ≡ b = cc in
    (x, y, ap AtLocal z)
place_parts m n pc other (AtStack a) (AtStack b) e =
    let i : places.Stack m pc a ≡ places.Stack n other b = e in
    let x : m ≡ n = cc in
    let y : pc ≡ other = cc in
    let z : a ≡ b = cc in
    (x, y, ap AtStack z)
place_parts m n pc other (AtLocal a) (AtStack b) e = let i : places.Local m pc a ≡ places.Stack n other b = e in absurd cc
place_parts m n pc other (AtStack a) (AtLocal b) e = let i : places.Stack m pc a ≡ places.Local n other b = e in absurd cc

-- the place of a word is that of one
word_place : (m : MethodId) (pc : ℕ) (word : Word) (to : Place) → to ≡ place_of m pc word → IsNoWord to → ⊥
word_place m pc (AtLocal word) to is none = subst IsNoWord is none
word_place m pc (AtStack word) to is none = subst IsNoWord is none

-- ---- one instruction is before the next

starts : {I : Type 0} (pc : ℕ) (rows : List (ℕ × I)) (i : I) → at_offset pc rows ≡ Some i → IsStart rows pc
starts {I = I} pc rows i is = subst (λ (o : Option I). IsSome o) (sym is) refl

before_one : (rows : List (ℕ × Insn)) (a b next : ℕ) → IsStart rows a → IsStart rows b → IsNextStart a rows next → IsNextStart b rows next → a ≡ b
before_one rows a b next first second x y =
    let not_below : a < b → ⊥ = λ lt. let le : next ≤ b = x.least b lt second in absurd (omega (arith, le, y.above)) in
    let not_above : b < a → ⊥ = λ lt. let le : next ≤ a = y.least a lt first in absurd (omega (arith, le, x.above)) in
    one a b not_below not_above
  where
    one : (a b : ℕ) → (a < b → ⊥) → (b < a → ⊥) → a ≡ b
    one a b f g = elim (cases_lt a b) [
      | inl lt ↦ absurd (f lt)
      | inr ge ↦ elim (cases_lt b a) [
        | inl lt ↦ absurd (g lt)
        | inr le ↦ omega arith
      ]
    ]

-- ---- one program point is before another

-- two points of one method at one offset are one
same_insn : (at other : Point) → at.framed ≡ other.framed → at.pc ≡ other.pc → at_offset at.pc at.framed.body.insns ≡ Some at.insn
    → at_offset other.pc other.framed.body.insns ≡ Some other.insn → at.insn ≡ other.insn
same_insn at other framed pc x y =
    let e : at_offset at.pc at.framed.body.insns ≡ at_offset other.pc other.framed.body.insns = ap (λ (f : FramedBody). at_offset at.pc f.body.insns) framed ∙ ap (λ (n : ℕ). at_offset n other.framed.body.insns) pc in
    same_Some at.insn other.insn (sym x ∙ e ∙ y)

same_frame : (at other : Point) → at.framed ≡ other.framed → at.pc ≡ other.pc → at_offset at.pc at.framed.frames ≡ Some at.frame
    → at_offset other.pc other.framed.frames ≡ Some other.frame → at.frame ≡ other.frame
same_frame at other framed pc x y =
    let e : at_offset at.pc at.framed.frames ≡ at_offset other.pc other.framed.frames = ap (λ (f : FramedBody). at_offset at.pc f.frames) framed ∙ ap (λ (n : ℕ). at_offset n other.framed.frames) pc in
    same_Some at.frame other.frame (sym x ∙ e ∙ y)

same_point : (p : Program) (at other : Point) → at.framed ≡ other.framed → at.pc ≡ other.pc → IsPoint p at → IsPoint p other → at ≡ other
same_point p at other framed pc x y =
    let insn : at.insn ≡ other.insn = same_insn at other framed pc x.insn_stands y.insn_stands in
    let frame : at.frame ≡ other.frame = same_frame at other framed pc x.frame_stands y.frame_stands in
    ap (λ (f : FramedBody). record { framed = f; pc = at.pc; insn = at.insn; frame = at.frame }) framed
    ∙ ap (λ (n : ℕ). record { framed = other.framed; pc = n; insn = at.insn; frame = at.frame }) pc
    ∙ ap (λ (i : Insn). record { framed = other.framed; pc = other.pc; insn = i; frame = at.frame }) insn
    ∙ ap (λ (f : Frame). record { framed = other.framed; pc = other.pc; insn = other.insn; frame = f }) frame

-- a word that isn't touched is left where it was
stays : (at : Point) (w : Word) → IsUntouched at w → Leaves at.insn (depth_of at) w w
stays at (AtLocal local) untouched = stays_left at.insn (depth_of at) local untouched
stays at (AtStack place) untouched = below_left at.insn (depth_of at) place untouched

-- of two points that go on to one next instruction
module _ (p : Program) (distinct : AreDistinct p.methods) (joint : Point) (word : Word) (next : ℕ) (joins : Joins p joint word next) where
  same_body : (framed : FramedBody) → Contains p.methods framed → framed.method ≡ method_of joint → framed ≡ joint.framed
  same_body framed given same = body_one p.methods framed joint.framed distinct given joins.point.given same

  point_before : (at : Point) (pc : ℕ) → IsPoint p at → method_of at ≡ method_of joint → pc ≡ next → IsNextStart at.pc at.framed.body.insns pc → at ≡ joint
  point_before at pc point same is follows =
      let framed : at.framed ≡ joint.framed = same_body at.framed point.given same in
      let there : IsNextStart at.pc joint.framed.body.insns next =
      subst (λ (n : ℕ). IsNextStart at.pc joint.framed.body.insns n) is (subst (λ (f : FramedBody). IsNextStart at.pc f.body.insns pc) framed follows) in
      let insns : at_offset at.pc joint.framed.body.insns ≡ Some at.insn = subst (λ (f : FramedBody). at_offset at.pc f.body.insns ≡ Some at.insn) framed point.insn_stands in
      let rows = joint.framed.body.insns in
      let pcs : at.pc ≡ joint.pc =
      before_one rows at.pc joint.pc next (starts at.pc rows at.insn insns) (starts joint.pc rows joint.insn joins.point.insn_stands) there joins.follows in
      same_point p at joint framed pcs point joins.point

  -- an instruction pushes no word that it doesn't touch
  none_pushed : (at : Point) → IsPoint p at → (to : Place) → IsPushed at to → to ≡ place_of (method_of joint) next word → ⊥
  none_pushed at point to x is =
      let parts = place_parts (method_of at) (method_of joint) x.next next (AtStack (lowest_word at)) word (sym x.is ∙ is) in
      let same : at ≡ joint = point_before at x.next point parts.0 parts.1 x.follows in
      let low : IsUntouched joint (AtStack (lowest_word at)) = subst (IsUntouched joint) (sym parts.2) joins.untouched in
      let lows : lowest_word at ≡ lowest_word joint = ap lowest_word same in
      let below : lowest_word at < lowest_word joint = low in
      absurd (omega (arith, lows, below))

  -- no method begins behind an instruction
  none_entered : (t : MethodId) (local : ℕ) (to : Place) → IsEntryLocal p t local to → to ≡ place_of (method_of joint) next word → ⊥
  none_entered t local to x is =
      let parts = place_parts t (method_of joint) 0 next (AtLocal local) word (sym x.is ∙ is) in
      let zero : 0 ≡ next = parts.1 in
      let above : joint.pc < next = joins.follows.above in
      absurd (omega (arith, zero, above))

  -- no handler leads there
  none_handled : (at : Point) (handler : Handler) (source : Word) (to : Place) → IsPoint p at → Contains at.framed.body.handlers handler
      → to ≡ place_of (method_of at) handler.target source → to ≡ place_of (method_of joint) next word → ⊥
  none_handled at handler source to point listed x is =
      let parts = place_parts (method_of at) (method_of joint) handler.target next source word (sym x ∙ is) in
      let framed : at.framed ≡ joint.framed = same_body at.framed point.given parts.0 in
      joins.no_handler (handler, subst (λ (f : FramedBody). Contains f.body.handlers handler) framed listed, parts.1)

  only_left : (source : Word) → Leaves joint.insn (depth_of joint) source word → source ≡ word
  only_left source x = same_Some source word (sym x ∙ stays joint word joins.untouched)

  -- what is left there was there before
  left_before : (at : Point) (from to : Place) → IsPoint p at → LeavesWord at from to → to ≡ place_of (method_of joint) next word
      → from ≡ place_of (method_of joint) joint.pc word
  left_before at from to point (goes_on pc source left goes leaves slot starts_at ends_at) is =
      let parts = place_parts (method_of at) (method_of joint) pc next left word (sym ends_at ∙ is) in
      ⊎_elim
      (λ (falls : IsTrue (effect_of at.insn).falls × IsNextStart at.pc at.framed.body.insns pc).
      let same : at ≡ joint = point_before at pc point parts.0 parts.1 falls.1 in
      let there : Leaves joint.insn (depth_of joint) source word =
      subst (λ (a : Point). Leaves a.insn (depth_of a) source word) same (subst (λ (w : Word). Leaves at.insn (depth_of at) source w) parts.2 leaves) in
      starts_at ∙ ap (λ (a : Point). place_of (method_of a) a.pc source) same ∙ ap (place_of (method_of joint) joint.pc) (only_left source there))
      (λ (jumps : Contains (effect_of at.insn).targets pc).
      let framed : at.framed ≡ joint.framed = same_body at.framed point.given parts.0 in
      absurd (joins.no_jump (
        at.pc,
        at.insn,
        subst (λ (f : FramedBody). at_offset at.pc f.body.insns ≡ Some at.insn) framed point.insn_stands,
        subst (λ (n : ℕ). Contains (effect_of at.insn).targets n) parts.1 jumps,
      )))
      goes
  left_before at from to point (caught handler local listed covers slot starts_at ends_at) is =
      absurd (none_handled at handler (AtLocal local) to point listed ends_at is)

  only_moved : (premises : Premises Fact) (to : Place) (label : Label) → to ≡ place_of (method_of joint) next word → Arrives p premises to label
      → premises ≡ One (facts.Pt (place_of (method_of joint) joint.pc word) label)
  only_moved premises to label is (pushed at point x) = absurd (none_pushed at point to x is)
  only_moved premises to label is (entered t local x) = absurd (none_entered t local to x is)
  only_moved premises to label is (elsewhere x) = absurd (word_place (method_of joint) next word to is x)
  only_moved premises to label is (thrown at handler point listed x) = absurd (none_handled at handler (AtStack 0) to point listed x is)
  only_moved premises to label is (moved at from point x left) =
      x ∙ ap (λ (place : Place). One (facts.Pt place label)) (left_before at from to point left is)

-- what comes to a joined place comes from the place that it is joined from
pub joined_only : (p : Program) (from to : Place) (label : Label) (premises : Premises Fact) → IsAnalysable p → AreJoined p from to → Forces p premises (facts.Pt to label)
    → premises ≡ One (facts.Pt from label)
joined_only p from to label premises analysable x forced =
    only_moved p analysable.conditions.distinct x.0 x.1 x.2 x.3 premises to label x.5 (arrives p premises to label forced)
    ∙ ap (λ (place : Place). One (facts.Pt place label)) (sym x.4)

-- a label moves along joined places
pub joined_moves : (p : Program) (from to : Place) (label : Label) → AreJoined p from to → Forces p (One (facts.Pt from label)) (facts.Pt to label)
joined_moves p from to label x =
    let joins = x.3 in
    by_move (x.0, joins.point, (goes_on x.2 x.1 x.1 (inl (joins.falls, joins.follows)) (stays x.0 x.1 joins.untouched) joins.there x.4 x.5, refl))
