-- A step by its two halves, and what it decides of a table.
use Rattle.std.proofs.Common.{◌≡◌, ℕ, ◌<◌, List, Bool, true, false, Option, Some, Result, Ok, Err, refl, sym, ◌∙◌, subst, arith}
use Rattle.std.specs.Prelude.{◌↔◌, IsTrue, IfOk, None}
use Rattle.jv_types.specs.Bodies.{at_offset, arg_targets}
use Rattle.jv_types.specs.declared.ids.MethodId.{MethodId}
use Rattle.jv_types.specs.declared.shapes.Shape.{Shape}
use Rattle.jv_types.specs.declared.instruction.Arg.{Arg}
use Rattle.jv_types.specs.declared.instruction.Insn.{Insn}
use Rattle.jv_types.specs.declared.body.Body.{Body}
use Rattle.jv_types.specs.declared.frames.Frame.{Frame}
use Rattle.jv_typing.specs.declared.no_typing.NoTyping.{NoTyping}
use Rattle.jv_typing.specs.declared.no_typing.NoTyping.TheVariants as none
use Rattle.jv_typing.specs.Finding.{Types}
use Rattle.jv_typing.specs.Typing.{IsWordTyping}
use Rattle.jv_typing.specs.References.{IsRefTyping}
use Rattle.jv_typing.specs.Steps.{StepTyping, words, references}
use Rattle.jv_typing.specs.TypeSafe.{site_at, FitsWhereItGoes, IsForced, first, by_map, left}
use Rattle.jv_typing_laws.proofs.Rows.{starts_by, one_before}
use Rattle.jv_names.proofs.NamedOnce.{given_twice}
use Rattle.jv_verify_refs.specs.Leads.{site, LeadsTo}
use Rattle.jv_verify.specs.Steps.Forcing.{IsHandedOn, IsLeft, AreForced}
use Rattle.jv_verify.specs.Steps.Checking.{StandsIn, FitsAtEach, FitsOn, FailsHere, Decides, untyped, unfit}
use Rattle.jv_verify.proofs.Exact.{none_is_no_some}
use Rattle.jv_verify.proofs.Itself.{frame_to_itself}

-- the frame after an instruction that works on references is one after the instruction
pub of_references : (w : List Shape) (method : MethodId) (body : Body) (pc : ℕ) (insn : Insn) (frame after : Frame) → at_offset pc body.insns ≡ Some insn
    → LeadsTo w (site method.class.number method body pc) frame after → StepTyping w (site_at method body pc) frame insn after
of_references w method body pc insn frame after at (own, stands, typing) =
    references (subst (λ (i : Insn). IsRefTyping w (site_at method body pc) frame i after) (given_twice (at_offset pc body.insns) own insn stands at) typing)

-- where neither half has a typing there is none
pub of_neither : (w : List Shape) (method : MethodId) (body : Body) (pc : ℕ) (insn : Insn) (frame : Frame) → at_offset pc body.insns ≡ Some insn
    → ((after : Frame) → IsWordTyping body.max_stack frame insn after → ⊥) → ((after : Frame) → LeadsTo w (site method.class.number method body pc) frame after → ⊥)
    → (after : Frame) → StepTyping w (site_at method body pc) frame insn after → ⊥
of_neither w method body pc insn frame at no_words no_references after (words typed) = no_words after typed
of_neither w method body pc insn frame at no_words no_references after (references typed) = no_references after (insn, at, typed)

-- the answer of the references' half is that of the instruction
pub other_half : (w : List Shape) (method : MethodId) (body : Body) (pc : ℕ) (insn : Insn) (frame : Frame) (r : Result Frame NoTyping) → at_offset pc body.insns ≡ Some insn
    → ((after : Frame) → IsWordTyping body.max_stack frame insn after → ⊥) → IfOk r (LeadsTo w (site method.class.number method body pc) frame)
    → (r ≡ Err none.Rule → (after : Frame) → LeadsTo w (site method.class.number method body pc) frame after → ⊥) → Types (StepTyping w (site_at method body pc) frame insn) r
other_half w method body pc insn frame (Ok after) at no_words typed rule = of_references w method body pc insn frame after at typed
other_half w method body pc insn frame (Err none.Rule) at no_words typed rule = of_neither w method body pc insn frame at no_words (rule refl)
other_half w method body pc insn frame (Err none.Memory) at no_words typed rule = tt

-- what has no typing leaves nothing
pub leaves_nothing : (w : List Shape) (method : MethodId) (body : Body) (maps : List (ℕ × Frame)) (pc : ℕ) (insn : Insn) (here : Option Frame) (frame : Frame) → here ≡ Some frame
    → ((after : Frame) → StepTyping w (site_at method body pc) frame insn after → ⊥) → IsLeft w method body maps pc insn here None
leaves_nothing w method body maps pc insn here frame is no_typing = λ next other after handed at typing.
    let both : Some other ≡ Some frame = sym at ∙ is in
    let same : other ≡ frame = cc in
    no_typing after (subst (λ (f : Frame). StepTyping w (site_at method body pc) f insn after) same typing)

-- ---- a table at one instruction

-- what fits everywhere fits at the next instruction and at the targets
goes_on : (w : List Shape) (body : Body) (rows : List (ℕ × Frame)) (pc : ℕ) (insn : Insn) (frame after : Frame) → FitsWhereItGoes w body (StandsIn rows) pc insn frame after → FitsOn w body rows pc insn after
goes_on w body rows pc insn frame after h = record { falls = h.falls; jumps = h.jumps }

pub typed_decides : (w : List Shape) (method : MethodId) (body : Body) (rows : List (ℕ × Frame)) (row : ℕ × Insn) (frame after : Frame) (goes : Bool) → at_offset row.0 rows ≡ Some frame
    → StepTyping w (site_at method body row.0) frame row.1 after → IsTrue goes ↔ FitsOn w body rows row.0 row.1 after → Decides w method body rows row goes
typed_decides w method body rows row frame after true stands typing says = record { frame = frame; stands = stands; after = after; typing = typing; fits = says.0 refl }
typed_decides w method body rows row frame after false stands typing says =
    unfit frame after stands typing (λ h. let t : false ≡ true = says.1 (goes_on w body rows row.0 row.1 frame after h) in absurd cc)

-- what is forced at the next instruction is what this one leaves
handed_typing : (w : List Shape) (method : MethodId) (body : Body) (maps rows : List (ℕ × Frame)) (pc next : ℕ) (insn : Insn) (frame after : Frame) → AreForced w method body maps rows → StandsIn rows pc frame
    → at_offset pc body.insns ≡ Some insn → IsHandedOn body maps pc insn.op next → IsForced w method body maps next after → StepTyping w (site_at method body pc) frame insn after
handed_typing w method body maps rows pc next insn frame after exact stands at handed (first _ _ z n i) = absurd (let above : pc < next = handed.after.above in omega arith)
handed_typing w method body maps rows pc next insn frame after exact stands at handed (by_map _ _ s) = absurd (none_is_no_some (at_offset next maps) after handed.no_map s)
handed_typing w method body maps rows pc next insn frame after exact stands at handed (left other _ insn' from _ f at' goes next' n t) =
    let place : other ≡ pc = one_before body.insns other pc next (starts_by (at_offset other body.insns) insn' at') (starts_by (at_offset pc body.insns) insn at) next' handed.after in
    let there : at_offset pc body.insns ≡ Some insn' = subst (λ (k : ℕ). at_offset k body.insns ≡ Some insn') place at' in
    let same : insn' ≡ insn = given_twice (at_offset pc body.insns) insn' insn there at in
    let row : at_offset pc rows ≡ Some from = subst (λ (k : ℕ). at_offset k rows ≡ Some from) place (exact.back other from f) in
    let own : from ≡ frame = given_twice (at_offset pc rows) from frame row stands in
    let moved : StepTyping w (site_at method body pc) from insn' after = subst (λ (k : ℕ). StepTyping w (site_at method body k) from insn' after) place t in
    subst (λ (g : Frame). StepTyping w (site_at method body pc) g insn after) own (subst (λ (i : Insn). StepTyping w (site_at method body pc) from i after) same moved)

-- where nothing is forced there it has no typing
handed_untyped : (w : List Shape) (method : MethodId) (body : Body) (maps rows : List (ℕ × Frame)) (pc next : ℕ) (insn : Insn) (frame : Frame) → AreForced w method body maps rows → StandsIn rows pc frame
    → at_offset pc body.insns ≡ Some insn → IsHandedOn body maps pc insn.op next → at_offset next rows ≡ None → (after : Frame) → StepTyping w (site_at method body pc) frame insn after → ⊥
handed_untyped w method body maps rows pc next insn frame exact stands at handed none after typing =
    none_is_no_some (at_offset next rows) after none (exact.back next after (left pc next insn frame after (exact.forth pc frame stands) at handed.goes handed.after handed.no_map typing))

-- a frame stands at the next instruction, and it fits at the targets of this one
abbrev pub IsHandedRight : List Shape → List (ℕ × Frame) → ℕ → Arg → Type 0
IsHandedRight w rows next arg = (after : Frame) × StandsIn rows next after × FitsAtEach w rows (arg_targets arg) after

pub targets_decide : (w : List Shape) (rows : List (ℕ × Frame)) (next : ℕ) (arg : Arg) (after : Frame) (b : Bool) → at_offset next rows ≡ Some after
    → IsTrue b ↔ FitsAtEach w rows (arg_targets arg) after → IsTrue b ↔ IsHandedRight w rows next arg
targets_decide w rows next arg after b stands says = (
  λ t. (after, stands, says.0 t),
  λ h. says.1 (subst (FitsAtEach w rows (arg_targets arg)) (given_twice (at_offset next rows) h.0 after h.1 stands) h.2),
)

pub handed_decides : (w : List Shape) (method : MethodId) (body : Body) (maps rows : List (ℕ × Frame)) (row : ℕ × Insn) (frame : Frame) (next : ℕ) (goes : Bool) → AreForced w method body maps rows
    → at_offset row.0 rows ≡ Some frame → at_offset row.0 body.insns ≡ Some row.1 → IsHandedOn body maps row.0 row.1.op next → IsTrue goes ↔ IsHandedRight w rows next row.1.arg → Decides w method body rows row goes
handed_decides w method body maps rows row frame next true exact stands at handed says =
    let h = says.0 refl in
    record {
      frame = frame;
      stands = stands;
      after = h.0;
      typing = handed_typing w method body maps rows row.0 next row.1 frame h.0 exact stands at handed (exact.forth next h.0 h.1);
      fits = record { falls = λ e. (next, handed.after, (h.0, h.1, frame_to_itself w h.0)); jumps = h.2 };
    }
handed_decides w method body maps rows row frame next false exact stands at handed says = by (at_offset next rows) refl
  where
    by : (o : Option Frame) → at_offset next rows ≡ o → FailsHere w method body rows row.0 row.1
    by None e = untyped frame stands (handed_untyped w method body maps rows row.0 next row.1 frame exact stands at handed e)
    by (Some after) e =
        let typing = handed_typing w method body maps rows row.0 next row.1 frame after exact stands at handed (exact.forth next after e) in
        unfit frame after stands typing (λ h. let t : false ≡ true = says.1 (after, e, h.jumps) in absurd cc)
