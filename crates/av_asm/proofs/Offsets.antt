-- Where instructions start.
use Rattle.std.proofs.Common.{◌≡◌, ℕ, zero, suc, ◌+◌, ◌<◌, ◌≤◌, Bool, true, false, cond, eqb, leb, List, [], ◌∷◌, ◌++◌, length, map, drop, get_or, Some, IsSome, refl, sym, ap, subst, ◌∙◌, inl, append_assoc, arith}
use Rattle.std.specs.Prelude.{◌&&◌}
use Rattle.std.specs.List.{zip, AllByRecursion}
use Rattle.std.proofs.lemmas.List.{drop_more, drop_all}
use Rattle.std.proofs.lemmas.Bool.Decides.{nat_tests}
use Rattle.jv_types.specs.Bodies.{rises_from, at_offset, IsStart}
use Rattle.jv_types.specs.declared.instruction.Insn.{Insn}
use Rattle.jv_types.specs.declared.frames.Frame.{Frame}
use Rattle.jv_insn.specs.Layouts.{head_text}
use Rattle.jv_insn.specs.Encoding.{form_of, arg_size, insn_size, AreLaid, HasPlaces}
use Rattle.av_asm.specs.declared.step.Step.{Step}
use Rattle.av_asm.specs.declared.step.Step.TheVariants.{Put, Open, Landed}
use Rattle.av_asm.specs.declared.step.Span.{Span}
use Rattle.av_asm.specs.Built.{IsSpan}
use Rattle.av_asm.specs.Planning.{start_at, insn_of, step_size, starts_from, end_from, placed_insn, insns_of, handler_of}

-- ---- sizes

-- an instruction has the size of its step, wherever it leads
size_of : (all : List ℕ) (pc : ℕ) (step : Step) → insn_size pc (insn_of all step) ≡ step_size pc step
size_of all pc (Put insn) = refl
size_of all pc (Open op) = refl
size_of all pc (Landed op number) = refl

head_some : (wide : Bool) (op n : ℕ) → 1 ≤ length (head_text wide op) + n
head_some true op n = omega arith
head_some false op n = omega arith

step_some : (pc : ℕ) (step : Step) → 1 ≤ step_size pc step
step_some pc step =
    let insn = insn_of [] step in
    head_some insn.wide insn.op (arg_size (form_of insn.op) insn.wide pc insn.arg)

-- ---- where the code ends

pub ends_above : (pc : ℕ) (steps : List Step) → pc ≤ end_from pc steps
ends_above pc [] = omega arith
ends_above pc (step ∷ steps) = omega (arith, ends_above (pc + step_size pc step) steps)

-- ---- the loop over instructions

-- the starts of the instructions before a place were made, and the next one starts at an offset
pub record AreStartsSoFar (steps : List Step) (i pc : ℕ) (starts : List ℕ) : Type 0 where
  pub starts_are : starts_from 0 steps ≡ starts ++ starts_from pc (drop i steps)
  pub end_is : end_from 0 steps ≡ end_from pc (drop i steps)

pub starts_begun : (steps : List Step) → AreStartsSoFar steps 0 0 []
starts_begun steps = record { starts_are = refl; end_is = refl }

next_step : (steps : List Step) (i : ℕ) (step : Step) → i < length steps → step ≡ get_or steps i step → drop i steps ≡ step ∷ drop (i + 1) steps
next_step steps i step lt is = drop_more steps i step lt ∙ ap (λ (s : Step). s ∷ drop (i + 1) steps) (sym is)

pub starts_more : (steps : List Step) (i pc : ℕ) (step : Step) (starts more : List ℕ) (end : ℕ) → i < length steps → step ≡ get_or steps i step → AreStartsSoFar steps i pc starts → more ≡ starts ++ pc ∷ []
    → end ≡ pc + step_size pc step → AreStartsSoFar steps (i + 1) end more
starts_more steps i pc step starts more end lt is so_far pushed ends =
    let left = next_step steps i step lt is in
    let tail = starts_from (pc + step_size pc step) (drop (i + 1) steps) in
    record {
      starts_are =
          so_far.starts_are ∙ ap (λ (xs : List Step). starts ++ starts_from pc xs) left ∙ sym (append_assoc starts (pc ∷ []) tail)
          ∙ ap (λ (xs : List ℕ). xs ++ tail) (sym pushed) ∙ ap (λ (k : ℕ). more ++ starts_from k (drop (i + 1) steps)) (sym ends);
      end_is = so_far.end_is ∙ ap (end_from pc) left ∙ ap (λ (k : ℕ). end_from k (drop (i + 1) steps)) (sym ends);
    }

pub starts_whole : (steps : List Step) (i pc : ℕ) (starts all : List ℕ) → length steps ≤ i → AreStartsSoFar steps i pc starts → all ≡ starts ++ pc ∷ [] → all ≡ starts_from 0 steps
starts_whole steps i pc starts all le so_far pushed = pushed ∙ sym (so_far.starts_are ∙ ap (λ (xs : List Step). starts ++ starts_from pc xs) (drop_all i steps le))

pub end_whole : (steps : List Step) (i pc : ℕ) (starts : List ℕ) → length steps ≤ i → AreStartsSoFar steps i pc starts → pc ≡ end_from 0 steps
end_whole steps i pc starts le so_far = sym (so_far.end_is ∙ ap (end_from pc) (drop_all i steps le))

pub too_long : (steps : List Step) (i pc : ℕ) (step : Step) (starts : List ℕ) → i < length steps → step ≡ get_or steps i step → AreStartsSoFar steps i pc starts → 65535 < pc + step_size pc step → 65535 < end_from 0 steps
too_long steps i pc step starts lt is so_far long =
    let end = so_far.end_is ∙ ap (end_from pc) (next_step steps i step lt is) in
    omega (arith, end, ends_above (pc + step_size pc step) (drop (i + 1) steps))

-- ---- instructions one behind the other

pub are_laid : (all : List ℕ) (pc : ℕ) (steps : List Step) → AreLaid pc (map (placed_insn all) (zip (starts_from pc steps) steps)) (end_from pc steps)
are_laid all pc [] = refl
are_laid all pc (step ∷ steps) =
    let end = end_from (pc + step_size pc step) steps in
    let rows = map (placed_insn all) (zip (starts_from (pc + step_size pc step) steps) steps) in
    (refl, subst (λ (k : ℕ). AreLaid (pc + k) rows end) (sym (size_of all pc step)) (are_laid all (pc + step_size pc step) steps))

-- what stands at these offsets rises
pub zip_rises : {Y : Type 0} (low pc : ℕ) (steps : List Step) (ys : List Y) → low ≤ pc → rises_from low (zip (starts_from pc steps) ys) ≡ true
zip_rises low pc [] [] le = refl
zip_rises low pc [] (y ∷ ys) le = let is : leb low pc ≡ true = grind (arith, nat_tests) in rw is refl
zip_rises low pc (step ∷ steps) [] le = refl
zip_rises low pc (step ∷ steps) (y ∷ ys) le =
    let is : leb low pc ≡ true = grind (arith, nat_tests) in
    rw is (zip_rises (pc + 1) (pc + step_size pc step) steps ys (omega (arith, step_some pc step)))

-- so do the instructions
placed_rise : (all : List ℕ) (low : ℕ) (rows : List (ℕ × Step)) → rises_from low (map (placed_insn all) rows) ≡ rises_from low rows
placed_rise all low [] = refl
placed_rise all low (row ∷ rows) = ap (λ (b : Bool). leb low row.0 && b) (placed_rise all (row.0 + 1) rows)

pub insns_rise : (steps : List Step) → rises_from 0 (insns_of (starts_from 0 steps) steps) ≡ true
insns_rise steps = placed_rise (starts_from 0 steps) 0 (zip (starts_from 0 steps) steps) ∙ zip_rises 0 0 steps steps (omega arith)

pub built_rise : (steps : List Step) (insns made : List (ℕ × Insn)) (starts lent : List ℕ) → insns ≡ made → made ≡ insns_of lent steps → lent ≡ starts → starts ≡ starts_from 0 steps → rises_from 0 insns ≡ true
built_rise steps insns made starts lent is_made is_placed is_lent are =
    let whole : insns ≡ insns_of (starts_from 0 steps) steps = is_made ∙ is_placed ∙ ap (λ (s : List ℕ). insns_of s steps) (is_lent ∙ are) in
    ap (rises_from 0) whole ∙ insns_rise steps

-- ---- starts

start_here : {I : Type 0} (row : ℕ × I) (rows : List (ℕ × I)) (pc : ℕ) → row.0 ≡ pc → IsStart (row ∷ rows) pc
start_here {I} row rows pc e = let is : eqb row.0 pc ≡ true = grind (arith, nat_tests) in by (eqb row.0 pc) is
  where
    by : (b : Bool) → b ≡ true → IsSome (cond b (Some row.1) (at_offset pc rows))
    by true e = refl
    by false e = absurd cc

start_behind : {I : Type 0} (row : ℕ × I) (rows : List (ℕ × I)) (pc : ℕ) → IsStart rows pc → IsStart (row ∷ rows) pc
start_behind {I} row rows pc s = by (eqb row.0 pc)
  where
    by : (b : Bool) → IsSome (cond b (Some row.1) (at_offset pc rows))
    by true = refl
    by false = s

-- an instruction starts where its number says
pub numbered_start : (all : List ℕ) (pc : ℕ) (steps : List Step) (n : ℕ) → n < length steps → IsStart (map (placed_insn all) (zip (starts_from pc steps) steps)) (start_at (starts_from pc steps) n)
numbered_start all pc [] n lt = absurd (omega arith)
numbered_start all pc (step ∷ steps) zero lt = start_here (pc, insn_of all step) (map (placed_insn all) (zip (starts_from (pc + step_size pc step) steps) steps)) pc refl
numbered_start all pc (step ∷ steps) (suc n) lt =
    let next = pc + step_size pc step in
    start_behind (pc, insn_of all step) (map (placed_insn all) (zip (starts_from next steps) steps)) (start_at (starts_from next steps) n) (numbered_start all next steps n (omega arith))

-- the offset behind the last one is where the code ends
pub numbered_end : (pc : ℕ) (steps : List Step) → start_at (starts_from pc steps) (length steps) ≡ end_from pc steps
numbered_end pc [] = refl
numbered_end pc (step ∷ steps) = numbered_end (pc + step_size pc step) steps

starts_above : (pc : ℕ) (steps : List Step) (n : ℕ) → n ≤ length steps → pc ≤ start_at (starts_from pc steps) n
starts_above pc [] zero le = omega arith
starts_above pc [] (suc n) le = absurd (omega arith)
starts_above pc (step ∷ steps) zero le = omega arith
starts_above pc (step ∷ steps) (suc n) le = omega (arith, starts_above (pc + step_size pc step) steps n (omega arith))

-- later instructions start later
pub starts_rise : (pc : ℕ) (steps : List Step) (m n : ℕ) → m < n → n ≤ length steps → start_at (starts_from pc steps) m < start_at (starts_from pc steps) n
starts_rise pc [] m zero lt le = absurd (omega arith)
starts_rise pc [] m (suc n) lt le = absurd (omega arith)
starts_rise pc (step ∷ steps) m zero lt le = absurd (omega arith)
starts_rise pc (step ∷ steps) zero (suc n) lt le = omega (arith, step_some pc step, starts_above (pc + step_size pc step) steps n (omega arith))
starts_rise pc (step ∷ steps) (suc m) (suc n) lt le = starts_rise (pc + step_size pc step) steps m n (omega arith) (omega arith)

-- frames stand at instructions
each_later : {I : Type 0} (row : ℕ × I) (rows : List (ℕ × I)) (frames : List (ℕ × Frame)) → AllByRecursion (λ (f : ℕ × Frame). IsStart rows f.0) frames → AllByRecursion (λ (f : ℕ × Frame). IsStart (row ∷ rows) f.0) frames
each_later {I} row rows [] h = tt
each_later {I} row rows (f ∷ frames) h = (start_behind row rows f.0 h.0, each_later row rows frames h.1)

pub frames_start : (all : List ℕ) (pc : ℕ) (steps : List Step) (frames : List Frame) → length frames ≡ length steps
    → AllByRecursion (λ (f : ℕ × Frame). IsStart (map (placed_insn all) (zip (starts_from pc steps) steps)) f.0) (zip (starts_from pc steps) frames)
frames_start all pc [] [] e = tt
frames_start all pc [] (f ∷ frames) e = absurd (omega (arith, e))
frames_start all pc (step ∷ steps) [] e = tt
frames_start all pc (step ∷ steps) (f ∷ frames) e =
    let next = pc + step_size pc step in
    let rows = map (placed_insn all) (zip (starts_from next steps) steps) in
    let row : ℕ × Insn = (pc, insn_of all step) in
    (start_here row rows pc refl, each_later row rows (zip (starts_from next steps) frames) (frames_start all next steps frames (omega (arith, e))))

-- ---- handlers

pub has_places : (steps : List Step) (span : Span) → IsSpan (length steps) span → span.target < length steps
    → HasPlaces (insns_of (starts_from 0 steps) steps) (end_from 0 steps) (handler_of (starts_from 0 steps) span)
has_places steps span is led =
    let starts = starts_from 0 steps in
    let covers : span.start < span.end = is.covers in
    let behind : span.end ≤ span.target = is.behind in
    record {
      covers = starts_rise 0 steps span.start span.end covers (omega (arith, behind, led));
      starts = numbered_start starts 0 steps span.start (omega (arith, covers, behind, led));
      ends = inl (numbered_start starts 0 steps span.end (omega (arith, behind, led)));
      leads = numbered_start starts 0 steps span.target led;
    }

pub have_places : (steps : List Step) (spans : List Span) → AllByRecursion (IsSpan (length steps)) spans → AllByRecursion (λ (span : Span). span.target < length steps) spans
    → AllByRecursion (HasPlaces (insns_of (starts_from 0 steps) steps) (end_from 0 steps)) (map (handler_of (starts_from 0 steps)) spans)
have_places steps [] h led = tt
have_places steps (span ∷ spans) h led = (has_places steps span h.0 led.0, have_places steps spans h.1 led.1)
