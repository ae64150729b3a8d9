-- Code that throws what is known, whose branch lands.
use Rattle.std.proofs.Common.{◌≡◌, ℕ, suc, ◌+◌, List, [], ◌∷◌, ◌++◌, length, Some, refl, ap, ◌∙◌, length-append, arith}
use Rattle.std.specs.Prelude.{slice_get, slice_set}
use Rattle.jv_table.specs.declared.ops.TheConstants.{IFNULL, ATHROW}
use Rattle.jv_types.specs.declared.desc.RefType as refs
use Rattle.jv_types.specs.declared.frames.VType.{VType}
use Rattle.av_asm.specs.declared.step.Step.{Step}
use Rattle.av_asm.specs.declared.step.Step.TheVariants.{Put, Open, Landed}
use Rattle.av_asm.specs.Built.{Built, with_landing, IsBranch}
use Rattle.av_conditions.specs.CoreClasses.{throwable_name}
use Rattle.av_standin_of.specs.Codes.{Row, plain, get_known, checkcast}
use Rattle.av_standin_of.specs.Templates.{throws}
use Rattle.av_templates.specs.Putting.{with_rows}
use Rattle.av_templates.specs.Steps.{asks_known, throws_known}
use Rattle.av_templates.proofs.Adding.{then_rows}

-- ---- lists

open_there : (xs : List Step) (x : Step) (ys : List Step) (op : ℕ) → slice_get (xs ++ x ∷ Open op ∷ ys) (length xs + 1) ≡ Some (Open op)
open_there [] x ys op = refl
open_there (first ∷ xs) x ys op =
    let next : suc (length xs) + 1 ≡ suc (length xs + 1) = omega arith in
    ap (slice_get (first ∷ (xs ++ x ∷ Open op ∷ ys))) next ∙ open_there xs x ys op

lands_there : (xs : List Step) (x : Step) (ys : List Step) (op target : ℕ)
    → slice_set (xs ++ x ∷ Open op ∷ ys) (length xs + 1) (Landed op target) ≡ xs ++ x ∷ Landed op target ∷ ys
lands_there [] x ys op target = refl
lands_there (first ∷ xs) x ys op target =
    let next : suc (length xs) + 1 ≡ suc (length xs + 1) = omega arith in
    ap (λ (n : ℕ). slice_set (first ∷ (xs ++ x ∷ Open op ∷ ys)) n (Landed op target)) next ∙ ap (λ (steps : List Step). first ∷ steps) (lands_there xs x ys op target)

count_so : (steps : List Step) (a b c d e : Step) → length (steps ++ a ∷ b ∷ c ∷ d ∷ e ∷ []) ≡ length steps + 5
count_so steps a b c d e = simp length-append (omega arith)

-- ---- the branch

-- all of it, before the branch lands
abbrev pub throws_open : ℕ → List VType → List Row
throws_open words locals = asks_known words locals ++ throws_known words locals

abbrev rest : List Step
rest = Put get_known ∷ Put (checkcast (refs.Class throwable_name)) ∷ Put (plain ATHROW) ∷ []

pub branches : (words : ℕ) (locals : List VType) (old middle : Built) (before : ℕ) → before ≡ length old.steps → middle ≡ with_rows old (throws_open words locals)
    → IsBranch middle.steps (before + 1) IFNULL
branches words locals old middle before is put =
    ap (λ (b : Built). slice_get b.steps (before + 1)) put
    ∙ ap (λ (n : ℕ). slice_get (old.steps ++ Put get_known ∷ Open IFNULL ∷ rest) (n + 1)) is
    ∙ open_there old.steps (Put get_known) rest IFNULL

landed : (words : ℕ) (locals : List VType) (old : Built) → with_landing (with_rows old (throws_open words locals)) (length old.steps + 1) IFNULL ≡ with_rows old (throws words locals (length old.steps))
landed words locals old =
    let unlanded = old.steps ++ Put get_known ∷ Open IFNULL ∷ rest in
    let frames = (with_rows old (throws_open words locals)).frames in
    ap (λ (n : ℕ). record old { steps = slice_set unlanded (length old.steps + 1) (Landed IFNULL n); frames = frames })
    (count_so old.steps (Put get_known) (Open IFNULL) (Put get_known) (Put (checkcast (refs.Class throwable_name))) (Put (plain ATHROW)))
    ∙ ap (λ (steps : List Step). record old { steps = steps; frames = frames }) (lands_there old.steps (Put get_known) rest IFNULL (length old.steps + 5))

pub both_put : (words : ℕ) (locals : List VType) (old first middle : Built) → first ≡ with_rows old (asks_known words locals) → middle ≡ with_rows first (throws_known words locals)
    → middle ≡ with_rows old (throws_open words locals)
both_put words locals old first middle a b = then_rows old first middle (asks_known words locals) (throws_known words locals) a b

pub lands : (words : ℕ) (locals : List VType) (old middle new : Built) (before : ℕ) → before ≡ length old.steps → middle ≡ with_rows old (throws_open words locals)
    → ((op : ℕ) → IsBranch middle.steps (before + 1) op → new ≡ with_landing middle (before + 1) op) → new ≡ with_rows old (throws words locals (length old.steps))
lands words locals old middle new before is put lands_so =
    lands_so IFNULL (branches words locals old middle before is put)
    ∙ ap (λ (b : Built). with_landing b (before + 1) IFNULL) put
    ∙ ap (λ (n : ℕ). with_landing (with_rows old (throws_open words locals)) (n + 1) IFNULL) is
    ∙ landed words locals old
