-- The answers of `calls` as outcomes: their statuses and their lines.
use Rattle.std.proofs.Common.{◌≡◌, ℕ, List, refl}
use Rattle.std.specs.Fmt.{digits}
use Rattle.av_outcome.specs.Outcomes.{outcome_line, outcome_status}
use Rattle.av_cli.specs.declared.calls.answer.Answer.{Answer}
use Rattle.av_cli.specs.declared.calls.answer.Answer.TheVariants.{Printed, Unreadable, NoFile, TooLarge, NotClass, OutsideForm, NoMain, Unwritable, OutOfMemory}
use Rattle.av_cli.specs.Outside.{Outside}
use Rattle.av_cli.specs.Commands.{outcome_of}
use Rattle.av_cli.specs.Calls.Answers.{error_line, status_of}
use Rattle.av_cli.specs.Calls.Ending.{Concludes}

pub same_status : (name : List ℕ) (answer : Answer) → status_of answer ≡ outcome_status (outcome_of name answer)
same_status name Printed = refl
same_status name Unreadable = refl
same_status name NoFile = refl
same_status name TooLarge = refl
same_status name NotClass = refl
same_status name OutsideForm = refl
same_status name NoMain = refl
same_status name Unwritable = refl
same_status name OutOfMemory = refl

-- the answer of a command that was run is told as its outcome
pub same_line : (o : Outside) (root name : List ℕ) (answer : Answer) → Concludes o root name answer → error_line name answer ≡ outcome_line (outcome_of name answer)
unfolding digits
same_line o root name Printed c = refl
same_line o root name Unreadable c = refl
same_line o root name NoFile c = refl
same_line o root name TooLarge c = refl
same_line o root name NotClass c = refl
same_line o root name OutsideForm c = refl
same_line o root name NoMain c = refl
same_line o root name Unwritable c = refl
same_line o root name OutOfMemory c = refl
