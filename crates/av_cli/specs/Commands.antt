-- How a run of any command ends.
use Rattle.std.specs.Prelude.{◌≡◌, ◌⊎◌, ℕ, List, Some}
use Rattle.jv_types.specs.declared.quantity.Quantity.TheVariants.{FileBytes}
use Rattle.jv_types.specs.declared.refusal.RulePlace.TheVariants as place
use Rattle.jv_types.specs.declared.rule.Rule.TheVariants as rule
use Rattle.jv_host.specs.declared.host.HostFile.{HostFile}
use Rattle.av_words.specs.Requests.{AskCalls, AskVerify, AskNothing}
use Rattle.av_outcome.specs.declared.outcome.Outcome.{Outcome}
use Rattle.av_outcome.specs.declared.outcome.Outcome.TheVariants.{Done, Refused, Usage, ReadFault, WriteFault, Limit, Memory}
use Rattle.av_outcome.specs.declared.status.Status.{Status}
use Rattle.av_outcome.specs.Handing.{SinkState, Says}
use Rattle.av_outcome.specs.Outcomes.{outcome_line, outcome_status}
use Rattle.av_cli.specs.declared.calls.answer.Answer.{Answer}
use Rattle.av_cli.specs.declared.calls.answer.Answer.TheVariants.{Printed, Unreadable, NoFile, TooLarge, NotClass, OutsideForm, NoMain, Unwritable, OutOfMemory}
use Rattle.av_cli.specs.Outside.{Outside, NothingPrinted, IsFaultless}
use Rattle.av_cli.specs.Calls.Answers.{file_name}
use Rattle.av_cli.specs.Calls.Ending.{Concludes, IsDue}

-- what an answer of `calls` about the class of this name comes to
abbrev pub outcome_of : List ℕ → Answer → Outcome
outcome_of name Printed = Done
outcome_of name Unreadable = ReadFault (file_name name)
outcome_of name NoFile = Refused (record { rule = rule.NoMain; place = place.Class name })
outcome_of name TooLarge = Limit FileBytes 16777216
outcome_of name NotClass = Refused (record { rule = rule.NotClass; place = place.File (file_name name) })
outcome_of name OutsideForm = Refused (record { rule = rule.NotBuiltYet; place = place.File (file_name name) })
outcome_of name NoMain = Refused (record { rule = rule.NoMain; place = place.Class name })
outcome_of name Unwritable = WriteFault
outcome_of name OutOfMemory = Memory

-- how `calls` ended: what its answer says, and that it is the one that is due, unless something fails or memory is
-- wanting
pub record CallsEnds (words : List (List ℕ)) (root name : List ℕ) (o : Outside) (answer : Answer) : Type 0 where
  pub concludes : Concludes o root name answer
  pub exact : (told : List HostFile) → o.files ≡ Some told → (due : Answer) → IsDue words told due → IsFaultless o
      → (answer ≡ due) ⊎ (answer ≡ OutOfMemory)

-- Why a run ended so, by the command that the words ask for. Memory may be wanting before that is known.
pub data Cause (verify_ends : List ℕ → List ℕ → Outside → Outcome → Type 0) (words : List (List ℕ)) (o : Outside) (outcome : Outcome) : Type 0 where
  misused : outcome ≡ Usage → AskNothing words → NothingPrinted o → Cause verify_ends words o outcome
  called : (root name : List ℕ) (answer : Answer) → outcome ≡ outcome_of name answer → AskCalls words root name
      → CallsEnds words root name o answer → Cause verify_ends words o outcome
  verified : (app lib : List ℕ) → AskVerify words app lib → verify_ends app lib o outcome → Cause verify_ends words o outcome
  starved : outcome ≡ Memory → NothingPrinted o → Cause verify_ends words o outcome

-- how a run ended: its outcome, the status and the cause of that, and what err was told
pub record Runs (verify_ends : List ℕ → List ℕ → Outside → Outcome → Type 0) (words : List (List ℕ)) (o : Outside)
    (err_before err_after : SinkState) (status : Status) : Type 0 where
  pub outcome : Outcome
  pub status_is : status ≡ outcome_status outcome
  pub cause : Cause verify_ends words o outcome
  pub said : Says err_before err_after (outcome_line outcome)
