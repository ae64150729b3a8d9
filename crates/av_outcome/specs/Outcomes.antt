-- How a command ends: the status of each outcome, and the line that err gets.
use Rattle.std.specs.Prelude.{ℕ, List, [], ◌∷◌, ◌++◌, codes}
use Rattle.std.specs.Fmt.{decimal}
use Rattle.jv_types.specs.declared.quantity.Quantity.{Quantity}
use Rattle.jv_types.specs.declared.refusal.RulePlace.{RulePlace}
use Rattle.jv_types.specs.declared.refusal.RulePlace.TheVariants.{File, Class, Method}
use Rattle.jv_types.specs.declared.rule.Rule.{Rule}
use Rattle.jv_types.specs.Quantities.{quantity_name}
use Rattle.jv_types.specs.Rules.{rule_name, rule_number}
use Rattle.jv_bytes.specs.Shown.{shown_text}
use Rattle.av_program.specs.declared.accept_stop.AcceptStop.{AcceptStop}
use Rattle.av_program.specs.declared.accept_stop.AcceptStop.TheVariants as stops
use Rattle.av_outcome.specs.declared.outcome.Outcome.{Outcome}
use Rattle.av_outcome.specs.declared.outcome.Outcome.TheVariants.{Done, Refused, Usage, ReadFault, WriteFault, Limit, Memory}
use Rattle.av_outcome.specs.declared.status.Status.{Status}
use Rattle.av_outcome.specs.declared.status.Status.TheVariants as status
use Rattle.av_outcome.specs.Pieces.{joined}

-- ---- the status

abbrev pub outcome_status : Outcome → Status
outcome_status Done = status.Done
outcome_status (Refused refusal) = status.Refused
outcome_status Usage = status.Usage
outcome_status (ReadFault name) = status.ReadFault
outcome_status WriteFault = status.WriteFault
outcome_status (Limit quantity number) = status.Limit
outcome_status Memory = status.Memory

-- the outcome where an application isn't accepted
abbrev pub outcome_of_stop : AcceptStop → Outcome
outcome_of_stop (stops.Refused refusal) = Refused refusal
outcome_of_stop (stops.Limit quantity number) = Limit quantity number
outcome_of_stop (stops.ReadFault name) = ReadFault name
outcome_of_stop stops.Memory = Memory

-- ---- the line

abbrev space : List ℕ
space = codes " "

abbrev newline : List ℕ
newline = 10 ∷ []

-- where a rule fails: a file or a class, or a method of a class, its descriptor and an offset, divided by spaces. Names
-- are in shown form, and the offset is in decimal.
abbrev pub place_parts : RulePlace → List (List ℕ)
place_parts (File name) = shown_text name ∷ []
place_parts (Class name) = shown_text name ∷ []
place_parts (Method class name desc pc) =
    shown_text class ∷ space ∷ shown_text name ∷ space ∷ shown_text desc ∷ space ∷ decimal pc ∷ []

-- the number and the name of the rule, and where it fails
abbrev pub refusal_line : Rule → RulePlace → List ℕ
refusal_line rule place =
    joined (codes "averroes: refused " ∷ decimal (rule_number rule) ∷ space ∷ rule_name rule ∷ space ∷ (place_parts place ++ newline ∷ []))

-- the quantity and its limit
abbrev pub limit_line : Quantity → ℕ → List ℕ
limit_line quantity number = joined (codes "averroes: limit " ∷ quantity_name quantity ∷ space ∷ decimal number ∷ newline ∷ [])

-- what err is told: nothing where all was written, and else a line
abbrev pub outcome_line : Outcome → List ℕ
outcome_line Done = []
outcome_line (Refused refusal) = refusal_line refusal.rule refusal.place
outcome_line Usage = joined (codes "averroes: usage: verify or calls" ∷ newline ∷ [])
outcome_line (ReadFault name) = joined (codes "averroes: read fault " ∷ shown_text name ∷ newline ∷ [])
outcome_line WriteFault = joined (codes "averroes: write fault report" ∷ newline ∷ [])
outcome_line (Limit quantity number) = limit_line quantity number
outcome_line Memory = joined (codes "averroes: memory" ∷ newline ∷ [])
