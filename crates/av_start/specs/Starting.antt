-- What is answered where a program has no start.
use Rattle.std.specs.Prelude.{◌≡◌, ⊤, ℕ, List, Option, None, Some}
use Rattle.jv_types.specs.declared.refusal.RulePlace.TheVariants as places
use Rattle.jv_types.specs.declared.rule.Rule.TheVariants as rules
use Rattle.jv_types.specs.declared.shapes.Shape.{Shape}
use Rattle.av_program.specs.declared.accept_stop.AcceptStop.{AcceptStop}
use Rattle.av_program.specs.declared.accept_stop.AcceptStop.TheVariants.{Refused, Limit, ReadFault, Memory}
use Rattle.av_stops.specs.FirstStops.{refused_at}
use Rattle.av_stops.specs.Mains.{HasNoMain}

-- rule 20 fails at the class of this name, or memory is wanting
abbrev pub IsStartStop : List ℕ → AcceptStop → Type 0
IsStartStop name (Refused refusal) = Refused refusal ≡ refused_at rules.NoMain (places.Class name)
IsStartStop name (Limit quantity number) = ⊥
IsStartStop name (ReadFault file) = ⊥
IsStartStop name Memory = ⊤

-- the class that was asked for has no main, and so it is told
abbrev pub HasNoStart : List Shape → Option (List ℕ) → AcceptStop → Type 0
HasNoStart w None stop = ⊥
HasNoStart w (Some name) stop = HasNoMain w name × IsStartStop name stop
