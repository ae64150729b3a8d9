-- What the history of a source's calls tells.
use Rattle.std.specs.Prelude.{◌≡◌, ◌++◌, [], ◌∷◌, ℕ, Bool, true, false, List, Option, None, Some, map, filter, option_map, Contains, if◌then◌else◌}
use Rattle.jv_host.specs.declared.host.HostCall.{HostCall}
use Rattle.jv_host.specs.declared.host.HostCall.TheVariants as calls
use Rattle.av_program.specs.Reads.{file_of, most_read}
use Rattle.av_library.specs.declared.history.Asked.{Asked}
use Rattle.av_library.specs.declared.history.Asked.TheVariants as outcomes

-- the read of the file of the class of this name
abbrev pub read_of : List ℕ → List ℕ → HostCall
read_of root name = calls.ReadFile root (file_of name) most_read

-- ---- what is noted of a call

abbrev pub is_answered : Asked → Bool
is_answered outcomes.Unread = true
is_answered outcomes.Read = true
is_answered outcomes.Failed = false
is_answered outcomes.Lacking = false
is_answered outcomes.LackingAfter = false

abbrev pub is_failed : Asked → Bool
is_failed outcomes.Unread = false
is_failed outcomes.Read = false
is_failed outcomes.Failed = true
is_failed outcomes.Lacking = false
is_failed outcomes.LackingAfter = false

-- the host has counted a read
abbrev pub is_read : Asked → Bool
is_read outcomes.Unread = false
is_read outcomes.Read = true
is_read outcomes.Failed = true
is_read outcomes.Lacking = false
is_read outcomes.LackingAfter = true

-- the calls that a host tells, after one more where it was counted
abbrev pub calls_with : Bool → HostCall → Option (List HostCall) → Option (List HostCall)
calls_with counted call told = if counted then option_map (λ earlier. earlier ++ call ∷ []) told else told

-- the last call that failed, as a host tells it, after one more
abbrev pub failed_with : Bool → HostCall → Option (Option HostCall) → Option (Option HostCall)
failed_with failed call told = if failed then option_map (λ _. Some call) told else told

-- ---- the history

-- the names that were asked
abbrev pub asked_in : List (List ℕ × Asked) → List (List ℕ)
asked_in history = map (λ call. call.0) history

-- the names that were answered
abbrev pub answered_in : List (List ℕ × Asked) → List (List ℕ)
answered_in history = map (λ call. call.0) (filter (λ call. is_answered call.1) history)

-- the reads that the host has counted
abbrev pub reads_in : List ℕ → List (List ℕ × Asked) → List HostCall
reads_in root history = map (λ call. read_of root call.0) (filter (λ call. is_read call.1) history)

abbrev pub later_or : Option (List ℕ) → Option (List ℕ) → Option (List ℕ)
later_or (Some later) before = Some later
later_or None before = before

-- the name of the last call that failed, or none
abbrev pub failed_in : List (List ℕ × Asked) → Option (List ℕ)
failed_in [] = None
failed_in (call ∷ history) = later_or (failed_in history) (if is_failed call.1 then Some call.0 else None)

-- the read of the file of the class of this name, where there is one, and else the call of before
abbrev pub read_or : List ℕ → Option (List ℕ) → Option HostCall → Option HostCall
read_or root (Some name) before = Some (read_of root name)
read_or root None before = before

-- the last call that failed, as a host tells it, after the calls of a history
abbrev pub failed_after : List ℕ → List (List ℕ × Asked) → Option (Option HostCall) → Option (Option HostCall)
failed_after root history told = option_map (λ before. read_or root (failed_in history) before) told

-- the call is the read of the file of one of these names
pub record IsReadOf (names : List (List ℕ)) (root : List ℕ) (call : HostCall) : Type 0 where
  pub name : List ℕ
  pub among : Contains names name
  pub is : call ≡ read_of root name
