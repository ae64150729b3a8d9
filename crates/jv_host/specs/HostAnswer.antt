-- What follows an answer of a host.
use Rattle.std.specs.Prelude.{⊤, List, [], ◌∷◌, ◌++◌, Option, Result, Ok, Err, option_map}
use Rattle.jv_host.specs.declared.host.HostFault.{HostFault}
use Rattle.jv_host.specs.declared.host.HostFault.TheVariants.{Failed, Memory}
use Rattle.jv_host.specs.declared.host.HostCall.{HostCall}

-- a fact that holds where a call answered `Failed`
abbrev pub OnHostFailed : {T : Type 0} → Result T HostFault → Type 0 → Type 0
OnHostFailed (Ok _) P = ⊤
OnHostFailed (Err Failed) P = P
OnHostFailed (Err Memory) P = ⊤

-- a fact that holds where a call answered anything but `Failed`
abbrev pub UnlessHostFailed : {T : Type 0} → Result T HostFault → Type 0 → Type 0
UnlessHostFailed (Ok _) P = P
UnlessHostFailed (Err Failed) P = ⊤
UnlessHostFailed (Err Memory) P = P

-- the calls that answered, after one more: it is added unless memory was wanting
abbrev pub calls_after : {T : Type 0} → Result T HostFault → HostCall → Option (List HostCall) → Option (List HostCall)
calls_after (Ok _) call calls = option_map (λ before. before ++ call ∷ []) calls
calls_after (Err Failed) call calls = option_map (λ before. before ++ call ∷ []) calls
calls_after (Err Memory) call calls = calls
