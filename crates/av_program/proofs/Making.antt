-- The calls of a host that were made, after one more.
use Rattle.std.proofs.Common.{◌≡◌, [], ◌∷◌, ◌++◌, List, Option, None, Some, Result, Ok, Err, refl, sym, ap, ◌∙◌, append-nil, option_map, arith}
use Rattle.jv_host.specs.declared.host.HostCall.{HostCall}
use Rattle.jv_host.specs.declared.host.HostFault.{HostFault}
use Rattle.jv_host.specs.declared.host.HostFault.TheVariants.{Failed, Memory}
use Rattle.jv_host.specs.HostAnswer.{calls_after}
use Rattle.av_program.specs.Reads.{HostView, Makes}

-- no call adds nothing
none_added : (calls : Option (List HostCall)) → calls ≡ option_map (λ earlier. earlier ++ []) calls
none_added None = refl
none_added (Some calls) = ap Some (sym (append-nil calls))

pub makes_none : (May : HostCall → Type 0) (before after : HostView) → after.calls ≡ before.calls → Makes May before after
makes_none May before after same = record { made = []; each = grind arith; told = same ∙ none_added before.calls }

pub makes_one : (call : HostCall) (before after : HostView)
    → after.calls ≡ option_map (λ earlier. earlier ++ call ∷ []) before.calls → Makes (λ it. it ≡ call) before after
makes_one call before after grown = record { made = call ∷ []; each = grind arith; told = grown }

pub makes_answered : {T : Type 0} (call : HostCall) (answer : Result T HostFault) (before after : HostView)
    → after.calls ≡ calls_after answer call before.calls → Makes (λ it. it ≡ call) before after
makes_answered call (Ok value) before after grown = makes_one call before after grown
makes_answered call (Err Failed) before after grown = makes_one call before after grown
makes_answered call (Err Memory) before after grown = makes_none (λ it. it ≡ call) before after grown
