-- What a source goes through, one call after the other.
use Rattle.std.proofs.Common.{◌≡◌, ℕ, inl, inr, List, [], ◌∷◌, ◌++◌, Some, Contains, refl, ap, sym, ◌∙◌, subst, arith, append_assoc, append-nil}
use Rattle.std.proofs.lemmas.List.Elements.{Contains-append_cases}
use Rattle.jv_types.specs.declared.quantity.Quantity.{Quantity}
use Rattle.jv_host.specs.Counts.{Rises}
use Rattle.av_collected.specs.declared.stop.CollectStop.{CollectStop}
use Rattle.av_collected.specs.declared.stop.CollectStop.TheVariants.{LibraryForm, Missing, NamesApplication, Limit, Failed, Memory}
use Rattle.av_asked.specs.Asking.{AreDistinct, AskedPast}
use Rattle.av_asked.specs.Sources.{SourceState, Moved, IsFaultless, Ran, StopsAtLimit, StopsAtFault, StopsForMemory, Stops, StopsAmong}

nothing_before : (names more : List (List ℕ)) → names ++ more ≡ [] → (names ≡ []) × (more ≡ [])
nothing_before [] more e = (refl, e)
nothing_before (name ∷ names) more e = absurd cc

past_later : (names replied more : List (List ℕ)) → AskedPast replied more → AskedPast (names ++ replied) (names ++ more)
past_later names replied more (inl same) = inl (ap (λ (l : List (List ℕ)). names ++ l) same)
past_later names replied more (inr past) =
    inr (past.0, ap (λ (l : List (List ℕ)). names ++ l) past.1 ∙ sym (append_assoc names replied (past.0 ∷ [])))

pub moved_on : (a b c : SourceState) (names replied more : List (List ℕ)) → Moved a b names names → Moved b c replied more → Moved a c (names ++ replied) (names ++ more)
moved_on a b c names replied more x y = record {
  shapes = y.shapes ∙ x.shapes;
  kept = y.kept ∙ x.kept;
  asked = y.asked ∙ ap (λ (l : List (List ℕ)). l ++ more) x.asked ∙ append_assoc a.asked names more;
  answered = y.answered ∙ ap (λ (l : List (List ℕ)). l ++ replied) x.answered ∙ append_assoc a.answered names replied;
  past = past_later names replied more y.past;
  passed = λ quantity passed. y.passed quantity (x.passed quantity passed);
  faults = omega (arith, x.faults, y.faults);
}

pub faultless_on : (a b c : SourceState) → IsFaultless a b → IsFaultless b c → IsFaultless a c
faultless_on a b c x y = record { faults = y.faults ∙ x.faults; failed = y.failed ∙ x.failed }

pub ran_none : (a : SourceState) → Ran a a []
ran_none a = record {
  moved = record {
    shapes = refl;
    kept = refl;
    asked = sym (append-nil a.asked);
    answered = sym (append-nil a.answered);
    past = inl refl;
    passed = λ quantity passed. passed;
    faults = omega arith;
  };
  faultless = record { faults = refl; failed = refl };
  idle = λ none. refl;
  not_passed = λ some. absurd (some refl);
}

pub ran_on : (a b c : SourceState) (names more : List (List ℕ)) → Ran a b names → Ran b c more → Ran a c (names ++ more)
ran_on a b c names more x y = record {
  moved = moved_on a b c names more more x.moved y.moved;
  faultless = faultless_on a b c x.faultless y.faultless;
  idle = λ none. let parts = nothing_before names more none in y.idle parts.1 ∙ x.idle parts.0;
  not_passed = not_passed more y;
}
  where
    not_passed : (more : List (List ℕ)) → Ran b c more → (names ++ more ≡ [] → ⊥) → (quantity : Quantity) → c.passed ≡ Some quantity → ⊥
    not_passed [] y some quantity passed =
        x.not_passed (λ none. some (append-nil names ∙ none)) quantity (sym (y.idle refl) ∙ passed)
    not_passed (name ∷ more) y some quantity passed = y.not_passed (λ none. absurd cc) quantity passed

stops_at_limit : (a b c : SourceState) (names more : List (List ℕ)) (quantity : Quantity) → Ran a b names → StopsAtLimit b c quantity more → StopsAtLimit a c quantity (names ++ more)
stops_at_limit a b c names more quantity x y = record {
  moved = moved_on a b c names more more x.moved y.moved;
  faultless = faultless_on a b c x.faultless y.faultless;
  some = λ none. y.some (nothing_before names more none).1;
  passed = y.passed;
}

stops_at_fault : (a b c : SourceState) (names more : List (List ℕ)) → Ran a b names → StopsAtFault b c more → StopsAtFault a c (names ++ more)
stops_at_fault a b c names more x y = record {
  front = names ++ y.front;
  last = y.last;
  parts = ap (λ (l : List (List ℕ)). names ++ l) y.parts ∙ sym (append_assoc names y.front (y.last ∷ []));
  moved = moved_on a b c names y.front more x.moved y.moved;
  rises = subst (λ (n : ℕ). Rises n c.faults) x.faultless.faults y.rises;
  failed = y.failed;
}

stops_for_memory : (a b c : SourceState) (names more : List (List ℕ)) → Ran a b names → StopsForMemory b c more → StopsForMemory a c (names ++ more)
stops_for_memory a b c names more x y = record {
  replied = names ++ y.replied;
  moved = moved_on a b c names y.replied more x.moved y.moved;
  faultless = faultless_on a b c x.faultless y.faultless;
}

pub stops_later : (a b c : SourceState) (names more : List (List ℕ)) (stop : CollectStop) → Ran a b names → Stops b c stop more → Stops a c stop (names ++ more)
stops_later a b c names more (LibraryForm name) x y = y
stops_later a b c names more (Missing name) x y = y
stops_later a b c names more (NamesApplication name) x y = y
stops_later a b c names more (Limit quantity) x y = stops_at_limit a b c names more quantity x y
stops_later a b c names more Failed x y = stops_at_fault a b c names more x y
stops_later a b c names more Memory x y = stops_for_memory a b c names more x y

pub memory_after : (a b : SourceState) (names : List (List ℕ)) → Ran a b names → StopsForMemory a b names
memory_after a b names x = record { replied = names; moved = x.moved; faultless = x.faultless }

pub among_weaker : (P Q : List ℕ → Type 0) (earlier : List (List ℕ)) (a b : SourceState) (stop : CollectStop) → ((name : List ℕ) → P name → Q name) → StopsAmong P earlier a b stop → StopsAmong Q earlier a b stop
among_weaker P Q earlier a b stop weaker s = record { names = s.names; each = λ name h. weaker name (s.each name h); once = s.once; stops = s.stops }

pub among_later : (P : List ℕ → Type 0) (earlier names : List (List ℕ)) (a b c : SourceState) (stop : CollectStop)
    → Ran a b names → ((name : List ℕ) → Contains names name → P name) → StopsAmong P (earlier ++ names) b c stop → StopsAmong P earlier a c stop
among_later P earlier names a b c stop ran each s = record {
  names = names ++ s.names;
  each = λ name h. elim (Contains-append_cases names s.names name h) [ inl there ↦ each name there | inr there ↦ s.each name there ];
  once = subst AreDistinct (append_assoc earlier names s.names) s.once;
  stops = stops_later a b c names s.names stop ran s.stops;
}
