-- What comes first is one refusal, or one of the limits that pass at one place; and then there is no program.
use Rattle.std.proofs.Common.{◌≡◌, ℕ, ◌⊎◌, inl, inr, List, Option, Result, Ok, Err, refl, sym, ap, ◌∙◌, subst, arith}
use Rattle.std.proofs.lemmas.Option.{same_Some}
use Rattle.jv_types.specs.declared.quantity.Quantity.{Quantity}
use Rattle.jv_types.specs.declared.quantity.Quantity.TheVariants as quantities
use Rattle.jv_types.specs.declared.refusal.Refusal.{Refusal}
use Rattle.jv_types.specs.declared.refusal.RulePlace.{RulePlace}
use Rattle.jv_types.specs.declared.refusal.RulePlace.TheVariants as places
use Rattle.jv_types.specs.declared.rule.Rule.{Rule}
use Rattle.jv_types.specs.declared.rule.Rule.TheVariants as rules
use Rattle.jv_types.specs.declared.shapes.Shape.{Shape}
use Rattle.av_acceptor.specs.Accepting.{Tells}
use Rattle.av_program.specs.declared.accept_stop.AcceptStop.{AcceptStop}
use Rattle.av_program.specs.declared.accept_stop.AcceptStop.TheVariants as stops
use Rattle.av_program.specs.declared.program.Program.{Program}
use Rattle.av_app_files.specs.Folders.{Folders}
use Rattle.av_program.specs.Answering.{Fits, IsLimit}
use Rattle.av_stops.specs.FirstStops.{FirstStop, in_files, at_collection, at_collected, at_hierarchy, at_method, at_main, at_instructions, insns_in, limit_of, program_world, refused_at}
use Rattle.av_stops.specs.Mains.{IsStartOf}
use Rattle.av_stops.specs.Programs.{IsProgram}
use Rattle.av_one_stop.proofs.Stages.{Laws, not_gathered, not_read, not_sound, not_started, not_typed, not_within, one_collection, one_hierarchy, one_method, same_methods}

-- ---- two stops of one stage

at_class : (rule another : Rule) (name named : List ℕ) (stop other : AcceptStop) → stop ≡ refused_at rule (places.Class name) → other ≡ refused_at another (places.Class named)
    → (rule ≡ another) × (name ≡ named) → stop ≡ other
at_class rule another name named stop other is its same =
    let e : refused_at rule (places.Class name) ≡ refused_at another (places.Class named) = λ i. refused_at (same.0 i) (places.Class (same.1 i)) in
    is ∙ e ∙ sym its

at_place : (rule another : Rule) (place elsewhere : RulePlace) (stop other : AcceptStop) → stop ≡ refused_at rule place → other ≡ refused_at another elsewhere
    → (rule ≡ another) × (place ≡ elsewhere) → stop ≡ other
at_place rule another place elsewhere stop other is its same =
    let e : refused_at rule place ≡ refused_at another elsewhere = λ i. refused_at (same.0 i) (same.1 i) in
    is ∙ e ∙ sym its

limits : (quantity other : Quantity) (stop next : AcceptStop) → stop ≡ limit_of quantity → next ≡ limit_of other → IsLimit stop × IsLimit next
limits quantity other stop next is its = (subst IsLimit (sym is) tt, subst IsLimit (sym its) tt)

abbrev pub AreOne : AcceptStop → AcceptStop → Type 0
AreOne stop other = (stop ≡ other) ⊎ (IsLimit stop × IsLimit other)

module _ (laws : Laws) (folders : Folders) (main : Option (List ℕ)) where
  pub one_first : (stop other : AcceptStop) → FirstStop folders main stop → FirstStop folders main other → AreOne stop other
  one_first stop other (in_files p_files) (in_files q_files) =
      inl (laws.file folders stop other p_files q_files)
  one_first stop other (in_files p_files) (at_collection _ _ _ _ _ q_read _) =
      absurd (not_read laws folders p_files q_read)
  one_first stop other (in_files p_files) (at_collected _ _ _ _ _ _ q_read _ _) =
      absurd (not_read laws folders p_files q_read)
  one_first stop other (in_files p_files) (at_hierarchy _ _ _ _ _ _ _ q_gathered _) =
      absurd (not_read laws folders p_files q_gathered.is_read)
  one_first stop other (in_files p_files) (at_method _ _ _ _ _ _ _ q_sound _) =
      absurd (not_read laws folders p_files q_sound.is_gathered.is_read)
  one_first stop other (in_files p_files) (at_main _ _ _ _ _ _ _ _ q_typed _) =
      absurd (not_read laws folders p_files q_typed.is_sound.is_gathered.is_read)
  one_first stop other (in_files p_files) (at_instructions _ _ _ _ _ _ _ q_typed _ _) =
      absurd (not_read laws folders p_files q_typed.is_sound.is_gathered.is_read)
  one_first stop other (at_collection _ _ _ _ _ p_read _) (in_files q_files) =
      absurd (not_read laws folders q_files p_read)
  one_first stop other (at_collection _ _ _ p_quantity p_is _ _) (at_collection _ _ _ q_quantity q_is _ _) =
      inr (limits p_quantity q_quantity stop other p_is q_is)
  one_first stop other (at_collection _ _ _ p_quantity _ p_read p_passes) (at_collected _ _ _ _ _ _ q_read q_none _) =
      absurd (not_within laws folders p_quantity p_read p_passes q_read q_none)
  one_first stop other (at_collection _ _ _ p_quantity _ p_read p_passes) (at_hierarchy _ _ _ _ _ _ _ q_gathered _) =
      absurd (not_within laws folders p_quantity p_read p_passes q_gathered.is_read q_gathered.no_limit)
  one_first stop other (at_collection _ _ _ p_quantity _ p_read p_passes) (at_method _ _ _ _ _ _ _ q_sound _) =
      absurd (not_within laws folders p_quantity p_read p_passes q_sound.is_gathered.is_read q_sound.is_gathered.no_limit)
  one_first stop other (at_collection _ _ _ p_quantity _ p_read p_passes) (at_main _ _ _ _ _ _ _ _ q_typed _) =
      absurd (not_within laws folders p_quantity p_read p_passes q_typed.is_sound.is_gathered.is_read q_typed.is_sound.is_gathered.no_limit)
  one_first stop other (at_collection _ _ _ p_quantity _ p_read p_passes) (at_instructions _ _ _ _ _ _ _ q_typed _ _) =
      absurd (not_within laws folders p_quantity p_read p_passes q_typed.is_sound.is_gathered.is_read q_typed.is_sound.is_gathered.no_limit)
  one_first stop other (at_collected _ _ _ _ _ _ p_read _ _) (in_files q_files) =
      absurd (not_read laws folders q_files p_read)
  one_first stop other (at_collected _ _ _ _ _ _ p_read p_none _) (at_collection _ _ _ q_quantity _ q_read q_passes) =
      absurd (not_within laws folders q_quantity q_read q_passes p_read p_none)
  one_first stop other (at_collected _ _ _ p_rule p_name p_is p_read _ p_fails) (at_collected _ _ _ q_rule q_name q_is q_read _ q_fails) =
      inl (at_class p_rule q_rule p_name q_name stop other p_is q_is (one_collection laws folders p_read p_fails q_read q_fails))
  one_first stop other (at_collected _ _ _ _ _ _ p_read _ p_fails) (at_hierarchy _ _ _ _ _ _ _ q_gathered _) =
      absurd (not_gathered laws folders p_read p_fails q_gathered)
  one_first stop other (at_collected _ _ _ _ _ _ p_read _ p_fails) (at_method _ _ _ _ _ _ _ q_sound _) =
      absurd (not_gathered laws folders p_read p_fails q_sound.is_gathered)
  one_first stop other (at_collected _ _ _ _ _ _ p_read _ p_fails) (at_main _ _ _ _ _ _ _ _ q_typed _) =
      absurd (not_gathered laws folders p_read p_fails q_typed.is_sound.is_gathered)
  one_first stop other (at_collected _ _ _ _ _ _ p_read _ p_fails) (at_instructions _ _ _ _ _ _ _ q_typed _ _) =
      absurd (not_gathered laws folders p_read p_fails q_typed.is_sound.is_gathered)
  one_first stop other (at_hierarchy _ _ _ _ _ _ _ p_gathered _) (in_files q_files) =
      absurd (not_read laws folders q_files p_gathered.is_read)
  one_first stop other (at_hierarchy _ _ _ _ _ _ _ p_gathered _) (at_collection _ _ _ q_quantity _ q_read q_passes) =
      absurd (not_within laws folders q_quantity q_read q_passes p_gathered.is_read p_gathered.no_limit)
  one_first stop other (at_hierarchy _ _ _ _ _ _ _ p_gathered _) (at_collected _ _ _ _ _ _ q_read _ q_fails) =
      absurd (not_gathered laws folders q_read q_fails p_gathered)
  one_first stop other (at_hierarchy _ _ _ _ p_rule p_name p_is p_gathered p_fails) (at_hierarchy _ _ _ _ q_rule q_name q_is q_gathered q_fails) =
      inl (at_class p_rule q_rule p_name q_name stop other p_is q_is (one_hierarchy laws folders p_gathered p_fails q_gathered q_fails))
  one_first stop other (at_hierarchy _ _ _ _ _ _ _ p_gathered p_fails) (at_method _ _ _ _ _ _ _ q_sound _) =
      absurd (not_sound laws folders p_gathered p_fails q_sound)
  one_first stop other (at_hierarchy _ _ _ _ _ _ _ p_gathered p_fails) (at_main _ _ _ _ _ _ _ _ q_typed _) =
      absurd (not_sound laws folders p_gathered p_fails q_typed.is_sound)
  one_first stop other (at_hierarchy _ _ _ _ _ _ _ p_gathered p_fails) (at_instructions _ _ _ _ _ _ _ q_typed _ _) =
      absurd (not_sound laws folders p_gathered p_fails q_typed.is_sound)
  one_first stop other (at_method _ _ _ _ _ _ _ p_sound _) (in_files q_files) =
      absurd (not_read laws folders q_files p_sound.is_gathered.is_read)
  one_first stop other (at_method _ _ _ _ _ _ _ p_sound _) (at_collection _ _ _ q_quantity _ q_read q_passes) =
      absurd (not_within laws folders q_quantity q_read q_passes p_sound.is_gathered.is_read p_sound.is_gathered.no_limit)
  one_first stop other (at_method _ _ _ _ _ _ _ p_sound _) (at_collected _ _ _ _ _ _ q_read _ q_fails) =
      absurd (not_gathered laws folders q_read q_fails p_sound.is_gathered)
  one_first stop other (at_method _ _ _ _ _ _ _ p_sound _) (at_hierarchy _ _ _ _ _ _ _ q_gathered q_fails) =
      absurd (not_sound laws folders q_gathered q_fails p_sound)
  one_first stop other (at_method _ _ _ _ p_rule p_place p_is p_sound p_stops) (at_method _ _ _ _ q_rule q_place q_is q_sound q_stops) =
      inl (at_place p_rule q_rule p_place q_place stop other p_is q_is (one_method laws folders p_sound p_stops q_sound q_stops))
  one_first stop other (at_method _ _ _ _ _ _ _ p_sound p_stops) (at_main _ _ _ _ _ _ _ _ q_typed _) =
      absurd (not_typed laws folders p_sound p_stops q_typed)
  one_first stop other (at_method _ _ _ _ _ _ _ p_sound p_stops) (at_instructions _ _ _ _ _ _ _ q_typed _ _) =
      absurd (not_typed laws folders p_sound p_stops q_typed)
  one_first stop other (at_main _ _ _ _ _ _ _ _ p_typed _) (in_files q_files) =
      absurd (not_read laws folders q_files p_typed.is_sound.is_gathered.is_read)
  one_first stop other (at_main _ _ _ _ _ _ _ _ p_typed _) (at_collection _ _ _ q_quantity _ q_read q_passes) =
      absurd (not_within laws folders q_quantity q_read q_passes p_typed.is_sound.is_gathered.is_read p_typed.is_sound.is_gathered.no_limit)
  one_first stop other (at_main _ _ _ _ _ _ _ _ p_typed _) (at_collected _ _ _ _ _ _ q_read _ q_fails) =
      absurd (not_gathered laws folders q_read q_fails p_typed.is_sound.is_gathered)
  one_first stop other (at_main _ _ _ _ _ _ _ _ p_typed _) (at_hierarchy _ _ _ _ _ _ _ q_gathered q_fails) =
      absurd (not_sound laws folders q_gathered q_fails p_typed.is_sound)
  one_first stop other (at_main _ _ _ _ _ _ _ _ p_typed _) (at_method _ _ _ _ _ _ _ q_sound q_stops) =
      absurd (not_typed laws folders q_sound q_stops p_typed)
  one_first stop other (at_main _ _ _ _ _ p_class p_is p_asked _ _) (at_main _ _ _ _ _ q_class q_is q_asked _ _) =
      inl (at_class rules.NoMain rules.NoMain p_class q_class stop other p_is q_is (refl, same_Some p_class q_class (sym p_asked ∙ q_asked)))
  one_first stop other (at_main _ _ _ _ _ p_class _ p_asked p_typed p_none) (at_instructions _ _ _ _ _ q_start _ q_typed q_starts _) =
      absurd (not_started laws folders main p_class q_start p_typed p_asked p_none q_typed q_starts)
  one_first stop other (at_instructions _ _ _ _ _ _ _ p_typed _ _) (in_files q_files) =
      absurd (not_read laws folders q_files p_typed.is_sound.is_gathered.is_read)
  one_first stop other (at_instructions _ _ _ _ _ _ _ p_typed _ _) (at_collection _ _ _ q_quantity _ q_read q_passes) =
      absurd (not_within laws folders q_quantity q_read q_passes p_typed.is_sound.is_gathered.is_read p_typed.is_sound.is_gathered.no_limit)
  one_first stop other (at_instructions _ _ _ _ _ _ _ p_typed _ _) (at_collected _ _ _ _ _ _ q_read _ q_fails) =
      absurd (not_gathered laws folders q_read q_fails p_typed.is_sound.is_gathered)
  one_first stop other (at_instructions _ _ _ _ _ _ _ p_typed _ _) (at_hierarchy _ _ _ _ _ _ _ q_gathered q_fails) =
      absurd (not_sound laws folders q_gathered q_fails p_typed.is_sound)
  one_first stop other (at_instructions _ _ _ _ _ _ _ p_typed _ _) (at_method _ _ _ _ _ _ _ q_sound q_stops) =
      absurd (not_typed laws folders q_sound q_stops p_typed)
  one_first stop other (at_instructions _ _ _ _ _ p_start _ p_typed p_starts _) (at_main _ _ _ _ _ q_class _ q_asked q_typed q_none) =
      absurd (not_started laws folders main q_class p_start q_typed q_asked q_none p_typed p_starts)
  one_first stop other (at_instructions _ _ _ _ _ _ p_is _ _ _) (at_instructions _ _ _ _ _ _ q_is _ _ _) =
      inr (limits quantities.Instructions quantities.Instructions stop other p_is q_is)

  pub no_program : (stop : AcceptStop) (program : Program) → FirstStop folders main stop → IsProgram folders main program → ⊥
  no_program stop made (in_files p_files) q =
      not_read laws folders p_files q.is_typed.is_sound.is_gathered.is_read
  no_program stop made (at_collection _ _ _ p_quantity _ p_read p_passes) q =
      not_within laws folders p_quantity p_read p_passes q.is_typed.is_sound.is_gathered.is_read q.is_typed.is_sound.is_gathered.no_limit
  no_program stop made (at_collected _ _ _ _ _ _ p_read _ p_fails) q =
      not_gathered laws folders p_read p_fails q.is_typed.is_sound.is_gathered
  no_program stop made (at_hierarchy _ _ _ _ _ _ _ p_gathered p_fails) q =
      not_sound laws folders p_gathered p_fails q.is_typed.is_sound
  no_program stop made (at_method _ _ _ _ _ _ _ p_sound p_stops) q =
      not_typed laws folders p_sound p_stops q.is_typed
  no_program stop made (at_main _ _ _ _ _ p_class _ p_asked p_typed p_none) q =
      let starts : IsStartOf (program_world q.given q.found) main made.main = subst (λ (w : List Shape). IsStartOf w main made.main) q.world q.start in
      not_started laws folders main p_class made.main p_typed p_asked p_none q.is_typed starts
  no_program stop made (at_instructions _ _ _ _ p_methods _ _ p_typed _ p_many) q =
      let same : p_methods ≡ made.methods = same_methods laws folders p_typed q.is_typed in
      let counts : insns_in p_methods ≡ insns_in made.methods = ap insns_in same in
      let few = q.few in
      absurd (omega (arith, p_many, counts, few))

-- ---- and so an answer fits

module _ (folders : Folders) (main : Option (List ℕ)) (one : (stop other : AcceptStop) → FirstStop folders main stop → FirstStop folders main other → AreOne stop other)
    (none : (stop : AcceptStop) (program : Program) → FirstStop folders main stop → IsProgram folders main program → ⊥) where
  refused : (stop : AcceptStop) (refusal : Refusal) → AreOne stop (stops.Refused refusal) → stop ≡ stops.Refused refusal
  refused stop refusal (inl same) = same
  refused stop refusal (inr both) = absurd both.1

  limited : (stop : AcceptStop) (quantity : Quantity) (number : ℕ) → AreOne stop (stops.Limit quantity number) → IsLimit stop
  limited stop quantity number (inl same) = subst IsLimit (sym same) tt
  limited stop quantity number (inr both) = both.0

  pub fits : (stop : AcceptStop) (result : Result Program AcceptStop) → FirstStop folders main stop → Tells (IsProgram folders main) (FirstStop folders main) result → Fits stop result
  fits stop (Ok program) p q = none stop program p q
  fits stop (Err (stops.Refused refusal)) p q = refused stop refusal (one stop (stops.Refused refusal) p q)
  fits stop (Err (stops.Limit quantity number)) p q = limited stop quantity number (one stop (stops.Limit quantity number) p q)
  fits stop (Err (stops.ReadFault name)) p q = tt
  fits stop (Err stops.Memory) p q = tt
