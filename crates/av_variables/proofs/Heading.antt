-- Facts at the first places of variables.
use Rattle.std.proofs.Common.{◌≡◌, ◌<◌, ℕ, List, refl, sym, ◌∙◌, ap, subst, arith}
use Rattle.std.specs.Prelude.{◌↔◌, Contains}
use Rattle.jv_fix.specs.Facts.{Premises, One, Two, AreIn, IsClosed}
use Rattle.jv_types.specs.declared.fact.CallFrom.TheVariants.{Root}
use Rattle.jv_types.specs.declared.fact.Fact.{Fact}
use Rattle.jv_types.specs.declared.fact.Fact.TheVariants as facts
use Rattle.jv_types.specs.declared.ids.MethodId.{MethodId}
use Rattle.jv_types.specs.declared.label.Label.{Label}
use Rattle.jv_types.specs.declared.label.Label.TheVariants.{Lib}
use Rattle.jv_types.specs.declared.label.LibBase.TheVariants as bases
use Rattle.jv_types.specs.declared.place.Place.{Place}
use Rattle.jv_insn.specs.Leaving.{AtLocal}
use Rattle.av_rules.specs.Closing.{Closed, Has, Least}
use Rattle.av_rules.specs.Forcing.{Forces}
use Rattle.av_rules.specs.Program.{Program, IsAnalysable, IsEntryLocal, method_of}
use Rattle.av_rules.specs.Rules.Entry.{IsSeed, main_entered, item_entered, main_called, arguments, initialiser}
use Rattle.av_variables.specs.Packing.{Packed, Entered, Called, Holds, packed, packed_premises, PackClosed, PackLeast, Expanded, AreExpanded}
use Rattle.av_variables.specs.Variables.{AreVariables, Leads, same, on}
use Rattle.av_variables.proofs.Joining.{joined_only, joined_moves, place_parts}

-- the fact at the first place of a variable
abbrev heading : (ℕ → Place) → Packed → Fact
heading first (Entered m) = facts.Reach m
heading first (Called from m) = facts.Edge from m
heading first (Holds number label) = facts.Pt (first number) label

module _ (p : Program) (analysable : IsAnalysable p) (number : Place → ℕ) (first : ℕ → Place) (are : AreVariables p number first) where
  -- what stands at a place stands wherever joined places lead
  led_on : (set : Fact → Type 0) → IsClosed (Forces p) set → (from to : Place) (label : Label) → Leads p from to → set (facts.Pt from label) → set (facts.Pt to label)
  led_on set closed from to label (same _ _ is) held = subst (λ (place : Place). set (facts.Pt place label)) is held
  led_on set closed from to label (on _ between _ leads joined) held =
      closed (One (facts.Pt between label)) (facts.Pt to label) (led_on set closed from between label leads held) (joined_moves p between to label joined)

  -- a fact holds where the one at the first place does
  from_heading : (set : Fact → Type 0) → IsClosed (Forces p) set → (fact : Fact) → set (heading first (packed number fact)) → set fact
  from_heading set closed (facts.Reach m) held = held
  from_heading set closed (facts.Edge from m) held = held
  from_heading set closed (facts.Pt place label) held = led_on set closed (first (number place)) place label (are.led place) held

  -- what is forced is at a first place, or was there before
  to_heading : (set : Fact → Type 0) (premises : Premises Fact) (from to : Place) (label : Label) → from ≡ first (number to) → Leads p from to → Forces p premises (facts.Pt to label)
      → AreIn (λ (fact : Fact). set (heading first (packed number fact))) premises → set (facts.Pt to label) → set (facts.Pt from label)
  to_heading set premises from to label head (same _ _ is) forced held there = subst (λ (place : Place). set (facts.Pt place label)) (sym is) there
  to_heading set premises from to label head (on _ between _ leads joined) forced held there =
      let only : premises ≡ One (facts.Pt between label) = joined_only p between to label premises analysable joined forced in
      let before : set (facts.Pt (first (number between)) label) = subst (AreIn (λ (fact : Fact). set (heading first (packed number fact)))) only held in
      let one : first (number between) ≡ from = ap first (are.joined between to joined) ∙ sym head in
      subst (λ (place : Place). set (facts.Pt place label)) one before

  -- no place as a method begins is joined from another
  begins_first : (t : MethodId) (local : ℕ) (from place : Place) → IsEntryLocal p t local place → Leads p from place → from ≡ place
  begins_first t local from place x (same _ _ is) = is
  begins_first t local from place x (on _ between _ leads joined) =
      let parts = place_parts t (method_of joined.0) 0 joined.2 (AtLocal local) joined.1 (sym x.is ∙ joined.5) in
      let zero : 0 ≡ joined.2 = parts.1 in
      let above : joined.0.pc < joined.2 = joined.3.follows.above in
      absurd (omega (arith, zero, above))

  seeded_first : (place : Place) (label : Label) → IsSeed p (facts.Pt place label) → first (number place) ≡ place
  seeded_first place label (main_entered is) = absurd (let e : facts.Pt place label ≡ facts.Reach p.start = is in cc)
  seeded_first place label (item_entered item x given is) = absurd (let e : facts.Pt place label ≡ facts.Reach item = is in cc)
  seeded_first place label (main_called is) = absurd (let e : facts.Pt place label ≡ facts.Edge Root p.start = is in cc)
  seeded_first place label (arguments string at named entry is) =
      let i : facts.Pt place label ≡ facts.Pt at (Lib (bases.Class string) 1) = is in
      let e : place ≡ at = cc in
      begins_first p.start 0 (first (number place)) place (subst (IsEntryLocal p p.start 0) (sym e) entry) (are.led place)
  seeded_first place label (initialiser m enters is) = absurd (let e : facts.Pt place label ≡ facts.Edge Root m = is in cc)

  all_from_heading : (set : Fact → Type 0) → IsClosed (Forces p) set → (premises : Premises Fact) → AreIn (λ (fact : Fact). set (heading first (packed number fact))) premises → AreIn set premises
  all_from_heading set closed (One fact) held = from_heading set closed fact held
  all_from_heading set closed (Two one other) held = (from_heading set closed one held.0, from_heading set closed other held.1)

  forced_heading : (set : Fact → Type 0) → IsClosed (Forces p) set → (premises : Premises Fact) (fact : Fact) → AreIn (λ (each : Fact). set (heading first (packed number each))) premises
      → Forces p premises fact → set (heading first (packed number fact))
  forced_heading set closed premises (facts.Reach m) held forced = closed premises (facts.Reach m) (all_from_heading set closed premises held) forced
  forced_heading set closed premises (facts.Edge from m) held forced = closed premises (facts.Edge from m) (all_from_heading set closed premises held) forced
  forced_heading set closed premises (facts.Pt to label) held forced =
      to_heading set premises (first (number to)) to label refl (are.led to) forced held (closed premises (facts.Pt to label) (all_from_heading set closed premises held) forced)

  seed_heading : (set : Fact → Type 0) (fact : Fact) → IsSeed p fact → set fact → set (heading first (packed number fact))
  seed_heading set (facts.Reach m) seed held = held
  seed_heading set (facts.Edge from m) seed held = held
  seed_heading set (facts.Pt place label) seed held = subst (λ (at : Place). set (facts.Pt at label)) (sym (seeded_first place label seed)) held

  -- premises that packed ones stand for
  unpacked : (set : Packed → Type 0) (from : Premises Fact) (premises : Premises Packed) → packed_premises number from ≡ premises → AreIn set premises
      → AreIn (λ (fact : Fact). set (packed number fact)) from
  unpacked set (One fact) premises is held = subst (AreIn set) (sym is) held
  unpacked set (Two one other) premises is held = subst (AreIn set) (sym is) held

  -- a closed set of facts has a closed set of packed ones
  heading_closed : (set : Fact → Type 0) → Closed p set → PackClosed p number (λ fact. set (heading first fact))
  heading_closed set closed = record {
    seeded = λ fact x.
        subst (λ (f : Packed). set (heading first f)) x.1 (seed_heading set x.0 x.2 (closed.seeded x.0 x.2));
    closed = λ premises fact held x.
        subst (λ (f : Packed). set (heading first f)) x.3
        (forced_heading set closed.closed x.0 x.1 (unpacked (λ each. set (heading first each)) x.0 premises x.2 held) x.4);
  }

-- a closed set of packed facts stands for a closed set of facts
packed_in : (number : Place → ℕ) (set : Packed → Type 0) (premises : Premises Fact) → AreIn (Expanded number set) premises → AreIn set (packed_premises number premises)
packed_in number set (One fact) held = held
packed_in number set (Two one other) held = held

pub expanded_closed : (p : Program) (number : Place → ℕ) (set : Packed → Type 0) → PackClosed p number set → Closed p (Expanded number set)
expanded_closed p number set closed = record {
  seeded = λ fact seed. closed.seeded (packed number fact) (fact, refl, seed);
  closed = λ premises fact held forced. closed.closed (packed_premises number premises) (packed number fact) (packed_in number set premises held) (premises, fact, refl, refl, forced);
}

all_listed : (set : Fact → Type 0) (facts : List Fact) → ((fact : Fact) → Contains facts fact ↔ set fact) → (premises : Premises Fact) → AreIn (Contains facts) premises → AreIn set premises
all_listed set facts are (One fact) held = (are fact).0 held
all_listed set facts are (Two one other) held = ((are one).0 held.0, (are other).0 held.1)

pub expands : (p : Program) (number : Place → ℕ) (first : ℕ → Place) (packs : List Packed) (facts : List Fact) → IsAnalysable p → AreVariables p number first
    → PackLeast p number packs → AreExpanded number packs facts → Least p facts
expands p number first packs facts analysable are least expanded =
    let whole : Closed p (Expanded number (Contains packs)) = expanded_closed p number (Contains packs) least.closed in
    record {
      closed = record {
        seeded = λ fact seed. (expanded fact).1 (whole.seeded fact seed);
        closed = λ premises fact held forced. (expanded fact).1 (whole.closed premises fact (all_listed (Expanded number (Contains packs)) facts expanded premises held) forced);
      };
      inside = λ other closed fact held.
          from_heading p analysable number first are (Has other) closed.closed fact
          (least.inside (λ each. other (heading first each)) (heading_closed p analysable number first are (Has other) closed) (packed number fact) ((expanded fact).0 held));
    }
