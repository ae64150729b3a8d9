-- Round after round: what was read so far, and what is read in the end.
use Rattle.std.proofs.Common.{◌≡◌, ℕ, zero, suc, ◌+◌, ◌-◌, ◌<◌, ◌≤◌, inl, inr, List, [], ◌∷◌, Option, Result, IfErr, length, map, Contains, refl, ap, sym, ◌∙◌, subst, arith, length-append}
use Rattle.std.specs.Result.{IsErrAnd}
use Rattle.std.proofs.lemmas.List.Elements.{Contains-append_cases}
use Rattle.jv_types.specs.declared.quantity.Quantity.TheVariants.{Classes}
use Rattle.jv_types.specs.declared.shapes.Shape.{Shape}
use Rattle.av_collected.specs.declared.stop.CollectStop.{CollectStop}
use Rattle.av_collected.specs.declared.stop.CollectStop.TheVariants.{Limit, Memory}
use Rattle.av_collected.specs.Answers.{AreTooMany}
use Rattle.av_collected.specs.Libraries.{LibraryFile}
use Rattle.av_collected.specs.Naming.{Application}
use Rattle.av_collected.specs.Rounds.{IsInside}
use Rattle.av_collected.specs.Rules.{Item, ClassNamed, IsCollected}
use Rattle.av_collected.proofs.Lists.{in_head, in_tail, of_cons, in_none}
use Rattle.av_round.specs.declared.class_items.ClassItems.{ClassItems}
use Rattle.av_round.specs.Listing.{AreItems}
use Rattle.av_reading.specs.declared.reading.Reading.{Reading}
use Rattle.av_asked.specs.Asking.{IsTold}
use Rattle.av_reading.specs.Progress.{Goes, IsCollectedOver, IsOneOf, IsWhole, StopsFor}
use Rattle.av_asked.specs.Read.{HasRead}
use Rattle.av_asked.specs.Sources.{SourceState, Ran, StopsAmong}
use Rattle.av_reading.proofs.Lists.{no_more}
use Rattle.av_reading.proofs.Moves.{ran_none, ran_on, among_later, among_weaker}
use Rattle.av_reading.proofs.ReadLemmas.{memory_before, read_none, stop_is}

-- what was read so far belongs to classes that are collected over it
pub record IsUnderway (given : Application) (known : Shape → Type 0) (before after : SourceState) (reading : Reading) : Type 0 where
  pub ran : Ran before after reading.asked
  pub read : HasRead before.shapes known reading.files.items reading.asked
  pub only : (name : List ℕ) → Contains reading.asked name → IsCollected given reading.files.items (ClassNamed name)

pub begins : (given : Application) (known : Shape → Type 0) (a : SourceState) (reading : Reading) → reading.files.items ≡ [] → reading.asked ≡ [] → IsUnderway given known a a reading
begins given known a reading no_files no_names = record {
  ran = subst (λ (l : List (List ℕ)). Ran a a l) (sym no_names) (ran_none a);
  read =
      subst (λ (l : List LibraryFile). HasRead a.shapes known l reading.asked) (sym no_files)
      (subst (λ (l : List (List ℕ)). HasRead a.shapes known [] l) (sym no_names) (read_none a.shapes known));
  only = λ name h. absurd (in_none name (subst (λ (l : List (List ℕ)). Contains l name) no_names h));
}

-- a name among those of the classes
named_in : (classes : List ClassItems) (name : List ℕ) → Contains (map (λ c. c.name) classes) name → IsOneOf classes name
named_in [] name h = absurd (in_none name h)
named_in (class ∷ classes) name h = elim (of_cons class.name (map (λ c. c.name) classes) name h) [
  | inl is ↦ (class, in_head class classes, is)
  | inr there ↦ let t = named_in classes name there in (t.0, in_tail class classes t.0 t.1, t.2)
]

in_named : (classes : List ClassItems) (name : List ℕ) → IsOneOf classes name → Contains (map (λ c. c.name) classes) name
in_named [] name h = absurd (in_none h.0 h.1)
in_named (class ∷ classes) name h = elim (of_cons class classes h.0 h.1) [
  | inl is ↦ subst (λ (n : List ℕ). Contains (map (λ c. c.name) (class ∷ classes)) n) (ap (λ (c : ClassItems). c.name) is ∙ h.2) (in_head class.name (map (λ c. c.name) classes))
  | inr there ↦ in_tail class.name (map (λ c. c.name) classes) name (in_named classes name (h.0, there, h.2))
]

as_many : (classes : List ClassItems) → length (map (λ c. c.name) classes) ≡ length classes
as_many [] = refl
as_many (class ∷ classes) = ap suc (as_many classes)

-- the law that what is collected over a part of a library is collected over the whole of it
abbrev pub CollectedGrows : Type 0
CollectedGrows = (given : Application) (part library : List LibraryFile) → IsInside part library → (item : Item) → IsCollected given part item → IsCollected given library item

module _ (grows : CollectedGrows) (given : Application) (known : Shape → Type 0) (a b : SourceState) (reading : Reading) (so_far : IsUnderway given known a b reading) where
  over : (name : List ℕ) → IsCollected given reading.files.items (ClassNamed name) → IsCollectedOver given a.shapes name
  over name h library told = grows given reading.files.items library (so_far.read.inside library told.told) (ClassNamed name) h

  -- what stopped later was asked for names of classes that are collected
  stops_later : (c : SourceState) (stop : CollectStop) → StopsAmong (IsCollectedOver given a.shapes) reading.asked b c stop → StopsFor given a c stop
  stops_later c stop s =
      inr (among_later (IsCollectedOver given a.shapes) [] reading.asked a b c stop so_far.ran (λ name h. over name (so_far.only name h)) s)

  pub memory_stop : {T : Type 0} (r : Result T CollectStop) → IsErrAnd r (λ stop. stop ≡ Memory) → IfErr r (StopsFor given a b)
  memory_stop {T} r is =
      stop_is r (StopsFor given a b) Memory is
      (stops_later b Memory (memory_before (IsCollectedOver given a.shapes) reading.asked b so_far.read.once))

  module _ (files : List LibraryFile) (are_read : files ≡ reading.files.items) (classes : List ClassItems) (found : AreItems given files classes) where
    items : AreItems given reading.files.items classes
    items = subst (λ (l : List LibraryFile). AreItems given l classes) are_read found

    -- no more was asked for than is collected
    few : length reading.asked ≤ length classes
    few =
        let h = no_more reading.asked (map (λ c. c.name) classes) so_far.read.once
        (λ name h. in_named classes name ((items.exact (ClassNamed name)).0 (so_far.only name h))) in
        omega (arith, h, as_many classes)

    too_many : (library : List LibraryFile) → IsTold a.shapes library → 8000 < length classes → AreTooMany given library
    too_many library told more = record {
      names = map (λ c. c.name) classes;
      rising = items.rising;
      more = let e = as_many classes in omega (arith, e, more);
      each = λ name h. over name ((items.exact (ClassNamed name)).1 (named_in classes name h)) library told;
    }

    pub many_stop : 8000 < length classes → StopsFor given a b (Limit Classes)
    many_stop more = inl (record {
      names = reading.asked;
      each = λ name h. over name (so_far.only name h);
      once = so_far.read.once;
      ran = so_far.ran;
      is = refl;
      many = λ library told. too_many library told more;
    })

    module _ (seen : List ClassItems) (are_seen : seen ≡ classes) where
      pub source_stop : {T : Type 0} (r : Result T CollectStop) (c : SourceState) (stop : CollectStop) → IsErrAnd r (λ e. e ≡ stop)
          → StopsAmong (IsOneOf seen) reading.asked b c stop → IfErr r (StopsFor given a c)
      source_stop {T} r c stop is s =
          stop_is r (StopsFor given a c) stop is
          (stops_later c stop
          (among_weaker (IsOneOf classes) (IsCollectedOver given a.shapes) reading.asked b c stop (λ name h. over name ((items.exact (ClassNamed name)).1 h))
          (subst (λ (l : List ClassItems). StopsAmong (IsOneOf l) reading.asked b c stop) are_seen s)))

      module _ (c : SourceState) (new : Reading) (seen_goes : Goes (IsOneOf seen) known b c reading new) where
        goes : Goes (IsOneOf classes) known b c reading new
        goes = subst (λ (l : List ClassItems). Goes (IsOneOf l) known b c reading new) are_seen seen_goes

        ran_more : Ran a c new.asked
        ran_more = subst (λ (l : List (List ℕ)). Ran a c l) (sym goes.asked) (ran_on a b c reading.asked goes.names so_far.ran goes.ran)

        read_more : HasRead a.shapes known new.files.items new.asked
        read_more = subst (λ (t : Option (List LibraryFile)). HasRead t known new.files.items new.asked) so_far.ran.moved.shapes goes.read

        only_more : (name : List ℕ) → Contains new.asked name → IsCollected given new.files.items (ClassNamed name)
        only_more name h =
            grows given reading.files.items new.files.items goes.inside (ClassNamed name)
            (elim (Contains-append_cases reading.asked goes.names name (subst (λ (l : List (List ℕ)). Contains l name) goes.asked h)) [
              | inl there ↦ so_far.only name there
              | inr there ↦ (items.exact (ClassNamed name)).1 (goes.each name there)
            ])

        pub underway_more : IsUnderway given known a c new
        underway_more = record { ran = ran_more; read = read_more; only = only_more }

        longer : length new.asked ≡ length reading.asked + length goes.names
        longer = ap (length {A = List ℕ}) goes.asked ∙ length-append reading.asked goes.names

        -- each round but the last asks for more
        pub nearer : length classes ≤ 8000 → (length new.asked ≡ length reading.asked → ⊥) → 8001 - length new.asked < 8001 - length reading.asked
        nearer at_most more =
            let e = longer in
            let f = few in
            by (length goes.names) refl
          where
            by : (n : ℕ) → length goes.names ≡ n → 8001 - length new.asked < 8001 - length reading.asked
            by zero none = absurd (more (omega (arith, longer, none)))
            by (suc n) some = omega (arith, longer, some, few, at_most)

        none_more : length new.asked ≡ length reading.asked → goes.names ≡ []
        none_more same = by goes.names (let e = longer in omega (arith, e, same))
          where
            by : (names : List (List ℕ)) → length names ≡ 0 → names ≡ []
            by [] none = refl
            by (name ∷ names) some = absurd (omega (arith, some))

        pub whole : length new.asked ≡ length reading.asked → length classes ≤ 8000 → ((class : ClassItems) → Contains seen class → Contains new.asked class.name)
            → IsWhole given known a c new.files.items classes
        whole same at_most all =
            let same_files : new.files.items ≡ reading.files.items = goes.idle (none_more same) in
            record {
              names = new.asked;
              ran = ran_more;
              read = read_more;
              items = subst (λ (l : List LibraryFile). AreItems given l classes) (sym same_files) items;
              all = λ name h.
                  let one = (items.exact (ClassNamed name)).0 (subst (λ (l : List LibraryFile). IsCollected given l (ClassNamed name)) same_files h) in
                  let here : Contains seen one.0 = subst (λ (l : List ClassItems). Contains l one.0) (sym are_seen) one.1 in
                  subst (λ (n : List ℕ). Contains new.asked n) one.2 (all one.0 here);
              only = only_more;
              few = at_most;
            }
