-- Handing a text to a sink in pieces: what holds between two pieces, and how pieces join.
use Rattle.std.proofs.Common.{◌∷◌, ◌≡◌, ℕ, ◌<◌, ◌≤◌, length, List, [], ◌++◌, take, drop, Option, Some, None, Result, Ok, Err, refl, sym, ap, ◌∙◌, subst, append_assoc, arith, inl, inr}
use Rattle.std.specs.Prelude.{option_map}
use Rattle.std.proofs.lemmas.List.{append-nil, take-append-drop}
use Rattle.jv_host.specs.declared.sink.SinkFault.{SinkFault}
use Rattle.jv_host.specs.declared.sink.SinkFault.TheVariants.{Failed, Memory}
use Rattle.jv_host.specs.Counts.{Rises}
use Rattle.jv_host.specs.SinkAnswer.{OnSinkFailed, OnSinkLacking, blanks_after}
use Rattle.av_outcome.specs.Handing.{text_of_lines}
use Rattle.av_outcome.specs.Handing.{Says}
use Rattle.av_outcome.specs.Handing.{SinkState, Takes, NeverFalls, AreCountsKept, Handed}

-- a front of the bytes was taken, and this is the rest
pub record IsUnderway (old new : SinkState) (bytes rest : List ℕ) : Type 0 where
  pub front : List ℕ
  pub parts : bytes ≡ front ++ rest
  pub takes : Takes old new front
  pub kept : AreCountsKept old new

option_map-nil : (o : Option (List ℕ)) → o ≡ option_map (λ before. before ++ []) o
option_map-nil None = refl
option_map-nil (Some x) = ap Some (sym (append-nil x))

option_map-append : (o : Option (List ℕ)) (x y : List ℕ) → option_map (λ before. before ++ y) (option_map (λ before. before ++ x) o) ≡ option_map (λ before. before ++ (x ++ y)) o
option_map-append None x y = refl
option_map-append (Some o) x y = ap Some (append_assoc o x y)

pub Takes-nil : (s t : SinkState) → t.taken ≡ s.taken → Takes s t []
Takes-nil s t e = e ∙ option_map-nil s.taken

pub Takes-then : (a b c : SinkState) (x y : List ℕ) → Takes a b x → Takes b c y → Takes a c (x ++ y)
Takes-then a b c x y p q = q ∙ ap (option_map (λ before. before ++ y)) p ∙ option_map-append a.taken x y

pub NeverFalls-then : (a b c : SinkState) → NeverFalls a b → NeverFalls b c → NeverFalls a c
NeverFalls-then a b c p q = record { faults = omega (arith, p.faults, q.faults); lacks = omega (arith, p.lacks, q.lacks) }

counts_kept : (s : SinkState) → AreCountsKept s s
counts_kept s = record { faults = refl; lacks = refl }

AreCountsKept-then : (a b c : SinkState) → AreCountsKept a b → AreCountsKept b c → AreCountsKept a c
AreCountsKept-then a b c p q = record { faults = q.faults ∙ p.faults; lacks = q.lacks ∙ p.lacks }

-- counts that are kept don't fall
pub NeverFalls-from_kept : (a b : SinkState) → AreCountsKept a b → NeverFalls a b
NeverFalls-from_kept a b k = record { faults = omega (arith, k.faults); lacks = omega (arith, k.lacks) }

pub Rises-after : (a b c : ℕ) → a ≤ b → Rises b c → Rises a c
Rises-after a b c le (inl lt) = inl (omega arith)
Rises-after a b c le (inr e) = inr e

-- all of a text was taken
pub record IsTaken (old new : SinkState) (text : List ℕ) : Type 0 where
  pub takes : Takes old new text
  pub kept : AreCountsKept old new

pub taken_nothing : (s : SinkState) → IsTaken s s []
taken_nothing s = record { takes = Takes-nil s s refl; kept = counts_kept s }

pub from_handed : (u : Unit {0}) (a b : SinkState) (x : List ℕ) → Handed (Ok u) a b x → IsTaken a b x
from_handed u a b x h = record { takes = h.whole; kept = h.untroubled }

pub is_handed : (a b : SinkState) (x : List ℕ) → IsTaken a b x → Handed (Ok tt) a b x
is_handed a b x t = record { whole = t.takes; untroubled = t.kept; front = tt; failed = tt; lacking = tt; never_falls = NeverFalls-from_kept a b t.kept }

pub underway : (s : SinkState) (bytes : List ℕ) → IsUnderway s s bytes bytes
underway s bytes = record { front = []; parts = refl; takes = Takes-nil s s refl; kept = counts_kept s }

pub goes_on : (a b c : SinkState) (bytes rest : List ℕ) (count : ℕ) → IsUnderway a b bytes rest → Takes b c (take count rest) → AreCountsKept b c → IsUnderway a c bytes (drop count rest)
goes_on a b c bytes rest count u t n = record {
  front = u.front ++ take count rest;
  parts = u.parts ∙ ap (λ (r : List ℕ). u.front ++ r) (sym (take-append-drop count rest)) ∙ sym (append_assoc u.front (take count rest) (drop count rest));
  takes = Takes-then a b c u.front (take count rest) u.takes t;
  kept = AreCountsKept-then a b c u.kept n;
}

pub is_whole : (a b : SinkState) (bytes : List ℕ) → IsUnderway a b bytes [] → Handed (Ok tt) a b bytes
is_whole a b bytes u = record {
  whole = subst (Takes a b) (sym (append-nil u.front) ∙ sym u.parts) u.takes;
  untroubled = u.kept;
  front = tt;
  failed = tt;
  lacking = tt;
  never_falls = NeverFalls-from_kept a b u.kept;
}

-- what a refused call leaves
pub record IsRefused (e : SinkFault) (old new : SinkState) : Type 0 where
  pub kept : new.taken ≡ old.taken
  pub failed : OnSinkFailed {T = Unit {0}} (Err e) (Rises old.faults new.faults)
  pub lacking : OnSinkLacking {T = Unit {0}} (Err e) (Rises old.lacks new.lacks)
  pub never_falls : NeverFalls old new

raises : (e : SinkFault) (a b c : SinkState) → NeverFalls a b → OnSinkFailed {T = Unit {0}} (Err e) (Rises b.faults c.faults) → OnSinkFailed {T = Unit {0}} (Err e) (Rises a.faults c.faults)
raises Failed a b c n r = Rises-after _ _ _ n.faults r
raises Memory a b c n r = tt

lacks : (e : SinkFault) (a b c : SinkState) → NeverFalls a b → OnSinkLacking {T = Unit {0}} (Err e) (Rises b.lacks c.lacks) → OnSinkLacking {T = Unit {0}} (Err e) (Rises a.lacks c.lacks)
lacks Failed a b c n r = tt
lacks Memory a b c n r = Rises-after _ _ _ n.lacks r

pub is_cut_off : (e : SinkFault) (a b c : SinkState) (bytes rest : List ℕ) → IsUnderway a b bytes rest → IsRefused e b c → Handed (Err e) a c bytes
is_cut_off e a b c bytes rest u r = record {
  whole = tt;
  untroubled = tt;
  front = (u.front, rest, u.parts, r.kept ∙ u.takes);
  failed = raises e a b c (NeverFalls-from_kept a b u.kept) r.failed;
  lacking = lacks e a b c (NeverFalls-from_kept a b u.kept) r.lacking;
  never_falls = NeverFalls-then a b c (NeverFalls-from_kept a b u.kept) r.never_falls;
}

pub IsTaken-then : (a b c : SinkState) (x y : List ℕ) → IsTaken a b x → IsTaken b c y → IsTaken a c (x ++ y)
IsTaken-then a b c x y p q = record { takes = Takes-then a b c x y p.takes q.takes; kept = AreCountsKept-then a b c p.kept q.kept }

-- a text after one that was handed over whole
pub Handed-then : (r : Result (Unit {0}) SinkFault) (a b c : SinkState) (x y : List ℕ) → IsTaken a b x → Handed r b c y → Handed r a c (x ++ y)
Handed-then r a b c x y p h = after r a b c x y p.takes p.kept h
  where
    after : (r : Result (Unit {0}) SinkFault) (a b c : SinkState) (x y : List ℕ) → Takes a b x → AreCountsKept a b → Handed r b c y → Handed r a c (x ++ y)
    after (Ok u) a b c x y t k h = record {
      whole = Takes-then a b c x y t h.whole;
      untroubled = AreCountsKept-then a b c k h.untroubled;
      front = tt;
      failed = tt;
      lacking = tt;
      never_falls = NeverFalls-then a b c (NeverFalls-from_kept a b k) h.never_falls;
    }
    after (Err e) a b c x y t k h = record {
      whole = tt;
      untroubled = tt;
      front = (x ++ h.front.0, h.front.1, ap (λ (r : List ℕ). x ++ r) h.front.2 ∙ sym (append_assoc x h.front.0 h.front.1), Takes-then a b c x h.front.0 t h.front.3);
      failed = raises e a b c (NeverFalls-from_kept a b k) h.failed;
      lacking = lacks e a b c (NeverFalls-from_kept a b k) h.lacking;
      never_falls = NeverFalls-then a b c (NeverFalls-from_kept a b k) h.never_falls;
    }

-- where a text was cut off, so is one that begins with it
pub Handed-cut : (e : SinkFault) (a b : SinkState) (x y : List ℕ) → Handed (Err e) a b x → Handed (Err e) a b (x ++ y)
Handed-cut e a b x y h = record {
  whole = tt;
  untroubled = tt;
  front = (h.front.0, h.front.1 ++ y, ap (λ (r : List ℕ). r ++ y) h.front.2 ∙ append_assoc h.front.0 h.front.1 y, h.front.3);
  failed = h.failed;
  lacking = h.lacking;
  never_falls = h.never_falls;
}

-- a part of a text was taken, and this part is left
pub record IsPartTaken (old new : SinkState) (text rest : List ℕ) : Type 0 where
  pub done : List ℕ
  pub parts : text ≡ done ++ rest
  pub taken : IsTaken old new done

pub part_nothing : (s : SinkState) (text : List ℕ) → IsPartTaken s s text text
part_nothing s text = record { done = []; parts = refl; taken = taken_nothing s }

-- one more part is taken
pub part_more : (a b c : SinkState) (text x rest : List ℕ) → IsPartTaken a b text (x ++ rest) → IsTaken b c x → IsPartTaken a c text rest
part_more a b c text x rest p t = record {
  done = p.done ++ x;
  parts = p.parts ∙ sym (append_assoc p.done x rest);
  taken = IsTaken-then a b c p.done x p.taken t;
}

-- one more part is cut off
pub part_cut : (e : SinkFault) (a b c : SinkState) (text x rest : List ℕ) → IsPartTaken a b text (x ++ rest) → Handed (Err e) b c x → Handed (Err e) a c text
part_cut e a b c text x rest p h =
    subst (Handed (Err e) a c) (sym p.parts) (Handed-then (Err e) a b c p.done (x ++ rest) p.taken (Handed-cut e b c x rest h))

-- no part is left
pub part_all : (a b : SinkState) (text : List ℕ) → IsPartTaken a b text [] → Handed (Ok tt) a b text
part_all a b text p = subst (Handed (Ok tt) a b) (sym (append-nil p.done) ∙ sym p.parts) (is_handed a b p.done p.taken)

-- a text in other words
pub Handed-is : (r : Result (Unit {0}) SinkFault) (a b : SinkState) (x y : List ℕ) → x ≡ y → Handed r a b x → Handed r a b y
Handed-is r a b x y e h = subst (Handed r a b) e h

-- the first line that is left is taken, and then the others are left
pub line_more : (a b c : SinkState) (text line : List ℕ) (left rest : List (List ℕ)) → left ≡ line ∷ rest → IsPartTaken a b text (text_of_lines left)
    → IsTaken b c (line ++ 10 ∷ []) → IsPartTaken a c text (text_of_lines rest)
line_more a b c text line left rest e p t =
    part_more a b c text (line ++ 10 ∷ []) (text_of_lines rest) (subst (λ (ls : List (List ℕ)). IsPartTaken a b text (text_of_lines ls)) e p) t

-- the first line that is left is cut off
pub line_cut : (e : SinkFault) (a b c : SinkState) (text line : List ℕ) (left rest : List (List ℕ)) → left ≡ line ∷ rest → IsPartTaken a b text (text_of_lines left)
    → Handed (Err e) b c (line ++ 10 ∷ []) → Handed (Err e) a c text
line_cut e a b c text line left rest is p h =
    part_cut e a b c text (line ++ 10 ∷ []) (text_of_lines rest) (subst (λ (ls : List (List ℕ)). IsPartTaken a b text (text_of_lines ls)) is p) h

-- what a sink was told, whether or not it took all of it
pub says : (r : Result (Unit {0}) SinkFault) (a b : SinkState) (line : List ℕ) → Handed r a b line → Says a b line
says (Ok u) a b line h = inl (h.whole, h.untroubled)
says (Err Failed) a b line h = inr (h.front, inl h.failed)
says (Err Memory) a b line h = inr (h.front, inr h.lacking)

-- a piece that isn't empty leaves the count of empty ones
pub blanks_kept : (bytes : List ℕ) (blanks : Option ℕ) → 0 < length bytes → blanks_after bytes blanks ≡ blanks
blanks_kept [] blanks lt = absurd (omega (arith, lt))
blanks_kept (b ∷ bytes) blanks lt = refl
