use Rattle.std.proofs.Common.{refl, inl, inr}
use Rattle.jv_fix.specs.Facts.{One}
use Rattle.jv_types.specs.declared.fact.Fact.TheVariants.{Pt}
use Rattle.jv_types.specs.declared.place.Place.TheVariants.{Static, Thr}
use Rattle.av_rules.specs.Forcing.{by_entry}
use Rattle.av_rules.proofs.laws.closed_sets_know_the_uncaught.Goals as goal

pub returns : goal.returns
returns c = λ p set f known closed. record {
  main = λ label h. (f, known, closed.closed (One (Pt (Thr p.start) label)) (Pt (Static f) label) h (by_entry (inl refl, known, refl)));
  initialisers = λ m is entered label h. (f, known, closed.closed (One (Pt (Thr m) label)) (Pt (Static f) label) h (by_entry (inr is, known, refl)));
}
