-- A class of a world is the same as itself: a list begins with all of itself.
use Rattle.std.proofs.Common.{◌≡◌, List, [], ◌++◌, Some, slice_get, Contains, sym, ◌∙◌, subst, append-nil}
use Rattle.std.proofs.lemmas.Option.{same_Some}
use Rattle.jv_types.specs.declared.shapes.Shape.{Shape}
use Rattle.jv_world.specs.Worlds.{HaveDistinctNames, IsWorld}
use Rattle.jv_two_worlds.specs.Renumbering.{StandsIn}
use Rattle.jv_two_worlds.specs.SameClasses.{IsSameClass}
use Rattle.av_collected.proofs.Lists.{at_place}

-- the law that a world stands in each list that begins with its classes
abbrev pub Longer : Type 0
Longer = (w more : List Shape) → IsWorld w → HaveDistinctNames (w ++ more) → StandsIn w (w ++ more) (λ c. c)

pub same_itself : Longer → (v : List Shape) → IsWorld v → (s : Shape) → Contains v s → IsSameClass s s
same_itself longer v world s h =
    let inside = longer v [] world (subst HaveDistinctNames (sym (append-nil v)) world.numbered.distinct) in
    let p = inside.shapes h.0 s (at_place v s h) in
    let at : slice_get v h.0 ≡ Some p.0 = subst (λ (l : List Shape). slice_get l h.0 ≡ Some p.0) (append-nil v) p.1 in
    subst (λ (t : Shape). IsSameClass s t) (same_Some p.0 s (sym at ∙ at_place v s h)) p.2
