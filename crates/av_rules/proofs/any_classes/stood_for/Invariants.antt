-- None of the classes so far has this one as its class of any object.
use Rattle.std.proofs.Common.{◌≡◌, Option, Some}
use Rattle.jv_types.specs.declared.ids.ClassId.{ClassId}
use Rattle.jv_world.specs.MemberPlaces.{NoneBelow}
use Rattle.av_rules.proofs.any_classes.stood_for.Given as goal

abbrev pub invariant-loop-number : goal.invariant-loop-number
invariant-loop-number l = NoneBelow (λ (o : Option ClassId). o ≡ Some l.own) l.any l.number
