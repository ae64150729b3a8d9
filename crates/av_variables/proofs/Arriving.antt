-- Where labels arrive: by what a rule leads to a place.
use Rattle.std.proofs.Common.{◌≡◌, ℕ, sym, ap, subst, ⊎_elim}
use Rattle.std.specs.Prelude.{Contains}
use Rattle.jv_fix.specs.Facts.{Premises, One, Two}
use Rattle.jv_types.specs.declared.body.Handler.{Handler}
use Rattle.jv_types.specs.declared.fact.Fact.{Fact}
use Rattle.jv_types.specs.declared.fact.Fact.TheVariants as facts
use Rattle.jv_types.specs.declared.ids.MethodId.{MethodId}
use Rattle.jv_types.specs.declared.label.Label.{Label}
use Rattle.jv_types.specs.declared.place.Place.{Place}
use Rattle.jv_types.specs.declared.place.Place.TheVariants as places
use Rattle.jv_resolve.proofs.PlacesLemmas.{among_from_get}
use Rattle.av_rules.specs.Forcing.{Forces, by_entry, by_reach, by_move, by_allocate, by_constant, by_cast, by_field, by_static, by_element, by_dispatch, by_argument, by_return, by_raise, by_catch, by_initialise, by_machine}
use Rattle.av_rules.specs.Program.{Program, Point, IsEntryLocal, IsPoint, IsPushed, method_of}
use Rattle.av_rules.specs.Rules.Allocate.{AllocateAt, MakesAt, pushed as made, inner}
use Rattle.av_rules.specs.Rules.Argument.{ArgumentAt}
use Rattle.av_rules.specs.Rules.Cast.{CastAt}
use Rattle.av_rules.specs.Rules.Catch.{CatchAt, GoesAsThrown, caught as handled, leaves}
use Rattle.av_rules.specs.Rules.Constant.{ConstantAt}
use Rattle.av_rules.specs.Rules.Dispatch.{DispatchAt}
use Rattle.av_rules.specs.Rules.Element.{ElementAt, GetsItem, PutsItem}
use Rattle.av_rules.specs.Rules.Entry.{Entry}
use Rattle.av_rules.specs.Rules.Field.{FieldAt, GetsField, PutsField}
use Rattle.av_rules.specs.Rules.Initialise.{InitialiseAt}
use Rattle.av_rules.specs.Rules.MachineRaise.{MachineRaiseAt}
use Rattle.av_rules.specs.Rules.Move.{LeavesWord, MoveAt}
use Rattle.av_rules.specs.Rules.Raise.{RaiseAt, raise_place}
use Rattle.av_rules.specs.Rules.Reach.{Reach}
use Rattle.av_rules.specs.Rules.Return.{ReturnAt}
use Rattle.av_rules.specs.Rules.Static.{StaticAt}

-- the place is that of no word of a frame
abbrev pub IsNoWord : Place → Type 0
IsNoWord (places.Local m pc word) = ⊥
IsNoWord (places.Stack m pc word) = ⊥
IsNoWord _ = Unit {0}

no_word : (to place : Place) → to ≡ place → IsNoWord place → IsNoWord to
no_word to place is none = subst IsNoWord (sym is) none

-- how a label comes to a place
pub data Arrives (p : Program) (premises : Premises Fact) (to : Place) (label : Label) : Type 0 where
  pushed : (at : Point) → IsPoint p at → IsPushed at to → Arrives p premises to label
  entered : (t : MethodId) (local : ℕ) → IsEntryLocal p t local to → Arrives p premises to label
  elsewhere : IsNoWord to → Arrives p premises to label
  thrown : (at : Point) (handler : Handler) → IsPoint p at → Contains at.framed.body.handlers handler → to ≡ places.Stack (method_of at) handler.target 0 → Arrives p premises to label
  moved : (at : Point) (from : Place) → IsPoint p at → premises ≡ One (facts.Pt from label) → LeavesWord at from to → Arrives p premises to label

module _ (p : Program) (at : Point) (point : IsPoint p at) where
  made_arrives : (premises : Premises Fact) (to : Place) (label : Label) → MakesAt p at to label → Arrives p premises to label
  made_arrives premises to label (made is place) = pushed at point place
  made_arrives premises to label (inner depth outer is more place) = elsewhere (no_word to (places.Elem outer) place tt)

  allocate_arrives : (premises : Premises Fact) (to : Place) (label : Label) → AllocateAt p at premises (facts.Pt to label) → Arrives p premises to label
  allocate_arrives (One (facts.Reach m)) to label x = made_arrives (One (facts.Reach m)) to label x.1
  allocate_arrives _ to label x = absurd x

  constant_arrives : (premises : Premises Fact) (to : Place) (label : Label) → ConstantAt p at premises (facts.Pt to label) → Arrives p premises to label
  constant_arrives (One (facts.Reach m)) to label x = pushed at point x.2
  constant_arrives _ to label x = absurd x

  move_arrives : (premises : Premises Fact) (to : Place) (label : Label) → MoveAt p at premises (facts.Pt to label) → Arrives p premises to label
  move_arrives (One (facts.Pt from held)) to label x = moved at from point (ap (λ (l : Label). One (facts.Pt from l)) (sym x.1)) x.0
  move_arrives _ to label x = absurd x

  cast_arrives : (premises : Premises Fact) (to : Place) (label : Label) → CastAt p at premises (facts.Pt to label) → Arrives p premises to label
  cast_arrives (One (facts.Pt from held)) to label x = pushed at point x.0.pushed
  cast_arrives _ to label x = absurd x

  field_arrives : (premises : Premises Fact) (to : Place) (label : Label) → FieldAt p at premises (facts.Pt to label) → Arrives p premises to label
  field_arrives (Two (facts.Pt object owner) (facts.Pt from held)) to label x =
      ⊎_elim (λ (get : GetsField p at object owner from to). pushed at point get.pushed)
      (λ (put : PutsField p at object owner from to). elsewhere (no_word to (places.Field owner put.field) put.field_place tt)) x.0
  field_arrives _ to label x = absurd x

  static_arrives : (premises : Premises Fact) (to : Place) (label : Label) → StaticAt p at premises (facts.Pt to label) → Arrives p premises to label
  static_arrives (Two (facts.Reach m) (facts.Pt from held)) to label x = pushed at point x.1.pushed
  static_arrives (One (facts.Pt from held)) to label x = elsewhere (no_word to (places.Static x.0.field) x.0.field_place tt)
  static_arrives _ to label x = absurd x

  element_arrives : (premises : Premises Fact) (to : Place) (label : Label) → ElementAt p at premises (facts.Pt to label) → Arrives p premises to label
  element_arrives (Two (facts.Pt array owner) (facts.Pt from held)) to label x =
      ⊎_elim (λ (get : GetsItem p at array owner from to). pushed at point get.pushed)
      (λ (put : PutsItem p at array owner from held to). elsewhere (no_word to (places.Elem owner) put.item_place tt)) x.0
  element_arrives _ to label x = absurd x

  dispatch_arrives : (premises : Premises Fact) (to : Place) (label : Label) → DispatchAt p at premises (facts.Pt to label) → Arrives p premises to label
  dispatch_arrives (One (facts.Pt receiver held)) to label x = entered x.0 0 x.2
  dispatch_arrives _ to label x = absurd x

  argument_arrives : (premises : Premises Fact) (to : Place) (label : Label) → ArgumentAt p at premises (facts.Pt to label) → Arrives p premises to label
  argument_arrives (Two (facts.Edge origin t) (facts.Pt from held)) to label x = entered t x.1.word x.1.parameter
  argument_arrives _ to label x = absurd x

  return_arrives : (premises : Premises Fact) (to : Place) (label : Label) → ReturnAt p at premises (facts.Pt to label) → Arrives p premises to label
  return_arrives (One (facts.Pt from held)) to label x = elsewhere (no_word to (places.Ret (method_of at)) x.0.returned tt)
  return_arrives (Two (facts.Edge origin t) (facts.Pt from held)) to label x = pushed at point x.1.pushed
  return_arrives _ to label x = absurd x

  raise_arrives : (premises : Premises Fact) (to : Place) (label : Label) → RaiseAt p at premises (facts.Pt to label) → Arrives p premises to label
  raise_arrives (One (facts.Pt from held)) to label x = elsewhere (no_word to (raise_place at) x.1 tt)
  raise_arrives (Two (facts.Edge origin t) (facts.Pt from held)) to label x = elsewhere (no_word to (raise_place at) x.2 tt)
  raise_arrives _ to label x = absurd x

  machine_arrives : (premises : Premises Fact) (to : Place) (label : Label) → MachineRaiseAt p at premises (facts.Pt to label) → Arrives p premises to label
  machine_arrives (One (facts.Reach m)) to label x = elsewhere (no_word to (raise_place at) x.1 tt)
  machine_arrives _ to label x = absurd x

  initialise_arrives : (premises : Premises Fact) (to : Place) (label : Label) → InitialiseAt p at premises (facts.Pt to label) → Arrives p premises to label
  initialise_arrives (One (facts.Reach m)) to label x = absurd x
  initialise_arrives _ to label x = absurd x

  thrown_arrives : (premises : Premises Fact) (to : Place) (label held : Label) → GoesAsThrown p at held to → Arrives p premises to label
  thrown_arrives premises to label held (handled number handler stands first slot place) = thrown at handler point (among_from_get at.framed.body.handlers number handler stands) place
  thrown_arrives premises to label held (leaves none place) = elsewhere (no_word to (places.Thr (method_of at)) place tt)

  catch_arrives : (premises : Premises Fact) (to : Place) (label : Label) → CatchAt p at premises (facts.Pt to label) → Arrives p premises to label
  catch_arrives (One (facts.Pt from held)) to label x = thrown_arrives (One (facts.Pt from held)) to label held x.1
  catch_arrives _ to label x = absurd x

entry_arrives : (p : Program) (premises : Premises Fact) (to : Place) (label : Label) → Entry p premises (facts.Pt to label) → Arrives p premises to label
entry_arrives p (One (facts.Pt (places.Thr m) held)) (places.Static f) label x = elsewhere tt
entry_arrives p _ _ label x = absurd x

reach_arrives : (p : Program) (premises : Premises Fact) (to : Place) (label : Label) → Reach p premises (facts.Pt to label) → Arrives p premises to label
reach_arrives p (One (facts.Edge from m)) to label x = absurd x
reach_arrives p _ to label x = absurd x

pub arrives : (p : Program) (premises : Premises Fact) (to : Place) (label : Label) → Forces p premises (facts.Pt to label) → Arrives p premises to label
arrives p premises to label (by_entry x) = entry_arrives p premises to label x
arrives p premises to label (by_reach x) = reach_arrives p premises to label x
arrives p premises to label (by_move x) = move_arrives p x.0 x.1 premises to label x.2
arrives p premises to label (by_allocate x) = allocate_arrives p x.0 x.1 premises to label x.2
arrives p premises to label (by_constant x) = constant_arrives p x.0 x.1 premises to label x.2
arrives p premises to label (by_cast x) = cast_arrives p x.0 x.1 premises to label x.2
arrives p premises to label (by_field x) = field_arrives p x.0 x.1 premises to label x.2
arrives p premises to label (by_static x) = static_arrives p x.0 x.1 premises to label x.2
arrives p premises to label (by_element x) = element_arrives p x.0 x.1 premises to label x.2
arrives p premises to label (by_dispatch x) = dispatch_arrives p x.0 x.1 premises to label x.2
arrives p premises to label (by_argument x) = argument_arrives p x.0 x.1 premises to label x.2
arrives p premises to label (by_return x) = return_arrives p x.0 x.1 premises to label x.2
arrives p premises to label (by_raise x) = raise_arrives p x.0 x.1 premises to label x.2
arrives p premises to label (by_catch x) = catch_arrives p x.0 x.1 premises to label x.2
arrives p premises to label (by_initialise x) = initialise_arrives p x.0 x.1 premises to label x.2
arrives p premises to label (by_machine x) = machine_arrives p x.0 x.1 premises to label x.2
