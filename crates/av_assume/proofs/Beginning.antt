-- What the library may do first.
use Rattle.std.proofs.Common.{◌≡◌, ℕ, ◌+◌, ◌<◌, List, [], ◌∷◌, None, Some, length, refl, inl, inr, sym, ap, ◌∙◌, subst, arith, true}
use Rattle.std.specs.Prelude.{slice_get}
use Rattle.jv_types.specs.declared.frames.FramedBody.{FramedBody}
use Rattle.jv_types.specs.declared.ids.ClassId.{ClassId}
use Rattle.jv_types.specs.declared.ids.MethodId.{MethodId}
use Rattle.jv_types.specs.declared.label.Label.TheVariants as labels
use Rattle.jv_types.specs.declared.label.LibBase.TheVariants as bases
use Rattle.jv_types.specs.declared.shapes.Shape.{Shape}
use Rattle.jv_world.specs.Worlds.{IsNamed, IsInterface}
use Rattle.jv_resolve.specs.Members.{IsInterfaceClass}
use Rattle.jv_resolve.proofs.PlacesLemmas.{read_at}
use Rattle.av_conditions.specs.Conditions.{IsStart}
use Rattle.av_conditions.specs.CoreClasses.{CoreClasses, IsCoreClass, string_name}
use Rattle.av_states.specs.declared.event.Choice.TheVariants.{Begin, Main}
use Rattle.av_states.specs.declared.held.Held.TheVariants.{Ref}
use Rattle.av_states.specs.declared.run_type.RunType.{RunType, Class, Array}
use Rattle.av_states.specs.declared.state.Activation.TheVariants.{Library}
use Rattle.av_states.specs.declared.state.State.{State}
use Rattle.av_model.specs.AppSteps.{Outcome}
use Rattle.av_model.specs.Events.{MethodCall}
use Rattle.av_model.specs.LibraryTypes.{IsLabelBase, LabelOf}
use Rattle.av_model.specs.Raising.{add_known}
use Rattle.av_model.specs.RunTypes.{dims_of, base_of}
use Rattle.av_model.specs.Spots.{entered, set_thread}
use Rattle.av_model.specs.States.{first_state}
use Rattle.av_assume.specs.LibraryMoves.{LibraryMove, begins, starts, EntersAtStart, enters_main, calls_back}

pub may_begin : (w : List Shape) (methods : List FramedBody) (old : State) → (new : State) × LibraryMove w methods old (length old.threads) Begin [] new
may_begin w methods old = (_, begins refl)

-- an array has one dimension more than its items, and the same inside
dims_of-Array : (item : RunType) → dims_of (Array item) ≡ dims_of item + 1
unfolding Rattle.av_states.specs.declared.run_type.RunType.TheBlock.shape-the_row-RunType-0 Rattle.av_states.specs.declared.run_type.RunType.TheBlock.hidden-the_row-RunType-0 denote.Hole.Carrier.hidden
dims_of-Array item = refl

base_of-Array : (item : RunType) → base_of (Array item) ≡ base_of item
unfolding Rattle.av_states.specs.declared.run_type.RunType.TheBlock.shape-the_row-RunType-0 Rattle.av_states.specs.declared.run_type.RunType.TheBlock.hidden-the_row-RunType-0 denote.Hole.Carrier.hidden
base_of-Array item = refl

-- the class String: it is there, and no interface
string_class : (w : List Shape) → CoreClasses w → (c : ClassId) × IsNamed w c.number string_name × (IsInterfaceClass w c.number → ⊥)
string_class w core =
    let found = core.there string_name (inl (inr (inr (inl refl)))) in
    let shape = found.0 in
    let among = found.1 in
    let at : slice_get w among.0 ≡ Some shape = read_at w among.0 shape among.1 (sym among.2) in
    let class : IsInterface shape → ⊥ = found.4.class (subst (λ (name : List ℕ). IsCoreClass name) (sym found.2) (inr (inr (inl refl)))) in (
      record { number = among.0 },
      (shape, at, found.2),
      λ interface.
          let same : Some interface.0 ≡ Some shape = sym interface.1 ∙ at in
          let is : interface.0 ≡ shape = cc in
          class (subst IsInterface is interface.2),
    )

-- an array of a class that is no interface has the label of the class, with one dimension
array_label : (w : List Shape) (most : ℕ) (c : ClassId) → 0 < most → (IsInterfaceClass w c.number → ⊥) → LabelOf w most (Array (Class c)) (labels.Lib (bases.Class c) 1)
array_label w most c some no_interface =
    let P : RunType → Type 0 = λ t. IsLabelBase w t (bases.Class c) in
    inl (
      omega (arith, dims_of-Array (Class c)),
      (bases.Class c, ap (labels.Lib (bases.Class c)) (sym (dims_of-Array (Class c))), subst P (sym (base_of-Array (Class c))) (c, refl, inl (no_interface, refl))),
    )

pub may_enter_main : (w : List Shape) (methods : List FramedBody) (main : MethodId) (dims : ℕ) → CoreClasses w → IsStart w methods main → 0 < dims
    → (new : State) × LibraryMove w methods (first_state main dims) 0 Main (calls_back main) new
may_enter_main w methods main dims core start some =
    let string = string_class w core in
    let c = string.0 in
    let type : RunType = Array (Class c) in
    let label = labels.Lib (bases.Class c) 1 in
    let old = first_state main dims in
    let framed = start.given.0 in
    let out : Outcome = record {
      calls = calls_back framed.method;
      state = record (add_known old type label) { entered = true };
      frames = Library ∷ entered framed (Ref 0 ∷ []) ∷ [];
      thrown = None;
    } in
    let new = set_thread out.state 0 out.frames out.thrown in
    let enters : EntersAtStart w methods old [] Main out = enters_main framed type label start.given.1 start.given.2 (c, string.1, refl) (array_label w dims c some string.2) in
    let move : LibraryMove w methods old 0 Main out.calls new = starts [] Main out refl refl refl enters in
    (new, subst (λ (calls : List MethodCall). LibraryMove w methods old 0 Main calls new) (ap calls_back start.given.2) move)
