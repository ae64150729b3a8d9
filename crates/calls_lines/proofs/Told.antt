-- The facts that are told of by a line, and those that need none, as a set that is closed: what the facts of
-- a kind-safe class name is there.
use Rattle.std.proofs.Common.{◌≡◌, ℕ, suc, ◌+◌, ◌++◌, ◌<◌, ◌≤◌, Bool, true, false, List, length, get_or, Option, Some, None, refl, ap, ⊎_elim, arith}
use Rattle.std.specs.Prelude.{◌==◌, if◌then◌else◌, is_some, codes}
use Rattle.std.specs.List.{slice_get}
use Rattle.std.specs.Fmt.{decimal}
use Rattle.std.proofs.lemmas.Bool.{cases_lt, false≢true}
use Rattle.std.proofs.lemmas.Option.{slice_get_within, slice_get-get_or}
use Rattle.jv_types.specs.declared.ids.FieldId.{FieldId}
use Rattle.jv_types.specs.declared.ids.MethodId.{MethodId}
use Rattle.jv_types.specs.declared.label.Label.{Label}
use Rattle.jv_types.specs.declared.label.Label.TheVariants as label
use Rattle.jv_types.specs.declared.place.Place.{Place}
use Rattle.jv_types.specs.declared.place.Place.TheVariants as place
use Rattle.jv_types.specs.declared.fact.CallFrom.TheVariants as from
use Rattle.jv_types.specs.declared.fact.Fact.{Fact}
use Rattle.jv_types.specs.declared.fact.Fact.TheVariants.{Reach, Edge, Pt}
use Rattle.calls_form.specs.declared.object_class.Kind.{Kind}
use Rattle.calls_form.specs.declared.object_class.Instruction.{Instruction}
use Rattle.calls_form.specs.declared.object_class.Instruction.TheVariants as op
use Rattle.calls_form.specs.declared.object_class.Placed.{Placed}
use Rattle.calls_form.specs.declared.object_class.Method.{Method}
use Rattle.calls_form.specs.declared.object_class.ObjectClass.{ObjectClass}
use Rattle.calls_form.specs.Kinds as kinds
use Rattle.calls_form.specs.Kinds.{Effect, IsWalk, IsKindSafe}
use Rattle.calls_model.specs.First.Machine.{InstructionAt, Invokes}
use Rattle.calls_facts.specs.First.Depths.{depth_at}
use Rattle.calls_facts.specs.First.Names.{own, own_field, new_at, Slot, InLocal, OnStack, slot_place, pc_at}
use Rattle.calls_facts.specs.First.Rules.{Has, IsReturn, IsClosed}
use Rattle.calls_facts.proofs.Returning.{sends_invokes}
use Rattle.calls_lines.specs.First.Lines.{member_text, HasMethodText, HasFieldText, HasLabelText, HasPlaceText}

-- ---- the set

abbrev pub both : Bool → Bool → Bool
both a b = if a then b else false

both_is : (a b : Bool) → a ≡ true → b ≡ true → both a b ≡ true
both_is true b x y = y
both_is false b x y = absurd (false≢true x)

pub both_first : (a b : Bool) → both a b ≡ true → a ≡ true
both_first true b h = refl
both_first false b h = h

pub both_second : (a b : Bool) → both a b ≡ true → b ≡ true
both_second true b h = h
both_second false b h = absurd (false≢true h)

-- the class has the method, the field
abbrev pub has_method : ObjectClass → MethodId → Bool
has_method class id = if id.class.number == 0 then is_some (slice_get class.methods id.index) else false

abbrev pub has_field : ObjectClass → FieldId → Bool
has_field class id = if id.class.number == 0 then is_some (slice_get class.fields id.index) else false

abbrev pub has_label : ObjectClass → Label → Bool
has_label class (label.Site method pc depth) = has_method class method
has_label class (label.Lib base dims) = false

abbrev pub has_place : ObjectClass → Place → Bool
has_place class (place.Local method pc word) = has_method class method
has_place class (place.Stack method pc word) = has_method class method
has_place class (place.Static field) = has_field class field
has_place class (place.Field of field) = both (has_label class of) (has_field class field)
has_place class (place.Elem of) = false
has_place class (place.Ret method) = true
has_place class (place.Raise method pc) = false
has_place class (place.Thr method) = false

-- a method of the class, or the constructor of java/lang/Object
abbrev pub has_target : ObjectClass → MethodId → Bool
has_target class id = if id.class.number == 1 then id.index == 0 else has_method class id

abbrev pub told : ObjectClass → Fact → Bool
told class (Reach method) = true
told class (Edge from.Root to) = has_method class to
told class (Edge (from.Site method pc) to) = both (has_method class method) (has_target class to)
told class (Pt at made) = both (has_place class at) (has_label class made)

-- ---- what a kind-safe class names

some_is : {X : Type 0} (o : Option X) (x : X) → o ≡ Some x → is_some o ≡ true
some_is o x is = ap is_some is

-- an instruction that isn't a return has its effect
walk_effect : (class : ObjectClass) (m : Method) (frames : List kinds.Frame) → IsWalk class m frames → (i : ℕ) (p : Placed) → slice_get m.code i ≡ Some p
    → (IsReturn p.instruction → ⊥) → (takes : List Kind) × (gives : List Kind) × Effect class p.instruction takes gives
walk_effect class m frames walk i p here goes_on =
    let within : i < length m.code = slice_get_within m.code i p here in
    let some_frame : kinds.Frame = kinds.start m in
    let f : kinds.Frame = get_or frames i some_frame in
    let counted = walk.as_many in
    let f_at : slice_get frames i ≡ Some f = slice_get-get_or frames i some_frame (omega arith) in
    ⊎_elim
    (λ (more : suc i < length m.code).
    let g_at = slice_get-get_or frames (suc i) some_frame (omega arith) in
    let goes = walk.goes i p f (get_or frames (suc i) some_frame) here f_at g_at in
    (goes.takes, goes.gives, goes.effect))
    (λ (past : length m.code ≤ suc i).
    let is : p.instruction ≡ op.Return m.result = (walk.ends i p f here f_at (omega arith)).0 in
    absurd (goes_on (rw is tt)))
    (cases_lt (suc i) (length m.code))

effect_at : (class : ObjectClass) → IsKindSafe class → (m i : ℕ) (p : Placed) → InstructionAt class m i p → (IsReturn p.instruction → ⊥)
    → (takes : List Kind) × (gives : List Kind) × Effect class p.instruction takes gives
effect_at class safe m i p here goes_on =
    let walk = safe.walks m here.0 here.1 in
    walk_effect class here.0 walk.0 walk.1 i p here.2 goes_on

-- the method that a call names
named_method : (class : ObjectClass) (i : Instruction) (takes gives : List Kind) (to : ℕ) → Effect class i takes gives → Invokes i to → is_some (slice_get class.methods to) ≡ true
named_method class (op.InvokeVirtual place) takes gives to effect is = rw (← is) (some_is _ effect.0 effect.1.0)
named_method class (op.InvokeSpecial place) takes gives to effect is = rw (← is) (some_is _ effect.0 effect.1.0)
named_method class (op.InvokeStatic place) takes gives to effect is = rw (← is) (some_is _ effect.0 effect.1.0)
named_method class _ takes gives to effect is = absurd is

invokes_leads : (i : Instruction) (to : ℕ) → Invokes i to → IsReturn i → ⊥
invokes_leads (op.Return result) to is return = is
invokes_leads _ to is return = return

-- the fields that putfield and putstatic name
field_there : (class : ObjectClass) (field : ℕ) (takes gives : List Kind) → Effect class (op.PutField field) takes gives → is_some (slice_get class.fields field) ≡ true
field_there class field takes gives effect = some_is _ effect.0 effect.1.0

static_there : (class : ObjectClass) (field : ℕ) (takes gives : List Kind) → Effect class (op.PutStatic field) takes gives → is_some (slice_get class.fields field) ≡ true
static_there class field takes gives effect = some_is _ effect.0 effect.1.0

named_field : (class : ObjectClass) (i : Instruction) (field : ℕ) (takes gives : List Kind) → i ≡ op.PutField field → Effect class i takes gives → is_some (slice_get class.fields field) ≡ true
named_field class i field takes gives is effect = field_there class field takes gives (rw is at effect)

named_static : (class : ObjectClass) (i : Instruction) (field : ℕ) (takes gives : List Kind) → i ≡ op.PutStatic field → Effect class i takes gives → is_some (slice_get class.fields field) ≡ true
named_static class i field takes gives is effect = static_there class field takes gives (rw is at effect)

-- ---- the set is closed

module _ (class : ObjectClass) (safe : IsKindSafe class) where
  -- the method of an instruction
  here_is : (m i : ℕ) (p : Placed) → InstructionAt class m i p → is_some (slice_get class.methods m) ≡ true
  here_is m i p here = some_is _ here.0 here.1

  called_is : (m i : ℕ) (p : Placed) (to : ℕ) → InstructionAt class m i p → Invokes p.instruction to → is_some (slice_get class.methods to) ≡ true
  called_is m i p to here invokes =
      let effect = effect_at class safe m i p here (invokes_leads p.instruction to invokes) in
      named_method class p.instruction effect.0 effect.1 to effect.2 invokes

  slot_is : (m pc : ℕ) (slot : Slot) → is_some (slice_get class.methods m) ≡ true → has_place class (slot_place m pc slot) ≡ true
  slot_is m pc (InLocal word) h = h
  slot_is m pc (OnStack word) h = h

  -- an object at a word of a method
  in_slot : (m pc : ℕ) (slot : Slot) (l : Label) → is_some (slice_get class.methods m) ≡ true → has_label class l ≡ true → Has (told class) (Pt (slot_place m pc slot) l)
  in_slot m pc slot l method made = both_is (has_place class (slot_place m pc slot)) (has_label class l) (slot_is m pc slot method) made

  made_at : (at : Place) (l : Label) → Has (told class) (Pt at l) → has_label class l ≡ true
  made_at at l h = both_second (has_place class at) (has_label class l) h

  called_by : (m pc to : ℕ) → is_some (slice_get class.methods m) ≡ true → is_some (slice_get class.methods to) ≡ true → Has (told class) (Edge (from.Site (own m) pc) (own to))
  called_by m pc to h h_to = both_is (is_some (slice_get class.methods m)) (is_some (slice_get class.methods to)) h h_to

  called_from : (m pc to : ℕ) → Has (told class) (Edge (from.Site (own m) pc) (own to)) → is_some (slice_get class.methods to) ≡ true
  called_from m pc to h = both_second (is_some (slice_get class.methods m)) (is_some (slice_get class.methods to)) h

  pub told_closed : IsClosed class (told class)
  told_closed = record {
    entry = λ m main. some_is _ main.0 main.1;
    reach = λ from m h. refl;
    move = λ m i p from to l here moves h. in_slot m (pc_at class m (suc i)) to l (here_is m i p here) (made_at (slot_place m p.pc from) l h);
    allocate = λ m i p here is h. in_slot m (pc_at class m (suc i)) (OnStack (depth_at class m i)) (new_at m p.pc) (here_is m i p here) (here_is m i p here);
    get_field = λ m i p field top l v here is depth h h_field. in_slot m (pc_at class m (suc i)) (OnStack top) v (here_is m i p here) (made_at (place.Field l (own_field field)) v h_field);
    put_field = λ m i p field below l v here is depth h h_value.
        let effect = effect_at class safe m i p here (λ r. rw is at r) in
        let there : is_some (slice_get class.fields field) ≡ true = named_field class p.instruction field effect.0 effect.1 is effect.2 in
        both_is (has_place class (place.Field l (own_field field))) (has_label class v)
        (both_is (has_label class l) (is_some (slice_get class.fields field)) (made_at (slot_place m p.pc (OnStack below)) l h) there)
        (made_at (slot_place m p.pc (OnStack (below + 1))) v h_value);
    get_static = λ m i p field v here is reached h. in_slot m (pc_at class m (suc i)) (OnStack (depth_at class m i)) v (here_is m i p here) (made_at (place.Static (own_field field)) v h);
    put_static = λ m i p field top v here is depth h.
        let effect = effect_at class safe m i p here (λ r. rw is at r) in
        let there : is_some (slice_get class.fields field) ≡ true = named_static class p.instruction field effect.0 effect.1 is effect.2 in
        both_is (is_some (slice_get class.fields field)) (has_label class v) there (made_at (slot_place m p.pc (OnStack top)) v h);
    dispatch_static = λ m i p to here is reached. called_by m p.pc to (here_is m i p here) (called_is m i p to here (rw is refl));
    dispatch = λ m i p to receiver l here sends depth h.
        let there = called_is m i p to here (sends_invokes p.instruction to sends) in
        (called_by m p.pc to (here_is m i p here) there, in_slot to (pc_at class to 0) (InLocal 0) l there (made_at (slot_place m p.pc (OnStack receiver)) l h));
    argument = λ m i p to base word l here invokes depth late early edge h.
        in_slot to (pc_at class to 0) (InLocal word) l (called_from m p.pc to edge) (made_at (slot_place m p.pc (OnStack (base + word))) l h);
    return_from = λ m i p top l here is depth h. both_is true (has_label class l) refl (made_at (slot_place m p.pc (OnStack top)) l h);
    return_to = λ m i p to base l here invokes gives depth edge h. in_slot m (pc_at class m (suc i)) (OnStack base) l (here_is m i p here) (made_at (place.Ret (own to)) l h);
    initialize = λ m i p top l here is depth h. both_is (is_some (slice_get class.methods m)) true (here_is m i p here) refl;
    finalize = λ m i p top l to here is depth final h.
        let there = some_is _ final.0 final.1 in
        (there, in_slot to (pc_at class to 0) (InLocal 0) l there (made_at (slot_place m p.pc (OnStack top)) l h));
  }

-- ---- the texts of what is there

some_value : {X : Type 0} (o : Option X) → is_some o ≡ true → (x : X) × (o ≡ Some x)
some_value None h = absurd (false≢true h)
some_value (Some x) h = (x, refl)

module _ (class : ObjectClass) where
  pub method_text_of : (m : ℕ) → is_some (slice_get class.methods m) ≡ true → (text : List ℕ) × HasMethodText class (own m) text
  method_text_of m h = let there = some_value (slice_get class.methods m) h in (member_text class there.0.name there.0.desc, (m, there.0, refl, there.1, refl))

  pub field_text_of : (field : ℕ) → is_some (slice_get class.fields field) ≡ true → (text : List ℕ) × HasFieldText class (own_field field) text
  field_text_of field h = let there = some_value (slice_get class.fields field) h in (member_text class there.0.name there.0.desc, (field, there.0, refl, there.1, refl))

  pub label_text_of : (m pc : ℕ) → is_some (slice_get class.methods m) ≡ true → (text : List ℕ) × HasLabelText class (new_at m pc) text
  label_text_of m pc h =
      let method = method_text_of m h in
      let site : List ℕ = method.0 ++ codes " " ++ decimal pc in
      (codes "new " ++ site ++ codes " " ++ decimal 0, (site, (method.0, method.1, refl), refl))

  pub slot_text_of : (m pc : ℕ) (slot : Slot) → is_some (slice_get class.methods m) ≡ true → (text : List ℕ) × HasPlaceText class (slot_place m pc slot) text
  slot_text_of m pc (InLocal word) h = let method = method_text_of m h in (codes "local " ++ method.0 ++ codes " " ++ decimal word, (method.0, method.1, refl))
  slot_text_of m pc (OnStack word) h = let method = method_text_of m h in (codes "stack " ++ method.0 ++ codes " " ++ decimal word, (method.0, method.1, refl))

  pub static_text_of : (field : ℕ) → is_some (slice_get class.fields field) ≡ true → (text : List ℕ) × HasPlaceText class (place.Static (own_field field)) text
  static_text_of field h = let x = field_text_of field h in (codes "static " ++ x.0, (x.0, x.1, refl))

  pub object_field_text_of : (m pc field : ℕ) → is_some (slice_get class.methods m) ≡ true → is_some (slice_get class.fields field) ≡ true
      → (text : List ℕ) × HasPlaceText class (place.Field (new_at m pc) (own_field field)) text
  object_field_text_of m pc field h h_field =
      let made = label_text_of m pc h in
      let x = field_text_of field h_field in
      (codes "field " ++ made.0 ++ codes " " ++ x.0, (made.0, x.0, made.1, x.1, refl))
