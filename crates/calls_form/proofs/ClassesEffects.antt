-- What an instruction takes and gives, and where it leads, as functions and as relations.
use Rattle.std.proofs.Common.{◌≡◌, ℕ, ◌-◌, ◌≤◌, true, cond, ltb, leb, not, ◌&&◌, ◌||◌, List, [], ◌∷◌, ◌++◌, length, take, drop, Option, Some, None, refl, sym, ap, ◌∙◌, arith, ◌⊎◌, Decides, codes}
use Rattle.std.specs.Prelude.{slice_set}
use Rattle.std.specs.List.{slice_get}
use Rattle.std.proofs.lemmas.Bool.{ltb-true, lt-ltb}
use Rattle.std.proofs.lemmas.Bool.Decides.{Decides-and, Decides-or, Decides-not}
use Rattle.std.proofs.lemmas.Slice.Eq.{bytes_eq-Decides}
use Rattle.std.proofs.lemmas.List.{take_at, drop_at, take-append-drop, length-append}
use Rattle.calls_form.specs.declared.object_class.Kind.{Kind}
use Rattle.calls_form.specs.declared.object_class.Kind.TheVariants.{Word, Reference}
use Rattle.calls_form.specs.declared.object_class.Instruction.{Instruction}
use Rattle.calls_form.specs.declared.object_class.Instruction.TheVariants.{Nop, PushNull, PushWord, Load, Store, Pop, Dup, Combine, Negate, GetStatic, PutStatic, GetField, PutField, InvokeVirtual, InvokeSpecial, InvokeObjectInit, InvokeStatic, New, Return}
use Rattle.calls_form.specs.declared.object_class.Field.{Field}
use Rattle.calls_form.specs.declared.object_class.Method.{Method}
use Rattle.calls_form.specs.declared.object_class.ObjectClass.{ObjectClass}
use Rattle.calls_form.specs.Flags.{IsStatic, IsPrivate}
use Rattle.calls_form.specs.Kinds.{Frame, Effect, Locals, Goes, result_kinds, IsStaticField, IsInstanceField, IsVirtualMethod, IsSpecialMethod, IsStaticMethod}
use Rattle.calls_form.specs.Reading.{◌>>=◌}
use Rattle.calls_form.specs.ClassesTypes.{has_static}
use Rattle.calls_form.specs.ClassesWalk.{kind_is, kinds_are, static_field, instance_field, has_private, is_init, is_virtual, is_special, virtual_method, special_method, static_method, called, field_effect, method_effect, effect_at, ends_in, exchange_at, holds, locals_at, top_of, go_at, option_kind_is, returns_kind, is_end}
use Rattle.calls_form.proofs.ClassesKinds.{Decides-leb, Decides-static, Decides-private, both_true, two_true}
use Rattle.calls_form.proofs.ClassesPlaces.{slice_get_middle}
use Rattle.calls_form.proofs.LayoutFields.{bind_some, past_true, some_is, given_as}

-- ---- kinds

pub Decides-kind : (a b : Kind) → Decides (kind_is a b) (a ≡ b)
Decides-kind Word Word = (λ _. refl, λ _. refl)
Decides-kind Word Reference = (λ e. absurd cc, λ e. absurd cc)
Decides-kind Reference Word = (λ e. absurd cc, λ e. absurd cc)
Decides-kind Reference Reference = (λ _. refl, λ _. refl)

kinds_take : (as_ bs : List Kind) → kinds_are as_ bs ≡ true → as_ ≡ bs
unfolding kinds_are
kinds_take [] [] e = refl
kinds_take [] (b ∷ bs) e = absurd cc
kinds_take (a ∷ as_) [] e = absurd cc
kinds_take (a ∷ as_) (b ∷ bs) e =
    let both = both_true (kind_is a b) (kinds_are as_ bs) e in
    ap (λ (k : Kind). k ∷ as_) ((Decides-kind a b).0 both.0) ∙ ap (λ (ks : List Kind). b ∷ ks) (kinds_take as_ bs both.1)

kinds_again : (as_ : List Kind) → kinds_are as_ as_ ≡ true
unfolding kinds_are
kinds_again [] = refl
kinds_again (a ∷ as_) = two_true (kind_is a a) (kinds_are as_ as_) ((Decides-kind a a).1 refl) (kinds_again as_)

-- ---- the end of a stack

pub ends_take : (stack words : List Kind) → ends_in stack words ≡ true → stack ≡ take (length stack - length words) stack ++ words
ends_take stack words e =
    let n = length stack - length words in
    let both = both_true (leb (length words) (length stack)) (kinds_are (drop n stack) words) e in
    sym (take-append-drop n stack) ∙ ap (λ (r : List Kind). take n stack ++ r) (kinds_take (drop n stack) words both.1)

rest_length : (stack rest words : List Kind) → stack ≡ rest ++ words → length stack - length words ≡ length rest
rest_length stack rest words e = let len = ap length e in omega (arith, len, length-append rest words)

pub ends_again : (stack rest words : List Kind) → stack ≡ rest ++ words → ends_in stack words ≡ true
ends_again stack rest words e =
    let len = ap length e in
    let long : leb (length words) (length stack) ≡ true = (Decides-leb (length words) (length stack)).1 (omega (arith, len, length-append rest words)) in
    let back : drop (length stack - length words) stack ≡ words = ap (λ (n : ℕ). drop n stack) (rest_length stack rest words e) ∙ ap (drop (length rest)) e ∙ drop_at rest words (length rest) refl in
    two_true (leb (length words) (length stack)) (kinds_are (drop (length stack - length words) stack) words) long (ap (λ (ks : List Kind). kinds_are ks words) back ∙ kinds_again words)

exchange_takes : (x : List Kind × List Kind) (stack after : List Kind) → exchange_at x stack ≡ Some after → (rest : List Kind) × (stack ≡ rest ++ x.0) × (after ≡ rest ++ x.1)
unfolding exchange_at
exchange_takes x stack after e =
    let rest = take (length stack - length x.0) stack in
    let a = past_true (ends_in stack x.0) (Some (rest ++ x.1)) after e in
    (rest, ends_take stack x.0 a.0, sym (some_is (rest ++ x.1) after a.1))

exchange_again : (x : List Kind × List Kind) (stack rest : List Kind) → stack ≡ rest ++ x.0 → exchange_at x stack ≡ Some (rest ++ x.1)
unfolding exchange_at
exchange_again x stack rest e =
    let front : take (length stack - length x.0) stack ≡ rest = ap (λ (n : ℕ). take n stack) (rest_length stack rest x.0 e) ∙ ap (take (length rest)) e ∙ take_at rest x.0 (length rest) refl in
    rw (ends_again stack rest x.0 e) (ap (λ (r : List Kind). Some (r ++ x.1)) front)

-- ---- what an instruction names

static_field_takes : (class : ObjectClass) (p : ℕ) (x : Field) → static_field class p ≡ Some x → IsStaticField class p x
unfolding static_field
static_field_takes class p x e =
    let a = bind_some (slice_get class.fields p) (λ y. cond (has_static y.access) (Some y) None) x e in
    let b = past_true (has_static a.0.access) (Some a.0) x a.2 in
    given_as (IsStaticField class p) a.0 x b.1 (a.1, (Decides-static a.0.access).0 b.0)

static_field_again : (class : ObjectClass) (p : ℕ) (x : Field) → IsStaticField class p x → static_field class p ≡ Some x
unfolding static_field
static_field_again class p x h = rw (h.0, (Decides-static x.access).1 h.1) refl

Decides-instance : (x : Field) → Decides (not (has_static x.access)) (¬ IsStatic x.access)
Decides-instance x = Decides-not (has_static x.access) (Decides-static x.access)

instance_field_takes : (class : ObjectClass) (p : ℕ) (x : Field) → instance_field class p ≡ Some x → IsInstanceField class p x
unfolding instance_field
instance_field_takes class p x e =
    let a = bind_some (slice_get class.fields p) (λ y. cond (not (has_static y.access)) (Some y) None) x e in
    let b = past_true (not (has_static a.0.access)) (Some a.0) x a.2 in
    given_as (IsInstanceField class p) a.0 x b.1 (a.1, (Decides-instance a.0).0 b.0)

instance_field_again : (class : ObjectClass) (p : ℕ) (x : Field) → IsInstanceField class p x → instance_field class p ≡ Some x
unfolding instance_field
instance_field_again class p x h = rw (h.0, (Decides-instance x).1 h.1) refl

Decides-virtual : (m : Method) → Decides (is_virtual m) ((¬ IsStatic m.access) × ((¬ IsPrivate m.access) × (¬ (m.name ≡ codes "<init>"))))
Decides-virtual m =
    Decides-and (not (has_static m.access)) (not (has_private m) && not (is_init m)) (Decides-not (has_static m.access) (Decides-static m.access))
    (Decides-and (not (has_private m)) (not (is_init m)) (Decides-not (has_private m) (Decides-private m.access)) (Decides-not (is_init m) (bytes_eq-Decides m.name (codes "<init>"))))

virtual_takes : (class : ObjectClass) (p : ℕ) (m : Method) → virtual_method class p ≡ Some m → IsVirtualMethod class p m
unfolding virtual_method
virtual_takes class p m e =
    let a = bind_some (slice_get class.methods p) (λ y. cond (is_virtual y) (Some y) None) m e in
    let b = past_true (is_virtual a.0) (Some a.0) m a.2 in
    let d = (Decides-virtual a.0).0 b.0 in
    given_as (IsVirtualMethod class p) a.0 m b.1 (a.1, d.0, d.1.0, d.1.1)

virtual_again : (class : ObjectClass) (p : ℕ) (m : Method) → IsVirtualMethod class p m → virtual_method class p ≡ Some m
unfolding virtual_method
virtual_again class p m h = rw (h.0, (Decides-virtual m).1 (h.1, (h.2, h.3))) refl

Decides-special : (m : Method) → Decides (is_special m) ((¬ IsStatic m.access) × (IsPrivate m.access ⊎ (m.name ≡ codes "<init>")))
Decides-special m =
    Decides-and (not (has_static m.access)) (has_private m || is_init m) (Decides-not (has_static m.access) (Decides-static m.access))
    (Decides-or (has_private m) (is_init m) (Decides-private m.access) (bytes_eq-Decides m.name (codes "<init>")))

special_takes : (class : ObjectClass) (p : ℕ) (m : Method) → special_method class p ≡ Some m → IsSpecialMethod class p m
unfolding special_method
special_takes class p m e =
    let a = bind_some (slice_get class.methods p) (λ y. cond (is_special y) (Some y) None) m e in
    let b = past_true (is_special a.0) (Some a.0) m a.2 in
    let d = (Decides-special a.0).0 b.0 in
    given_as (IsSpecialMethod class p) a.0 m b.1 (a.1, d.0, d.1)

special_again : (class : ObjectClass) (p : ℕ) (m : Method) → IsSpecialMethod class p m → special_method class p ≡ Some m
unfolding special_method
special_again class p m h = rw (h.0, (Decides-special m).1 (h.1, h.2)) refl

static_takes : (class : ObjectClass) (p : ℕ) (m : Method) → static_method class p ≡ Some m → IsStaticMethod class p m
unfolding static_method
static_takes class p m e =
    let a = bind_some (slice_get class.methods p) (λ y. cond (has_static y.access) (Some y) None) m e in
    let b = past_true (has_static a.0.access) (Some a.0) m a.2 in
    given_as (IsStaticMethod class p) a.0 m b.1 (a.1, (Decides-static a.0.access).0 b.0)

static_again : (class : ObjectClass) (p : ℕ) (m : Method) → IsStaticMethod class p m → static_method class p ≡ Some m
unfolding static_method
static_again class p m h = rw (h.0, (Decides-static m.access).1 h.1) refl

-- ---- what it takes and gives

abbrev Exchanged : ObjectClass → Instruction → List Kind × List Kind → Type 0
Exchanged class i x = Effect class i x.0 x.1

pub effect_takes : (class : ObjectClass) (top : Option Kind) (i : Instruction) (x : List Kind × List Kind) → effect_at class top i ≡ Some x → Effect class i x.0 x.1
unfolding effect_at field_effect method_effect
effect_takes class top Nop x e = given_as (Exchanged class Nop) ([], []) x e (refl, refl)
effect_takes class top PushNull x e = given_as (Exchanged class PushNull) ([], Reference ∷ []) x e (refl, refl)
effect_takes class top PushWord x e = given_as (Exchanged class PushWord) ([], Word ∷ []) x e (refl, refl)
effect_takes class top (Load kind local) x e = given_as (Exchanged class (Load kind local)) ([], kind ∷ []) x e (refl, refl)
effect_takes class top (Store kind local) x e = given_as (Exchanged class (Store kind local)) (kind ∷ [], []) x e (refl, refl)
effect_takes class top Pop x e =
    let a = bind_some top (λ kind. let y : List Kind × List Kind = (kind ∷ [], []) in Some y) x e in
    given_as (Exchanged class Pop) (a.0 ∷ [], []) x a.2 (a.0, refl, refl)
effect_takes class top Dup x e =
    let a = bind_some top (λ kind. let y : List Kind × List Kind = (kind ∷ [], kind ∷ kind ∷ []) in Some y) x e in
    given_as (Exchanged class Dup) (a.0 ∷ [], a.0 ∷ a.0 ∷ []) x a.2 (a.0, refl, refl)
effect_takes class top Combine x e = given_as (Exchanged class Combine) (Word ∷ Word ∷ [], Word ∷ []) x e (refl, refl)
effect_takes class top Negate x e = given_as (Exchanged class Negate) (Word ∷ [], Word ∷ []) x e (refl, refl)
effect_takes class top (GetStatic p) x e =
    let a = bind_some (static_field class p) (λ f. let y : List Kind × List Kind = ([], f.kind ∷ []) in Some y) x e in
    given_as (Exchanged class (GetStatic p)) ([], a.0.kind ∷ []) x a.2 (a.0, static_field_takes class p a.0 a.1, refl, refl)
effect_takes class top (PutStatic p) x e =
    let a = bind_some (static_field class p) (λ f. let y : List Kind × List Kind = (f.kind ∷ [], []) in Some y) x e in
    given_as (Exchanged class (PutStatic p)) (a.0.kind ∷ [], []) x a.2 (a.0, static_field_takes class p a.0 a.1, refl, refl)
effect_takes class top (GetField p) x e =
    let a = bind_some (instance_field class p) (λ f. let y : List Kind × List Kind = (Reference ∷ [], f.kind ∷ []) in Some y) x e in
    given_as (Exchanged class (GetField p)) (Reference ∷ [], a.0.kind ∷ []) x a.2 (a.0, instance_field_takes class p a.0 a.1, refl, refl)
effect_takes class top (PutField p) x e =
    let a = bind_some (instance_field class p) (λ f. let y : List Kind × List Kind = (Reference ∷ f.kind ∷ [], []) in Some y) x e in
    given_as (Exchanged class (PutField p)) (Reference ∷ a.0.kind ∷ [], []) x a.2 (a.0, instance_field_takes class p a.0 a.1, refl, refl)
effect_takes class top (InvokeVirtual p) x e =
    let a = bind_some (virtual_method class p) called x e in
    given_as (Exchanged class (InvokeVirtual p)) (a.0.arguments, result_kinds a.0.result) x a.2 (a.0, virtual_takes class p a.0 a.1, refl, refl)
effect_takes class top (InvokeSpecial p) x e =
    let a = bind_some (special_method class p) called x e in
    given_as (Exchanged class (InvokeSpecial p)) (a.0.arguments, result_kinds a.0.result) x a.2 (a.0, special_takes class p a.0 a.1, refl, refl)
effect_takes class top InvokeObjectInit x e = given_as (Exchanged class InvokeObjectInit) (Reference ∷ [], []) x e (refl, refl)
effect_takes class top (InvokeStatic p) x e =
    let a = bind_some (static_method class p) called x e in
    given_as (Exchanged class (InvokeStatic p)) (a.0.arguments, result_kinds a.0.result) x a.2 (a.0, static_takes class p a.0 a.1, refl, refl)
effect_takes class top New x e = given_as (Exchanged class New) ([], Reference ∷ []) x e (refl, refl)
effect_takes class top (Return result) x e = absurd cc

-- two lists as a pair
pair_is : (a b takes gives : List Kind) → takes ≡ a → gives ≡ b → ◌≡◌ {A = Option (List Kind × List Kind)} (Some (a, b)) (Some (takes, gives))
pair_is a b takes gives e f =
    ap (λ (t : List Kind). let y : List Kind × List Kind = (t, b) in Some y) (sym e) ∙ ap (λ (g : List Kind). let y : List Kind × List Kind = (takes, g) in Some y) (sym f)

-- a word that is taken alone is the one on top
top_is : (stack rest takes : List Kind) (kind : Kind) → stack ≡ rest ++ takes → takes ≡ kind ∷ [] → top_of stack ≡ Some kind
top_is stack rest takes kind e f =
    let whole : stack ≡ rest ++ kind ∷ [] = e ∙ ap (λ (t : List Kind). rest ++ t) f in
    let len = ap length whole in
    let at : length stack - 1 ≡ length rest = omega (arith, len, length-append rest (kind ∷ [])) in
    ap (slice_get stack) at ∙ ap (λ (s : List Kind). slice_get s (length rest)) whole ∙ slice_get_middle rest [] kind

pub effect_again : (class : ObjectClass) (i : Instruction) (stack rest takes gives : List Kind) → Effect class i takes gives → stack ≡ rest ++ takes → effect_at class (top_of stack) i ≡ Some (takes, gives)
unfolding effect_at field_effect method_effect
effect_again class Nop stack rest takes gives h e = pair_is [] [] takes gives h.0 h.1
effect_again class PushNull stack rest takes gives h e = pair_is [] (Reference ∷ []) takes gives h.0 h.1
effect_again class PushWord stack rest takes gives h e = pair_is [] (Word ∷ []) takes gives h.0 h.1
effect_again class (Load kind local) stack rest takes gives h e = pair_is [] (kind ∷ []) takes gives h.0 h.1
effect_again class (Store kind local) stack rest takes gives h e = pair_is (kind ∷ []) [] takes gives h.0 h.1
effect_again class Pop stack rest takes gives h e =
    ap (λ (o : Option Kind). o >>= λ kind. let y : List Kind × List Kind = (kind ∷ [], []) in Some y) (top_is stack rest takes h.0 e h.1) ∙ pair_is (h.0 ∷ []) [] takes gives h.1 h.2
effect_again class Dup stack rest takes gives h e =
    ap (λ (o : Option Kind). o >>= λ kind. let y : List Kind × List Kind = (kind ∷ [], kind ∷ kind ∷ []) in Some y) (top_is stack rest takes h.0 e h.1) ∙ pair_is (h.0 ∷ []) (h.0 ∷ h.0 ∷ []) takes gives h.1 h.2
effect_again class Combine stack rest takes gives h e = pair_is (Word ∷ Word ∷ []) (Word ∷ []) takes gives h.0 h.1
effect_again class Negate stack rest takes gives h e = pair_is (Word ∷ []) (Word ∷ []) takes gives h.0 h.1
effect_again class (GetStatic p) stack rest takes gives h e = rw (static_field_again class p h.0 h.1) (pair_is [] (h.0.kind ∷ []) takes gives h.2 h.3)
effect_again class (PutStatic p) stack rest takes gives h e = rw (static_field_again class p h.0 h.1) (pair_is (h.0.kind ∷ []) [] takes gives h.2 h.3)
effect_again class (GetField p) stack rest takes gives h e = rw (instance_field_again class p h.0 h.1) (pair_is (Reference ∷ []) (h.0.kind ∷ []) takes gives h.2 h.3)
effect_again class (PutField p) stack rest takes gives h e = rw (instance_field_again class p h.0 h.1) (pair_is (Reference ∷ h.0.kind ∷ []) [] takes gives h.2 h.3)
effect_again class (InvokeVirtual p) stack rest takes gives h e = rw (virtual_again class p h.0 h.1) (pair_is h.0.arguments (result_kinds h.0.result) takes gives h.2 h.3)
effect_again class (InvokeSpecial p) stack rest takes gives h e = rw (special_again class p h.0 h.1) (pair_is h.0.arguments (result_kinds h.0.result) takes gives h.2 h.3)
effect_again class InvokeObjectInit stack rest takes gives h e = pair_is (Reference ∷ []) [] takes gives h.0 h.1
effect_again class (InvokeStatic p) stack rest takes gives h e = rw (static_again class p h.0 h.1) (pair_is h.0.arguments (result_kinds h.0.result) takes gives h.2 h.3)
effect_again class New stack rest takes gives h e = pair_is [] (Reference ∷ []) takes gives h.0 h.1
effect_again class (Return result) stack rest takes gives h e = absurd h

-- ---- locals

holds_take : (kind : Kind) (o : Option Kind) → holds kind o ≡ true → o ≡ Some kind
holds_take kind None e = absurd cc
holds_take kind (Some found) e = ap (λ (k : Kind). Some k) ((Decides-kind found kind).0 e)

holds_again : (kind : Kind) → holds kind (Some kind) ≡ true
holds_again kind = (Decides-kind kind kind).1 refl

locals_take : (i : Instruction) (before after : List (Option Kind)) → locals_at i before ≡ Some after → Locals i before after
unfolding locals_at
locals_take (Load kind local) before after e =
    let a = bind_some (slice_get before local) (λ o. cond (holds kind o) (Some before) None) after e in
    let b = past_true (holds kind a.0) (Some before) after a.2 in
    (a.1 ∙ ap (λ (o : Option Kind). Some o) (holds_take kind a.0 b.0), sym (some_is before after b.1))
locals_take (Store kind local) before after e =
    let b = past_true (ltb local (length before)) (Some (slice_set before local (Some kind))) after e in
    (ltb-true local (length before) b.0, sym (some_is (slice_set before local (Some kind)) after b.1))
locals_take _ before after e = sym (some_is before after e)

locals_again : (i : Instruction) (before after : List (Option Kind)) → Locals i before after → locals_at i before ≡ Some after
unfolding locals_at
locals_again (Load kind local) before after h = rw (h.0, holds_again kind) (ap (λ (l : List (Option Kind)). Some l) (sym h.1))
locals_again (Store kind local) before after h = rw (lt-ltb local (length before) h.0) (ap (λ (l : List (Option Kind)). Some l) (sym h.1))
locals_again _ before after h = ap (λ (l : List (Option Kind)). Some l) (sym h)

-- ---- one step

frame_is : (g : Frame) (locals : List (Option Kind)) (stack : List Kind) → locals ≡ g.locals → stack ≡ g.stack → record { locals = locals; stack = stack } ≡ g
frame_is g locals stack e f =
    let mid : Frame = record { locals = g.locals; stack = stack } in
    let first : record { locals = locals; stack = stack } ≡ mid = ap (λ (l : List (Option Kind)). let x : Frame = record { locals = l; stack = stack } in x) e in
    let second : mid ≡ g = ap (λ (s : List Kind). let x : Frame = record { locals = g.locals; stack = s } in x) f in
    first ∙ second

pub go_takes : (class : ObjectClass) (most : ℕ) (i : Instruction) (f g : Frame) → go_at class most i f ≡ Some g → Goes class i f g × (length g.stack ≤ most)
unfolding go_at
go_takes class most i f g e =
    let a = bind_some (effect_at class (top_of f.stack) i) (λ effect. exchange_at effect f.stack >>= λ stack. locals_at i f.locals >>= λ locals. cond (leb (length stack) most) (let x : Frame = record { locals = locals; stack = stack } in Some x) None) g e in
    let b = bind_some (exchange_at a.0 f.stack) (λ stack. locals_at i f.locals >>= λ locals. cond (leb (length stack) most) (let x : Frame = record { locals = locals; stack = stack } in Some x) None) g a.2 in
    let c = bind_some (locals_at i f.locals) (λ locals. cond (leb (length b.0) most) (let x : Frame = record { locals = locals; stack = b.0 } in Some x) None) g b.2 in
    let made : Frame = record { locals = c.0; stack = b.0 } in
    let d = past_true (leb (length b.0) most) (Some made) g c.2 in
    let x = exchange_takes a.0 f.stack b.0 b.1 in
    let whole : Goes class i f made = record { takes = a.0.0; gives = a.0.1; rest = x.0; effect = effect_takes class (top_of f.stack) i a.0 a.1; found = x.1; left = x.2; locals = locals_take i f.locals c.0 c.1 } in
    given_as (λ (y : Frame). Goes class i f y × (length y.stack ≤ most)) made g d.1 (whole, (Decides-leb (length b.0) most).0 d.0)

pub go_again : (class : ObjectClass) (most : ℕ) (i : Instruction) (f g : Frame) → Goes class i f g → length g.stack ≤ most → go_at class most i f ≡ Some g
unfolding go_at
go_again class most i f g h le =
    let effect = effect_again class i f.stack h.rest h.takes h.gives h.effect h.found in
    let stack = exchange_again (h.takes, h.gives) f.stack h.rest h.found in
    let short : leb (length (h.rest ++ h.gives)) most ≡ true = ap (λ (s : List Kind). leb (length s) most) (sym h.left) ∙ (Decides-leb (length g.stack) most).1 le in
    rw (effect, stack, locals_again i f.locals g.locals h.locals, short) (ap (λ (x : Frame). Some x) (frame_is g g.locals (h.rest ++ h.gives) refl (sym h.left)))

-- ---- the end

option_kind_takes : (a b : Option Kind) → option_kind_is a b ≡ true → a ≡ b
option_kind_takes None None e = refl
option_kind_takes None (Some b) e = absurd cc
option_kind_takes (Some a) None e = absurd cc
option_kind_takes (Some a) (Some b) e = ap (λ (k : Kind). Some k) ((Decides-kind a b).0 e)

option_kind_again : (a : Option Kind) → option_kind_is a a ≡ true
option_kind_again None = refl
option_kind_again (Some a) = (Decides-kind a a).1 refl

returns_take : (i : Instruction) (result : Option Kind) → returns_kind i result ≡ true → i ≡ Return result
returns_take (Return r) result e = ap (λ (o : Option Kind). Return o) (option_kind_takes r result e)
returns_take _ result e = absurd cc

pub end_takes : (i : Instruction) (result : Option Kind) (stack : List Kind) → is_end i result stack ≡ true → (i ≡ Return result) × ((rest : List Kind) × (stack ≡ rest ++ result_kinds result))
end_takes i result stack e =
    let both = both_true (returns_kind i result) (ends_in stack (result_kinds result)) e in
    (returns_take i result both.0, (take (length stack - length (result_kinds result)) stack, ends_take stack (result_kinds result) both.1))

pub end_again : (i : Instruction) (result : Option Kind) (stack rest : List Kind) → i ≡ Return result → stack ≡ rest ++ result_kinds result → is_end i result stack ≡ true
end_again i result stack rest e f =
    two_true (returns_kind i result) (ends_in stack (result_kinds result)) (ap (λ (j : Instruction). returns_kind j result) e ∙ option_kind_again result) (ends_again stack rest (result_kinds result) f)
