-- Frames that are read are spelled so, and what is spelled so is read.
use Rattle.std.proofs.Common.{◌≡◌, ℕ, ◌-◌, ◌^◌, ◌<◌, Bool, true, false, cond, eqb, List, [], ◌∷◌, ◌++◌, length, Option, Some, None, refl, sym, ap, subst, ◌∙◌, append_assoc, arith}
use Rattle.std.specs.List.{AllByRecursion}
use Rattle.std.proofs.lemmas.Bool.{eqb-true}
use Rattle.std.proofs.lemmas.List.{append-nil}
use Rattle.jv_table.specs.declared.class_tables.FrameGroup.{FrameGroup}
use Rattle.jv_table.specs.declared.class_tables.FrameGroup.TheVariants.{Same, SameOne, SameOneExtended, Chop, SameExtended, Append, Full}
use Rattle.jv_pool.specs.declared.item.PoolItem.{PoolItem}
use Rattle.jv_pool.specs.PoolText.{u2}
use Rattle.jv_read.specs.Reading.{◌>>=◌, u1_at, number_at}
use Rattle.jv_read.proofs.Fronts.{bind_some, bind_is, past_true, given_as, joined, u1_takes, u1_again, number_takes, number_again}
use Rattle.jv_attr.specs.declared.frame.MapType.{MapType}
use Rattle.jv_attr.specs.declared.frame.MapFrame.{MapFrame}
use Rattle.jv_attr.specs.FrameText.{has_arg, group_of, type_arg_text, type_text, IsArg, is_typed, IsType, types_text, parts_text, frame_text, HasParts, IsFrame, HasFewParts, HasFewTypes, frames_text, AreFewFrames}
use Rattle.jv_read.specs.Reading.{many_at}
use Rattle.jv_attr.specs.Steps.AttrReading.{arg_at, type_at, types_at, counted_types_at, same_one_at, same_one_extended_at, delta_at, append_at, full_at, parts_at, frame_at, frames_at, maps_at}
use Rattle.jv_read.proofs.Many.{many_take, many_again, counted_take, counted_again, both_of, first_of_both, second_of_both}

-- ---- verification types

arg_takes : (written : Bool) (bytes : List ℕ) (x : ℕ × List ℕ) → arg_at written bytes ≡ Some x → IsArg (Some written) x.0 × (bytes ≡ type_arg_text (Some written) x.0 ++ x.1)
unfolding arg_at
arg_takes true bytes x e = let t = number_takes 2 bytes x e in (t.1, t.0)
arg_takes false bytes x e =
    let made : ℕ × List ℕ = (0, bytes) in
    given_as (λ (y : ℕ × List ℕ). (y.0 ≡ 0) × (bytes ≡ y.1)) made x e (refl, refl)

arg_again : (written : Bool) (arg : ℕ) (rest : List ℕ) → IsArg (Some written) arg → arg_at written (type_arg_text (Some written) arg ++ rest) ≡ Some (arg, rest)
unfolding arg_at
arg_again true arg rest h = number_again 2 arg rest h
arg_again false arg rest h = ap (λ (n : ℕ). Some (n, rest)) (sym h)

-- a verification type that is read is spelled so
type_takes : (pool : List PoolItem) (bytes : List ℕ) (x : MapType × List ℕ) → type_at pool bytes ≡ Some x → IsType pool x.0 × (bytes ≡ type_text x.0 ++ x.1)
unfolding type_at
type_takes pool bytes x e =
    let a = bind_some (u1_at bytes) (λ tag. has_arg tag.0 >>= λ written. arg_at written tag.1 >>= λ arg. cond (is_typed pool tag.0 arg.0) (Some (record { tag = tag.0; arg = arg.0 }, arg.1)) None) x e in
    let b = bind_some (has_arg a.0.0) (λ written. arg_at written a.0.1 >>= λ arg. cond (is_typed pool a.0.0 arg.0) (Some (record { tag = a.0.0; arg = arg.0 }, arg.1)) None) x a.2 in
    let c = bind_some (arg_at b.0 a.0.1) (λ arg. cond (is_typed pool a.0.0 arg.0) (Some (record { tag = a.0.0; arg = arg.0 }, arg.1)) None) x b.2 in
    let made : MapType × List ℕ = (record { tag = a.0.0; arg = c.0.0 }, c.0.1) in
    let g = past_true (is_typed pool a.0.0 c.0.0) (Some made) x c.2 in
    let s = u1_takes bytes a.0 a.1 in
    let t = subst (λ (o : Option Bool). IsArg o c.0.0 × (a.0.1 ≡ type_arg_text o c.0.0 ++ c.0.1)) (sym b.1) (arg_takes b.0 a.0.1 c.0 c.1) in
    given_as (λ (y : MapType × List ℕ). IsType pool y.0 × (bytes ≡ type_text y.0 ++ y.1)) made x g.1
    (record { arg = t.0; class = g.0 }, s ∙ ap (λ (r : List ℕ). a.0.0 ∷ r) t.1)

-- a verification type is read again, whatever follows
type_again_by : (pool : List PoolItem) (t : MapType) (rest : List ℕ) (o : Option Bool) → has_arg t.tag ≡ o → IsArg o t.arg → is_typed pool t.tag t.arg ≡ true
    → type_at pool (t.tag ∷ (type_arg_text o t.arg ++ rest)) ≡ Some (t, rest)
unfolding type_at
type_again_by pool t rest None e h class = absurd h
type_again_by pool t rest (Some written) e h class =
    let bytes = type_arg_text (Some written) t.arg ++ rest in
    bind_is (u1_at (t.tag ∷ bytes)) (λ tag. has_arg tag.0 >>= λ written. arg_at written tag.1 >>= λ arg. cond (is_typed pool tag.0 arg.0) (Some (record { tag = tag.0; arg = arg.0 }, arg.1)) None) (t.tag, bytes) (u1_again t.tag bytes)
    ∙ bind_is (has_arg t.tag) (λ written. arg_at written bytes >>= λ arg. cond (is_typed pool t.tag arg.0) (Some (record { tag = t.tag; arg = arg.0 }, arg.1)) None) written e
    ∙ bind_is (arg_at written bytes) (λ arg. cond (is_typed pool t.tag arg.0) (Some (record { tag = t.tag; arg = arg.0 }, arg.1)) None) (t.arg, rest) (arg_again written t.arg rest h)
    ∙ ap (λ (b : Bool). cond b (some_type (t, rest)) None) class
  where
    some_type : MapType × List ℕ → Option (MapType × List ℕ)
    some_type x = Some x

type_again : (pool : List PoolItem) (t : MapType) (rest : List ℕ) → IsType pool t → type_at pool (type_text t ++ rest) ≡ Some (t, rest)
type_again pool t rest h = type_again_by pool t rest (has_arg t.tag) refl h.arg h.class

-- types one after the other
types_take : (pool : List PoolItem) (n : ℕ) (bytes : List ℕ) (x : List MapType × List ℕ) → types_at pool n bytes ≡ Some x → AllByRecursion (IsType pool) x.0 × (length x.0 ≡ n) × (bytes ≡ types_text x.0 ++ x.1)
types_take pool n bytes x e = many_take (type_at pool) type_text (IsType pool) (type_takes pool) n bytes x e

types_again : (pool : List PoolItem) (n : ℕ) (types : List MapType) (rest : List ℕ) → length types ≡ n → AllByRecursion (IsType pool) types → types_at pool n (types_text types ++ rest) ≡ Some (types, rest)
types_again pool n types rest len h = ap (λ (k : ℕ). many_at (type_at pool) k (types_text types ++ rest)) (sym len) ∙ many_again (type_at pool) type_text (IsType pool) (type_again pool) types rest h

counted_takes : (pool : List PoolItem) (bytes : List ℕ) (x : List MapType × List ℕ) → counted_types_at pool bytes ≡ Some x
    → AllByRecursion (IsType pool) x.0 × (length x.0 < 2 ^ 16) × (bytes ≡ (u2 (length x.0) ++ types_text x.0) ++ x.1)
counted_takes pool bytes x e = counted_take (type_at pool) type_text (IsType pool) (type_takes pool) bytes x e

types_counted : (pool : List PoolItem) (types : List MapType) (rest : List ℕ) → length types < 2 ^ 16 → AllByRecursion (IsType pool) types → counted_types_at pool ((u2 (length types) ++ types_text types) ++ rest) ≡ Some (types, rest)
types_counted pool types rest lt h = counted_again (type_at pool) type_text (IsType pool) (type_again pool) types rest h lt

-- ---- what is behind a frame's kind

-- a frame of a group was read
record TakesParts (pool : List PoolItem) (group : FrameGroup) (kind : ℕ) (bytes : List ℕ) (x : MapFrame × List ℕ) : Type 0 where
  kind_is : x.0.kind ≡ kind
  parts : HasParts (Some group) x.0
  locals : AllByRecursion (IsType pool) x.0.locals
  stack : AllByRecursion (IsType pool) x.0.stack
  few : HasFewParts (Some group) x.0
  spelled : bytes ≡ parts_text (Some group) x.0 ++ x.1

same_one_takes : (pool : List PoolItem) (kind : ℕ) (bytes : List ℕ) (x : MapFrame × List ℕ) → same_one_at pool kind bytes ≡ Some x → TakesParts pool SameOne kind bytes x
unfolding same_one_at
same_one_takes pool kind bytes x e =
    let a = bind_some (types_at pool 1 bytes) (λ stack. Some (record { kind = kind; delta = 0; locals = []; stack = stack.0 }, stack.1)) x e in
    let t = types_take pool 1 bytes a.0 a.1 in
    let made : MapFrame × List ℕ = (record { kind = kind; delta = 0; locals = []; stack = a.0.0 }, a.0.1) in
    given_as (λ (y : MapFrame × List ℕ). TakesParts pool SameOne kind bytes y) made x a.2
    (record { kind_is = refl; parts = (refl, refl, t.1); locals = tt; stack = t.0; few = tt; spelled = t.2 })

same_one_extended_takes : (pool : List PoolItem) (kind : ℕ) (bytes : List ℕ) (x : MapFrame × List ℕ) → same_one_extended_at pool kind bytes ≡ Some x → TakesParts pool SameOneExtended kind bytes x
unfolding same_one_extended_at
same_one_extended_takes pool kind bytes x e =
    let a = bind_some (number_at 2 bytes) (λ delta. types_at pool 1 delta.1 >>= λ stack. Some (record { kind = kind; delta = delta.0; locals = []; stack = stack.0 }, stack.1)) x e in
    let b = bind_some (types_at pool 1 a.0.1) (λ stack. Some (record { kind = kind; delta = a.0.0; locals = []; stack = stack.0 }, stack.1)) x a.2 in
    let s = number_takes 2 bytes a.0 a.1 in
    let t = types_take pool 1 a.0.1 b.0 b.1 in
    let made : MapFrame × List ℕ = (record { kind = kind; delta = a.0.0; locals = []; stack = b.0.0 }, b.0.1) in
    given_as (λ (y : MapFrame × List ℕ). TakesParts pool SameOneExtended kind bytes y) made x b.2
    (record { kind_is = refl; parts = (s.1, refl, t.1); locals = tt; stack = t.0; few = tt; spelled = joined bytes (u2 a.0.0) (types_text b.0.0) a.0.1 b.0.1 s.0 t.2 })

-- a frame that has a delta alone
delta_takes : (kind : ℕ) (bytes : List ℕ) (x : MapFrame × List ℕ) → delta_at kind bytes ≡ Some x
    → (x.0.kind ≡ kind) × (x.0.delta < 2 ^ 16) × (x.0.locals ≡ []) × (x.0.stack ≡ []) × (bytes ≡ u2 x.0.delta ++ x.1)
unfolding delta_at
delta_takes kind bytes x e =
    let a = bind_some (number_at 2 bytes) (λ delta. Some (record { kind = kind; delta = delta.0; locals = []; stack = [] }, delta.1)) x e in
    let s = number_takes 2 bytes a.0 a.1 in
    let made : MapFrame × List ℕ = (record { kind = kind; delta = a.0.0; locals = []; stack = [] }, a.0.1) in
    given_as (λ (y : MapFrame × List ℕ). (y.0.kind ≡ kind) × (y.0.delta < 2 ^ 16) × (y.0.locals ≡ []) × (y.0.stack ≡ []) × (bytes ≡ u2 y.0.delta ++ y.1)) made x a.2
    (refl, s.1, refl, refl, s.0)

-- no types are types
no_types : (pool : List PoolItem) (types : List MapType) → types ≡ [] → AllByRecursion (IsType pool) types
no_types pool types e = subst (AllByRecursion (IsType pool)) (sym e) tt

append_takes : (pool : List PoolItem) (kind : ℕ) (bytes : List ℕ) (x : MapFrame × List ℕ) → append_at pool kind bytes ≡ Some x → TakesParts pool Append kind bytes x
unfolding append_at
append_takes pool kind bytes x e =
    let a = bind_some (number_at 2 bytes) (λ delta. types_at pool (kind - 251) delta.1 >>= λ locals. Some (record { kind = kind; delta = delta.0; locals = locals.0; stack = [] }, locals.1)) x e in
    let b = bind_some (types_at pool (kind - 251) a.0.1) (λ locals. Some (record { kind = kind; delta = a.0.0; locals = locals.0; stack = [] }, locals.1)) x a.2 in
    let s = number_takes 2 bytes a.0 a.1 in
    let t = types_take pool (kind - 251) a.0.1 b.0 b.1 in
    let made : MapFrame × List ℕ = (record { kind = kind; delta = a.0.0; locals = b.0.0; stack = [] }, b.0.1) in
    given_as (λ (y : MapFrame × List ℕ). TakesParts pool Append kind bytes y) made x b.2
    (record { kind_is = refl; parts = (s.1, t.1, refl); locals = t.0; stack = tt; few = tt; spelled = joined bytes (u2 a.0.0) (types_text b.0.0) a.0.1 b.0.1 s.0 t.2 })

full_takes : (pool : List PoolItem) (kind : ℕ) (bytes : List ℕ) (x : MapFrame × List ℕ) → full_at pool kind bytes ≡ Some x → TakesParts pool Full kind bytes x
unfolding full_at
full_takes pool kind bytes x e =
    let a = bind_some (number_at 2 bytes) (λ delta. counted_types_at pool delta.1 >>= λ locals. counted_types_at pool locals.1 >>= λ stack. Some (record { kind = kind; delta = delta.0; locals = locals.0; stack = stack.0 }, stack.1)) x e in
    let b = bind_some (counted_types_at pool a.0.1) (λ locals. counted_types_at pool locals.1 >>= λ stack. Some (record { kind = kind; delta = a.0.0; locals = locals.0; stack = stack.0 }, stack.1)) x a.2 in
    let c = bind_some (counted_types_at pool b.0.1) (λ stack. Some (record { kind = kind; delta = a.0.0; locals = b.0.0; stack = stack.0 }, stack.1)) x b.2 in
    let s = number_takes 2 bytes a.0 a.1 in
    let t = counted_takes pool a.0.1 b.0 b.1 in
    let u = counted_takes pool b.0.1 c.0 c.1 in
    let made : MapFrame × List ℕ = (record { kind = kind; delta = a.0.0; locals = b.0.0; stack = c.0.0 }, c.0.1) in
    let d = u2 a.0.0 in
    let l = u2 (length b.0.0) in
    let m = types_text b.0.0 in
    let n = u2 (length c.0.0) in
    let o = types_text c.0.0 in
    let whole : bytes ≡ ((d ++ (l ++ m)) ++ (n ++ o)) ++ c.0.1 = joined bytes (d ++ (l ++ m)) (n ++ o) b.0.1 c.0.1 (joined bytes d (l ++ m) a.0.1 b.0.1 s.0 t.2) u.2 in
    let flat : (d ++ (l ++ m)) ++ (n ++ o) ≡ (((d ++ l) ++ m) ++ n) ++ o = simp append_assoc in
    given_as (λ (y : MapFrame × List ℕ). TakesParts pool Full kind bytes y) made x c.2
    (record { kind_is = refl; parts = s.1; locals = t.0; stack = u.0; few = (t.1, u.1); spelled = whole ∙ ap (λ (z : List ℕ). z ++ c.0.1) flat })

parts_take : (pool : List PoolItem) (group : FrameGroup) (kind : ℕ) (bytes : List ℕ) (x : MapFrame × List ℕ) → parts_at pool group kind bytes ≡ Some x → TakesParts pool group kind bytes x
unfolding parts_at
parts_take pool Same kind bytes x e =
    let made : MapFrame × List ℕ = (record { kind = kind; delta = 0; locals = []; stack = [] }, bytes) in
    given_as (λ (y : MapFrame × List ℕ). TakesParts pool Same kind bytes y) made x e
    (record { kind_is = refl; parts = (refl, refl, refl); locals = tt; stack = tt; few = tt; spelled = refl })
parts_take pool SameOne kind bytes x e = same_one_takes pool kind bytes x e
parts_take pool SameOneExtended kind bytes x e = same_one_extended_takes pool kind bytes x e
parts_take pool Chop kind bytes x e =
    let t = delta_takes kind bytes x e in
    record { kind_is = t.0; parts = (t.1, t.2, t.3); locals = no_types pool x.0.locals t.2; stack = no_types pool x.0.stack t.3; few = tt; spelled = t.4 }
parts_take pool SameExtended kind bytes x e =
    let t = delta_takes kind bytes x e in
    record { kind_is = t.0; parts = (t.1, t.2, t.3); locals = no_types pool x.0.locals t.2; stack = no_types pool x.0.stack t.3; few = tt; spelled = t.4 }
parts_take pool Append kind bytes x e = append_takes pool kind bytes x e
parts_take pool Full kind bytes x e = full_takes pool kind bytes x e

-- something, at a type that is known
abbrev some_frame : MapFrame × List ℕ → Option (MapFrame × List ℕ)
some_frame x = Some x

-- a frame that has these parts is this one
frame_is : (f : MapFrame) (delta : ℕ) (locals stack : List MapType) → delta ≡ f.delta → locals ≡ f.locals → stack ≡ f.stack → (rest : List ℕ)
    → some_frame (record { kind = f.kind; delta = delta; locals = locals; stack = stack }, rest) ≡ Some (f, rest)
frame_is f delta locals stack d l s rest = λ i. Some (record { kind = f.kind; delta = d i; locals = l i; stack = s i }, rest)

-- a frame of a group is read again, whatever follows
parts_again : (pool : List PoolItem) (group : FrameGroup) (f : MapFrame) (rest : List ℕ) → HasParts (Some group) f → AllByRecursion (IsType pool) f.locals → AllByRecursion (IsType pool) f.stack → HasFewParts (Some group) f
    → parts_at pool group f.kind (parts_text (Some group) f ++ rest) ≡ Some (f, rest)
unfolding parts_at same_one_at same_one_extended_at delta_at append_at full_at
parts_again pool Same f rest h locals stack few = frame_is f 0 [] [] (sym h.0) (sym h.1) (sym h.2) rest
parts_again pool SameOne f rest h locals stack few =
    bind_is (types_at pool 1 (types_text f.stack ++ rest)) (λ s. Some (record { kind = f.kind; delta = 0; locals = []; stack = s.0 }, s.1)) (f.stack, rest) (types_again pool 1 f.stack rest h.2 stack)
    ∙ frame_is f 0 [] f.stack (sym h.0) (sym h.1) refl rest
parts_again pool SameOneExtended f rest h locals stack few =
    let after = types_text f.stack ++ rest in
    ap (λ (b : List ℕ). number_at 2 b >>= λ d. types_at pool 1 d.1 >>= λ s. Some (record { kind = f.kind; delta = d.0; locals = []; stack = s.0 }, s.1)) (append_assoc (u2 f.delta) (types_text f.stack) rest)
    ∙ bind_is (number_at 2 (u2 f.delta ++ after)) (λ d. types_at pool 1 d.1 >>= λ s. Some (record { kind = f.kind; delta = d.0; locals = []; stack = s.0 }, s.1)) (f.delta, after) (number_again 2 f.delta after h.0)
    ∙ bind_is (types_at pool 1 after) (λ s. Some (record { kind = f.kind; delta = f.delta; locals = []; stack = s.0 }, s.1)) (f.stack, rest) (types_again pool 1 f.stack rest h.2 stack)
    ∙ frame_is f f.delta [] f.stack refl (sym h.1) refl rest
parts_again pool Chop f rest h locals stack few =
    bind_is (number_at 2 (u2 f.delta ++ rest)) (λ d. Some (record { kind = f.kind; delta = d.0; locals = []; stack = [] }, d.1)) (f.delta, rest) (number_again 2 f.delta rest h.0)
    ∙ frame_is f f.delta [] [] refl (sym h.1) (sym h.2) rest
parts_again pool SameExtended f rest h locals stack few =
    bind_is (number_at 2 (u2 f.delta ++ rest)) (λ d. Some (record { kind = f.kind; delta = d.0; locals = []; stack = [] }, d.1)) (f.delta, rest) (number_again 2 f.delta rest h.0)
    ∙ frame_is f f.delta [] [] refl (sym h.1) (sym h.2) rest
parts_again pool Append f rest h locals stack few =
    let after = types_text f.locals ++ rest in
    ap (λ (b : List ℕ). number_at 2 b >>= λ d. types_at pool (f.kind - 251) d.1 >>= λ l. Some (record { kind = f.kind; delta = d.0; locals = l.0; stack = [] }, l.1)) (append_assoc (u2 f.delta) (types_text f.locals) rest)
    ∙ bind_is (number_at 2 (u2 f.delta ++ after)) (λ d. types_at pool (f.kind - 251) d.1 >>= λ l. Some (record { kind = f.kind; delta = d.0; locals = l.0; stack = [] }, l.1)) (f.delta, after) (number_again 2 f.delta after h.0)
    ∙ bind_is (types_at pool (f.kind - 251) after) (λ l. Some (record { kind = f.kind; delta = f.delta; locals = l.0; stack = [] }, l.1)) (f.locals, rest) (types_again pool (f.kind - 251) f.locals rest h.1 locals)
    ∙ frame_is f f.delta f.locals [] refl refl (sym h.2) rest
parts_again pool Full f rest h locals stack few =
    let d = u2 f.delta in
    let l = u2 (length f.locals) in
    let m = types_text f.locals in
    let n = u2 (length f.stack) in
    let o = types_text f.stack in
    let flat : ((((d ++ l) ++ m) ++ n) ++ o) ++ rest ≡ d ++ ((l ++ m) ++ ((n ++ o) ++ rest)) = simp append_assoc in
    ap (λ (b : List ℕ). number_at 2 b >>= λ d. counted_types_at pool d.1 >>= λ l. counted_types_at pool l.1 >>= λ s. Some (record { kind = f.kind; delta = d.0; locals = l.0; stack = s.0 }, s.1)) flat
    ∙ bind_is (number_at 2 (d ++ ((l ++ m) ++ ((n ++ o) ++ rest)))) (λ d. counted_types_at pool d.1 >>= λ l. counted_types_at pool l.1 >>= λ s. Some (record { kind = f.kind; delta = d.0; locals = l.0; stack = s.0 }, s.1)) (f.delta, (l ++ m) ++ ((n ++ o) ++ rest)) (number_again 2 f.delta ((l ++ m) ++ ((n ++ o) ++ rest)) h)
    ∙ bind_is (counted_types_at pool ((l ++ m) ++ ((n ++ o) ++ rest))) (λ l. counted_types_at pool l.1 >>= λ s. Some (record { kind = f.kind; delta = f.delta; locals = l.0; stack = s.0 }, s.1)) (f.locals, (n ++ o) ++ rest) (types_counted pool f.locals ((n ++ o) ++ rest) few.0 locals)
    ∙ bind_is (counted_types_at pool ((n ++ o) ++ rest)) (λ s. Some (record { kind = f.kind; delta = f.delta; locals = f.locals; stack = s.0 }, s.1)) (f.stack, rest) (types_counted pool f.stack rest few.1 stack)

-- ---- frames

-- a frame that has few types
abbrev IsShortFrame : List PoolItem → MapFrame → Type 0
IsShortFrame pool f = IsFrame pool f × HasFewTypes f

-- a frame that is read is spelled so
frame_takes : (pool : List PoolItem) (bytes : List ℕ) (x : MapFrame × List ℕ) → frame_at pool bytes ≡ Some x → IsShortFrame pool x.0 × (bytes ≡ frame_text x.0 ++ x.1)
unfolding frame_at
frame_takes pool bytes x e =
    let a = bind_some (u1_at bytes) (λ kind. group_of kind.0 >>= λ group. parts_at pool group kind.0 kind.1) x e in
    let b = bind_some (group_of a.0.0) (λ group. parts_at pool group a.0.0 a.0.1) x a.2 in
    let s = u1_takes bytes a.0 a.1 in
    let t = parts_take pool b.0 a.0.0 a.0.1 x b.2 in
    let group_is : group_of x.0.kind ≡ Some b.0 = ap group_of t.kind_is ∙ b.1 in
    let known = subst (λ (o : Option FrameGroup). HasParts o x.0 × HasFewParts o x.0 × (a.0.1 ≡ parts_text o x.0 ++ x.1)) (sym group_is) (t.parts, t.few, t.spelled) in (
      (record { parts = known.0; locals = t.locals; stack = t.stack }, known.1),
      s ∙ ap (λ (k : ℕ). k ∷ a.0.1) (sym t.kind_is) ∙ ap (λ (r : List ℕ). x.0.kind ∷ r) known.2,
    )

-- a frame is read again, whatever follows
frame_again_by : (pool : List PoolItem) (f : MapFrame) (rest : List ℕ) (o : Option FrameGroup) → group_of f.kind ≡ o → HasParts o f → HasFewParts o f → AllByRecursion (IsType pool) f.locals → AllByRecursion (IsType pool) f.stack
    → frame_at pool (f.kind ∷ (parts_text o f ++ rest)) ≡ Some (f, rest)
unfolding frame_at
frame_again_by pool f rest None e h few locals stack = absurd h
frame_again_by pool f rest (Some group) e h few locals stack =
    let bytes = parts_text (Some group) f ++ rest in
    bind_is (u1_at (f.kind ∷ bytes)) (λ kind. group_of kind.0 >>= λ g. parts_at pool g kind.0 kind.1) (f.kind, bytes) (u1_again f.kind bytes)
    ∙ bind_is (group_of f.kind) (λ g. parts_at pool g f.kind bytes) group e
    ∙ parts_again pool group f rest h locals stack few

frame_again : (pool : List PoolItem) (f : MapFrame) (rest : List ℕ) → IsShortFrame pool f → frame_at pool (frame_text f ++ rest) ≡ Some (f, rest)
frame_again pool f rest h = frame_again_by pool f rest (group_of f.kind) refl h.0.parts h.1 h.0.locals h.0.stack

-- nothing is left
pub nothing_left : (rest : List ℕ) → eqb (length rest) 0 ≡ true → rest ≡ []
nothing_left [] e = refl
nothing_left (x ∷ xs) e = absurd (omega (arith, eqb-true (length (x ∷ xs)) 0 e))

-- frames that are all of a content are spelled so
pub maps_take : (pool : List PoolItem) (content : List ℕ) (frames : List MapFrame) → maps_at pool content ≡ Some frames → AllByRecursion (IsFrame pool) frames × AreFewFrames frames × (content ≡ frames_text frames)
unfolding maps_at
maps_take pool content frames e =
    let a = bind_some (frames_at pool content) (λ f. cond (eqb (length f.1) 0) (Some f.0) None) frames e in
    let g = past_true (eqb (length a.0.1) 0) (Some a.0.0) frames a.2 in
    let t = counted_take (frame_at pool) frame_text (IsShortFrame pool) (frame_takes pool) content a.0 a.1 in
    let all : content ≡ frames_text a.0.0 = t.2 ∙ ap (λ (r : List ℕ). frames_text a.0.0 ++ r) (nothing_left a.0.1 g.0) ∙ append-nil (frames_text a.0.0) in
    given_as (λ (fs : List MapFrame). AllByRecursion (IsFrame pool) fs × AreFewFrames fs × (content ≡ frames_text fs)) a.0.0 frames g.1
    (first_of_both (IsFrame pool) HasFewTypes a.0.0 t.0, (t.1, second_of_both (IsFrame pool) HasFewTypes a.0.0 t.0), all)

-- frames are read again
pub maps_again : (pool : List PoolItem) (frames : List MapFrame) → AllByRecursion (IsFrame pool) frames → AreFewFrames frames → maps_at pool (frames_text frames) ≡ Some frames
unfolding maps_at
maps_again pool frames h few =
    let read : frames_at pool (frames_text frames) ≡ Some (frames, []) =
    ap (frames_at pool) (sym (append-nil (frames_text frames)))
    ∙ counted_again (frame_at pool) frame_text (IsShortFrame pool) (frame_again pool) frames [] (both_of (IsFrame pool) HasFewTypes frames h few.1) few.0 in
    bind_is (frames_at pool (frames_text frames)) (λ f. cond (eqb (length f.1) 0) (Some f.0) None) (frames, []) read
