-- The walk of kinds as it is read, as a relation from one instruction to the next, and by index.
use Rattle.std.proofs.Common.{◌≡◌, ℕ, zero, suc, ◌+◌, ◌≤◌, ◌<◌, true, cond, leb, List, [], ◌∷◌, ◌++◌, length, get_or, take, drop, map, replicate, ◌-◌, Option, Some, None, Result, Ok, Err, Vec, Global, refl, sym, ap, subst, ◌∙◌, arith}
use Rattle.std.specs.Prelude.{IfOk}
use Rattle.std.specs.List.{slice_get}
use Rattle.std.proofs.lemmas.List.{drop_more, drop_all, take_all, length-map}
use Rattle.std.proofs.lemmas.Option.{none-some}
use Rattle.calls_form.specs.declared.object_class.Kind.{Kind}
use Rattle.calls_form.specs.declared.object_class.Instruction.TheVariants.{Return}
use Rattle.calls_form.specs.declared.object_class.Placed.{Placed}
use Rattle.calls_form.specs.declared.object_class.Method.{Method}
use Rattle.calls_form.specs.declared.object_class.ObjectClass.{ObjectClass}
use Rattle.calls_form.specs.declared.read_error.ReadError.{ReadError}
use Rattle.calls_form.specs.declared.read_error.ReadError.TheVariants as errors
use Rattle.calls_form.specs.Kinds.{Frame, Goes, result_kinds, start, IsWalk}
use Rattle.calls_form.specs.Reading.{◌>>=◌, Fails, Gives}
use Rattle.calls_form.specs.ClassesWalk.{go_at, is_end, depths_from, depths_at}
use Rattle.calls_form.proofs.ClassesKinds.{Decides-leb}
use Rattle.calls_form.proofs.ClassesEffects.{go_takes, go_again, end_takes, end_again}
use Rattle.calls_form.proofs.ClassesLoops.{with_front, front_each}
use Rattle.calls_form.proofs.LayoutFields.{bind_some, past_true, some_is}

-- how many words are on the stack
abbrev pub depth : Frame → ℕ
depth f = length f.stack

-- ---- the start

pub start_is : (m : Method) (locals after : List (Option Kind)) (stack : List Kind) (len n : ℕ) → locals ≡ map (λ kind. Some kind) m.arguments → len ≡ length locals → length m.arguments ≤ m.max_locals
    → n ≡ m.max_locals → after ≡ take n locals ++ replicate (n - len) None → stack ≡ [] → let f : Frame = record { locals = after; stack = stack } in f ≡ start m
start_is m locals after stack len n is counted fits most e nothing =
    let many : length locals ≡ length m.arguments = ap length is ∙ length-map m.arguments (λ kind. Some kind) in
    let whole : take n locals ≡ locals = take_all n locals (omega (arith, many, fits, most)) in
    let left : n - len ≡ m.max_locals - length m.arguments = omega (arith, many, counted, most) in
    let words : after ≡ map (λ kind. Some kind) m.arguments ++ replicate (m.max_locals - length m.arguments) None =
    e ∙ ap (λ (l : List (Option Kind)). l ++ replicate (n - len) None) (whole ∙ is) ∙ ap (λ (k : ℕ). map (λ kind. Some kind) m.arguments ++ replicate k None) left in
    ap (λ (l : List (Option Kind)). let f : Frame = record { locals = l; stack = stack } in f) words
    ∙ ap (λ (s : List Kind). let f : Frame = record { locals = map (λ kind. Some kind) m.arguments ++ replicate (m.max_locals - length m.arguments) None; stack = s } in f) nothing

-- a code without instructions has no walk
pub depths_none : (class : ObjectClass) (m : Method) (f : Frame) (code : List Placed) → length code ≡ 0 → depths_from class m f code ≡ None
unfolding depths_from
depths_none class m f [] e = refl
depths_none class m f (p ∷ code) e = absurd (omega (arith, e))

-- ---- the loop

depth_step : (class : ObjectClass) (m : Method) (f : Frame) (p : Placed) (others : List Placed) (last : Placed)
    → depths_from class m f (p ∷ (others ++ last ∷ [])) ≡ (go_at class m.max_stack p.instruction f >>= λ next. depths_from class m next (others ++ last ∷ []) >>= λ ds. Some (depth f ∷ ds))
unfolding depths_from
depth_step class m f p [] last = refl
depth_step class m f p (q ∷ others) last = refl

-- one instruction more was passed
pub depths_go_on : (class : ObjectClass) (m : Method) (front : List ℕ) (f g : Frame) (before : List Placed) (i : ℕ) (d last : Placed) (total : Option (List ℕ)) → i < length before
    → go_at class m.max_stack (get_or before i d).instruction f ≡ Some g → with_front front (depths_from class m f (drop i before ++ last ∷ [])) ≡ total
    → with_front (front ++ depth f ∷ []) (depths_from class m g (drop (i + 1) before ++ last ∷ [])) ≡ total
depths_go_on class m front f g before i d last total lt e so_far =
    let p = get_or before i d in
    let later = λ (next : Frame). depths_from class m next (drop (i + 1) before ++ last ∷ []) >>= λ ds. Some (depth f ∷ ds) in
    let read : depths_from class m f (drop i before ++ last ∷ []) ≡ later g =
    ap (λ (ps : List Placed). depths_from class m f (ps ++ last ∷ [])) (drop_more before i d lt) ∙ depth_step class m f p (drop (i + 1) before) last ∙ ap (λ (o : Option Frame). o >>= later) e in
    sym (front_each front (depth f) (depths_from class m g (drop (i + 1) before ++ last ∷ []))) ∙ ap (with_front front) (sym read) ∙ so_far

-- an instruction that doesn't go on ends it all
pub depths_end : (error : ReadError) (class : ObjectClass) (m : Method) (front : List ℕ) (f : Frame) (before : List Placed) (i : ℕ) (d last : Placed) (total : Option (List ℕ)) → i < length before
    → Fails error (go_at class m.max_stack (get_or before i d).instruction f) → with_front front (depths_from class m f (drop i before ++ last ∷ [])) ≡ total → Fails error total
depths_end errors.Memory class m front f before i d last total lt fails so_far = tt
depths_end errors.Malformed class m front f before i d last total lt fails so_far =
    let p = get_or before i d in
    let later = λ (next : Frame). depths_from class m next (drop (i + 1) before ++ last ∷ []) >>= λ ds. Some (depth f ∷ ds) in
    let read : depths_from class m f (drop i before ++ last ∷ []) ≡ None =
    ap (λ (ps : List Placed). depths_from class m f (ps ++ last ∷ [])) (drop_more before i d lt) ∙ depth_step class m f p (drop (i + 1) before) last ∙ ap (λ (o : Option Frame). o >>= later) fails in
    sym so_far ∙ ap (with_front front) read

-- the last instruction is left
pub depths_done : (class : ObjectClass) (m : Method) (front : List ℕ) (f : Frame) (before : List Placed) (i : ℕ) (last : Placed) (total : Option (List ℕ)) → length before ≤ i
    → with_front front (depths_from class m f (drop i before ++ last ∷ [])) ≡ total → total ≡ cond (is_end last.instruction m.result f.stack) (Some (front ++ depth f ∷ [])) None
unfolding depths_from
depths_done class m front f before i last total le so_far =
    let read : depths_from class m f (drop i before ++ last ∷ []) ≡ cond (is_end last.instruction m.result f.stack) (Some (depth f ∷ [])) None =
    ap (λ (ps : List Placed). depths_from class m f (ps ++ last ∷ [])) (drop_all i before le) in
    sym so_far ∙ ap (with_front front) read ∙ chosen_front (is_end last.instruction m.result f.stack)
  where
    chosen_front : (b : _) → with_front front (cond b (Some (depth f ∷ [])) None) ≡ cond b (Some (front ++ depth f ∷ [])) None
    chosen_front b = elim b as (λ v. with_front front (cond v (Some (depth f ∷ [])) None) ≡ cond v (Some (front ++ depth f ∷ [])) None) [ true ↦ refl | _ ↦ refl ]

-- the code is what stands before its last instruction, and that
pub depths_of : (class : ObjectClass) (m : Method) (f : Frame) (items before : List Placed) (last : Placed) → items ≡ m.code → items ≡ before ++ last ∷ []
    → depths_from class m f m.code ≡ depths_from class m f (before ++ last ∷ [])
depths_of class m f items before last e h = ap (depths_from class m f) (sym e ∙ h)

-- ---- the relation

-- from this frame on the code has these frames
unfoldable Walks : ObjectClass → Method → Frame → List Placed → List Frame → Type 0
Walks class m f [] frames = ⊥
Walks class m f (last ∷ []) frames = (frames ≡ f ∷ []) × (last.instruction ≡ Return m.result) × ((rest : List Kind) × (f.stack ≡ rest ++ result_kinds m.result))
Walks class m f (first ∷ second ∷ others) frames =
    (g : Frame) × (rest : List Frame) × (frames ≡ f ∷ rest) × Goes class first.instruction f g × (depth g ≤ m.max_stack) × Walks class m g (second ∷ others) rest

depths_take : (class : ObjectClass) (m : Method) (f : Frame) (code : List Placed) (ds : List ℕ) → depths_from class m f code ≡ Some ds → (frames : List Frame) × Walks class m f code frames × (ds ≡ map depth frames)
unfolding depths_from Walks
depths_take class m f [] ds e = absurd cc
depths_take class m f (last ∷ []) ds e =
    let a = past_true (is_end last.instruction m.result f.stack) (Some (depth f ∷ [])) ds e in
    let t = end_takes last.instruction m.result f.stack a.0 in
    (f ∷ [], (refl, t.0, t.1), sym (some_is (depth f ∷ []) ds a.1))
depths_take class m f (first ∷ second ∷ others) ds e =
    let a = bind_some (go_at class m.max_stack first.instruction f) (λ next. depths_from class m next (second ∷ others) >>= λ rest. Some (depth f ∷ rest)) ds e in
    let b = bind_some (depths_from class m a.0 (second ∷ others)) (λ rest. Some (depth f ∷ rest)) ds a.2 in
    let g = go_takes class m.max_stack first.instruction f a.0 a.1 in
    let later = depths_take class m a.0 (second ∷ others) b.0 b.1 in
    (f ∷ later.0, (a.0, later.0, refl, g.0, g.1, later.1), sym (some_is (depth f ∷ b.0) ds b.2) ∙ ap (λ (r : List ℕ). depth f ∷ r) later.2)

depths_again : (class : ObjectClass) (m : Method) (f : Frame) (code : List Placed) (frames : List Frame) → Walks class m f code frames → depths_from class m f code ≡ Some (map depth frames)
unfolding depths_from Walks
depths_again class m f [] frames h = absurd h
depths_again class m f (last ∷ []) frames h =
    rw (end_again last.instruction m.result f.stack h.2.0 h.1 h.2.1) (ap (λ (fs : List Frame). Some (map depth fs)) (sym h.0))
depths_again class m f (first ∷ second ∷ others) frames h =
    rw (go_again class m.max_stack first.instruction f h.0 h.3 h.4, depths_again class m h.0 (second ∷ others) h.1 h.5) (ap (λ (fs : List Frame). Some (map depth fs)) (sym h.2))

-- ---- by index

record ByIndex (class : ObjectClass) (m : Method) (f : Frame) (code : List Placed) (frames : List Frame) : Type 0 where
  as_many : length frames ≡ length code
  starts : slice_get frames 0 ≡ Some f
  goes : (i : ℕ) (p : Placed) (x y : Frame) → slice_get code i ≡ Some p → slice_get frames i ≡ Some x → slice_get frames (suc i) ≡ Some y → Goes class p.instruction x y
  ends : (i : ℕ) (p : Placed) (x : Frame) → slice_get code i ≡ Some p → slice_get frames i ≡ Some x → suc i ≡ length code
      → (p.instruction ≡ Return m.result) × ((rest : List Kind) × (x.stack ≡ rest ++ result_kinds m.result))
  within : (i : ℕ) (x : Frame) → slice_get frames i ≡ Some x → depth x ≤ m.max_stack

one_goes : (class : ObjectClass) (f : Frame) (last : Placed) (i : ℕ) (p : Placed) (x y : Frame) → slice_get (f ∷ []) (suc i) ≡ Some y → Goes class p.instruction x y
one_goes class f last i p x y e = absurd (none-some y e)

one_ends : (m : Method) (f : Frame) (last : Placed) → (last.instruction ≡ Return m.result) × ((rest : List Kind) × (f.stack ≡ rest ++ result_kinds m.result)) → (i : ℕ) (p : Placed) (x : Frame)
    → slice_get (last ∷ []) i ≡ Some p → slice_get (f ∷ []) i ≡ Some x → (p.instruction ≡ Return m.result) × ((rest : List Kind) × (x.stack ≡ rest ++ result_kinds m.result))
one_ends m f last h zero p x at_p at_x =
    (ap (λ (q : Placed). q.instruction) (sym (some_is last p at_p)) ∙ h.0, (h.1.0, ap (λ (z : Frame). z.stack) (sym (some_is f x at_x)) ∙ h.1.1))
one_ends m f last h (suc i) p x at_p at_x = absurd (none-some p at_p)

first_within : (m : Method) (f : Frame) (rest : List Frame) → depth f ≤ m.max_stack → ((i : ℕ) (x : Frame) → slice_get rest i ≡ Some x → depth x ≤ m.max_stack) → (i : ℕ) (x : Frame)
    → slice_get (f ∷ rest) i ≡ Some x → depth x ≤ m.max_stack
first_within m f rest le later zero x e = subst (λ (z : Frame). depth z ≤ m.max_stack) (some_is f x e) le
first_within m f rest le later (suc i) x e = later i x e

first_goes : (class : ObjectClass) (f g : Frame) (first : Placed) (code : List Placed) (rest : List Frame) → Goes class first.instruction f g → slice_get rest 0 ≡ Some g
    → ((i : ℕ) (p : Placed) (x y : Frame) → slice_get code i ≡ Some p → slice_get rest i ≡ Some x → slice_get rest (suc i) ≡ Some y → Goes class p.instruction x y)
    → (i : ℕ) (p : Placed) (x y : Frame) → slice_get (first ∷ code) i ≡ Some p → slice_get (f ∷ rest) i ≡ Some x → slice_get (f ∷ rest) (suc i) ≡ Some y → Goes class p.instruction x y
first_goes class f g first code rest goes starts later zero p x y at_p at_x at_y =
    let is_p = some_is first p at_p in
    let is_x = some_is f x at_x in
    let is_y = some_is g y (sym starts ∙ at_y) in
    subst (λ (q : Placed). Goes class q.instruction x y) is_p (subst (λ (z : Frame). Goes class first.instruction z y) is_x (subst (Goes class first.instruction f) is_y goes))
first_goes class f g first code rest goes starts later (suc i) p x y at_p at_x at_y = later i p x y at_p at_x at_y

first_ends : (m : Method) (f : Frame) (first second : Placed) (others : List Placed) (rest : List Frame)
    → ((i : ℕ) (p : Placed) (x : Frame) → slice_get (second ∷ others) i ≡ Some p → slice_get rest i ≡ Some x → suc i ≡ length (second ∷ others)
    → (p.instruction ≡ Return m.result) × ((r : List Kind) × (x.stack ≡ r ++ result_kinds m.result)))
    → (i : ℕ) (p : Placed) (x : Frame) → slice_get (first ∷ second ∷ others) i ≡ Some p → slice_get (f ∷ rest) i ≡ Some x → suc i ≡ length (first ∷ second ∷ others)
    → (p.instruction ≡ Return m.result) × ((r : List Kind) × (x.stack ≡ r ++ result_kinds m.result))
first_ends m f first second others rest later zero p x at_p at_x e = absurd (omega (arith, e))
first_ends m f first second others rest later (suc i) p x at_p at_x e = later i p x at_p at_x (omega (arith, e))

by_index : (class : ObjectClass) (m : Method) (f : Frame) (code : List Placed) (frames : List Frame) → depth f ≤ m.max_stack → Walks class m f code frames → ByIndex class m f code frames
unfolding Walks
by_index class m f [] frames le h = absurd h
by_index class m f (last ∷ []) frames le h =
    subst (ByIndex class m f (last ∷ [])) (sym h.0)
    (record {
      as_many = refl;
      starts = refl;
      goes = λ i p x y at_p at_x at_y. one_goes class f last i p x y at_y;
      ends = λ i p x at_p at_x e. one_ends m f last (h.1, h.2) i p x at_p at_x;
      within = first_within m f [] le (λ i x e. absurd (none-some x e));
    })
by_index class m f (first ∷ second ∷ others) frames le h =
    let g = h.0 in
    let rest = h.1 in
    let later = by_index class m g (second ∷ others) rest h.4 h.5 in
    subst (ByIndex class m f (first ∷ second ∷ others)) (sym h.2)
    (record {
      as_many = ap suc later.as_many;
      starts = refl;
      goes = first_goes class f g first (second ∷ others) rest h.3 later.starts later.goes;
      ends = first_ends m f first second others rest later.ends;
      within = first_within m f rest le later.within;
    })

from_index : (class : ObjectClass) (m : Method) (f : Frame) (code : List Placed) (frames : List Frame) → ByIndex class m f code frames → Walks class m f code frames
unfolding Walks
from_index class m f code [] h = absurd (none-some f h.starts)
from_index class m f [] (x ∷ frames) h = let n = h.as_many in absurd (omega (arith, n))
from_index class m f (last ∷ []) (x ∷ []) h =
    let is = some_is x f h.starts in
    let e = h.ends 0 last x refl refl refl in
    (ap (λ (z : Frame). z ∷ []) is, e.0, (e.1.0, ap (λ (z : Frame). z.stack) (sym is) ∙ e.1.1))
from_index class m f (last ∷ []) (x ∷ y ∷ frames) h = let n = h.as_many in absurd (omega (arith, n))
from_index class m f (first ∷ second ∷ others) (x ∷ []) h = let n = h.as_many in absurd (omega (arith, n))
from_index class m f (first ∷ second ∷ others) (x ∷ y ∷ frames) h =
    let is = some_is x f h.starts in
    let many = h.as_many in
    let later = from_index class m y (second ∷ others) (y ∷ frames) (record {
      as_many = omega (arith, many);
      starts = refl;
      goes = λ i p a b at_p at_a at_b. h.goes (suc i) p a b at_p at_a at_b;
      ends = λ i p a at_p at_a e. h.ends (suc i) p a at_p at_a (ap suc e);
      within = λ i a e. h.within (suc i) a e;
    }) in
    let goes = subst (λ (z : Frame). Goes class first.instruction z y) is (h.goes 0 first x y refl refl refl) in
    (y, y ∷ frames, ap (λ (z : Frame). z ∷ y ∷ frames) is, goes, h.within 1 y refl, later)

-- ---- the walk of a method

pub walk_takes : (class : ObjectClass) (m : Method) (ds : List ℕ) → depths_at class m ≡ Some ds → (frames : List Frame) × IsWalk class m frames × (ds ≡ map depth frames)
unfolding depths_at
walk_takes class m ds e =
    let a = past_true (leb (length m.arguments) m.max_locals) (depths_from class m (start m) m.code) ds e in
    let t = depths_take class m (start m) m.code ds a.1 in
    let b = by_index class m (start m) m.code t.0 (omega arith) t.1 in
    (t.0, record { as_many = b.as_many; arguments_fit = (Decides-leb (length m.arguments) m.max_locals).0 a.0; starts = b.starts; goes = b.goes; ends = b.ends; within = b.within }, t.2)

pub walk_again : (class : ObjectClass) (m : Method) (frames : List Frame) → IsWalk class m frames → depths_at class m ≡ Some (map depth frames)
unfolding depths_at
walk_again class m frames h =
    let b : ByIndex class m (start m) m.code frames = record { as_many = h.as_many; starts = h.starts; goes = h.goes; ends = h.ends; within = h.within } in
    rw ((Decides-leb (length m.arguments) m.max_locals).1 h.arguments_fit) (depths_again class m (start m) m.code frames (from_index class m (start m) m.code frames b))

-- ---- what the reader found

pub walk_found : (class : ObjectClass) (m : Method) (r : Result (Vec ℕ Global) ReadError) → Gives (λ v. v.items) r (depths_at class m)
    → IfOk r (λ v. (frames : List Frame) × IsWalk class m frames × (v.items ≡ map (λ f. length f.stack) frames))
walk_found class m (Ok v) given = walk_takes class m v.items given
walk_found class m (Err e) given = tt

pub walk_malformed : (class : ObjectClass) (m : Method) (r : Result (Vec ℕ Global) ReadError) → Gives (λ v. v.items) r (depths_at class m)
    → r ≡ Err errors.Malformed → (frames : List Frame) → IsWalk class m frames → ⊥
walk_malformed class m (Ok v) given e frames h = absurd cc
walk_malformed class m (Err errors.Memory) given e frames h = absurd cc
walk_malformed class m (Err errors.Malformed) given e frames h = absurd (none-some (map depth frames) (sym given ∙ walk_again class m frames h))
