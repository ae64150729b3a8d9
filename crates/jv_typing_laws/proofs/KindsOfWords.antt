-- The kinds of words: those of joined words, of what may stand for others, and what says no more than others.
use Rattle.std.proofs.Common.{◌≡◌, ℕ, zero, suc, ◌+◌, Bool, true, false, List, [], ◌∷◌, ◌++◌, length, take, drop, Some, slice_get, refl, sym, ap, ◌∙◌, subst, ◌⊎◌, inl, inr, arith}
use Rattle.std.specs.List.{AllZip}
use Rattle.jv_lists.proofs.Tests.{not_true}
use Rattle.jv_table.specs.declared.code_tables.Cell.{Cell}
use Rattle.jv_table.specs.declared.code_tables.Cell.TheVariants.{Int, Float, Long, Double, Ref, Null}
use Rattle.jv_types.specs.declared.shapes.Shape.{Shape}
use Rattle.jv_types.specs.declared.frames.VType.{VType, Top}
use Rattle.jv_types.specs.declared.frames.VType as types
use Rattle.jv_insn.specs.Kinds.{HoldsCell, is_reference, is_wide, WordKind, Word, Reference, Unknown, cell_words, kind_of, kinds_after, SaysOnly}
use Rattle.jv_frames.specs.Types.{is_array, is_object}
use Rattle.jv_frames.specs.Assignable.{IsAssignable, same, to_top, of_null, of_class, of_array, of_items}
use Rattle.jv_insn.proofs.HeldCells.{reference_kind}
use Rattle.jv_frames.proofs.Arrays.{is_object-Array}
use Rattle.jv_typing.specs.Typing.{is_top}
use Rattle.jv_typing.specs.Transitions.{IsReplaced, AreReplaced}
use Rattle.jv_typing_laws.specs.Formed.{are_formed}
use Rattle.jv_typing_laws.proofs.OneFrame.{is_uninit, same_head}
use Rattle.jv_typing_laws.proofs.FormedWords.{head_parts, fits_behind, MayReplace, uninit_no_second, uninit_narrow}

-- ---- joined words

pub kinds_join : (second : Bool) (xs ys : List VType) → are_formed second xs ≡ true → kinds_after second (xs ++ ys) ≡ kinds_after second xs ++ kinds_after false ys
kinds_join second [] ys f = ap (λ (b : Bool). kinds_after b ys) (not_true second f)
kinds_join second (x ∷ xs) ys f = ap (λ (ks : List WordKind). kind_of second x ∷ ks) (kinds_join (is_wide x) xs ys (head_parts second x xs f).rest)

pub kinds_long : (second : Bool) (xs : List VType) → length (kinds_after second xs) ≡ length xs
kinds_long second [] = refl
kinds_long second (x ∷ xs) = ap suc (kinds_long (is_wide x) xs)

-- ---- kinds that say no more than others, place by place

abbrev pub IsLess : WordKind → WordKind → Type 0
IsLess said kind = (said ≡ Unknown) ⊎ (said ≡ kind)

pub less_says : (said kinds : List WordKind) → AllZip IsLess said kinds → SaysOnly said kinds
less_says [] [] z place kind e = absurd cc
less_says [] (k ∷ kinds) z place kind e = absurd z
less_says (s ∷ said) [] z place kind e = absurd z
less_says (s ∷ said) (k ∷ kinds) z zero kind e = by z.0
  where
    own : s ≡ kind
    own = cc

    by : IsLess s k → (kind ≡ Unknown) ⊎ (Some k ≡ Some kind)
    by (inl h) = inl (sym own ∙ h)
    by (inr h) = inr (ap Some (sym h ∙ own))
less_says (s ∷ said) (k ∷ kinds) z (suc place) kind e = less_says said kinds z.1 place kind e

pub less_long : (said kinds : List WordKind) → AllZip IsLess said kinds → length said ≡ length kinds
less_long [] [] z = refl
less_long [] (k ∷ kinds) z = absurd z
less_long (s ∷ said) [] z = absurd z
less_long (s ∷ said) (k ∷ kinds) z = ap suc (less_long said kinds z.1)

pub less_itself : (kinds : List WordKind) → AllZip IsLess kinds kinds
less_itself [] = tt
less_itself (k ∷ kinds) = (inr refl, less_itself kinds)

pub says_itself : (kinds : List WordKind) → SaysOnly kinds kinds
says_itself kinds place kind e = inr e

pub says_through : (a b c : List WordKind) → SaysOnly a b → SaysOnly b c → SaysOnly a c
says_through a b c f g place kind e = by (f place kind e)
  where
    by : (kind ≡ Unknown) ⊎ (slice_get b place ≡ Some kind) → (kind ≡ Unknown) ⊎ (slice_get c place ≡ Some kind)
    by (inl h) = inl h
    by (inr h) = g place kind h

-- ---- what is assignable

-- only itself is assignable to a type that is neither Top nor an object's
pub plain_same : (w : List Shape) (a b : VType) → is_top b ≡ false → is_object b ≡ false → IsAssignable w a b → a ≡ b
plain_same w a b t o (same _ _ e) = e
plain_same w a b t o (to_top _ _ e) = absurd (let wrong : true ≡ false = ap is_top (sym e) ∙ t in absurd cc)
plain_same w a b t o (of_null _ _ e h) = absurd (let wrong : false ≡ true = sym o ∙ h in absurd cc)
plain_same w a b t o (of_class _ _ name of e f h) = absurd (let wrong : false ≡ true = sym o ∙ ap is_object f in absurd cc)
plain_same w a b t o (of_array _ _ of i f h) = absurd (let wrong : false ≡ true = sym o ∙ ap is_object f in absurd cc)
plain_same w a b t o (of_items _ _ item other e f h) = absurd (let wrong : false ≡ true = sym o ∙ ap is_object f ∙ is_object-Array other in absurd cc)

object_reference : (type : VType) → is_object type ≡ true → is_reference type ≡ true
object_reference types.Top e = absurd cc
object_reference types.Integer e = absurd cc
object_reference types.Float e = absurd cc
object_reference types.Long e = absurd cc
object_reference types.Double e = absurd cc
object_reference types.Null e = refl
object_reference types.UninitThis e = refl
object_reference (types.Uninit pc) e = refl
object_reference (types.Class name) e = refl
object_reference (types.PrimArray prim) e = refl
object_reference (types.Array' shape all) e = refl

array_object : (type : VType) → is_array type ≡ true → is_object type ≡ true
array_object types.Top e = absurd cc
array_object types.Integer e = absurd cc
array_object types.Float e = absurd cc
array_object types.Long e = absurd cc
array_object types.Double e = absurd cc
array_object types.Null e = absurd cc
array_object types.UninitThis e = absurd cc
array_object (types.Uninit pc) e = absurd cc
array_object (types.Class name) e = absurd cc
array_object (types.PrimArray prim) e = refl
array_object (types.Array' shape all) e = refl

-- references alone are assignable to an object's type
pub to_object : (w : List Shape) (a b : VType) → is_object b ≡ true → IsAssignable w a b → is_reference a ≡ true
to_object w a b o (same _ _ e) = object_reference a (ap is_object e ∙ o)
to_object w a b o (to_top _ _ e) = absurd (let wrong : false ≡ true = ap is_object (sym e) ∙ o in absurd cc)
to_object w a b o (of_null _ _ e h) = ap is_reference e
to_object w a b o (of_class _ _ name of e f h) = ap is_reference e
to_object w a b o (of_array _ _ of i f h) = object_reference a (array_object a i)
to_object w a b o (of_items _ _ item other e f h) = object_reference a (ap is_object e ∙ is_object-Array item)

top_is : (type : VType) → is_top type ≡ true → type ≡ Top
top_is types.Top e = refl
top_is types.Integer e = absurd cc
top_is types.Float e = absurd cc
top_is types.Long e = absurd cc
top_is types.Double e = absurd cc
top_is types.Null e = absurd cc
top_is types.UninitThis e = absurd cc
top_is (types.Uninit pc) e = absurd cc
top_is (types.Class name) e = absurd cc
top_is (types.PrimArray prim) e = absurd cc
top_is (types.Array' shape all) e = absurd cc

-- the kind of Top behind the first word of two is that of what stands there
top_less : (second after : Bool) (type : VType) → (after ≡ true → second ≡ true) → fits_behind second type ≡ true → IsLess (kind_of after Top) (kind_of second type)
top_less second false type more b = inl refl
top_less second true type more b =
    let is : second ≡ true = more refl in
    let top : type ≡ Top = top_is type (ap (λ (s : Bool). fits_behind s type) (sym is) ∙ b) in
    inr (sym (ap (λ (s : Bool). kind_of s type) is ∙ ap (kind_of true) top))

plain_less : (w : List Shape) (second after : Bool) (a b : VType) → is_top b ≡ false → is_object b ≡ false → kind_of after b ≡ kind_of second b → IsAssignable w a b → IsLess (kind_of after b) (kind_of second a)
plain_less w second after a b t o k h = inr (k ∙ ap (kind_of second) (sym (plain_same w a b t o h)))

object_less : (w : List Shape) (second after : Bool) (a b : VType) → is_object b ≡ true → kind_of after b ≡ Reference → IsAssignable w a b → IsLess (kind_of after b) (kind_of second a)
object_less w second after a b o k h = inr (k ∙ sym (reference_kind second a (to_object w a b o h)))

kind_less : (w : List Shape) (second after : Bool) (a b : VType) → (after ≡ true → second ≡ true) → fits_behind second a ≡ true → IsAssignable w a b → IsLess (kind_of after b) (kind_of second a)
kind_less w second after a types.Top more fits h = top_less second after a more fits
kind_less w second after a types.Integer more fits h = plain_less w second after a types.Integer refl refl refl h
kind_less w second after a types.Float more fits h = plain_less w second after a types.Float refl refl refl h
kind_less w second after a types.Long more fits h = plain_less w second after a types.Long refl refl refl h
kind_less w second after a types.Double more fits h = plain_less w second after a types.Double refl refl refl h
kind_less w second after a types.Null more fits h = plain_less w second after a types.Null refl refl refl h
kind_less w second after a types.UninitThis more fits h = plain_less w second after a types.UninitThis refl refl refl h
kind_less w second after a (types.Uninit pc) more fits h = plain_less w second after a (types.Uninit pc) refl refl refl h
kind_less w second after a (types.Class name) more fits h = object_less w second after a (types.Class name) refl refl h
kind_less w second after a (types.PrimArray prim) more fits h = object_less w second after a (types.PrimArray prim) refl refl h
kind_less w second after a (types.Array' shape all) more fits h = object_less w second after a (types.Array' shape all) refl refl h

wide_same : (w : List Shape) (a b : VType) → IsAssignable w a b → is_wide b ≡ true → is_wide a ≡ true
wide_same w a types.Top h e = absurd cc
wide_same w a types.Integer h e = absurd cc
wide_same w a types.Float h e = absurd cc
wide_same w a types.Long h e = ap is_wide (plain_same w a types.Long refl refl h)
wide_same w a types.Double h e = ap is_wide (plain_same w a types.Double refl refl h)
wide_same w a types.Null h e = absurd cc
wide_same w a types.UninitThis h e = absurd cc
wide_same w a (types.Uninit pc) h e = absurd cc
wide_same w a (types.Class name) h e = absurd cc
wide_same w a (types.PrimArray prim) h e = absurd cc
wide_same w a (types.Array' shape all) h e = absurd cc

-- words say no more than those that are assignable to them
pub assignable_less : (w : List Shape) (second after : Bool) (xs ys : List VType) → (after ≡ true → second ≡ true) → are_formed second xs ≡ true → AllZip (IsAssignable w) xs ys → AllZip IsLess (kinds_after after ys) (kinds_after second xs)
assignable_less w second after [] [] more f z = tt
assignable_less w second after [] (y ∷ ys) more f z = absurd z
assignable_less w second after (x ∷ xs) [] more f z = absurd z
assignable_less w second after (x ∷ xs) (y ∷ ys) more f z =
    let parts = head_parts second x xs f in
    (kind_less w second after x y more parts.behind z.0, assignable_less w (is_wide x) (is_wide y) xs ys (wide_same w x y z.0) parts.rest z.1)

-- ---- types in place of others

replaced_less : (second : Bool) (old new x y : VType) → MayReplace old new → IsReplaced old new x y → fits_behind second x ≡ true → IsLess (kind_of second y) (kind_of second x)
replaced_less second old new x y may (inr h) fits = inr (ap (kind_of second) h.1)
replaced_less second old new x y may (inl h) fits = by may.new_is
  where
    first : second ≡ false
    first = uninit_no_second second old x may.old_is h.0 fits

    uninit_reference : (type : VType) → is_uninit type ≡ true → is_reference type ≡ true
    uninit_reference types.Top e = absurd cc
    uninit_reference types.Integer e = absurd cc
    uninit_reference types.Float e = absurd cc
    uninit_reference types.Long e = absurd cc
    uninit_reference types.Double e = absurd cc
    uninit_reference types.Null e = refl
    uninit_reference types.UninitThis e = refl
    uninit_reference (types.Uninit pc) e = refl
    uninit_reference (types.Class name) e = refl
    uninit_reference (types.PrimArray prim) e = refl
    uninit_reference (types.Array' shape all) e = refl

    before : kind_of second x ≡ Reference
    before = reference_kind second x (ap is_reference h.0 ∙ uninit_reference old may.old_is)

    by : (new ≡ Top) ⊎ (is_reference new ≡ true) → IsLess (kind_of second y) (kind_of second x)
    by (inl top) = inl (ap (λ (s : Bool). kind_of s y) first ∙ ap (kind_of false) (h.1 ∙ top))
    by (inr reference) = inr (reference_kind second y (ap is_reference h.1 ∙ reference) ∙ sym before)

replaced_wide : (old new x y : VType) → MayReplace old new → IsReplaced old new x y → is_wide y ≡ is_wide x
replaced_wide old new x y may (inl h) = ap is_wide h.1 ∙ may.narrow ∙ sym (ap is_wide h.0 ∙ uninit_narrow old may.old_is)
replaced_wide old new x y may (inr h) = ap is_wide h.1

pub all_replaced_less : (second : Bool) (old new : VType) (xs ys : List VType) → MayReplace old new → are_formed second xs ≡ true → AreReplaced old new xs ys → AllZip IsLess (kinds_after second ys) (kinds_after second xs)
all_replaced_less second old new [] [] may f r = tt
all_replaced_less second old new [] (y ∷ ys) may f r = absurd r
all_replaced_less second old new (x ∷ xs) [] may f r = absurd r
all_replaced_less second old new (x ∷ xs) (y ∷ ys) may f r =
    let parts = head_parts second x xs f in
    let rest = all_replaced_less (is_wide x) old new xs ys may parts.rest r.1 in
    let same_rest : kinds_after (is_wide y) ys ≡ kinds_after (is_wide x) ys = ap (λ (s : Bool). kinds_after s ys) (replaced_wide old new x y may r.0) in
    (replaced_less second old new x y may r.0 parts.behind, subst (λ (ks : List WordKind). AllZip IsLess ks (kinds_after (is_wide x) xs)) (sym same_rest) rest)

-- ---- a local variable that holds a cell

second_is : (t u v x : VType) → t ∷ v ∷ [] ≡ u ∷ x ∷ [] → v ≡ x
second_is t u v x e = cc

no_words : (cell : Cell) → HoldsCell cell [] → ⊥
no_words Int h = absurd cc
no_words Float h = absurd cc
no_words Long h = absurd cc
no_words Double h = absurd cc
no_words Ref h = let e = h.1.0 in absurd cc
no_words Null h = absurd cc

-- one word that has the kind of a cell
one_kind : (second : Bool) (type own : VType) (rest : List VType) (kind found : WordKind) (n : ℕ) → type ≡ own → kind_of second own ≡ kind → slice_get (kind ∷ []) n ≡ Some found → slice_get (kinds_after second (type ∷ rest)) n ≡ Some found
one_kind second type own rest kind found zero e k at = ap Some (ap (kind_of second) e ∙ k) ∙ at
one_kind second type own rest kind found (suc n) e k at = absurd cc

two_kinds : (second : Bool) (type own next : VType) (rest : List VType) (found : WordKind) (n : ℕ) → type ≡ own → next ≡ Top → is_wide own ≡ true → kind_of second own ≡ Word → slice_get (Word ∷ Word ∷ []) n ≡ Some found
    → slice_get (kinds_after second (type ∷ next ∷ rest)) n ≡ Some found
two_kinds second type own next rest found zero e t wide k at = ap Some (ap (kind_of second) e ∙ k) ∙ at
two_kinds second type own next rest found (suc zero) e t wide k at = ap Some (ap (λ (b : Bool). kind_of b next) (ap is_wide e ∙ wide) ∙ ap (kind_of true) t) ∙ at
two_kinds second type own next rest found (suc (suc n)) e t wide k at = absurd cc

held_first : (second : Bool) (locals : List VType) (cell : Cell) (n : ℕ) (kind : WordKind) → HoldsCell cell (take (length (cell_words cell)) locals) → slice_get (cell_words cell) n ≡ Some kind
    → slice_get (kinds_after second locals) n ≡ Some kind
held_first second [] cell n kind h at = absurd (no_words cell (nothing cell h))
  where
    nothing : (cell : Cell) → HoldsCell cell (take (length (cell_words cell)) []) → HoldsCell cell []
    nothing Int h = h
    nothing Float h = h
    nothing Long h = h
    nothing Double h = h
    nothing Ref h = h
    nothing Null h = h
held_first second (t ∷ ts) Int n kind h at = one_kind second t types.Integer ts Word kind n (same_head t types.Integer [] [] h) refl at
held_first second (t ∷ ts) Float n kind h at = one_kind second t types.Float ts Word kind n (same_head t types.Float [] [] h) refl at
held_first second (t ∷ []) Long n kind h at = absurd cc
held_first second (t ∷ u ∷ ts) Long n kind h at = two_kinds second t types.Long u ts kind n (same_head t types.Long (u ∷ []) (Top ∷ []) h) (second_is t types.Long u Top h) refl refl at
held_first second (t ∷ []) Double n kind h at = absurd cc
held_first second (t ∷ u ∷ ts) Double n kind h at = two_kinds second t types.Double u ts kind n (same_head t types.Double (u ∷ []) (Top ∷ []) h) (second_is t types.Double u Top h) refl refl at
held_first second (t ∷ ts) Ref n kind h at = one_kind second t h.0 ts Reference kind n (same_head t h.0 [] [] h.1.0) (reference_kind second h.0 h.1.1) at
held_first second (t ∷ ts) Null n kind h at = one_kind second t types.Null ts Reference kind n (same_head t types.Null [] [] h) refl at

pub held_local : (second : Bool) (locals : List VType) (cell : Cell) (local n place : ℕ) (kind : WordKind) → place ≡ local + n → HoldsCell cell (take (length (cell_words cell)) (drop local locals)) → slice_get (cell_words cell) n ≡ Some kind
    → slice_get (kinds_after second locals) place ≡ Some kind
held_local second locals cell zero n place kind e h at =
    let same : place ≡ n = omega (arith, e) in
    ap (slice_get (kinds_after second locals)) same ∙ held_first second locals cell n kind h at
held_local second [] cell (suc local) n place kind e h at = absurd (no_words cell (nothing cell h))
  where
    nothing : (cell : Cell) → HoldsCell cell (take (length (cell_words cell)) (drop (suc local) [])) → HoldsCell cell []
    nothing Int h = h
    nothing Float h = h
    nothing Long h = h
    nothing Double h = h
    nothing Ref h = h
    nothing Null h = h
held_local second (t ∷ locals) cell (suc local) n zero kind e h at = absurd (omega (arith, e))
held_local second (t ∷ locals) cell (suc local) n (suc place) kind e h at = held_local (is_wide t) locals cell local n place kind (omega (arith, e)) h at
