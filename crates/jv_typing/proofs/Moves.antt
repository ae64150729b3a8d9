-- The forms of the instructions that move words: each is tried on every list of kinds of words.
use Rattle.std.proofs.Common.{◌≡◌, ℕ, Bool, true, false, if◌then◌else◌, List, [], ◌∷◌, map, length, Option, Some, None, slice_index_or, refl, sym, ◌∙◌, subst, arith}
use Rattle.std.specs.Prelude.{◌&&◌, not, zero, suc}
use Rattle.std.specs.List.{list_any}
use Rattle.std.specs.Ordering.{nat_cmp}
use Rattle.std.specs.declared.cmp.Ordering.{Ordering}
use Rattle.std.specs.declared.cmp.Ordering.TheVariants.{Less, Equal, Greater}
use Rattle.std.proofs.lemmas.Bool.{and_parts}
use Rattle.std.proofs.Math.ListN.{get_or-map}
use Rattle.std.proofs.lemmas.Map.Lookups.{exact_unsigned}
use Rattle.std.proofs.lemmas.List.{length-map}
use Rattle.jv_table.specs.Rows.{row_of}
use Rattle.jv_types.specs.declared.frames.VType.{VType, Top, Array'}
use Rattle.jv_types.specs.declared.frames.VType as types
use Rattle.jv_insn.specs.Effects.{Shuffle, shuffles, shuffle_of}
use Rattle.jv_insn.specs.Kinds.{is_wide}
use Rattle.jv_typing.specs.Typing.{is_top, are_whole, in_order, Size, One, Two, has_sizes, forms_of}

-- ---- kinds of words

-- a Top, a word that is a value by itself, or the first word of two
data Kind : Type 0 where
  Empty : Kind
  Single : Kind
  First : Kind

abbrev top_kind : Kind → Bool
top_kind Empty = true
top_kind Single = false
top_kind First = false

abbrev wide_kind : Kind → Bool
wide_kind Empty = false
wide_kind Single = false
wide_kind First = true

abbrev kind : VType → Kind
kind types.Top = Empty
kind types.Integer = Single
kind types.Float = Single
kind types.Long = First
kind types.Double = First
kind types.Null = Single
kind types.UninitThis = Single
kind (types.Uninit pc) = Single
kind (types.Class name) = Single
kind (types.PrimArray prim) = Single
kind (types.Array' shape all) = Single

top_of : (type : VType) → is_top type ≡ top_kind (kind type)
top_of types.Top = refl
top_of types.Integer = refl
top_of types.Float = refl
top_of types.Long = refl
top_of types.Double = refl
top_of types.Null = refl
top_of types.UninitThis = refl
top_of (types.Uninit pc) = refl
top_of (types.Class name) = refl
top_of (types.PrimArray prim) = refl
top_of (types.Array' shape all) = refl

wide_of : (type : VType) → is_wide type ≡ wide_kind (kind type)
wide_of types.Top = refl
wide_of types.Integer = refl
wide_of types.Float = refl
wide_of types.Long = refl
wide_of types.Double = refl
wide_of types.Null = refl
wide_of types.UninitThis = refl
wide_of (types.Uninit pc) = refl
wide_of (types.Class name) = refl
wide_of (types.PrimArray prim) = refl
wide_of (types.Array' shape all) = refl

-- the tests of words, by their kinds
abbrev whole_kinds : Bool → List Kind → Bool
whole_kinds second [] = not second
whole_kinds second (k ∷ ks) = (if second then top_kind k else not (top_kind k)) && whole_kinds (wide_kind k) ks

whole_by_kinds : (second : Bool) (words : List VType) → are_whole second words ≡ whole_kinds second (map kind words)
whole_by_kinds second [] = refl
whole_by_kinds second (type ∷ words) = rw (top_of type, wide_of type, whole_by_kinds (wide_kind (kind type)) words) refl

abbrev sizes_kinds : List Size → List Kind → Bool
sizes_kinds [] [] = true
sizes_kinds [] (k ∷ ks) = false
sizes_kinds (size ∷ sizes) [] = false
sizes_kinds (One ∷ sizes) (k ∷ ks) = (not (top_kind k) && not (wide_kind k)) && sizes_kinds sizes ks
sizes_kinds (Two ∷ sizes) (k ∷ []) = false
sizes_kinds (Two ∷ sizes) (k ∷ next ∷ ks) = (wide_kind k && top_kind next) && sizes_kinds sizes ks

sizes_by_kinds : (sizes : List Size) (words : List VType) → has_sizes sizes words ≡ sizes_kinds sizes (map kind words)
sizes_by_kinds [] [] = refl
sizes_by_kinds [] (type ∷ words) = refl
sizes_by_kinds (One ∷ sizes) [] = refl
sizes_by_kinds (Two ∷ sizes) [] = refl
sizes_by_kinds (One ∷ sizes) (type ∷ words) = rw (top_of type, wide_of type, sizes_by_kinds sizes words) refl
sizes_by_kinds (Two ∷ sizes) (type ∷ []) = refl
sizes_by_kinds (Two ∷ sizes) (type ∷ next ∷ words) = rw (wide_of type, top_of next, sizes_by_kinds sizes words) refl

forms_by_kinds : (forms : List (List Size)) (words : List VType) → list_any (λ form. has_sizes form words) forms ≡ list_any (λ form. sizes_kinds form (map kind words)) forms
forms_by_kinds [] words = refl
forms_by_kinds (form ∷ forms) words = rw (sizes_by_kinds form words, forms_by_kinds forms words) refl

abbrev order_kinds : List ℕ → List Kind → List Kind
order_kinds order ks = map (λ (place : ℕ). slice_index_or ks place Empty) order

order_by_kinds : (order : List ℕ) (words : List VType) → map kind (in_order order words) ≡ order_kinds order (map kind words)
order_by_kinds [] words = refl
order_by_kinds (place ∷ order) words =
    let first : slice_index_or (map kind words) place Empty ≡ kind (slice_index_or words place Top) = get_or-map kind words place Top in
    rw (first, order_by_kinds order words) refl

-- ---- all lists of kinds

abbrev all_lists : ℕ → (List Kind → Bool) → Bool
all_lists zero test = test []
all_lists (suc n) test =
    all_lists n (λ (ks : List Kind). test (Empty ∷ ks)) && (all_lists n (λ (ks : List Kind). test (Single ∷ ks)) && all_lists n (λ (ks : List Kind). test (First ∷ ks)))

each_list : (n : ℕ) (test : List Kind → Bool) → all_lists n test ≡ true → (ks : List Kind) → length ks ≡ n → test ks ≡ true
each_list zero test all [] e = all
each_list zero test all (k ∷ ks) e = absurd cc
each_list (suc n) test all [] e = absurd cc
each_list (suc n) test all (k ∷ ks) e =
    let parts = and_parts (all_lists n (λ (ks : List Kind). test (Empty ∷ ks))) (all_lists n (λ (ks : List Kind). test (Single ∷ ks)) && all_lists n (λ (ks : List Kind). test (First ∷ ks))) all in
    let more = and_parts (all_lists n (λ (ks : List Kind). test (Single ∷ ks))) (all_lists n (λ (ks : List Kind). test (First ∷ ks))) parts.1 in
    let long : length ks ≡ n = omega (arith, e) in
    by_kind k (each_list n (λ (ks : List Kind). test (Empty ∷ ks)) parts.0 ks long) (each_list n (λ (ks : List Kind). test (Single ∷ ks)) more.0 ks long) (each_list n (λ (ks : List Kind). test (First ∷ ks)) more.1 ks long)
  where
    by_kind : (k : Kind) → test (Empty ∷ ks) ≡ true → test (Single ∷ ks) ≡ true → test (First ∷ ks) ≡ true → test (k ∷ ks) ≡ true
    by_kind Empty e s f = e
    by_kind Single e s f = s
    by_kind First e s f = f

-- ---- the forms

abbrev same : Bool → Bool → Bool
same true b = b
same false b = not b

same_is : (a b : Bool) → same a b ≡ true → a ≡ b
same_is true true e = refl
same_is true false e = absurd cc
same_is false true e = absurd cc
same_is false false e = refl

abbrev formed : Shuffle → List (List Size) → List Kind → Bool
formed shuffle forms ks = same (whole_kinds false ks && whole_kinds false (order_kinds shuffle.order ks)) (list_any (λ form. sizes_kinds form ks) forms)

abbrev row_formed : ℕ → Shuffle → Bool
row_formed op shuffle = by_forms (forms_of op)
  where
    by_forms : Option (List (List Size)) → Bool
    by_forms None = false
    by_forms (Some forms) = all_lists shuffle.count (formed shuffle forms)

abbrev rows_formed : List (ℕ × Shuffle) → Bool
rows_formed [] = true
rows_formed (row ∷ rows) = row_formed row.0 row.1 && rows_formed rows

all_formed : rows_formed shuffles ≡ true
all_formed = refl

equal_is : (m n : ℕ) → nat_cmp m n ≡ Equal → n ≡ m
equal_is m n e = sym (exact_unsigned m n e)

found_formed : (rows : List (ℕ × Shuffle)) → rows_formed rows ≡ true → (op : ℕ) (shuffle : Shuffle) → row_of nat_cmp op rows ≡ Some shuffle → row_formed op shuffle ≡ true
found_formed [] n op found e = absurd cc
found_formed (row ∷ rows) n op found e =
    let parts = and_parts (row_formed row.0 row.1) (rows_formed rows) n in
    by_head (nat_cmp op row.0) refl parts.0 (found_formed rows parts.1 op found)
  where
    by_head : (r : Ordering) → nat_cmp op row.0 ≡ r → row_formed row.0 row.1 ≡ true → (row_of nat_cmp op rows ≡ Some found → row_formed op found ≡ true) → row_formed op found ≡ true
    by_head Less c own more = more (rw c at e)
    by_head Equal c own more =
        let is : Some row.1 ≡ Some found = rw c at e in
        let it : row.1 ≡ found = cc in
        subst (λ (s : Shuffle). row_formed op s ≡ true) it (subst (λ (k : ℕ). row_formed k row.1 ≡ true) (equal_is op row.0 c) own)
    by_head Greater c own more = more (rw c at e)

pub have_forms : (op : ℕ) (shuffle : Shuffle) (forms : List (List Size)) (words : List VType) → shuffle_of op ≡ Some shuffle → forms_of op ≡ Some forms → length words ≡ shuffle.count
    → (are_whole false words && are_whole false (in_order shuffle.order words)) ≡ list_any (λ form. has_sizes form words) forms
have_forms op shuffle forms words moves has long =
    let found = found_formed shuffles all_formed op shuffle moves in
    let row = rw has at found in
    let here = each_list shuffle.count (formed shuffle forms) row (map kind words) (length-map words kind ∙ long) in
    let kinds_same = same_is (whole_kinds false (map kind words) && whole_kinds false (order_kinds shuffle.order (map kind words))) (list_any (λ form. sizes_kinds form (map kind words)) forms) here in
    rw (whole_by_kinds false words, whole_by_kinds false (in_order shuffle.order words), order_by_kinds shuffle.order words, forms_by_kinds forms words) kinds_same
