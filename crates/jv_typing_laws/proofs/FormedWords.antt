-- Words of which each long and double has its second one, joined and parted.
use Rattle.std.proofs.Common.{◌≡◌, ℕ, zero, suc, Bool, true, false, cond, not, List, [], ◌∷◌, ◌++◌, replicate, Some, slice_get, refl, sym, ap, ◌∙◌, ◌⊎◌, inl, inr}
use Rattle.std.specs.Prelude.{◌&&◌, map, slice_index_or}
use Rattle.std.specs.List.{list_all}
use Rattle.std.proofs.lemmas.Bool.{and_parts}
use Rattle.jv_lists.proofs.Tests.{both_true, not_true}
use Rattle.jv_table.specs.declared.code_tables.Cell.{Cell}
use Rattle.jv_table.specs.declared.code_tables.Cell.TheVariants.{Int, Float, Long, Double, Ref, Null}
use Rattle.jv_types.specs.declared.desc.PrimType.TheVariants as prims
use Rattle.jv_types.specs.declared.desc.RefType.{RefType, Row_of-RefType, end_of-RefType, more_of-RefType}
use Rattle.jv_types.specs.declared.desc.RefType as refs
use Rattle.jv_types.specs.declared.desc.Desc.{Desc}
use Rattle.jv_types.specs.declared.desc.Desc.TheVariants as descs
use Rattle.jv_types.specs.declared.frames.VType.{VType, Top}
use Rattle.jv_types.specs.declared.frames.VType as types
use Rattle.jv_insn.specs.Kinds.{HoldsCell, HoldsCells, is_reference, is_wide}
use Rattle.jv_frames.specs.Types.{type_words, in_words, ref_vtype, items_vtype, desc_vtype}
use Rattle.jv_typing.specs.Transitions.{IsReplaced, AreReplaced}
use Rattle.jv_typing.specs.Typing.{is_top, halved, are_whole, in_order, AreStored}
use Rattle.jv_typing.proofs.TypingOnce.{is_number, are_numbers}
use Rattle.jv_typing_laws.proofs.OneFrame.{is_uninit}
use Rattle.jv_typing_laws.specs.Formed.{holds_references, are_formed}

-- the parts of a test of words
abbrev pub fits_behind : Bool → VType → Bool
fits_behind second type = cond second (is_top type) true

pub record HeadParts (second : Bool) (type : VType) (types : List VType) : Type 0 where
  pub behind : fits_behind second type ≡ true
  pub items : holds_references type ≡ true
  pub rest : are_formed (is_wide type) types ≡ true

pub head_parts : (second : Bool) (type : VType) (types : List VType) → are_formed second (type ∷ types) ≡ true → HeadParts second type types
head_parts second type types f =
    let outer = and_parts (fits_behind second type && holds_references type) (are_formed (is_wide type) types) f in
    let inner = and_parts (fits_behind second type) (holds_references type) outer.0 in
    record { behind = inner.0; items = inner.1; rest = outer.1 }

pub with_head : (second : Bool) (type : VType) (types : List VType) → fits_behind second type ≡ true → holds_references type ≡ true → are_formed (is_wide type) types ≡ true → are_formed second (type ∷ types) ≡ true
with_head second type types b i r =
    both_true (fits_behind second type && holds_references type) (are_formed (is_wide type) types) (both_true (fits_behind second type) (holds_references type) b i) r

-- ---- joined and parted

pub join : (second : Bool) (xs ys : List VType) → are_formed second xs ≡ true → are_formed false ys ≡ true → are_formed second (xs ++ ys) ≡ true
join second [] ys f g = ap (λ (b : Bool). are_formed b ys) (not_true second f) ∙ g
join second (x ∷ xs) ys f g =
    let parts = head_parts second x xs f in
    with_head second x (xs ++ ys) parts.behind parts.items (join (is_wide x) xs ys parts.rest g)

-- the first word isn't the second one of two
abbrev pub begins_value : List VType → Bool
begins_value [] = true
begins_value (type ∷ types) = not (is_top type)

no_second : (second : Bool) (type : VType) → fits_behind second type ≡ true → not (is_top type) ≡ true → not second ≡ true
no_second false type b n = refl
no_second true type b n = absurd (let wrong : not true ≡ true = ap not (sym b) ∙ n in absurd cc)

pub front : (second : Bool) (xs ys : List VType) → begins_value ys ≡ true → are_formed second (xs ++ ys) ≡ true → are_formed second xs ≡ true
front second [] [] v f = f
front second [] (y ∷ ys) v f = no_second second y (head_parts second y ys f).behind v
front second (x ∷ xs) ys v f =
    let parts = head_parts second x (xs ++ ys) f in
    with_head second x xs parts.behind parts.items (front (is_wide x) xs ys v parts.rest)

pub behind : (second : Bool) (xs ys : List VType) → are_formed second (xs ++ ys) ≡ true → are_formed false ys ≡ true
behind second [] [] f = refl
behind second [] (y ∷ ys) f = let parts = head_parts second y ys f in with_head false y ys refl parts.items parts.rest
behind second (x ∷ xs) ys f = behind (is_wide x) xs ys (head_parts second x (xs ++ ys) f).rest

-- ---- words that lost a half

half_formed : (second wide : Bool) (type : VType) → is_wide type ≡ wide → fits_behind second type ≡ true → holds_references type ≡ true → are_formed second (cond wide Top type ∷ []) ≡ true
half_formed true true type w b i = refl
half_formed false true type w b i = refl
half_formed second false type w b i = with_head second type [] b i (ap not w)

pub halved_formed : (second : Bool) (type : VType) (xs rest : List VType) → are_formed second ((type ∷ xs) ++ rest) ≡ true → are_formed second (halved (type ∷ xs)) ≡ true
halved_formed second type [] rest f = let parts = head_parts second type rest f in half_formed second (is_wide type) type refl parts.behind parts.items
halved_formed second type (next ∷ xs) rest f =
    let parts = head_parts second type ((next ∷ xs) ++ rest) f in
    with_head second type (halved (next ∷ xs)) parts.behind parts.items (halved_formed (is_wide type) next xs rest parts.rest)

pub halved_front : (xs rest : List VType) → are_formed false (xs ++ rest) ≡ true → are_formed false (halved xs) ≡ true
halved_front [] rest f = refl
halved_front (x ∷ xs) rest f = halved_formed false x xs rest f

-- ---- single types

-- a reference by itself
pub reference_formed : (type : VType) → is_reference type ≡ true → holds_references type ≡ true → are_formed false (type ∷ []) ≡ true
reference_formed types.Top r i = absurd cc
reference_formed types.Integer r i = absurd cc
reference_formed types.Float r i = absurd cc
reference_formed types.Long r i = absurd cc
reference_formed types.Double r i = absurd cc
reference_formed types.Null r i = refl
reference_formed types.UninitThis r i = refl
reference_formed (types.Uninit pc) r i = refl
reference_formed (types.Class name) r i = refl
reference_formed (types.PrimArray prim) r i = refl
reference_formed (types.Array' shape items) r i = with_head false (types.Array' shape items) [] refl i refl

pub reference_no_top : (type : VType) → is_reference type ≡ true → not (is_top type) ≡ true
reference_no_top types.Top r = absurd cc
reference_no_top types.Integer r = refl
reference_no_top types.Float r = refl
reference_no_top types.Long r = refl
reference_no_top types.Double r = refl
reference_no_top types.Null r = refl
reference_no_top types.UninitThis r = refl
reference_no_top (types.Uninit pc) r = refl
reference_no_top (types.Class name) r = refl
reference_no_top (types.PrimArray prim) r = refl
reference_no_top (types.Array' shape items) r = refl

pub reference_one_word : (type : VType) → is_reference type ≡ true → type_words type ≡ type ∷ []
reference_one_word types.Top r = absurd cc
reference_one_word types.Integer r = absurd cc
reference_one_word types.Float r = absurd cc
reference_one_word types.Long r = absurd cc
reference_one_word types.Double r = absurd cc
reference_one_word types.Null r = refl
reference_one_word types.UninitThis r = refl
reference_one_word (types.Uninit pc) r = refl
reference_one_word (types.Class name) r = refl
reference_one_word (types.PrimArray prim) r = refl
reference_one_word (types.Array' shape items) r = refl

-- an array of references of which the items are references
pub array_holds : (item : VType) → is_reference item ≡ true → holds_references item ≡ true → holds_references (types.Array item) ≡ true
unfolding Rattle.jv_types.specs.declared.frames.VType.TheBlock.shape-the_row-VType-0 Rattle.jv_types.specs.declared.frames.VType.TheBlock.hidden-the_row-VType-0 denote.Hole.Carrier.hidden
array_holds item r i = both_true (is_reference item) (holds_references item) r i

pub array_items : (item : VType) → holds_references (types.Array item) ≡ true → (is_reference item ≡ true) × (holds_references item ≡ true)
unfolding Rattle.jv_types.specs.declared.frames.VType.TheBlock.shape-the_row-VType-0 Rattle.jv_types.specs.declared.frames.VType.TheBlock.hidden-the_row-VType-0 denote.Hole.Carrier.hidden
array_items item h = and_parts (is_reference item) (holds_references item) h

pub array_is_reference : (item : VType) → is_reference (types.Array item) ≡ true
array_is_reference item = refl

-- ---- types of descriptors

mutual
  pub ref_vtype_reference : (type : RefType) → is_reference (ref_vtype type) ≡ true
  ref_vtype_reference (refs.Class name) = refl
  ref_vtype_reference (refs.PrimArray prim) = refl
  ref_vtype_reference (refs.Array' shape items) = items_reference items refl

  items_reference : {m : _} (items : Row_of-RefType m) → m ≡ 1 → is_reference (items_vtype items) ≡ true
  items_reference end_of-RefType e = absurd cc
  items_reference (more_of-RefType item rest) e = refl

mutual
  pub ref_vtype_holds : (type : RefType) → holds_references (ref_vtype type) ≡ true
  ref_vtype_holds (refs.Class name) = refl
  ref_vtype_holds (refs.PrimArray prim) = refl
  ref_vtype_holds (refs.Array' shape items) = items_hold items

  items_hold : {m : _} (items : Row_of-RefType m) → holds_references (items_vtype items) ≡ true
  items_hold end_of-RefType = refl
  items_hold (more_of-RefType item rest) = array_holds (ref_vtype item) (ref_vtype_reference item) (ref_vtype_holds item)

-- the words of a value of any type that holds references
pub words_formed : (type : VType) → holds_references type ≡ true → are_formed false (type_words type) ≡ true
words_formed types.Top h = refl
words_formed types.Integer h = refl
words_formed types.Float h = refl
words_formed types.Long h = refl
words_formed types.Double h = refl
words_formed types.Null h = refl
words_formed types.UninitThis h = refl
words_formed (types.Uninit pc) h = refl
words_formed (types.Class name) h = refl
words_formed (types.PrimArray prim) h = refl
words_formed (types.Array' shape items) h = with_head false (types.Array' shape items) [] refl h refl

pub in_words_formed : (all : List VType) → list_all holds_references all ≡ true → are_formed false (in_words all) ≡ true
in_words_formed [] h = refl
in_words_formed (type ∷ all) h =
    let parts = and_parts (holds_references type) (list_all holds_references all) h in
    join false (type_words type) (in_words all) (words_formed type parts.0) (in_words_formed all parts.1)

pub desc_holds : (desc : Desc) → holds_references (desc_vtype desc) ≡ true
desc_holds (descs.Prim prims.Boolean) = refl
desc_holds (descs.Prim prims.Char) = refl
desc_holds (descs.Prim prims.Float) = refl
desc_holds (descs.Prim prims.Double) = refl
desc_holds (descs.Prim prims.Byte) = refl
desc_holds (descs.Prim prims.Short) = refl
desc_holds (descs.Prim prims.Int) = refl
desc_holds (descs.Prim prims.Long) = refl
desc_holds (descs.Ref type) = ref_vtype_holds type

pub descs_hold : (all : List Desc) → list_all holds_references (map desc_vtype all) ≡ true
descs_hold [] = refl
descs_hold (desc ∷ all) = both_true (holds_references (desc_vtype desc)) (list_all holds_references (map desc_vtype all)) (desc_holds desc) (descs_hold all)

pub tops_formed : (n : ℕ) → are_formed false (replicate n Top) ≡ true
tops_formed zero = refl
tops_formed (suc n) = tops_formed n

-- ---- words of cells

pub cell_begins : (cell : Cell) (first rest : List VType) → HoldsCell cell first → begins_value (first ++ rest) ≡ true
cell_begins Int first rest h = rw h refl
cell_begins Float first rest h = rw h refl
cell_begins Long first rest h = rw h refl
cell_begins Double first rest h = rw h refl
cell_begins Ref first rest h = rw h.1.0 (reference_no_top h.0 h.1.1)
cell_begins Null first rest h = rw h refl

pub cells_begin : (cells : List Cell) (words : List VType) → HoldsCells cells words → begins_value words ≡ true
cells_begin [] words h = rw h refl
cells_begin (cell ∷ cells) words h = rw h.1.1.0 (cell_begins cell h.0 h.1.0 h.1.1.1)

number_formed : (cell : Cell) (words : List VType) → is_number cell ≡ true → HoldsCell cell words → are_formed false words ≡ true
number_formed Int words n h = rw h refl
number_formed Float words n h = rw h refl
number_formed Long words n h = rw h refl
number_formed Double words n h = rw h refl
number_formed Ref words n h = absurd cc
number_formed Null words n h = absurd cc

pub numbers_formed : (cells : List Cell) (words : List VType) → are_numbers cells ≡ true → HoldsCells cells words → are_formed false words ≡ true
numbers_formed [] words n h = rw h refl
numbers_formed (cell ∷ cells) words n h =
    let parts = and_parts (is_number cell) (are_numbers cells) n in
    rw h.1.1.0 (join false h.0 h.1.0 (number_formed cell h.0 parts.0 h.1.1.1) (numbers_formed cells h.1.0 parts.1 h.1.1.2))

-- ---- words of whole values

abbrev whole_behind : Bool → VType → Bool
whole_behind second type = cond second (is_top type) (not (is_top type))

whole_fits : (second : Bool) (type : VType) → whole_behind second type ≡ true → fits_behind second type ≡ true
whole_fits true type w = w
whole_fits false type w = refl

pub whole_formed : (second : Bool) (words : List VType) → are_whole second words ≡ true → list_all holds_references words ≡ true → are_formed second words ≡ true
whole_formed second [] w h = w
whole_formed second (type ∷ words) w h =
    let a = and_parts (whole_behind second type) (are_whole (is_wide type) words) w in
    let b = and_parts (holds_references type) (list_all holds_references words) h in
    with_head second type words (whole_fits second type a.0) b.0 (whole_formed (is_wide type) words a.1 b.1)

pub whole_begins : (words : List VType) → are_whole false words ≡ true → begins_value words ≡ true
whole_begins [] w = refl
whole_begins (type ∷ words) w = (and_parts (not (is_top type)) (are_whole (is_wide type) words) w).0

-- ---- words one by one

pub word_holds : (second : Bool) (words : List VType) (place : ℕ) → are_formed second words ≡ true → holds_references (slice_index_or words place Top) ≡ true
word_holds second [] place f = refl
word_holds second (type ∷ words) zero f = (head_parts second type words f).items
word_holds second (type ∷ words) (suc place) f = word_holds (is_wide type) words place (head_parts second type words f).rest

pub some_word_holds : (second : Bool) (words : List VType) (place : ℕ) (type : VType) → are_formed second words ≡ true → slice_get words place ≡ Some type → holds_references type ≡ true
some_word_holds second [] place type f e = absurd cc
some_word_holds second (first ∷ words) zero type f e = let same : first ≡ type = cc in ap holds_references (sym same) ∙ (head_parts second first words f).items
some_word_holds second (first ∷ words) (suc place) type f e = some_word_holds (is_wide first) words place type (head_parts second first words f).rest e

pub order_holds : (order : List ℕ) (words : List VType) → are_formed false words ≡ true → list_all holds_references (in_order order words) ≡ true
order_holds [] words f = refl
order_holds (place ∷ order) words f =
    both_true (holds_references (slice_index_or words place Top)) (list_all holds_references (in_order order words)) (word_holds false words place f) (order_holds order words f)

-- ---- types in place of others

pub uninit_no_second : (second : Bool) (old type : VType) → is_uninit old ≡ true → type ≡ old → fits_behind second type ≡ true → second ≡ false
uninit_no_second false old type u e b = refl
uninit_no_second true old type u e b = absurd (top_and_uninit type (ap is_uninit e ∙ u) b)
  where
    top_and_uninit : (type : VType) → is_uninit type ≡ true → is_top type ≡ true → ⊥
    top_and_uninit types.Top u t = absurd cc
    top_and_uninit types.Integer u t = absurd cc
    top_and_uninit types.Float u t = absurd cc
    top_and_uninit types.Long u t = absurd cc
    top_and_uninit types.Double u t = absurd cc
    top_and_uninit types.Null u t = absurd cc
    top_and_uninit types.UninitThis u t = absurd cc
    top_and_uninit (types.Uninit pc) u t = absurd cc
    top_and_uninit (types.Class name) u t = absurd cc
    top_and_uninit (types.PrimArray prim) u t = absurd cc
    top_and_uninit (types.Array' shape items) u t = absurd cc

pub uninit_narrow : (type : VType) → is_uninit type ≡ true → is_wide type ≡ false
uninit_narrow types.Top u = refl
uninit_narrow types.Integer u = refl
uninit_narrow types.Float u = refl
uninit_narrow types.Long u = absurd cc
uninit_narrow types.Double u = absurd cc
uninit_narrow types.Null u = refl
uninit_narrow types.UninitThis u = refl
uninit_narrow (types.Uninit pc) u = refl
uninit_narrow (types.Class name) u = refl
uninit_narrow (types.PrimArray prim) u = refl
uninit_narrow (types.Array' shape items) u = refl

-- a type that may come in place of one that isn't initialised: Top, or that of a class
pub record MayReplace (old new : VType) : Type 0 where
  pub old_is : is_uninit old ≡ true
  pub new_is : (new ≡ Top) ⊎ (is_reference new ≡ true)
  pub narrow : is_wide new ≡ false
  pub holds : holds_references new ≡ true

replaced_head : (second : Bool) (old new x y : VType) (xs ys : List VType) → MayReplace old new → IsReplaced old new x y → fits_behind second x ≡ true → holds_references x ≡ true → are_formed (is_wide x) ys ≡ true
    → are_formed second (y ∷ ys) ≡ true
replaced_head second old new x y xs ys may (inl h) b i rest =
    let first : second ≡ false = uninit_no_second second old x may.old_is h.0 b in
    let narrow : is_wide x ≡ false = ap is_wide h.0 ∙ uninit_narrow old may.old_is in
    let narrow_too : is_wide y ≡ false = ap is_wide h.1 ∙ may.narrow in
    let tail : are_formed (is_wide y) ys ≡ true = ap (λ (s : Bool). are_formed s ys) (narrow_too ∙ sym narrow) ∙ rest in
    with_head second y ys (ap (λ (s : Bool). fits_behind s y) first) (ap holds_references h.1 ∙ may.holds) tail
replaced_head second old new x y xs ys may (inr h) b i rest =
    with_head second y ys (ap (fits_behind second) h.1 ∙ b) (ap holds_references h.1 ∙ i) (ap (λ (t : VType). are_formed (is_wide t) ys) h.1 ∙ rest)

pub replaced_formed : (second : Bool) (old new : VType) (xs ys : List VType) → MayReplace old new → are_formed second xs ≡ true → AreReplaced old new xs ys → are_formed second ys ≡ true
replaced_formed second old new [] [] may f r = f
replaced_formed second old new [] (y ∷ ys) may f r = absurd r
replaced_formed second old new (x ∷ xs) [] may f r = absurd r
replaced_formed second old new (x ∷ xs) (y ∷ ys) may f r =
    let parts = head_parts second x xs f in
    replaced_head second old new x y xs ys may r.0 parts.behind parts.items (replaced_formed (is_wide x) old new xs ys may parts.rest r.1)

-- ---- stores

pub stored_formed : (local : ℕ) (words locals after : List VType) → AreStored local words locals after → are_formed false words ≡ true → are_formed false locals ≡ true → are_formed false after ≡ true
stored_formed local words locals after s w f =
    let whole : are_formed false (s.before ++ (s.lost ++ s.behind)) ≡ true = ap (are_formed false) (sym s.whole) ∙ f in
    let last : are_formed false s.behind ≡ true = behind false s.lost s.behind (behind false s.before (s.lost ++ s.behind) whole) in
    ap (are_formed false) s.left
    ∙ join false (halved s.before) (words ++ s.behind) (halved_front s.before (s.lost ++ s.behind) whole) (join false words s.behind w last)
