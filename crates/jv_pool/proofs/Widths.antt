-- The numbers behind an item's tag that are read are spelled so, and what is spelled so is read; and which
-- item they make.
use Rattle.std.proofs.Common.{◌≡◌, ℕ, ◌+◌, ◌*◌, ◌/◌, ◌%◌, ◌^◌, ◌<◌, Bool, true, false, cond, eqb, List, [], ◌∷◌, ◌++◌, Option, Some, None, refl, sym, ap, ◌∙◌, append_assoc, arith}
use Rattle.std.specs.Int.{w32, w64, cast_signed}
use Rattle.std.specs.Cmp.Lexicographic.{pointwise}
use Rattle.std.proofs.lemmas.Bool.{eqb-true}
use Rattle.std.proofs.lemmas.Int.{of_z-to_z}
use Rattle.std.proofs.lemmas.Nat.{div-mul-add, mod-mul-add}
use borrow.Author.Gap.{read_sfits}
use Rattle.jv_bytes.specs.Numbers.{number_text}
use Rattle.jv_table.specs.declared.tags.TheConstants.{UTF8, INTEGER, FLOAT, LONG, DOUBLE, CLASS, STRING, FIELDREF, METHODREF, INTERFACE_METHODREF, NAME_AND_TYPE, METHOD_HANDLE, METHOD_TYPE, INVOKE_DYNAMIC}
use Rattle.jv_pool.specs.declared.item.PoolItem.{PoolItem}
use Rattle.jv_pool.specs.declared.item.PoolItem.TheVariants as items
use Rattle.jv_pool.specs.declared.fields.Fields.{Fields}
use Rattle.jv_pool.specs.declared.fields.Fields.TheVariants.{Index, Word, Words, Pair, Handle}
use Rattle.jv_pool.specs.PoolText.{u2, u4, u8, item_text, IsItem, is_hole, IsShort}
use Rattle.jv_read.specs.Reading.{◌>>=◌, u1_at, number_at}
use Rattle.jv_pool.specs.Steps.PoolReading.{index_at, word_at, words_at, pair_at, handle_at, fields_at, item_of}
use Rattle.jv_read.proofs.Fronts.{bind_some, bind_is, given_as, joined, u1_takes, u1_again, number_takes, number_again}

-- the text of the numbers
abbrev pub fields_text : Fields → List ℕ
fields_text (Index n) = u2 n
fields_text (Word n) = u4 n
fields_text (Words high low) = u4 high ++ u4 low
fields_text (Pair a b) = u2 a ++ u2 b
fields_text (Handle kind member) = kind ∷ u2 member

-- they fit their widths
abbrev pub AreFitting : Fields → Type 0
AreFitting (Index n) = n < 2 ^ 16
AreFitting (Word n) = n < 2 ^ 32
AreFitting (Words high low) = (high < 2 ^ 32) × (low < 2 ^ 32)
AreFitting (Pair a b) = (a < 2 ^ 16) × (b < 2 ^ 16)
AreFitting (Handle kind member) = member < 2 ^ 16

-- their widths
abbrev pub parts_of : Fields → List ℕ
parts_of (Index n) = 2 ∷ []
parts_of (Word n) = 4 ∷ []
parts_of (Words high low) = 4 ∷ 4 ∷ []
parts_of (Pair a b) = 2 ∷ 2 ∷ []
parts_of (Handle kind member) = 1 ∷ 2 ∷ []

-- what was read is spelled so
abbrev pub TakesFields : List ℕ → Fields × List ℕ → Type 0
TakesFields bytes x = AreFitting x.0 × (bytes ≡ fields_text x.0 ++ x.1)

-- the numbers that are made of one number more
abbrev made_of : (ℕ → Fields) → ℕ × List ℕ → Option (Fields × List ℕ)
made_of make x = Some (make x.0, x.1)

-- one number
one_takes : (n : ℕ) (make : ℕ → Fields) → ((v : ℕ) → v < 256 ^ n → AreFitting (make v)) → ((v : ℕ) → fields_text (make v) ≡ number_text n v)
    → (bytes : List ℕ) (x : Fields × List ℕ) → (number_at n bytes >>= made_of make) ≡ Some x → TakesFields bytes x
one_takes n make fits text bytes x e =
    let a = bind_some (number_at n bytes) (made_of make) x e in
    let t = number_takes n bytes a.0 a.1 in
    let made : Fields × List ℕ = (make a.0.0, a.0.1) in
    given_as (λ (y : Fields × List ℕ). TakesFields bytes y) made x a.2 (fits a.0.0 t.1, t.0 ∙ ap (λ (f : List ℕ). f ++ a.0.1) (sym (text a.0.0)))

index_takes : (bytes : List ℕ) (x : Fields × List ℕ) → index_at bytes ≡ Some x → TakesFields bytes x
unfolding index_at
index_takes bytes x e = one_takes 2 Index (λ v lt. lt) (λ v. refl) bytes x e

word_takes : (bytes : List ℕ) (x : Fields × List ℕ) → word_at bytes ≡ Some x → TakesFields bytes x
unfolding word_at
word_takes bytes x e = one_takes 4 Word (λ v lt. lt) (λ v. refl) bytes x e

-- two numbers of one width
two_take : (n : ℕ) (make : ℕ → ℕ → Fields) → ((v w : ℕ) → v < 256 ^ n → w < 256 ^ n → AreFitting (make v w)) → ((v w : ℕ) → fields_text (make v w) ≡ number_text n v ++ number_text n w)
    → (bytes : List ℕ) (x : Fields × List ℕ) → (number_at n bytes >>= λ v. number_at n v.1 >>= made_of (make v.0)) ≡ Some x → TakesFields bytes x
two_take n make fits text bytes x e =
    let a = bind_some (number_at n bytes) (λ v. number_at n v.1 >>= made_of (make v.0)) x e in
    let b = bind_some (number_at n a.0.1) (made_of (make a.0.0)) x a.2 in
    let s = number_takes n bytes a.0 a.1 in
    let t = number_takes n a.0.1 b.0 b.1 in
    let made : Fields × List ℕ = (make a.0.0 b.0.0, b.0.1) in
    given_as (λ (y : Fields × List ℕ). TakesFields bytes y) made x b.2
    (fits a.0.0 b.0.0 s.1 t.1, joined bytes (number_text n a.0.0) (number_text n b.0.0) a.0.1 b.0.1 s.0 t.0 ∙ ap (λ (f : List ℕ). f ++ b.0.1) (sym (text a.0.0 b.0.0)))

words_take : (bytes : List ℕ) (x : Fields × List ℕ) → words_at bytes ≡ Some x → TakesFields bytes x
unfolding words_at
words_take bytes x e = two_take 4 Words (λ v w lt lu. (lt, lu)) (λ v w. refl) bytes x e

pair_takes : (bytes : List ℕ) (x : Fields × List ℕ) → pair_at bytes ≡ Some x → TakesFields bytes x
unfolding pair_at
pair_takes bytes x e = two_take 2 Pair (λ v w lt lu. (lt, lu)) (λ v w. refl) bytes x e

handle_takes : (bytes : List ℕ) (x : Fields × List ℕ) → handle_at bytes ≡ Some x → TakesFields bytes x
unfolding handle_at
handle_takes bytes x e =
    let a = bind_some (u1_at bytes) (λ kind. number_at 2 kind.1 >>= λ member. Some (Handle kind.0 member.0, member.1)) x e in
    let b = bind_some (number_at 2 a.0.1) (λ member. Some (Handle a.0.0 member.0, member.1)) x a.2 in
    let s = u1_takes bytes a.0 a.1 in
    let t = number_takes 2 a.0.1 b.0 b.1 in
    let made : Fields × List ℕ = (Handle a.0.0 b.0.0, b.0.1) in
    given_as (λ (y : Fields × List ℕ). TakesFields bytes y) made x b.2 (t.1, s ∙ ap (λ (r : List ℕ). a.0.0 ∷ r) t.0)

-- numbers of any widths that are read are spelled so
pub fields_take : (parts bytes : List ℕ) (x : Fields × List ℕ) → fields_at parts bytes ≡ Some x → TakesFields bytes x
unfolding fields_at
fields_take parts bytes x e = by (pointwise eqb parts (2 ∷ [])) (pointwise eqb parts (4 ∷ [])) (pointwise eqb parts (4 ∷ 4 ∷ [])) (pointwise eqb parts (2 ∷ 2 ∷ [])) (pointwise eqb parts (1 ∷ 2 ∷ [])) e
  where
    by : (p q r s t : Bool) → cond p (index_at bytes) (cond q (word_at bytes) (cond r (words_at bytes) (cond s (pair_at bytes) (cond t (handle_at bytes) None)))) ≡ Some x → TakesFields bytes x
    by true q r s t e = index_takes bytes x e
    by false true r s t e = word_takes bytes x e
    by false false true s t e = words_take bytes x e
    by false false false true t e = pair_takes bytes x e
    by false false false false true e = handle_takes bytes x e
    by false false false false false e = absurd cc

-- one number is read again, whatever follows
one_again : (n : ℕ) (make : ℕ → Fields) (v : ℕ) (rest : List ℕ) → v < 256 ^ n → (number_at n (number_text n v ++ rest) >>= made_of make) ≡ made_of make (v, rest)
one_again n make v rest fits = bind_is (number_at n (number_text n v ++ rest)) (made_of make) (v, rest) (number_again n v rest fits)

-- and so are two
two_again : (n : ℕ) (make : ℕ → ℕ → Fields) (v w : ℕ) (rest : List ℕ) → v < 256 ^ n → w < 256 ^ n
    → (number_at n ((number_text n v ++ number_text n w) ++ rest) >>= λ x. number_at n x.1 >>= made_of (make x.0)) ≡ made_of (make v) (w, rest)
two_again n make v w rest fits more =
    ap (λ (c : List ℕ). number_at n c >>= λ x. number_at n x.1 >>= made_of (make x.0)) (append_assoc (number_text n v) (number_text n w) rest)
    ∙ bind_is (number_at n (number_text n v ++ (number_text n w ++ rest))) (λ x. number_at n x.1 >>= made_of (make x.0)) (v, number_text n w ++ rest) (number_again n v (number_text n w ++ rest) fits)
    ∙ one_again n (make v) w rest more

-- numbers of any widths are read again, whatever follows
pub fields_again : (fields : Fields) (rest : List ℕ) → AreFitting fields → fields_at (parts_of fields) (fields_text fields ++ rest) ≡ Some (fields, rest)
unfolding fields_at index_at word_at words_at pair_at handle_at
fields_again (Index n) rest fits = one_again 2 Index n rest fits
fields_again (Word n) rest fits = one_again 4 Word n rest fits
fields_again (Words high low) rest fits = two_again 4 Words high low rest fits.0 fits.1
fields_again (Pair a b) rest fits = two_again 2 Pair a b rest fits.0 fits.1
fields_again (Handle kind member) rest fits =
    bind_is (u1_at (kind ∷ (u2 member ++ rest))) (λ x. number_at 2 x.1 >>= λ y. Some (Handle x.0 y.0, y.1)) (kind, u2 member ++ rest) (u1_again kind (u2 member ++ rest))
    ∙ one_again 2 (Handle kind) member rest fits

-- ---- the item that they make

-- the tag of an item, and 0 where it has none
abbrev pub tag_of : PoolItem → ℕ
tag_of (items.Utf8 bytes) = UTF8
tag_of (items.Integer n) = INTEGER
tag_of (items.Float bits) = FLOAT
tag_of (items.Long n) = LONG
tag_of (items.Double bits) = DOUBLE
tag_of (items.Class name) = CLASS
tag_of (items.Text text) = STRING
tag_of (items.Field class pair) = FIELDREF
tag_of (items.Method class pair) = METHODREF
tag_of (items.InterfaceMethod class pair) = INTERFACE_METHODREF
tag_of (items.NameAndType name desc) = NAME_AND_TYPE
tag_of (items.MethodHandle kind member) = METHOD_HANDLE
tag_of (items.MethodType desc) = METHOD_TYPE
tag_of (items.InvokeDynamic bootstrap pair) = INVOKE_DYNAMIC
tag_of items.Hole = 0

-- a tag and numbers are an item's
pub record Makes (tag : ℕ) (fields : Fields) (item : PoolItem) : Type 0 where
  pub tag_is : tag ≡ tag_of item
  pub text_is : item_text item ≡ tag_of item ∷ fields_text fields
  pub is_item : IsItem item
  pub short : IsShort item
  pub whole : is_hole item ≡ false

-- nothing, at a type that is known
abbrev none : Option PoolItem
none = None

-- the item of one tag, or of others
one_of : (tag k : ℕ) (fields : Fields) (made item : PoolItem) (others : Option PoolItem) → cond (eqb tag k) (Some made) others ≡ Some item → (tag ≡ k → Makes tag fields made)
    → (others ≡ Some item → Makes tag fields item) → Makes tag fields item
one_of tag k fields made item others e here there = by (eqb tag k) refl e
  where
    by : (b : Bool) → eqb tag k ≡ b → cond b (Some made) others ≡ Some item → Makes tag fields item
    by true t e = given_as (λ (i : PoolItem). Makes tag fields i) made item e (here (eqb-true tag k t))
    by false t e = there e

-- no item at all
none_is : (tag : ℕ) (fields : Fields) (item : PoolItem) → none ≡ Some item → Makes tag fields item
none_is tag fields item e = absurd cc

-- the two halves of a number
u8_halves : (high low : ℕ) → low < 2 ^ 32 → u8 (high * 2 ^ 32 + low) ≡ u4 high ++ u4 low
u8_halves high low lt =
    let h : (high * 2 ^ 32 + low) / 2 ^ 32 ≡ high = div-mul-add high (2 ^ 32) low lt in
    let l : (high * 2 ^ 32 + low) % 2 ^ 32 ≡ low = mod-mul-add high (2 ^ 32) low lt in
    ap (λ (n : ℕ). u4 n ++ u4 ((high * 2 ^ 32 + low) % 2 ^ 32)) h ∙ ap (λ (n : ℕ). u4 high ++ u4 n) l

pub item_of_makes : (tag : ℕ) (fields : Fields) (item : PoolItem) → AreFitting fields → item_of tag fields ≡ Some item → Makes tag fields item
unfolding item_of
item_of_makes tag (Index n) item fits e =
    one_of tag CLASS (Index n) (items.Class n) item _ e (λ t. record { tag_is = t; text_is = refl; is_item = fits; short = tt; whole = refl })
    (λ e. one_of tag STRING (Index n) (items.Text n) item _ e (λ t. record { tag_is = t; text_is = refl; is_item = fits; short = tt; whole = refl })
    (λ e. one_of tag METHOD_TYPE (Index n) (items.MethodType n) item _ e (λ t. record { tag_is = t; text_is = refl; is_item = fits; short = tt; whole = refl })
    (λ e. none_is tag (Index n) item e)))
item_of_makes tag (Word n) item fits e =
    one_of tag INTEGER (Word n) (items.Integer (cast_signed w32 n)) item _ e (λ t. record { tag_is = t; text_is = ap (λ (k : ℕ). INTEGER ∷ u4 k) (of_z-to_z w32 n fits); is_item = read_sfits w32 n; short = tt; whole = refl })
    (λ e. one_of tag FLOAT (Word n) (items.Float n) item _ e (λ t. record { tag_is = t; text_is = refl; is_item = fits; short = tt; whole = refl })
    (λ e. none_is tag (Word n) item e))
item_of_makes tag (Words high low) item fits e =
    let n = high * 2 ^ 32 + low in
    let lt : n < 2 ^ 64 = omega (arith, fits.0, fits.1) in
    one_of tag LONG (Words high low) (items.Long (cast_signed w64 n)) item _ e (λ t. record { tag_is = t; text_is = ap (λ (k : ℕ). LONG ∷ u8 k) (of_z-to_z w64 n lt) ∙ ap (λ (r : List ℕ). LONG ∷ r) (u8_halves high low fits.1); is_item = read_sfits w64 n; short = tt; whole = refl })
    (λ e. one_of tag DOUBLE (Words high low) (items.Double n) item _ e (λ t. record { tag_is = t; text_is = ap (λ (r : List ℕ). DOUBLE ∷ r) (u8_halves high low fits.1); is_item = lt; short = tt; whole = refl })
    (λ e. none_is tag (Words high low) item e))
item_of_makes tag (Pair a b) item fits e =
    one_of tag FIELDREF (Pair a b) (items.Field a b) item _ e (λ t. record { tag_is = t; text_is = refl; is_item = fits; short = tt; whole = refl })
    (λ e. one_of tag METHODREF (Pair a b) (items.Method a b) item _ e (λ t. record { tag_is = t; text_is = refl; is_item = fits; short = tt; whole = refl })
    (λ e. one_of tag INTERFACE_METHODREF (Pair a b) (items.InterfaceMethod a b) item _ e (λ t. record { tag_is = t; text_is = refl; is_item = fits; short = tt; whole = refl })
    (λ e. one_of tag NAME_AND_TYPE (Pair a b) (items.NameAndType a b) item _ e (λ t. record { tag_is = t; text_is = refl; is_item = fits; short = tt; whole = refl })
    (λ e. one_of tag INVOKE_DYNAMIC (Pair a b) (items.InvokeDynamic a b) item _ e (λ t. record { tag_is = t; text_is = refl; is_item = fits; short = tt; whole = refl })
    (λ e. none_is tag (Pair a b) item e)))))
item_of_makes tag (Handle kind member) item fits e =
    one_of tag METHOD_HANDLE (Handle kind member) (items.MethodHandle kind member) item _ e (λ t. record { tag_is = t; text_is = refl; is_item = fits; short = tt; whole = refl })
    (λ e. none_is tag (Handle kind member) item e)
