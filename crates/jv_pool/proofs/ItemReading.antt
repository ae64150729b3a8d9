-- An item of the constant pool that is read is spelled so, and what is spelled so is read.
use Rattle.std.proofs.Common.{◌≡◌, ℕ, ◌+◌, ◌*◌, ◌/◌, ◌%◌, ◌^◌, ◌<◌, ℤ, Bool, true, false, cond, eqb, List, [], ◌∷◌, ◌++◌, length, Option, Some, None, refl, sym, ap, subst, ◌∙◌, append_assoc, arith}
use Rattle.std.specs.Int.{w32, w64, cast_unsigned, cast_signed}
use Rattle.std.specs.Ordering.{nat_cmp}
use Rattle.std.proofs.lemmas.Bool.{eqb-true}
use Rattle.std.proofs.lemmas.Int.{to_z-of_z}
use Rattle.std.proofs.lemmas.Nat.{div-add-mod', mod_below}
use mir.ValLaws.{of_z_fits}
use Rattle.jv_table.specs.Rows.{row_of}
use Rattle.jv_table.specs.ClassRows.{TagForm, pool_tag_rows}
use Rattle.jv_pool.specs.declared.item.PoolItem.{PoolItem}
use Rattle.jv_pool.specs.declared.item.PoolItem.TheVariants as items
use Rattle.jv_pool.specs.declared.fields.Fields.{Fields}
use Rattle.jv_pool.specs.declared.fields.Fields.TheVariants.{Index, Word, Words, Pair, Handle}
use Rattle.jv_pool.specs.PoolText.{u2, item_text, IsItem, is_wide, is_hole, IsShort}
use Rattle.jv_read.specs.Reading.{◌>>=◌, u1_at, bytes_at}
use Rattle.jv_pool.specs.Steps.PoolReading.{fields_at, item_of, is_spelled, spelled_at, kept_at, content_at, next_item_at}
use Rattle.jv_read.proofs.Fronts.{bind_some, bind_is, given_as, past_true, u1_takes, u1_again, bytes_take, bytes_again}
use Rattle.jv_pool.proofs.Units.{spelled_units, units_spelled}
use Rattle.jv_pool.proofs.Widths.{fields_text, AreFitting, parts_of, fields_take, fields_again, tag_of, item_of_makes}

-- an item stands in front of what is left
pub record TakesItem (bytes : List ℕ) (item : PoolItem) (rest : List ℕ) : Type 0 where
  pub is_item : IsItem item
  pub short : IsShort item
  pub whole : is_hole item ≡ false
  pub parts : bytes ≡ item_text item ++ rest

-- ---- behind the tag and the numbers

spelled_takes : (len : ℕ) (bytes : List ℕ) (x : PoolItem × List ℕ) → len < 2 ^ 16 → spelled_at len bytes ≡ Some x → TakesItem (1 ∷ u2 len ++ bytes) x.0 x.1 × (tag_of x.0 ≡ 1)
unfolding spelled_at
spelled_takes len bytes x fits e =
    let a = bind_some (bytes_at len bytes) (λ text. cond (is_spelled text.0) (Some (items.Utf8 text.0, text.1)) None) x e in
    let made : PoolItem × List ℕ = (items.Utf8 a.0.0, a.0.1) in
    let g = past_true (is_spelled a.0.0) (Some made) x a.2 in
    let t = bytes_take len bytes a.0 a.1 in
    let whole : 1 ∷ u2 len ++ bytes ≡ (1 ∷ u2 (length a.0.0) ++ a.0.0) ++ a.0.1 =
    ap (λ (k : ℕ). 1 ∷ u2 k ++ bytes) (sym t.1) ∙ ap (λ (r : List ℕ). 1 ∷ u2 (length a.0.0) ++ r) t.0 ∙ ap (λ (r : List ℕ). 1 ∷ r) (sym (append_assoc (u2 (length a.0.0)) a.0.0 a.0.1)) in
    let taken : TakesItem (1 ∷ u2 len ++ bytes) (items.Utf8 a.0.0) a.0.1 = record { is_item = spelled_units a.0.0 g.0; short = omega (arith, t.1, fits); whole = refl; parts = whole } in
    given_as (λ (y : PoolItem × List ℕ). TakesItem (1 ∷ u2 len ++ bytes) y.0 y.1 × (tag_of y.0 ≡ 1)) made x g.1 (taken, refl)

-- what was read is an item with this tag
abbrev TakesTagged : ℕ → Fields → List ℕ → PoolItem × List ℕ → Type 0
TakesTagged tag fields bytes x = TakesItem (tag ∷ fields_text fields ++ bytes) x.0 x.1 × (tag_of x.0 ≡ tag)

kept_takes : (tag : ℕ) (fields : Fields) (bytes : List ℕ) (x : PoolItem × List ℕ) → AreFitting fields → kept_at tag fields bytes ≡ Some x → TakesTagged tag fields bytes x
unfolding kept_at
kept_takes tag fields bytes x fits e =
    let a = bind_some (item_of tag fields) (λ item. Some (item, bytes)) x e in
    let m = item_of_makes tag fields a.0 fits a.1 in
    let made : PoolItem × List ℕ = (a.0, bytes) in
    let whole : tag ∷ fields_text fields ++ bytes ≡ item_text a.0 ++ bytes =
    ap (λ (k : ℕ). k ∷ fields_text fields ++ bytes) m.tag_is ∙ ap (λ (t : List ℕ). t ++ bytes) (sym m.text_is) in
    let taken : TakesItem (tag ∷ fields_text fields ++ bytes) a.0 bytes = record { is_item = m.is_item; short = m.short; whole = m.whole; parts = whole } in
    given_as (λ (y : PoolItem × List ℕ). TakesTagged tag fields bytes y) made x a.2 (taken, sym m.tag_is)

content_takes : (tag : ℕ) (fields : Fields) (bytes : List ℕ) (x : PoolItem × List ℕ) → AreFitting fields → content_at tag fields bytes ≡ Some x → TakesTagged tag fields bytes x
unfolding content_at
content_takes tag (Index n) bytes x fits e = by (eqb tag 1) refl e
  where
    by : (b : Bool) → eqb tag 1 ≡ b → cond b (spelled_at n bytes) (kept_at tag (Index n) bytes) ≡ Some x → TakesTagged tag (Index n) bytes x
    by true t e =
        let is_1 = eqb-true tag 1 t in
        subst (λ (k : ℕ). TakesTagged k (Index n) bytes x) (sym is_1) (spelled_takes n bytes x fits e)
    by false t e = kept_takes tag (Index n) bytes x fits e
content_takes tag (Word n) bytes x fits e = kept_takes tag (Word n) bytes x fits e
content_takes tag (Words high low) bytes x fits e = kept_takes tag (Words high low) bytes x fits e
content_takes tag (Pair a b) bytes x fits e = kept_takes tag (Pair a b) bytes x fits e
content_takes tag (Handle kind member) bytes x fits e = kept_takes tag (Handle kind member) bytes x fits e

-- ---- an item

-- what the row of an item's tag says of its indices
takes_two : Option TagForm → Bool
takes_two None = false
takes_two (Some row) = eqb row.slots 2

slots_are : (item : PoolItem) → takes_two (row_of nat_cmp (tag_of item) pool_tag_rows) ≡ is_wide item
unfolding takes_two
slots_are (items.Utf8 bytes) = refl
slots_are (items.Integer n) = refl
slots_are (items.Float bits) = refl
slots_are (items.Long n) = refl
slots_are (items.Double bits) = refl
slots_are (items.Class name) = refl
slots_are (items.Text text) = refl
slots_are (items.Field class pair) = refl
slots_are (items.Method class pair) = refl
slots_are (items.InterfaceMethod class pair) = refl
slots_are (items.NameAndType name desc) = refl
slots_are (items.MethodHandle kind member) = refl
slots_are (items.MethodType desc) = refl
slots_are (items.InvokeDynamic bootstrap pair) = refl
slots_are items.Hole = refl

-- an item that is read is spelled so, and it is known whether it takes two indices
pub item_takes : (bytes : List ℕ) (x : (PoolItem × Bool) × List ℕ) → next_item_at bytes ≡ Some x → TakesItem bytes x.0.0 x.1 × (is_wide x.0.0 ≡ x.0.1)
unfolding next_item_at takes_two
item_takes bytes x e =
    let a = bind_some (u1_at bytes) (λ tag. row_of nat_cmp tag.0 pool_tag_rows >>= λ row. fields_at row.parts tag.1 >>= λ fields. content_at tag.0 fields.0 fields.1 >>= λ item. Some ((item.0, eqb row.slots 2), item.1)) x e in
    let b = bind_some (row_of nat_cmp a.0.0 pool_tag_rows) (λ row. fields_at row.parts a.0.1 >>= λ fields. content_at a.0.0 fields.0 fields.1 >>= λ item. Some ((item.0, eqb row.slots 2), item.1)) x a.2 in
    let c = bind_some (fields_at b.0.parts a.0.1) (λ fields. content_at a.0.0 fields.0 fields.1 >>= λ item. Some ((item.0, eqb b.0.slots 2), item.1)) x b.2 in
    let d = bind_some (content_at a.0.0 c.0.0 c.0.1) (λ item. Some ((item.0, eqb b.0.slots 2), item.1)) x c.2 in
    let s = u1_takes bytes a.0 a.1 in
    let f = fields_take b.0.parts a.0.1 c.0 c.1 in
    let t = content_takes a.0.0 c.0.0 c.0.1 d.0 f.0 d.1 in
    let wide : is_wide d.0.0 ≡ eqb b.0.slots 2 = sym (slots_are d.0.0) ∙ ap (λ (k : ℕ). takes_two (row_of nat_cmp k pool_tag_rows)) t.1 ∙ ap takes_two b.1 in
    let whole : bytes ≡ item_text d.0.0 ++ d.0.1 = s ∙ ap (λ (r : List ℕ). a.0.0 ∷ r) f.1 ∙ t.0.parts in
    let taken : TakesItem bytes d.0.0 d.0.1 = record { is_item = t.0.is_item; short = t.0.short; whole = t.0.whole; parts = whole } in
    let made : (PoolItem × Bool) × List ℕ = ((d.0.0, eqb b.0.slots 2), d.0.1) in
    given_as (λ (y : (PoolItem × Bool) × List ℕ). TakesItem bytes y.0.0 y.1 × (is_wide y.0.0 ≡ y.0.1)) made x d.2 (taken, wide)

-- an item of a tag is read again, whatever follows
again_by : (tag : ℕ) (row : TagForm) (fields : Fields) (item : PoolItem) (rest after : List ℕ) → row_of nat_cmp tag pool_tag_rows ≡ Some row → row.parts ≡ parts_of fields → AreFitting fields
    → content_at tag fields rest ≡ Some (item, after) → next_item_at (tag ∷ (fields_text fields ++ rest)) ≡ Some ((item, eqb row.slots 2), after)
unfolding next_item_at
again_by tag row fields item rest after is_row widths fits content =
    let numbers : fields_at row.parts (fields_text fields ++ rest) ≡ Some (fields, rest) = ap (λ (p : List ℕ). fields_at p (fields_text fields ++ rest)) widths ∙ fields_again fields rest fits in
    bind_is (u1_at (tag ∷ (fields_text fields ++ rest))) (λ t. row_of nat_cmp t.0 pool_tag_rows >>= λ r. fields_at r.parts t.1 >>= λ f. content_at t.0 f.0 f.1 >>= λ i. Some ((i.0, eqb r.slots 2), i.1)) (tag, fields_text fields ++ rest) (u1_again tag (fields_text fields ++ rest))
    ∙ bind_is (row_of nat_cmp tag pool_tag_rows) (λ r. fields_at r.parts (fields_text fields ++ rest) >>= λ f. content_at tag f.0 f.1 >>= λ i. Some ((i.0, eqb r.slots 2), i.1)) row is_row
    ∙ bind_is (fields_at row.parts (fields_text fields ++ rest)) (λ f. content_at tag f.0 f.1 >>= λ i. Some ((i.0, eqb row.slots 2), i.1)) (fields, rest) numbers
    ∙ bind_is (content_at tag fields rest) (λ i. Some ((i.0, eqb row.slots 2), i.1)) (item, after) content

-- the number that two halves make
halves : (n : ℕ) → (n / 2 ^ 32) * 2 ^ 32 + n % 2 ^ 32 ≡ n
halves n = div-add-mod' n (2 ^ 32)

high_fits : (n : ℕ) → n < 2 ^ 64 → n / 2 ^ 32 < 2 ^ 32
high_fits n lt = omega (arith, halves n, lt)

low_fits : (n : ℕ) → n % 2 ^ 32 < 2 ^ 32
low_fits n = mod_below n (2 ^ 32) (omega arith)

-- an item is read again, whatever follows
pub item_again : (item : PoolItem) (rest : List ℕ) → IsItem item → IsShort item → is_hole item ≡ false → next_item_at (item_text item ++ rest) ≡ Some ((item, is_wide item), rest)
unfolding content_at kept_at item_of spelled_at
item_again (items.Utf8 bytes) rest fits short whole =
    ap next_item_at (ap (λ (r : List ℕ). 1 ∷ r) (append_assoc (u2 (length bytes)) bytes rest))
    ∙ again_by 1 (record { tag = 1; parts = 2 ∷ []; slots = 1 }) (Index (length bytes)) (items.Utf8 bytes) (bytes ++ rest) rest refl refl short
    (let p = units_spelled bytes fits.0 fits.1 in
    bind_is (bytes_at (length bytes) (bytes ++ rest)) (λ text. cond (is_spelled text.0) (Some (items.Utf8 text.0, text.1)) None) (bytes, rest) (bytes_again bytes rest (length bytes) refl)
    ∙ ap (λ (b : Bool). cond b (some_of (items.Utf8 bytes, rest)) None) p)
  where
    some_of : PoolItem × List ℕ → Option (PoolItem × List ℕ)
    some_of x = Some x
item_again (items.Integer n) rest fits short whole =
    let back = to_z-of_z w32 n fits in
    again_by 3 (record { tag = 3; parts = 4 ∷ []; slots = 1 }) (Word (cast_unsigned w32 n)) (items.Integer n) rest rest refl refl (of_z_fits w32 n fits).fits (ap (λ (z : ℤ). Some (items.Integer z, rest)) back)
item_again (items.Float bits) rest fits short whole = again_by 4 (record { tag = 4; parts = 4 ∷ []; slots = 1 }) (Word bits) (items.Float bits) rest rest refl refl fits refl
item_again (items.Long n) rest fits short whole =
    let k = cast_unsigned w64 n in
    let back : cast_signed w64 ((k / 2 ^ 32) * 2 ^ 32 + k % 2 ^ 32) ≡ n = ap (cast_signed w64) (halves k) ∙ to_z-of_z w64 n fits in
    again_by 5 (record { tag = 5; parts = 4 ∷ 4 ∷ []; slots = 2 }) (Words (k / 2 ^ 32) (k % 2 ^ 32)) (items.Long n) rest rest refl refl (high_fits k (of_z_fits w64 n fits).fits, low_fits k) (ap (λ (z : ℤ). Some (items.Long z, rest)) back)
item_again (items.Double bits) rest fits short whole =
    again_by 6 (record { tag = 6; parts = 4 ∷ 4 ∷ []; slots = 2 }) (Words (bits / 2 ^ 32) (bits % 2 ^ 32)) (items.Double bits) rest rest refl refl (high_fits bits fits, low_fits bits) (ap (λ (z : ℕ). Some (items.Double z, rest)) (halves bits))
item_again (items.Class name) rest fits short whole = again_by 7 (record { tag = 7; parts = 2 ∷ []; slots = 1 }) (Index name) (items.Class name) rest rest refl refl fits refl
item_again (items.Text text) rest fits short whole = again_by 8 (record { tag = 8; parts = 2 ∷ []; slots = 1 }) (Index text) (items.Text text) rest rest refl refl fits refl
item_again (items.Field class pair) rest fits short whole = again_by 9 (record { tag = 9; parts = 2 ∷ 2 ∷ []; slots = 1 }) (Pair class pair) (items.Field class pair) rest rest refl refl fits refl
item_again (items.Method class pair) rest fits short whole = again_by 10 (record { tag = 10; parts = 2 ∷ 2 ∷ []; slots = 1 }) (Pair class pair) (items.Method class pair) rest rest refl refl fits refl
item_again (items.InterfaceMethod class pair) rest fits short whole = again_by 11 (record { tag = 11; parts = 2 ∷ 2 ∷ []; slots = 1 }) (Pair class pair) (items.InterfaceMethod class pair) rest rest refl refl fits refl
item_again (items.NameAndType name desc) rest fits short whole = again_by 12 (record { tag = 12; parts = 2 ∷ 2 ∷ []; slots = 1 }) (Pair name desc) (items.NameAndType name desc) rest rest refl refl fits refl
item_again (items.MethodHandle kind member) rest fits short whole = again_by 15 (record { tag = 15; parts = 1 ∷ 2 ∷ []; slots = 1 }) (Handle kind member) (items.MethodHandle kind member) rest rest refl refl fits refl
item_again (items.MethodType desc) rest fits short whole = again_by 16 (record { tag = 16; parts = 2 ∷ []; slots = 1 }) (Index desc) (items.MethodType desc) rest rest refl refl fits refl
item_again (items.InvokeDynamic bootstrap pair) rest fits short whole = again_by 18 (record { tag = 18; parts = 2 ∷ 2 ∷ []; slots = 1 }) (Pair bootstrap pair) (items.InvokeDynamic bootstrap pair) rest rest refl refl fits refl
item_again items.Hole rest fits short whole = absurd cc
