-- The loop over the words whose types are written.
use Rattle.std.proofs.Common.{◌≡◌, ℕ, ◌+◌, ◌<◌, ◌≤◌, Bool, true, false, List, [], ◌∷◌, ◌++◌, length, drop, get_or, Some, None, refl, sym, ap, subst, ◌∙◌}
use Rattle.std.proofs.lemmas.List.{drop_more, drop_all}
use Rattle.jv_types.specs.declared.frames.VType.{VType}
use Rattle.jv_pool.specs.declared.item.PoolItem.{PoolItem}
use Rattle.jv_attr.specs.declared.frame.MapType.{MapType}
use Rattle.jv_insn.specs.Entries.{Grows}
use Rattle.av_asm.specs.Mapping.{put_each, put_type, is_wide, values_from}
use Rattle.av_asm.proofs.Putting.{IsPutSoFar, put_more, put_stopped, put_ended}

next_word : (words : List VType) (i : ℕ) (word : VType) → i < length words → word ≡ get_or words i word → drop i words ≡ word ∷ drop (i + 1) words
next_word words i word lt is = drop_more words i word lt ∙ ap (λ (w : VType). w ∷ drop (i + 1) words) (sym is)

none_left : (second : Bool) → values_from second [] ≡ []
none_left true = refl
none_left false = refl

-- the second word of a value is passed over
pub types_over : (all words : List VType) (i : ℕ) (second : Bool) (word : VType) (initial now : List PoolItem) (written : List MapType) → i < length words → word ≡ get_or words i word → second ≡ true
    → IsPutSoFar put_type all (values_from second (drop i words)) initial now written → IsPutSoFar put_type all (values_from false (drop (i + 1) words)) initial now written
types_over all words i second word initial now written lt is on h =
    let left : values_from second (drop i words) ≡ values_from false (drop (i + 1) words) =
    ap (λ (b : Bool). values_from b (drop i words)) on ∙ ap (values_from true) (next_word words i word lt is) in
    subst (λ (left : List VType). IsPutSoFar put_type all left initial now written) left h

left_first : (words : List VType) (i : ℕ) (second : Bool) (word : VType) → i < length words → word ≡ get_or words i word → second ≡ false → values_from second (drop i words) ≡ word ∷ values_from (is_wide word) (drop (i + 1) words)
left_first words i second word lt is off = ap (λ (b : Bool). values_from b (drop i words)) off ∙ ap (values_from false) (next_word words i word lt is)

-- a value begins at the word, and is written
pub types_more : (all words : List VType) (i : ℕ) (second next : Bool) (word : VType) (m : MapType) (initial now new : List PoolItem) (written more : List MapType) → i < length words → word ≡ get_or words i word → second ≡ false
    → IsPutSoFar put_type all (values_from second (drop i words)) initial now written → put_type word now ≡ Some (m, new) → Grows now new → more ≡ written ++ m ∷ [] → next ≡ is_wide word
    → IsPutSoFar put_type all (values_from next (drop (i + 1) words)) initial new more
types_more all words i second next word m initial now new written more lt is off h put grows pushed wide =
    let rest = values_from (is_wide word) (drop (i + 1) words) in
    let before = subst (λ (left : List VType). IsPutSoFar put_type all left initial now written) (left_first words i second word lt is off) h in
    let after = put_more put_type all rest word m initial now new written before put grows in
    subst (λ (b : Bool). IsPutSoFar put_type all (values_from b (drop (i + 1) words)) initial new more) (sym wide) (subst (λ (ms : List MapType). IsPutSoFar put_type all rest initial new ms) (sym pushed) after)

pub types_stopped : (all words : List VType) (i : ℕ) (second : Bool) (word : VType) (initial now : List PoolItem) (written : List MapType) → i < length words → word ≡ get_or words i word → second ≡ false
    → IsPutSoFar put_type all (values_from second (drop i words)) initial now written → put_type word now ≡ None → put_each put_type all initial ≡ None
types_stopped all words i second word initial now written lt is off h none =
    let rest = values_from (is_wide word) (drop (i + 1) words) in
    let before = subst (λ (left : List VType). IsPutSoFar put_type all left initial now written) (left_first words i second word lt is off) h in
    put_stopped put_type all rest word initial now written before none

pub types_ended : (all words : List VType) (i : ℕ) (second : Bool) (initial now : List PoolItem) (written : List MapType) → length words ≤ i → IsPutSoFar put_type all (values_from second (drop i words)) initial now written
    → put_each put_type all initial ≡ Some (written, now)
types_ended all words i second initial now written le h =
    put_ended put_type all (values_from second (drop i words)) initial now written (ap (values_from second) (drop_all i words le) ∙ none_left second) h
