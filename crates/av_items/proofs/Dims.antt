-- Arrays of more and more dimensions.
use Rattle.std.proofs.Common.{◌≡◌, ℕ, zero, suc, List, ◌++◌, ap, sym, ◌∙◌, append_assoc, append-nil, refl}
use Rattle.jv_types.specs.declared.desc.RefType.{RefType}
use Rattle.jv_types.specs.declared.desc.RefType as refs
use Rattle.av_standin_of.specs.Codes.{Row, in_dims}
use Rattle.av_asm.specs.Built.{Built}
use Rattle.av_standin_of.specs.Items.{make_array, make_arrays}
use Rattle.av_templates.specs.Putting.{with_rows}
use Rattle.av_templates.proofs.Adding.{then_rows}
use Rattle.av_items.proofs.Joined.{none_added}

-- a dimension more, beneath or above
pub dims_meet : (dims : ℕ) (type : RefType) → in_dims dims (refs.Array type) ≡ refs.Array (in_dims dims type)
dims_meet zero type = refl
dims_meet (suc dims) type = ap refs.Array (dims_meet dims type)

-- one array more is put last
pub one_more_array : (dims : ℕ) (type : RefType) → make_arrays (suc dims) type ≡ make_arrays dims type ++ make_array (in_dims dims type)
one_more_array zero type = append-nil (make_array type)
one_more_array (suc dims) type =
    ap (λ (rows : List Row). make_array type ++ rows) (one_more_array dims (refs.Array type) ∙ ap (λ (t : RefType). make_arrays dims (refs.Array type) ++ make_array t) (dims_meet dims type))
    ∙ sym (append_assoc (make_array type) (make_arrays dims (refs.Array type)) (make_array (in_dims (suc dims) type)))

-- arrays in so many dimensions were made, and the next is of items of a type
pub record AreMade (dims : ℕ) (type next : RefType) (old now : Built) : Type 0 where
  pub next_is : next ≡ in_dims dims type
  pub built : now ≡ with_rows old (make_arrays dims type)

pub none_made : (type : RefType) (built : Built) → AreMade 0 type type built built
none_made type built = record { next_is = refl; built = none_added built }

pub one_more_made : (dims more : ℕ) (type next after : RefType) (old now new : Built) → more ≡ suc dims → AreMade dims type next old now
    → new ≡ with_rows now (make_array next) → after ≡ refs.Array next → AreMade more type after old new
one_more_made dims more type next after old now new count before put is = record {
  next_is = is ∙ ap refs.Array before.next_is ∙ ap (λ (n : ℕ). in_dims n type) (sym count);
  built =
      then_rows old now new (make_arrays dims type) (make_array (in_dims dims type)) before.built (put ∙ ap (λ (t : RefType). with_rows now (make_array t)) before.next_is)
      ∙ ap (λ (rows : List Row). with_rows old rows) (sym (one_more_array dims type) ∙ ap (λ (n : ℕ). make_arrays n type) (sym count));
}

pub all_made : (dims done : ℕ) (type next : RefType) (old now : Built) → AreMade done type next old now → done ≡ dims → now ≡ with_rows old (make_arrays dims type)
all_made dims done type next old now made same = made.built ∙ ap (λ (n : ℕ). with_rows old (make_arrays n type)) same
