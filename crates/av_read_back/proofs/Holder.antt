-- The class averroes/Library may be filed.
use Rattle.std.proofs.Common.{◌≡◌, ℕ, zero, suc, ◌≤◌, true, List, [], ◌∷◌, length, Some, slice_get, refl, sym, ap, ◌∙◌, arith}
use Rattle.std.specs.List.{list_all}
use Rattle.std.proofs.lemmas.Option.{none-some}
use Rattle.jv_lists.proofs.Among.{none_there, of_each}
use Rattle.jv_types.specs.declared.shapes.FieldShape.{FieldShape}
use Rattle.jv_world.specs.Worlds.{object_name}
use Rattle.jv_desc.specs.Texts.{desc_text}
use Rattle.jv_names.specs.Spellings.{IsFieldName}
use Rattle.jv_read.proofs.Fronts.{some_is}
use Rattle.av_conditions.specs.StandIn.{library_name, known_name, fresh_name, object_desc}
use Rattle.av_standin_of.specs.Names.{field_key}
use Rattle.av_standin_of.specs.Classes.{holder_field, library_class}
use Rattle.av_read_back.specs.Fileable.{IsFiledName, IsFileableField, IsFileable}
use Rattle.av_read_back.proofs.Each.{is_ascii, ascii_fits}

library_named : IsFiledName library_name
library_named = record { name = refl; fits = ascii_fits library_name refl (omega arith) }

object_named : IsFiledName object_name
object_named = record { name = refl; fits = ascii_fits object_name refl (omega arith) }

holder_fits : (name : List ℕ) → IsFieldName name → list_all is_ascii name ≡ true → length name ≤ 100 → IsFileableField (holder_field name)
holder_fits name is ascii short =
    let text = ascii_fits name ascii short in
    let desc = ascii_fits (desc_text object_desc) refl (omega arith) in
    record {
      form = record { name = is; short_name = text.short; type = record { dims = omega arith; named = refl }; short_desc = desc.short };
      name_text = text.spelled;
      desc_text = desc.spelled;
      flags = omega arith;
    }

abbrev holders : List FieldShape
holders = holder_field fresh_name ∷ holder_field known_name ∷ []

-- the first bytes of their names differ
first_byte : List ℕ → ℕ
first_byte [] = 0
first_byte (byte ∷ bytes) = byte

apart : field_key (holder_field fresh_name) ≡ field_key (holder_field known_name) → ⊥
unfolding first_byte
apart e = let bytes : 102 ≡ 107 = ap (λ (key : List ℕ × List ℕ). first_byte key.0) e in omega (arith, bytes)

same_key : (x y : FieldShape) → x ≡ y → field_key x ≡ field_key y
same_key x y e = ap field_key e

distinct : (i j : ℕ) (a b : FieldShape) → slice_get holders i ≡ Some a → slice_get holders j ≡ Some b → field_key a ≡ field_key b → i ≡ j
distinct zero zero a b e f k = refl
distinct zero (suc zero) a b e f k =
    absurd (apart (same_key (holder_field fresh_name) a (some_is (holder_field fresh_name) a e) ∙ k ∙ sym (same_key (holder_field known_name) b (some_is (holder_field known_name) b f))))
distinct zero (suc (suc j)) a b e f k = absurd (none-some b f)
distinct (suc zero) zero a b e f k =
    absurd (apart (same_key (holder_field fresh_name) b (some_is (holder_field fresh_name) b f) ∙ sym k ∙ sym (same_key (holder_field known_name) a (some_is (holder_field known_name) a e))))
distinct (suc zero) (suc zero) a b e f k = refl
distinct (suc zero) (suc (suc j)) a b e f k = absurd (none-some b f)
distinct (suc (suc i)) j a b e f k = absurd (none-some a e)

pub library_may : IsFileable library_class
library_may = record {
  flags = omega arith;
  name = library_named;
  super = object_named;
  interfaces = λ name among. absurd (none_there name among);
  few_interfaces = omega arith;
  fields = λ field among. of_each IsFileableField holders field (holder_fits fresh_name refl refl (omega arith), (holder_fits known_name refl refl (omega arith), tt)) among;
  few_fields = omega arith;
  distinct_fields = distinct;
  methods = λ method among. absurd (none_there method among);
  few_methods = omega arith;
  distinct_methods = λ i j a b e f k. absurd (none-some a e);
}
