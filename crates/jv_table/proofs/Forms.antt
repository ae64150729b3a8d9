-- The form of a key's row is the row of the key among the forms.
use Rattle.std.proofs.Common.{◌≡◌, ℕ, List, [], ◌∷◌, map, refl}
use Rattle.std.specs.Option.{option_map}
use Rattle.std.specs.Ordering.{nat_cmp}
use Rattle.std.specs.declared.cmp.Ordering.{Ordering}
use Rattle.std.specs.declared.cmp.Ordering.TheVariants.{Less, Equal, Greater}
use Rattle.jv_table.specs.Rows.{row_of}

module _ {R F : Type 0} (form : R → F) where
  -- a row with its key, in its form
  abbrev with_form : ℕ × R → ℕ × F
  with_form row = (row.0, form row.1)

  -- the form of the row that is found is found among the forms
  pub row_of-forms : (key : ℕ) (rows : List (ℕ × R)) → option_map form (row_of nat_cmp key rows) ≡ row_of nat_cmp key (map with_form rows)
  row_of-forms key [] = refl
  row_of-forms key (row ∷ rows) =
      let rest = row_of-forms key rows in
      by_head (nat_cmp key row.0) refl rest
    where
      by_head : (r : Ordering) → nat_cmp key row.0 ≡ r → option_map form (row_of nat_cmp key rows) ≡ row_of nat_cmp key (map with_form rows) → option_map form (row_of nat_cmp key (row ∷ rows)) ≡ row_of nat_cmp key (map with_form (row ∷ rows))
      by_head Less e rest = rw e rest
      by_head Equal e rest = rw e refl
      by_head Greater e rest = rw e rest
