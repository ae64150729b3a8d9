-- The values of rows that were brought into order are just those that were given.
use Rattle.std.proofs.Common.{◌≡◌, ℕ, List, [], ◌∷◌, map, Contains, Result, Ok, Err, sym, subst, ap, ◌∙◌, refl}
use Rattle.std.specs.Prelude.{IfOk}
use Rattle.std.specs.List.Sorted.{IsStrictlySortedBy}
use Rattle.jv_lists.proofs.Among.{is_first, is_later, mapped_from, mapped_to}
use Rattle.av_standin_of.specs.Lists.{AreJust}
use Rattle.av_standin_of.specs.Names.{member_order}
use Rattle.av_sorted.specs.declared.row.Row.{Row}
use Rattle.av_sorted.specs.Orders.{row_key, value_of, AreApart, HasKey}

same_map : {X Y : Type 0} (f g : X → Y) (xs : List X) → ((x : X) → Contains xs x → f x ≡ g x) → map f xs ≡ map g xs
same_map f g [] same = refl
same_map {X} {Y} f g (x ∷ xs) same =
    ap (λ (y : Y). y ∷ map f xs) (same x (is_first x xs)) ∙ ap (λ (ys : List Y). g x ∷ ys) (same_map f g xs (λ y has. same y (is_later x xs y has)))

map_twice : {X Y Z : Type 0} (f : X → Y) (g : Y → Z) (xs : List X) → map g (map f xs) ≡ map (λ (x : X). g (f x)) xs
map_twice f g [] = refl
map_twice {X} {Y} {Z} f g (x ∷ xs) = ap (λ (zs : List Z). g (f x) ∷ zs) (map_twice f g xs)

module _ {T : Type 0} (key : T → List ℕ × List ℕ) (row_of : T → Row T) (value_is : (x : T) → (row_of x).value ≡ x) (key_is : (x : T) → row_key (row_of x) ≡ key x) (given : List T) (kept : List (Row T)) where
  is_keyed : (row : Row T) → (x : T) × Contains given x × (row_of x ≡ row) → key row.value ≡ row_key row
  is_keyed row (x, has, is) = ap (λ (r : Row T). key r.value) (sym is) ∙ ap key (value_is x) ∙ sym (key_is x) ∙ ap row_key is

  same_one : AreApart key given → (x : T) → Contains given x → (row : Row T) → row_key row ≡ row_key (row_of x) → (y : T) × Contains given y × (row_of y ≡ row) → row.value ≡ x
  same_one apart x has row like (y, there, is) =
      ap (λ (r : Row T). r.value) (sym is) ∙ value_is y ∙ apart y x there has (sym (key_is y) ∙ ap row_key is ∙ like ∙ key_is x)

  is_given : (x : T) (row : Row T) → row.value ≡ x → (y : T) × Contains given y × (row_of y ≡ row) → Contains given x
  is_given x row same (y, there, is) = subst (λ (z : T). Contains given z) (sym (value_is y) ∙ ap (λ (r : Row T). r.value) is ∙ same) there

  keeps_each : AreApart key given → ((row : Row T) → Contains kept row → Contains (map row_of given) row) → (x : T) → Contains given x → HasKey row_key kept (row_key (row_of x)) → Contains (map value_of kept) x
  keeps_each apart only x has (row, there, like) =
      subst (λ (z : T). Contains (map value_of kept) z) (same_one apart x has row like (mapped_from row_of given row (only row there))) (mapped_to value_of kept row there)

  from_kept : ((row : Row T) → Contains kept row → Contains (map row_of given) row) → (x : T) → (row : Row T) × Contains kept row × (value_of row ≡ x) → Contains given x
  from_kept only x (row, there, same) = is_given x row same (mapped_from row_of given row (only row there))

  pub are_just : IsStrictlySortedBy member_order (map row_key kept) → ((row : Row T) → Contains kept row → Contains (map row_of given) row)
      → ((row : Row T) → Contains (map row_of given) row → HasKey row_key kept (row_key row)) → AreApart key given → AreJust member_order key (Contains given) (map value_of kept)
  are_just rise only each apart = record {
    rising =
        subst (IsStrictlySortedBy member_order)
        (sym (map_twice value_of key kept ∙ same_map (λ (row : Row T). key row.value) row_key kept (λ row has. is_keyed row (mapped_from row_of given row (only row has))))) rise;
    all = λ x has. keeps_each apart only x has (each (row_of x) (mapped_to row_of given x has));
    only = λ x has. from_kept only x (mapped_from value_of kept x has);
  }

  -- so it is with the rows that were made of the values
  pub just_answered : {E : Type 0} (rows : List (Row T)) (answer : Result (List T) E) → rows ≡ map row_of given → IsStrictlySortedBy member_order (map row_key kept)
      → ((row : Row T) → Contains kept row → Contains rows row) → ((row : Row T) → Contains rows row → HasKey row_key kept (row_key row))
      → IfOk answer (λ (made : List T). made ≡ map value_of kept) → IfOk answer (λ (made : List T). AreApart key given → AreJust member_order key (Contains given) made)
  just_answered rows (Err e) are rise only each put = tt
  just_answered rows (Ok made) are rise only each put =
      let answered = are_just rise (λ row has. subst (λ (xs : List (Row T)). Contains xs row) are (only row has)) (λ row has. each row (subst (λ (xs : List (Row T)). Contains xs row) (sym are) has)) in
      λ apart. subst (AreJust member_order key (Contains given)) (sym put) (answered apart)
