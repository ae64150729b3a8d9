-- A class name is parts that are joined by `/`.
use Rattle.std.proofs.Common.{◌≡◌, ℕ, Bool, true, false, cond, eqb, ◌&&◌, List, [], ◌∷◌, ◌++◌, refl, sym, ap, subst, ◌∙◌, arith}
use Rattle.std.specs.List.{list_all, flat_map, AllByRecursion}
use Rattle.std.proofs.lemmas.Bool.{and_parts, and_from}
use Rattle.std.proofs.lemmas.Bool.Decides.{nat_tests}
use Rattle.jv_types.specs.NameForms.{may_stand, is_part, goes_on, is_class_name, IsClassName}

-- the other parts of a name, each after a `/`
abbrev after_slashes : List (List ℕ) → List ℕ
after_slashes parts = flat_map (λ (part : List ℕ). 47 ∷ part) parts

abbrev AreParts : List (List ℕ) → Type 0
AreParts parts = AllByRecursion (λ (part : List ℕ). is_part part ≡ true) parts

-- what goes on: the rest of a part, and other parts. Where no byte of the part stands yet, one follows
record Goes (begun : Bool) (bytes : List ℕ) : Type 0 where
  front : List ℕ
  others : List (List ℕ)
  stands : list_all may_stand front ≡ true
  some : begun ≡ false → is_part front ≡ true
  parts : AreParts others
  joined : bytes ≡ front ++ after_slashes others

-- ---- from the test to the parts

part_of : (b : ℕ) (bs : List ℕ) → may_stand b ≡ true → list_all may_stand bs ≡ true → is_part (b ∷ bs) ≡ true
part_of b bs first rest = and_from (may_stand b) (list_all may_stand bs) first rest

to_parts : (begun : Bool) (bytes : List ℕ) → goes_on begun bytes ≡ true → Goes begun bytes
to_parts true [] e = record { front = []; others = []; stands = refl; some = λ h. absurd cc; parts = tt; joined = refl }
to_parts false [] e = absurd cc
to_parts begun (b ∷ bs) e = by_slash (eqb b 47) refl e (λ begun' h. to_parts begun' bs h)
  where
    by_slash : (slash : Bool) → eqb b 47 ≡ slash → cond slash (begun && goes_on false bs) (may_stand b && goes_on true bs) ≡ true → ((begun' : Bool) → goes_on begun' bs ≡ true → Goes begun' bs) → Goes begun (b ∷ bs)
    by_slash true is h rest =
        let halves = and_parts begun (goes_on false bs) h in
        let next = rest false halves.1 in
        let slash : b ≡ 47 = grind (arith, nat_tests) in
        record {
          front = [];
          others = next.front ∷ next.others;
          stands = refl;
          some = λ none. let yes = halves.0 in absurd cc;
          parts = (next.some refl, next.parts);
          joined = ap (λ (z : ℕ). z ∷ bs) slash ∙ ap (λ (z : List ℕ). 47 ∷ z) next.joined;
        }
    by_slash false is h rest =
        let halves = and_parts (may_stand b) (goes_on true bs) h in
        let next = rest true halves.1 in
        record {
          front = b ∷ next.front;
          others = next.others;
          stands = and_from (may_stand b) (list_all may_stand next.front) halves.0 next.stands;
          some = λ none. part_of b next.front halves.0 next.stands;
          parts = next.parts;
          joined = ap (λ (z : List ℕ). b ∷ z) next.joined;
        }

-- ---- from the parts to the test

no_slash : (b : ℕ) → may_stand b ≡ true → eqb b 47 ≡ false
no_slash b e = grind (arith, nat_tests)

-- a byte of a part, and what goes on after it
one_byte : (begun : Bool) (b : ℕ) (rest : List ℕ) → may_stand b ≡ true → goes_on true rest ≡ true → goes_on begun (b ∷ rest) ≡ true
one_byte begun b rest stands e =
    subst (λ (slash : Bool). cond slash (begun && goes_on false rest) (may_stand b && goes_on true rest) ≡ true) (sym (no_slash b stands)) (and_from (may_stand b) (goes_on true rest) stands e)

-- the bytes of a part, and what goes on after them
all_bytes : (front rest : List ℕ) → list_all may_stand front ≡ true → goes_on true rest ≡ true → goes_on true (front ++ rest) ≡ true
all_bytes [] rest stands e = e
all_bytes (b ∷ bs) rest stands e =
    let halves = and_parts (may_stand b) (list_all may_stand bs) stands in
    one_byte true b (bs ++ rest) halves.0 (all_bytes bs rest halves.1 e)

-- a part, and what goes on after it
one_part : (begun : Bool) (part rest : List ℕ) → is_part part ≡ true → goes_on true rest ≡ true → goes_on begun (part ++ rest) ≡ true
one_part begun [] rest p e = absurd cc
one_part begun (b ∷ bs) rest p e =
    let halves = and_parts (may_stand b) (list_all may_stand bs) p in
    one_byte begun b (bs ++ rest) halves.0 (all_bytes bs rest halves.1 e)

-- other parts go on
other_parts : (parts : List (List ℕ)) → AreParts parts → goes_on true (after_slashes parts) ≡ true
other_parts [] p = refl
other_parts (part ∷ parts) p = one_part false part (after_slashes parts) p.0 (other_parts parts p.1)

pub class_name_is : (bytes : List ℕ) → is_class_name bytes ≡ true → IsClassName bytes
class_name_is bytes e =
    let g = to_parts false bytes e in
    record { first = g.front; others = g.others; first_part = g.some refl; other_parts = g.parts; joined = g.joined }

pub class_name_from : (bytes : List ℕ) → IsClassName bytes → is_class_name bytes ≡ true
class_name_from bytes h =
    ap (goes_on false) h.joined ∙ one_part false h.first (after_slashes h.others) h.first_part (other_parts h.others h.other_parts)
