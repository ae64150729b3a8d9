-- Classes of a stand-in that have one name are one class.
use Rattle.std.proofs.Common.{◌≡◌, ℕ, ◌+◌, List, [], ◌∷◌, length, take, reverse, Some, Contains, slice_get, codes, refl, sym, ap, subst, ◌∙◌, arith}
use Rattle.std.proofs.lemmas.List.{append_cancel_right, length-append, reverse-append}
use Rattle.std.proofs.lemmas.Option.{same_Some}
use Rattle.jv_lists.proofs.Places.{placed}
use Rattle.jv_types.specs.declared.shapes.Shape.{Shape}
use Rattle.jv_world.specs.Worlds.{HaveDistinctNames, IsWorld}
use Rattle.jv_resolve.specs.Packages.{package_of}
use Rattle.av_conditions.specs.StandIn.{library_name, any_name}
use Rattle.av_standin_of.specs.Names.{part_name}
use Rattle.av_standin_of.specs.Classes.{MadeClass, IsOfCollected, IsOfAny, IsOfPackage, IsStandinClass}
use Rattle.av_sketches.specs.Conditions.{CanStandIn}
use Rattle.av_one_standin.proofs.Choices.{one_collected, one_any, one_part}

-- ---- names

-- the last two bytes, the last one first
abbrev last_two : List ℕ → List ℕ
last_two name = take 2 (reverse name)

any_ends : (name : List ℕ) → last_two (any_name name) ≡ 121 ∷ 110 ∷ []
any_ends name = ap (take 2) (reverse-append name (codes "$averroes$any"))

part_ends : (folder : List ℕ) → last_two (part_name folder) ≡ 116 ∷ 114 ∷ []
part_ends [] = refl
part_ends (byte ∷ bytes) = ap (take 2) (reverse-append (byte ∷ bytes) (codes "/averroes$part"))

apart : (a b c d : ℕ) → a ∷ b ∷ [] ≡ c ∷ d ∷ [] → ¬ ((a ≡ c) × (b ≡ d)) → ⊥
apart a b c d same other = other (cc, cc)

library_no_any : (name : List ℕ) → library_name ≡ any_name name → ⊥
library_no_any name same = apart 121 114 121 110 (ap last_two same ∙ any_ends name) (λ both. omega (arith, both.0, both.1))

library_no_part : (folder : List ℕ) → library_name ≡ part_name folder → ⊥
library_no_part folder same = apart 121 114 116 114 (ap last_two same ∙ part_ends folder) (λ both. omega (arith, both.0, both.1))

any_no_part : (name folder : List ℕ) → any_name name ≡ part_name folder → ⊥
any_no_part name folder same = apart 121 110 116 114 (sym (any_ends name) ∙ ap last_two same ∙ part_ends folder) (λ both. omega (arith, both.0, both.1))

-- a class of any object is of one class, and one with items of one package
any_of_one : (name name' : List ℕ) → any_name name ≡ any_name name' → name ≡ name'
any_of_one name name' same = append_cancel_right name name' (codes "$averroes$any") same

nowhere_else : (byte : ℕ) (bytes : List ℕ) → part_name [] ≡ part_name (byte ∷ bytes) → ⊥
nowhere_else byte bytes same =
    let long : 13 ≡ length (byte ∷ bytes) + 14 = ap length same ∙ length-append (byte ∷ bytes) (codes "/averroes$part") in
    omega (arith, long)

part_of_one : (folder folder' : List ℕ) → part_name folder ≡ part_name folder' → folder ≡ folder'
part_of_one [] [] same = refl
part_of_one [] (byte ∷ bytes) same = absurd (nowhere_else byte bytes same)
part_of_one (byte ∷ bytes) [] same = absurd (nowhere_else byte bytes (sym same))
part_of_one (byte ∷ bytes) (byte' ∷ bytes') same = append_cancel_right (byte ∷ bytes) (byte' ∷ bytes') (codes "/averroes$part") same

-- ---- classes of a world

-- where names are distinct, classes of one name are one class, with one number
one_number : (w : List Shape) → HaveDistinctNames w → (c d : ℕ) (s t : Shape) → slice_get w c ≡ Some s → slice_get w d ≡ Some t → s.name ≡ t.name → c ≡ d
one_number w distinct c d s t at at' same = distinct c d t.name (s, at, same) (t, at', refl)

one_shape : (w : List Shape) → HaveDistinctNames w → (c d : ℕ) (s t : Shape) → slice_get w c ≡ Some s → slice_get w d ≡ Some t → s.name ≡ t.name → s ≡ t
one_shape w distinct c d s t at at' same =
    same_Some s t (sym at ∙ ap (slice_get w) (one_number w distinct c d s t at at' same) ∙ at')

-- ---- classes of a stand-in

module _ (w : List Shape) (dims : ℕ) (a b : MadeClass) (world : IsWorld w) (can : CanStandIn w dims) (same : a.name ≡ b.name) where
  distinct : HaveDistinctNames w
  distinct = world.numbered.distinct

  both_collected : (s t : Shape) → Contains w s → Contains w t → IsOfCollected s a → IsOfCollected t b → a ≡ b
  both_collected s t in_s in_t is is' =
      let shapes : s ≡ t = one_shape w distinct in_s.0 in_t.0 s t (placed w s in_s) (placed w t in_t) (sym is.name ∙ same ∙ is'.name) in
      one_collected t a b (subst (λ (shape : Shape). IsOfCollected shape a) shapes is) is'

  both_any : (c d : ℕ) (s t : Shape) → slice_get w c ≡ Some s → slice_get w d ≡ Some t → IsOfAny w c s a → IsOfAny w d t b → a ≡ b
  both_any c d s t at at' is is' =
      let names : s.name ≡ t.name = any_of_one s.name t.name (sym is.name ∙ same ∙ is'.name) in
      let shapes : s ≡ t = one_shape w distinct c d s t at at' names in
      let numbers : c ≡ d = one_number w distinct c d s t at at' names in
      one_any w d t a b (subst (λ (shape : Shape). IsOfAny w d shape a) shapes (subst (λ (number : ℕ). IsOfAny w number s a) numbers is)) is'

  both_parts : (folder folder' : List ℕ) → IsOfPackage w dims folder a → IsOfPackage w dims folder' b → a ≡ b
  both_parts folder folder' is is' =
      let folders : folder ≡ folder' = part_of_one folder folder' (sym is.name ∙ same ∙ is'.name) in
      one_part w dims folder' a b (subst (λ (f : List ℕ). IsOfPackage w dims f a) folders is) is'

  pub one_by_name : IsStandinClass w dims a → IsStandinClass w dims b → a ≡ b
  one_by_name (IsStandinClass.library is) (IsStandinClass.library is') = is ∙ sym is'
  one_by_name (IsStandinClass.library is) (IsStandinClass.collected t here is') =
      absurd (can.free.library t here.0 (sym is'.name ∙ sym same ∙ ap (λ (made : MadeClass). made.name) is))
  one_by_name (IsStandinClass.library is) (IsStandinClass.any d t at' o' f' i' is') =
      absurd (library_no_any t.name (sym (ap (λ (made : MadeClass). made.name) is) ∙ same ∙ is'.name))
  one_by_name (IsStandinClass.library is) (IsStandinClass.part t here is') =
      absurd (library_no_part (package_of t.name) (sym (ap (λ (made : MadeClass). made.name) is) ∙ same ∙ is'.name))
  one_by_name (IsStandinClass.collected s here is) (IsStandinClass.library is') =
      absurd (can.free.library s here.0 (sym is.name ∙ same ∙ ap (λ (made : MadeClass). made.name) is'))
  one_by_name (IsStandinClass.collected s here is) (IsStandinClass.collected t there is') = both_collected s t here.0 there.0 is is'
  one_by_name (IsStandinClass.collected s here is) (IsStandinClass.any d t at' o' f' i' is') =
      absurd (can.free.any t.name s here.0 (sym is.name ∙ same ∙ is'.name))
  one_by_name (IsStandinClass.collected s here is) (IsStandinClass.part t there is') =
      absurd (can.free.part (package_of t.name) s here.0 (sym is.name ∙ same ∙ is'.name))
  one_by_name (IsStandinClass.any c s at o f i is) (IsStandinClass.library is') =
      absurd (library_no_any s.name (sym (ap (λ (made : MadeClass). made.name) is') ∙ sym same ∙ is.name))
  one_by_name (IsStandinClass.any c s at o f i is) (IsStandinClass.collected t there is') =
      absurd (can.free.any s.name t there.0 (sym is'.name ∙ sym same ∙ is.name))
  one_by_name (IsStandinClass.any c s at o f i is) (IsStandinClass.any d t at' o' f' i' is') = both_any c d s t at at' is is'
  one_by_name (IsStandinClass.any c s at o f i is) (IsStandinClass.part t there is') =
      absurd (any_no_part s.name (package_of t.name) (sym is.name ∙ same ∙ is'.name))
  one_by_name (IsStandinClass.part s here is) (IsStandinClass.library is') =
      absurd (library_no_part (package_of s.name) (sym (ap (λ (made : MadeClass). made.name) is') ∙ sym same ∙ is.name))
  one_by_name (IsStandinClass.part s here is) (IsStandinClass.collected t there is') =
      absurd (can.free.part (package_of s.name) t there.0 (sym is'.name ∙ sym same ∙ is.name))
  one_by_name (IsStandinClass.part s here is) (IsStandinClass.any d t at' o' f' i' is') =
      absurd (any_no_part t.name (package_of s.name) (sym is'.name ∙ sym same ∙ is.name))
  one_by_name (IsStandinClass.part s here is) (IsStandinClass.part t there is') = both_parts (package_of s.name) (package_of t.name) is is'
