-- Names of a stand-in's world are different, and what has to be numbered can be.
use Rattle.std.proofs.Common.{◌≡◌, ℕ, ◌<◌, ◌≤◌, ◌^◌, ◌+◌, true, List, ◌∷◌, [], ◌++◌, length, map, Contains, sym, subst, ap, ◌∙◌, refl, arith, length-append}
use Rattle.std.proofs.lemmas.List.{length-map, map-append}
use Rattle.std.specs.List.{filter}
use Rattle.std.proofs.lemmas.Cmp.{tied_itself}
use Rattle.std.specs.Cmp.Lexicographic.{nat_list_cmp_total}
use Rattle.std.specs.declared.cmp.Ordering.TheVariants.{Less, Equal}
use Rattle.std.proofs.lemmas.List.Elements.{Contains-append_left, Contains-append_right}
use Rattle.jv_types.specs.declared.shapes.Shape.{Shape}
use Rattle.jv_world.specs.Worlds.{HaveDistinctNames, IsWorld}
use Rattle.jv_resolve.specs.Packages.{package_of}
use Rattle.jv_lists.proofs.Among.{mapped_from, mapped_to, is_first, is_later}
use Rattle.jv_lists.proofs.Places.{among_at}
use Rattle.jv_once.specs.Once.{StandOnce}
use Rattle.jv_once.proofs.Parts.{no_more, once_joined}
use Rattle.jv_once.proofs.Keys.{once_rising, one_place, once_placed, of_kept, once_kept}
use Rattle.av_conditions.specs.StandIn.{library_name, any_name}
use Rattle.av_standin_of.specs.Names.{part_name, file_name, name_order}
use Rattle.av_standin_of.specs.Classes.{MadeClass, IsStandinClass}
use Rattle.av_standin_of.specs.Classes.{IsStandinClass as kinds}
use Rattle.av_standin_of.specs.Worlds.{kept_class, new_class, is_new, standin_world}
use Rattle.av_new_world.specs.Conditions.{MayMakeWorld}
use Rattle.av_new_world.proofs.Kept.{name_stays}
use Rattle.av_new_world.proofs.Elements.{new_name}

abbrev pub name_of : Shape → List ℕ
name_of class = class.name

abbrev pub made_name : MadeClass → List ℕ
made_name made = made.name

-- ---- names

never_below : (x : List ℕ) → name_order x x ≡ Less → ⊥
never_below x less = differ (sym less ∙ tied_itself nat_list_cmp_total x)
  where
    differ : Less ≡ Equal → ⊥
    differ e = cc

-- where what is made of keys is different, so are these
once_under : {X K L : Type 0} (key : X → K) (more : K → L) (xs : List X) → StandOnce (map (λ (x : X). more (key x)) xs) → StandOnce (map key xs)
once_under key more [] once = tt
once_under {X} {K} {L} key more (x ∷ xs) once = (
  λ has. let from = mapped_from key xs (key x) has in
      once.0 (subst (λ (l : L). Contains (map (λ (y : X). more (key y)) xs) l) (ap more from.2) (mapped_to (λ (y : X). more (key y)) xs from.0 from.1)),
  once_under key more xs once.1,
)

mapped_twice : {X Y Z : Type 0} (f : X → Y) (g : Y → Z) (h : X → Z) → ((x : X) → g (f x) ≡ h x) → (xs : List X) → map g (map f xs) ≡ map h xs
mapped_twice f g h same [] = refl
mapped_twice {X} {Y} {Z} f g h same (x ∷ xs) = ap (λ (z : Z). z ∷ map g (map f xs)) (same x) ∙ ap (λ (zs : List Z). h x ∷ zs) (mapped_twice f g h same xs)

module _ (w : List Shape) (dims : ℕ) (classes : List MadeClass) (world : IsWorld w) (may : MayMakeWorld w dims classes) where
  old_once : StandOnce (map name_of w)
  old_once = once_placed name_of w (λ i j x y at_i at_j same. world.numbered.distinct i j (name_of y) (x, at_i, same) (y, at_j, refl))

  new_once : StandOnce (map made_name (filter (is_new w) classes))
  new_once = once_kept made_name (is_new w) classes (once_under made_name file_name classes (once_rising name_order never_below (map (λ (made : MadeClass). file_name made.name) classes) may.are.rising))

  names_are : map name_of (standin_world w classes) ≡ map name_of w ++ map made_name (filter (is_new w) classes)
  names_are =
      map-append name_of (map kept_class w) (map new_class (filter (is_new w) classes))
      ∙ ap (λ (names : List (List ℕ)). names ++ map name_of (map new_class (filter (is_new w) classes))) (mapped_twice kept_class name_of name_of name_stays w)
      ∙ ap (λ (names : List (List ℕ)). map name_of w ++ names) (mapped_twice new_class name_of made_name (λ made. refl) (filter (is_new w) classes))

  apart : (name : List ℕ) → Contains (map name_of w) name → Contains (map made_name (filter (is_new w) classes)) name → ⊥
  apart name old new =
      let class = mapped_from name_of w name old in
      let made = mapped_from made_name (filter (is_new w) classes) name new in
      new_name w made.0 (of_kept (is_new w) classes made.0 made.1).1 class.0 class.1 (class.2 ∙ sym made.2)

  pub names_once : StandOnce (map name_of (standin_world w classes))
  names_once = subst (λ (names : List (List ℕ)). StandOnce names) (sym names_are) (once_joined (map name_of w) (map made_name (filter (is_new w) classes)) old_once new_once apart)

  pub distinct : HaveDistinctNames (standin_world w classes)
  distinct c d name (x, at_c, is_c) (y, at_d, is_d) = one_place name_of (standin_world w classes) names_once c d x y at_c at_d (is_c ∙ sym is_d)

  -- ---- how many there are

  -- the names that new classes may have
  abbrev new_names : List (List ℕ)
  new_names = library_name ∷ (map (λ (class : Shape). any_name class.name) w ++ map (λ (class : Shape). part_name (package_of class.name)) w)

  kind_named : (made : MadeClass) → is_new w made ≡ true → IsStandinClass w dims made → Contains new_names made.name
  kind_named made new (kinds.library is) =
      subst (λ (name : List ℕ). Contains new_names name) (sym (ap made_name is))
      (is_first library_name (map (λ (class : Shape). any_name class.name) w ++ map (λ (class : Shape). part_name (package_of class.name)) w))
  kind_named made new (kinds.collected class collected of) = absurd (new_name w made new class collected.0 (sym of.name))
  kind_named made new (kinds.any c class at of_library not_final no_interface of) =
      subst (λ (name : List ℕ). Contains new_names name) (sym of.name)
      (is_later library_name (map (λ (class : Shape). any_name class.name) w ++ map (λ (class : Shape). part_name (package_of class.name)) w) (any_name class.name)
      (Contains-append_left (map (λ (class : Shape). any_name class.name) w) (map (λ (class : Shape). part_name (package_of class.name)) w) (any_name class.name)
      (mapped_to (λ (class : Shape). any_name class.name) w class (among_at w c class at))))
  kind_named made new (kinds.part class collected of) =
      subst (λ (name : List ℕ). Contains new_names name) (sym of.name)
      (is_later library_name (map (λ (class : Shape). any_name class.name) w ++ map (λ (class : Shape). part_name (package_of class.name)) w) (part_name (package_of class.name))
      (Contains-append_right (map (λ (class : Shape). any_name class.name) w) (map (λ (class : Shape). part_name (package_of class.name)) w) (part_name (package_of class.name))
      (mapped_to (λ (class : Shape). part_name (package_of class.name)) w class collected.0)))

  few_new : length (filter (is_new w) classes) ≤ 1 + (length w + length w)
  few_new =
      let inside : (name : List ℕ) → Contains (map made_name (filter (is_new w) classes)) name → Contains new_names name =
      (λ name has. let from = mapped_from made_name (filter (is_new w) classes) name has in
      let kept = of_kept (is_new w) classes from.0 from.1 in
      subst (λ (n : List ℕ). Contains new_names n) from.2 (kind_named from.0 kept.1 (may.are.only from.0 kept.0))) in
      let fewer = no_more (map made_name (filter (is_new w) classes)) new_names new_once inside in
      omega (
        arith,
        fewer,
        length-map (filter (is_new w) classes) made_name,
        length-append (map (λ (class : Shape). any_name class.name) w) (map (λ (class : Shape). part_name (package_of class.name)) w),
        length-map w (λ (class : Shape). any_name class.name),
        length-map w (λ (class : Shape). part_name (package_of class.name)),
      )

  pub count : length (standin_world w classes) < 2 ^ 32
  count =
      omega (
        arith,
        few_new,
        may.can.few_classes,
        length-append (map kept_class w) (map new_class (filter (is_new w) classes)),
        length-map w kept_class,
        length-map (filter (is_new w) classes) new_class,
      )
