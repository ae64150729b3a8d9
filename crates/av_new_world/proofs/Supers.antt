-- Supertypes of the classes of a stand-in's world.
use Rattle.std.proofs.Common.{◌≡◌, ℕ, zero, suc, ◌<◌, inl, inr, true, false, List, [], Contains, Option, None, Some, sym, subst, ap, ◌∙◌, refl, arith}
use Rattle.std.specs.Prelude.{MatchOption, bit_and}
use Rattle.std.proofs.lemmas.Slice.Eq.{bytes_eq-Decides}
use Rattle.jv_types.specs.declared.access.Access.{Access}
use Rattle.std.specs.List.{slice_get}
use Rattle.jv_types.specs.declared.shapes.Shape.{Shape}
use Rattle.jv_world.specs.Worlds.{object_name, IsAbsent, IsFinal, IsInterface, IsNamed, IsWorld, NamesSuper, HasRightSupers}
use Rattle.jv_lists.proofs.Among.{none_there}
use Rattle.jv_lists.proofs.Places.{among_at, placed}
use Rattle.av_conditions.specs.CoreClasses.{throwable_name}
use Rattle.av_standin_of.specs.Classes.{MadeClass, IsStandinClass, final_class, library_class}
use Rattle.av_standin_of.specs.Classes.{IsStandinClass as kinds}
use Rattle.av_standin_of.specs.Worlds.{kept_class, new_class, is_new, standin_world}
use Rattle.av_new_world.specs.Conditions.{MayMakeWorld}
use Rattle.av_new_world.proofs.Kept.{name_stays, parent_stays, interfaces_stay, supers_stay, interface_was, interface_stays, final_was}
use Rattle.av_new_world.proofs.Elements.{WasThere, from_world, new_name, new_nowhere}
use Rattle.av_new_world.proofs.Places.{named_old, number_of}

some_is : {X : Type 0} (x y : X) → Some x ≡ Some y → x ≡ y
some_is x y e = cc

none_some : {X : Type 0} (x : X) → None ≡ Some x → ⊥
none_some x e = cc

-- what a supertype that a class of the world names is: in the world there is a class of this name that isn't ruled out
module _ (w : List Shape) (dims : ℕ) (classes : List MadeClass) (world : IsWorld w) (may : MayMakeWorld w dims classes) where
  -- a class of the world names no new class
  pub names_no_new : (class : Shape) → Contains w class → (name : List ℕ) → NamesSuper class name → (made : MadeClass) → is_new w made ≡ true → made.name ≡ name → ⊥
  names_no_new class has name names made new same =
      world.none_absent name (record { shape = class; here = has; names = names; nowhere = λ c named. new_nowhere w made new c (subst (λ (n : List ℕ). IsNamed w c n) (sym same) named) })

  -- a class of the world of that name
  pub super_was : (class : Shape) → Contains w class → (other : Shape) → Contains (standin_world w classes) other → NamesSuper class other.name → WasThere w other
  super_was class has other there names = elim (from_world w classes other there) [
    | inl old ↦ old
    | inr added ↦ absurd (names_no_new class has other.name names added.made added.new (ap (λ (s : Shape). s.name) added.is))
  ]

  -- a class of the name of one of the world is that one
  pub same_was : (class : Shape) → Contains w class → (other : Shape) → Contains (standin_world w classes) other → other.name ≡ class.name → kept_class class ≡ other
  same_was class has other there same = elim (from_world w classes other there) [
    | inl old ↦ ap kept_class (sym (one_class old (sym (name_stays old.class) ∙ ap (λ (s : Shape). s.name) old.is ∙ same))) ∙ old.is
    | inr added ↦ absurd (new_name w added.made added.new class has (sym same ∙ sym (ap (λ (s : Shape). s.name) added.is)))
  ]
    where
      one_class : (old : WasThere w other) → old.class.name ≡ class.name → old.class ≡ class
      one_class old is =
          let a = number_of w old.class old.there in
          let b = number_of w class has in
          let places : old.there.0 ≡ has.0 = world.numbered.distinct old.there.0 has.0 class.name (old.class, placed w old.class old.there, is) (class, placed w class has, refl) in
          some_is old.class class (sym (placed w old.class old.there) ∙ ap (slice_get w) places ∙ placed w class has)

  -- ---- Object

  pub object_class : (shape : Shape) × Contains w shape × (shape.name ≡ object_name) × (IsInterface shape → ⊥)
  object_class =
      let found = may.can.core.there object_name (inl (inl refl)) in
      (found.0, found.1, found.2, found.4.class (inl found.2))

  throwable_class : (shape : Shape) × Contains w shape × (shape.name ≡ throwable_name)
  throwable_class = let found = may.can.core.there throwable_name (inl (inr (inl refl))) in (found.0, found.1, found.2)

  -- were Object final, no other class could stand in the world: none of a lower rank does
  none_below : (n c : ℕ) (class : Shape) → slice_get w c ≡ Some class → world.rank c < n → (class.name ≡ object_name → ⊥) → IsFinal object_class.0 → ⊥
  none_below zero c class at low other final = omega (arith, low)
  none_below (suc n) c class at low other final =
      by class.parent refl (world.right_supers class (among_at w c class at)).superclass (λ d o at_d below apart. none_below n d o at_d below apart final)
    where
      by : (parent : Option (List ℕ)) → class.parent ≡ parent
          → MatchOption parent (class.name ≡ object_name) (λ name. (o : Shape) → Contains w o → o.name ≡ name → (IsInterface o → ⊥) × (IsFinal o → ⊥))
          → ((d : ℕ) (o : Shape) → slice_get w d ≡ Some o → world.rank d < n → (o.name ≡ object_name → ⊥) → ⊥) → ⊥
      by None is right lower = other right
      by (Some name) is right lower =
          world.none_absent name (record {
            shape = class;
            here = among_at w c class at;
            names = inl is;
            nowhere = λ d (o, at_d, named).
                lower d o at_d (omega (arith, low, world.falls c d (inl (class, name, at, is, (o, at_d, named)))))
                (λ is_object. (right object_class.0 object_class.1 (object_class.2 ∙ sym is_object ∙ named)).1 final);
          })

  unlike : false ≡ true → ⊥
  unlike e = grind (arith, e)

  pub object_open : IsFinal object_class.0 → ⊥
  object_open final =
      none_below (suc (world.rank throwable_class.1.0)) throwable_class.1.0 throwable_class.0 (placed w throwable_class.0 throwable_class.1) (omega arith)
      (λ same. unlike ((bytes_eq-Decides throwable_name object_name).1 (sym throwable_class.2 ∙ same))) final

  -- ---- supertypes that are there

  object_there : (c : ℕ) × IsNamed w c object_name
  object_there = let c = number_of w object_class.0 object_class.1 in (c.0, subst (λ (n : List ℕ). IsNamed w c.0 n) object_class.2 c.1)

  none_in : {X : Type 0} (xs : List X) (x : X) → xs ≡ [] → Contains xs x → ⊥
  none_in {X} xs x none has = none_there x (subst (λ (ys : List X). Contains ys x) none has)

  is_object : (name : List ℕ) → Some object_name ≡ Some name → (c : ℕ) × IsNamed w c name
  is_object name same = (object_there.0, subst (λ (n : List ℕ). IsNamed w object_there.0 n) (some_is object_name name same) object_there.1)

  -- what a new class names is in the world
  pub super_there : (made : MadeClass) → is_new w made ≡ true → IsStandinClass w dims made → (name : List ℕ) → NamesSuper (new_class made) name → (c : ℕ) × IsNamed w c name
  super_there made new (kinds.library is) name (inl parent) = is_object name (sym (ap (λ (m : MadeClass). m.parent) is) ∙ parent)
  super_there made new (kinds.library is) name (inr interface) = absurd (none_in made.interfaces name (ap (λ (m : MadeClass). m.interfaces) is) interface)
  super_there made new (kinds.collected class collected of) name names = absurd (new_name w made new class collected.0 (sym of.name))
  super_there made new (kinds.any c class at of_library not_final no_interface of) name (inl parent) = (c, (class, at, some_is class.name name (sym of.parent ∙ parent)))
  super_there made new (kinds.any c class at of_library not_final no_interface of) name (inr interface) =
      let lib = of.interfaces.only name interface in
      let d = number_of w lib.0 lib.1 in
      (d.0, subst (λ (n : List ℕ). IsNamed w d.0 n) lib.2 d.1)
  super_there made new (kinds.part class collected of) name (inl parent) = is_object name (sym of.parent ∙ parent)
  super_there made new (kinds.part class collected of) name (inr interface) = absurd (none_in made.interfaces name of.interfaces interface)

  pub none_absent : (name : List ℕ) → IsAbsent (standin_world w classes) name → ⊥
  none_absent name absent = elim (from_world w classes absent.shape absent.here) [
    | inl old ↦
        world.none_absent name (record {
          shape = old.class;
          here = old.there;
          names = supers_stay old.class name (subst (λ (s : Shape). NamesSuper s name) (sym old.is) absent.names);
          nowhere = λ c named. absent.nowhere c (named_old w classes c name named);
        })
    | inr added ↦
        let there = super_there added.made added.new (may.are.only added.made added.there) name (subst (λ (s : Shape). NamesSuper s name) (sym added.is) absent.names) in
        absent.nowhere there.0 (named_old w classes there.0 name there.1)
  ]

  -- ---- supertypes of the right kind

  open_class : (class : Shape) → Contains w class → (IsInterface class → ⊥) → (IsFinal class → ⊥)
      → (other : Shape) → Contains (standin_world w classes) other → other.name ≡ class.name → (IsInterface other → ⊥) × (IsFinal other → ⊥)
  open_class class has no_interface not_final other there same =
      let is = same_was class has other there same in (
        λ flag. no_interface (interface_was class (subst IsInterface (sym is) flag)),
        λ flag. not_final (final_was class (subst IsFinal (sym is) flag)),
      )

  open_object : (other : Shape) → Contains (standin_world w classes) other → other.name ≡ object_name → (IsInterface other → ⊥) × (IsFinal other → ⊥)
  open_object other there same = open_class object_class.0 object_class.1 object_class.3 object_open other there (same ∙ sym object_class.2)

  no_flag : (made : MadeClass) → made.flags ≡ final_class → IsInterface (new_class made) → ⊥
  no_flag made is flag = let e : 0 ≡ 512 = subst (λ (flags : Access). bit_and flags.0 512 ≡ 512) is flag in omega (arith, e)

  right_new : (made : MadeClass) → is_new w made ≡ true → IsStandinClass w dims made → HasRightSupers (standin_world w classes) (new_class made)
  right_new made new (kinds.library is) = subst (λ (m : MadeClass). HasRightSupers (standin_world w classes) (new_class m)) (sym is) (record {
    superclass = open_object;
    superinterfaces = λ other there names. absurd (none_there other.name names);
    of_interface = λ flag. absurd (no_flag library_class refl flag);
  })
  right_new made new (kinds.collected class collected of) = absurd (new_name w made new class collected.0 (sym of.name))
  right_new made new (kinds.any c class at of_library not_final no_interface of) = record {
    superclass =
        subst (λ (parent : Option (List ℕ)). MatchOption parent (made.name ≡ object_name) (λ name. (o : Shape) → Contains (standin_world w classes) o → o.name ≡ name → (IsInterface o → ⊥) × (IsFinal o → ⊥)))
        (sym of.parent) (open_class class (among_at w c class at) no_interface not_final);
    superinterfaces = λ other there names.
        let lib = of.interfaces.only other.name names in
        subst IsInterface (same_was lib.0 lib.1 other there (sym lib.2)) (interface_stays lib.0 lib.4);
    of_interface = λ flag. absurd (no_flag made of.flags flag);
  }
  right_new made new (kinds.part class collected of) = record {
    superclass =
        subst (λ (parent : Option (List ℕ)). MatchOption parent (made.name ≡ object_name) (λ name. (o : Shape) → Contains (standin_world w classes) o → o.name ≡ name → (IsInterface o → ⊥) × (IsFinal o → ⊥)))
        (sym of.parent) open_object;
    superinterfaces = λ other there names. absurd (none_in made.interfaces other.name of.interfaces names);
    of_interface = λ flag. absurd (no_flag made of.flags flag);
  }

  right_old : (class : Shape) → Contains w class → HasRightSupers (standin_world w classes) (kept_class class)
  right_old class has = record {
    superclass =
        subst (λ (parent : Option (List ℕ)). MatchOption parent ((kept_class class).name ≡ object_name) (λ name. (o : Shape) → Contains (standin_world w classes) o → o.name ≡ name → (IsInterface o → ⊥) × (IsFinal o → ⊥)))
        (sym (parent_stays class)) (by class.parent refl (world.right_supers class has).superclass);
    superinterfaces = λ other there names.
        let names' : Contains class.interfaces other.name = subst (λ (list : List (List ℕ)). Contains list other.name) (interfaces_stay class) names in
        let old = super_was class has other there (inr names') in
        let named : other.name ≡ old.class.name = sym (ap (λ (s : Shape). s.name) old.is) ∙ name_stays old.class in
        subst IsInterface old.is
        (interface_stays old.class ((world.right_supers class has).superinterfaces old.class old.there (subst (λ (n : List ℕ). Contains class.interfaces n) named names')));
    of_interface = λ flag. parent_stays class ∙ (world.right_supers class has).of_interface (interface_was class flag);
  }
    where
      by : (parent : Option (List ℕ)) → class.parent ≡ parent
          → MatchOption parent (class.name ≡ object_name) (λ name. (o : Shape) → Contains w o → o.name ≡ name → (IsInterface o → ⊥) × (IsFinal o → ⊥))
          → MatchOption parent ((kept_class class).name ≡ object_name) (λ name. (o : Shape) → Contains (standin_world w classes) o → o.name ≡ name → (IsInterface o → ⊥) × (IsFinal o → ⊥))
      by None is right = name_stays class ∙ right
      by (Some name) is right = λ other there same.
          let old = super_was class has other there (inl (is ∙ ap Some (sym same))) in
          let named : old.class.name ≡ name = sym (name_stays old.class) ∙ ap (λ (s : Shape). s.name) old.is ∙ same in
          let was = right old.class old.there named in
          (λ flag. was.0 (interface_was old.class (subst IsInterface (sym old.is) flag)), λ flag. was.1 (final_was old.class (subst IsFinal (sym old.is) flag)))

  pub right_supers : (x : Shape) → Contains (standin_world w classes) x → HasRightSupers (standin_world w classes) x
  right_supers x has = elim (from_world w classes x has) [
    | inl old ↦ subst (λ (s : Shape). HasRightSupers (standin_world w classes) s) old.is (right_old old.class old.there)
    | inr added ↦ subst (λ (s : Shape). HasRightSupers (standin_world w classes) s) added.is (right_new added.made added.new (may.are.only added.made added.there))
  ]
