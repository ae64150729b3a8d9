-- When one world stands in another.
use Rattle.std.proofs.Common.{◌≡◌, ℕ, List, [], ◌∷◌, ◌++◌, Option, Some, None, Contains, slice_get, refl, ◌∙◌, subst}
use Rattle.std.specs.Prelude.{◌↔◌}
use Rattle.std.specs.List.{AllZip}
use Rattle.jv_lists.proofs.Places.{get_front, placed}
use Rattle.jv_types.specs.declared.access.Access.{Access}
use Rattle.jv_types.specs.declared.shapes.FieldShape.{FieldShape}
use Rattle.jv_types.specs.declared.shapes.MethodShape.{MethodShape}
use Rattle.jv_types.specs.declared.shapes.Shape.{Shape}
use Rattle.jv_world.specs.Worlds.{HaveDistinctNames, IsWorld}
use Rattle.jv_resolve.proofs.PlacesLemmas.{among_from_get}
use Rattle.jv_two_worlds.specs.Renumbering.{StandsIn}
use Rattle.jv_two_worlds.specs.SameClasses.{HaveSameAccess, IsSameClass, IsSameField, IsSameMethod}

iff_onward : {A B C : Type 0} → A ↔ B → B ↔ C → A ↔ C
iff_onward f g = (λ a. g.0 (f.0 a), λ c. f.1 (g.1 c))

iff_itself : {A : Type 0} → A ↔ A
iff_itself = (λ a. a, λ a. a)

zip_itself : {X : Type 0} (R : X → X → Type 0) → ((x : X) → R x x) → (xs : List X) → AllZip R xs xs
zip_itself R same [] = tt
zip_itself R same (x ∷ xs) = (same x, zip_itself R same xs)

zip_onward : {X : Type 0} (R : X → X → Type 0) → ((x y z : X) → R x y → R y z → R x z) → (xs ys zs : List X) → AllZip R xs ys → AllZip R ys zs → AllZip R xs zs
zip_onward R on [] [] zs p q = q
zip_onward R on [] (y ∷ ys) zs p q = absurd p
zip_onward R on (x ∷ xs) [] zs p q = absurd p
zip_onward R on (x ∷ xs) (y ∷ ys) [] p q = absurd q
zip_onward R on (x ∷ xs) (y ∷ ys) (z ∷ zs) p q = (on x y z p.0 q.0, zip_onward R on xs ys zs p.1 q.1)

access_itself : (a : Access) → HaveSameAccess a a
access_itself a = record { public = iff_itself; protected = iff_itself; private = iff_itself; static = iff_itself }

access_onward : (a b c : Access) → HaveSameAccess a b → HaveSameAccess b c → HaveSameAccess a c
access_onward a b c p q = record {
  public = iff_onward p.public q.public;
  protected = iff_onward p.protected q.protected;
  private = iff_onward p.private q.private;
  static = iff_onward p.static q.static;
}

field_itself : (x : FieldShape) → IsSameField x x
field_itself x = record { name = refl; desc = refl; access = access_itself x.flags }

field_onward : (x y z : FieldShape) → IsSameField x y → IsSameField y z → IsSameField x z
field_onward x y z p q = record { name = p.name ∙ q.name; desc = p.desc ∙ q.desc; access = access_onward x.flags y.flags z.flags p.access q.access }

method_itself : (x : MethodShape) → IsSameMethod x x
method_itself x = record { name = refl; desc = refl; access = access_itself x.flags; abstract = iff_itself }

method_onward : (x y z : MethodShape) → IsSameMethod x y → IsSameMethod y z → IsSameMethod x z
method_onward x y z p q = record {
  name = p.name ∙ q.name;
  desc = p.desc ∙ q.desc;
  access = access_onward x.flags y.flags z.flags p.access q.access;
  abstract = iff_onward p.abstract q.abstract;
}

same_itself : (s : Shape) → IsSameClass s s
same_itself s = record {
  name = refl;
  public = iff_itself;
  interface = iff_itself;
  parent = refl;
  interfaces = refl;
  fields = zip_itself IsSameField field_itself s.fields;
  methods = zip_itself IsSameMethod method_itself s.methods;
}

same_onward : (s t u : Shape) → IsSameClass s t → IsSameClass t u → IsSameClass s u
same_onward s t u p q = record {
  name = p.name ∙ q.name;
  public = iff_onward p.public q.public;
  interface = iff_onward p.interface q.interface;
  parent = p.parent ∙ q.parent;
  interfaces = p.interfaces ∙ q.interfaces;
  fields = zip_onward IsSameField field_onward s.fields t.fields u.fields p.fields q.fields;
  methods = zip_onward IsSameMethod method_onward s.methods t.methods u.methods p.methods q.methods;
}

pub longer : (w more : List Shape) → IsWorld w → HaveDistinctNames (w ++ more) → StandsIn w (w ++ more) (λ c. c)
longer w more world distinct = record { world = world; distinct = distinct; shapes = λ c s at. (s, get_front w more c s at, same_itself s) }

pub onward : (w v u : List Shape) (to on : ℕ → ℕ) → StandsIn w v to → StandsIn v u on → StandsIn w u (λ c. on (to c))
onward w v u to on first second = record {
  world = first.world;
  distinct = second.distinct;
  shapes = λ c s at.
      let p = first.shapes c s at in
      let q = second.shapes (to c) p.0 p.1 in
      (q.0, q.1, same_onward s p.0 q.0 p.2 q.2);
}

-- each shape of the one is at some place of the other
abbrev Find : List Shape → List Shape → Type 0
Find w v = (c : ℕ) (s : Shape) → slice_get w c ≡ Some s → (d : ℕ) × (other : Shape) × (slice_get v d ≡ Some other) × IsSameClass s other

place_at : (w v : List Shape) → Find w v → (c : ℕ) (o : Option Shape) → slice_get w c ≡ o → ℕ
place_at w v find c None e = 0
place_at w v find c (Some s) e = (find c s e).0

at_place : (w v : List Shape) (find : Find w v) (c : ℕ) (s : Shape) (o : Option Shape) (e : slice_get w c ≡ o) → o ≡ Some s
    → (other : Shape) × (slice_get v (place_at w v find c o e) ≡ Some other) × IsSameClass s other
unfolding place_at
at_place w v find c s None e at = absurd cc
at_place w v find c s (Some t) e at =
    let p = find c t e in
    let is : t ≡ s = cc in
    (p.1, p.2, subst (λ (x : Shape). IsSameClass x p.1) is p.3)

pub in_any_order : (w v : List Shape) → IsWorld w → HaveDistinctNames v → ((s : Shape) → Contains w s → (other : Shape) × Contains v other × IsSameClass s other) → (to : ℕ → ℕ) × StandsIn w v to
in_any_order w v world distinct each = (
  λ c. place_at w v find c (slice_get w c) refl,
  record { world = world; distinct = distinct; shapes = λ c s at. at_place w v find c s (slice_get w c) refl at },
)
  where
    find : Find w v
    find c s at = let own = each s (among_from_get w c s at) in (own.1.0, own.0, placed v own.0 own.1, own.2)
