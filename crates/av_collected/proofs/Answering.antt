-- The answers over what was read are those over the whole library.
use Rattle.std.proofs.Common.{◌≡◌, ℕ, suc, inl, inr, List, [], ◌∷◌, sym, subst, ⊎_elim}
use Rattle.std.specs.Prelude.{◌↔◌}
use Rattle.std.specs.List.{AllZip}
use Rattle.jv_types.specs.declared.shapes.Shape.{Shape}
use Rattle.av_collected.specs.declared.collected.Collected.{Collected}
use Rattle.av_collected.proofs.Growing.{collected_grows, more_field, more_method, more_shape}
use Rattle.av_collected.proofs.Reading.{class_read, field_read, method_read}
use Rattle.av_collected.specs.Answers.{Picks, IsReduced, AreCollected, HasUnfitFile, IsMissing, NamesApplication, as_super, in_field, in_method, AreTooMany}
use Rattle.av_collected.specs.Dimensions.{HasDims, of_instruction, of_field, of_method, of_map, of_collected_field, of_collected_method, AreGreatestDims}
use Rattle.av_collected.specs.Libraries.{LibraryFile, IsLibrary}
use Rattle.av_collected.specs.Naming.{Application}
use Rattle.av_collected.specs.Rounds.{IsInside, IsReadOut}
use Rattle.av_collected.specs.Rules.{Item, ClassNamed, FieldAt, MethodAt, IsCollected}

picks_same : {X : Type 0} (P Q : ℕ → Type 0) → ((k : ℕ) → P k → Q k) → ((k : ℕ) → Q k → P k) → (place : ℕ) (xs picked : List X) → Picks P place xs picked → Picks Q place xs picked
picks_same P Q into back place [] picked h = h
picks_same P Q into back place (x ∷ xs) picked (inl (p, rest, is, more)) = inl (into place p, rest, is, picks_same P Q into back (suc place) xs rest more)
picks_same P Q into back place (x ∷ xs) picked (inr (lacks, more)) = inr (λ q. lacks (back place q), picks_same P Q into back (suc place) xs picked more)

zip_same : {X : Type 0} (R S : X → X → Type 0) → ((x y : X) → R x y → S x y) → (xs ys : List X) → AllZip R xs ys → AllZip S xs ys
zip_same R S into [] [] h = tt
zip_same R S into [] (y ∷ ys) h = absurd h
zip_same R S into (x ∷ xs) [] h = absurd h
zip_same R S into (x ∷ xs) (y ∷ ys) h = (into x y h.0, zip_same R S into xs ys h.1)

reduced_same : (given : Application) (one other : List LibraryFile)
    → ((item : Item) → IsCollected given one item → IsCollected given other item) → ((item : Item) → IsCollected given other item → IsCollected given one item)
    → (full reduced : Shape) → IsReduced given one full reduced → IsReduced given other full reduced
reduced_same given one other into back full reduced h = record {
  name = h.name;
  flags = h.flags;
  parent = h.parent;
  interfaces = h.interfaces;
  application = h.application;
  fields = picks_same (λ k. IsCollected given one (FieldAt full.name k)) (λ k. IsCollected given other (FieldAt full.name k)) (λ k. into (FieldAt full.name k)) (λ k. back (FieldAt full.name k)) 0 full.fields reduced.fields h.fields;
  methods = picks_same (λ k. IsCollected given one (MethodAt full.name k)) (λ k. IsCollected given other (MethodAt full.name k)) (λ k. into (MethodAt full.name k)) (λ k. back (MethodAt full.name k)) 0 full.methods reduced.methods h.methods;
}

greatest_same : (given : Application) (one other : List LibraryFile) → ((n : ℕ) → HasDims given one n → HasDims given other n) → ((n : ℕ) → HasDims given other n → HasDims given one n)
    → (dims : ℕ) → AreGreatestDims given one dims → AreGreatestDims given other dims
greatest_same given one other into back dims h = record {
  least = h.least;
  above = λ n has. h.above n (back n has);
  reached = ⊎_elim (λ is. inl is) (λ has. inr (into dims has)) h.reached;
}

pub many_more : (given : Application) (part library : List LibraryFile) → IsInside part library → AreTooMany given part → AreTooMany given library
many_more given part library inside h = record {
  names = h.names;
  rising = h.rising;
  more = h.more;
  each = λ name has. collected_grows part library inside given (ClassNamed name) (h.each name has);
}

module _ (given : Application) (part library : List LibraryFile) (files : IsLibrary library) (out : IsReadOut given part library)
    (ends : (item : Item) → IsCollected given part item ↔ IsCollected given library item) where
  at_name : (name other : List ℕ) → name ≡ other → IsCollected given part (ClassNamed other) → IsCollected given part (ClassNamed name)
  at_name name other is h = subst (λ (n : List ℕ). IsCollected given part (ClassNamed n)) (sym is) h

  pub unfit : (name : List ℕ) → HasUnfitFile given part name ↔ HasUnfitFile given library name
  unfit name = (
    λ h. ((ends (ClassNamed name)).0 h.0, h.1, out.inside h.1 h.2, h.3, h.4),
    λ h. let c = (ends (ClassNamed name)).1 h.0 in (c, h.1, out.all h.1 h.2 (at_name h.1.name name h.3 c), h.3, h.4),
  )

  pub missing : (name : List ℕ) → IsMissing given part name ↔ IsMissing given library name
  missing name = (
    λ h. ((ends (ClassNamed name)).0 h.0, λ f. h.1 (f.0, out.all f.0 f.1 (at_name f.0.name name f.2 h.0), f.2)),
    λ h. ((ends (ClassNamed name)).1 h.0, λ f. h.1 (f.0, out.inside f.0 f.1, f.2)),
  )

  more_apart : (class : List ℕ) → NamesApplication given part class → NamesApplication given library class
  more_apart class (as_super s name a b c d) = as_super s name ((ends (ClassNamed class)).0 a) (more_shape part library out.inside class s b) c d
  more_apart class (in_field place field name a h b c d) =
      in_field place field name ((ends (ClassNamed class)).0 a) ((ends (FieldAt class place)).0 h) (more_field part library out.inside class place field b) c d
  more_apart class (in_method place method name a h b c d) =
      in_method place method name ((ends (ClassNamed class)).0 a) ((ends (MethodAt class place)).0 h) (more_method part library out.inside class place method b) c d

  less_apart : (class : List ℕ) → NamesApplication given library class → NamesApplication given part class
  less_apart class (as_super s name a b c d) =
      let own = (ends (ClassNamed class)).1 a in
      as_super s name own (class_read given part library files out class s own b) c d
  less_apart class (in_field place field name a h b c d) =
      let own = (ends (FieldAt class place)).1 h in
      in_field place field name ((ends (ClassNamed class)).1 a) own (field_read given part library files out class place field own b) c d
  less_apart class (in_method place method name a h b c d) =
      let own = (ends (MethodAt class place)).1 h in
      in_method place method name ((ends (ClassNamed class)).1 a) own (method_read given part library files out class place method own b) c d

  pub apart : (class : List ℕ) → NamesApplication given part class ↔ NamesApplication given library class
  apart class = (more_apart class, less_apart class)

  more_dims : (n : ℕ) → HasDims given part n → HasDims given library n
  more_dims n (of_instruction insn _ a b) = of_instruction insn n a b
  more_dims n (of_field s field _ a b c) = of_field s field n a b c
  more_dims n (of_method s method _ a b c) = of_method s method n a b c
  more_dims n (of_map text type _ a b c) = of_map text type n a b c
  more_dims n (of_collected_field class place field _ a b c) =
      of_collected_field class place field n ((ends (FieldAt class place)).0 a) (more_field part library out.inside class place field b) c
  more_dims n (of_collected_method class place method _ a b c) =
      of_collected_method class place method n ((ends (MethodAt class place)).0 a) (more_method part library out.inside class place method b) c

  less_dims : (n : ℕ) → HasDims given library n → HasDims given part n
  less_dims n (of_instruction insn _ a b) = of_instruction insn n a b
  less_dims n (of_field s field _ a b c) = of_field s field n a b c
  less_dims n (of_method s method _ a b c) = of_method s method n a b c
  less_dims n (of_map text type _ a b c) = of_map text type n a b c
  less_dims n (of_collected_field class place field _ a b c) =
      let own = (ends (FieldAt class place)).1 a in
      of_collected_field class place field n own (field_read given part library files out class place field own b) c
  less_dims n (of_collected_method class place method _ a b c) =
      let own = (ends (MethodAt class place)).1 a in
      of_collected_method class place method n own (method_read given part library files out class place method own b) c

  into : (item : Item) → IsCollected given part item → IsCollected given library item
  into item = (ends item).0

  back : (item : Item) → IsCollected given library item → IsCollected given part item
  back item = (ends item).1

  pub answered : (found : Collected) → AreCollected given part found ↔ AreCollected given library found
  answered found = (
    λ h. record {
      rising = h.rising;
      each = λ s has. let e = h.each s has in (into (ClassNamed s.name) e.0, more_shape part library out.inside s.name s e.1);
      all = λ name c. h.all name (back (ClassNamed name) c);
      reduced = zip_same (IsReduced given part) (IsReduced given library) (reduced_same given part library into back) found.full found.shapes h.reduced;
      dims = greatest_same given part library more_dims less_dims found.dims h.dims;
    },
    λ h. record {
      rising = h.rising;
      each = λ s has. let e = h.each s has in let own = back (ClassNamed s.name) e.0 in (own, class_read given part library files out s.name s own e.1);
      all = λ name c. h.all name (into (ClassNamed name) c);
      reduced = zip_same (IsReduced given library) (IsReduced given part) (reduced_same given library part back into) found.full found.shapes h.reduced;
      dims = greatest_same given library part less_dims more_dims found.dims h.dims;
    },
  )
