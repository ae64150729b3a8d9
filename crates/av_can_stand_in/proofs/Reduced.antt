-- Classes with their collected members alone have the form that a class of a class file must have, and leave room for
-- what a stand-in adds to them.
use Rattle.std.proofs.Common.{◌≡◌, ◌<◌, ◌≤◌, ◌^◌, ℕ, ◌⊎◌, inl, inr, ⊎_elim, false, List, [], Option, IfSome, Contains, length, slice_get, refl, sym, ap, ◌∙◌, subst, arith}
use Rattle.std.proofs.lemmas.Bool.{cases_lt}
use Rattle.std.proofs.lemmas.Option.{same_Some}
use Rattle.jv_lists.proofs.Among.{is_first}
use Rattle.jv_lists.proofs.Places.{among_at}
use Rattle.jv_types.specs.declared.desc.Desc.TheVariants.{Ref}
use Rattle.jv_types.specs.declared.desc.MethodDesc.{MethodDesc}
use Rattle.jv_types.specs.declared.desc.RefType.{Class}
use Rattle.jv_types.specs.declared.shapes.FieldShape.{FieldShape}
use Rattle.jv_types.specs.declared.shapes.MethodShape.{MethodShape}
use Rattle.jv_types.specs.declared.shapes.Shape.{Shape}
use Rattle.jv_desc.specs.Texts.{IsMethodDesc, method_text}
use Rattle.jv_desc.proofs.Agreement.{one_method as one_desc}
use Rattle.jv_names.specs.Spellings.{IsClassName}
use Rattle.jv_class.specs.declared.class_file.ClassFile.{ClassFile}
use Rattle.jv_world.specs.Worlds.{NamesSuper}
use Rattle.jv_resolve.specs.Members.{init_name}
use Rattle.jv_two_worlds.specs.Types.{of_class}
use Rattle.av_conditions.specs.StandIn.{library_name}
use Rattle.av_collected.specs.Answers.{IsUnfitName, as_super}
use Rattle.av_collected.specs.Rules.{ClassNamed, FieldAt, MethodAt, IsCollected, in_method, of_one}
use Rattle.av_collected.specs.Types.{MentionsClass}
use Rattle.av_standin_of.specs.Names.{extra_desc, field_key, method_key}
use Rattle.av_stops.specs.Programs.{IsCollectedWorld, IsOfFile}
use Rattle.av_sketches.specs.Conditions.{HasClassForm, HasDistinctMembers, HasMethodsOnce, LeavesRoom, MakesInstances}
use Rattle.av_can_stand_in.proofs.Classes.{class_form, one_field, one_method}
use Rattle.av_can_stand_in.proofs.Names.{library_spare, no_own}
use Rattle.av_can_stand_in.proofs.Parts.{IsCut, cut_marked, cut_of, cut_stated, fit_name, parts}
use Rattle.av_can_stand_in.proofs.Picked.{IsAt, picked_at, picked_once}

-- ---- the descriptor of the extra constructor

extra_valid : IsMethodDesc extra_desc
extra_valid = record { params = (record { dims = omega arith; named = refl }, tt); result = tt }

extra_mentions : MentionsClass extra_desc library_name
extra_mentions = (Ref (Class library_name), inl (is_first (Ref (Class library_name)) []), of_class (Class library_name) library_name refl)

-- a method with its text has its parameter
extra_read : (desc : MethodDesc) → IsMethodDesc desc → method_text desc ≡ method_text extra_desc → MentionsClass desc library_name
extra_read desc valid same =
    let e : desc ≡ extra_desc =
    one_desc (method_text extra_desc) desc extra_desc (record { valid = valid; spelled = sym same }) (record { valid = extra_valid; spelled = refl }) in
    subst (λ (d : MethodDesc). MentionsClass d library_name) (sym e) extra_mentions

module _ (w : List Shape) (dims : ℕ) (p : IsCollectedWorld w dims) (s : Shape) (cut : IsCut p.given p.library s) where
  abbrev full : Shape
  full = cut.full

  abbrev class : ClassFile
  class = (cut_stated w dims p s cut).1.class

  file : IsOfFile class
  file = ((cut_stated w dims p s cut).0, (cut_stated w dims p s cut).1.text)

  abbrev FieldIs : ℕ → Type 0
  FieldIs place = IsCollected p.given p.library (FieldAt full.name place)

  abbrev MethodIs : ℕ → Type 0
  MethodIs place = IsCollected p.given p.library (MethodAt full.name place)

  field_at : (field : FieldShape) → Contains s.fields field → IsAt FieldIs 0 full.fields field
  field_at field among = picked_at FieldIs 0 full.fields s.fields cut.reduced.fields field among

  method_at : (method : MethodShape) → Contains s.methods method → IsAt MethodIs 0 full.methods method
  method_at method among = picked_at MethodIs 0 full.methods s.methods cut.reduced.methods method among

  method_collected : (method : MethodShape) (at : IsAt MethodIs 0 full.methods method) → MethodIs at.place
  method_collected method at = subst MethodIs (omega arith) at.has

  -- ---- its form

  full_form : HasClassForm full
  full_form = class_form class false full file (cut_stated w dims p s cut).1.states

  pub cut_form : HasClassForm s
  cut_form = record {
    named = subst IsClassName (sym cut.reduced.name) full_form.named;
    super_named = subst (λ (parent : Option (List ℕ)). IfSome parent IsClassName) (sym cut.reduced.parent) full_form.super_named;
    interfaces_named = λ name among. full_form.interfaces_named name (subst (λ (l : List (List ℕ)). Contains l name) cut.reduced.interfaces among);
    few_interfaces = subst (λ (l : List (List ℕ)). length l < 2 ^ 16) (sym cut.reduced.interfaces) full_form.few_interfaces;
    fields = λ field among. let at = field_at field among in full_form.fields field (among_at full.fields at.place field at.stands);
    methods = λ method among. let at = method_at method among in full_form.methods method (among_at full.methods at.place method at.stands);
  }

  -- ---- its members

  same_fields : (x y : FieldShape) → Contains s.fields x → Contains s.fields y → field_key x ≡ field_key y → x ≡ y
  same_fields x y p_x p_y key =
      let a = field_at x p_x in
      let b = field_at y p_y in
      let same : a.place ≡ b.place = one_field class false full file (cut_stated w dims p s cut).1.states a.place b.place x y a.stands b.stands key in
      same_Some x y (sym a.stands ∙ ap (slice_get full.fields) same ∙ b.stands)

  same_methods : (x y : MethodShape) → Contains s.methods x → Contains s.methods y → method_key x ≡ method_key y → x ≡ y
  same_methods x y p_x p_y key =
      let a = method_at x p_x in
      let b = method_at y p_y in
      let same : a.place ≡ b.place = one_method class false full file (cut_stated w dims p s cut).1.states a.place b.place x y a.stands b.stands key in
      same_Some x y (sym a.stands ∙ ap (slice_get full.methods) same ∙ b.stands)

  -- a collected extra constructor would collect averroes/Library
  no_extra : (method : MethodShape) → Contains s.methods method → method_key method ≡ (init_name, method_text extra_desc) → ⊥
  no_extra method among key =
      let at = method_at method among in
      let valid : IsMethodDesc method.desc = (cut_form.methods method among).formed.types in
      let text : method_text method.desc ≡ method_text extra_desc = ap (λ (k : List ℕ × List ℕ). k.1) key in
      let library : IsCollected p.given p.library (ClassNamed library_name) =
      of_one (MethodAt full.name at.place) (ClassNamed library_name) (method_collected method at)
      (in_method full.name at.place method library_name (full, cut.has, at.stands) (extra_read method.desc valid text) (no_own w dims p library_name library_spare)) in
      fit_name p.given p.library p.fails_not library_name library library_spare.unfit

  distinct : HasDistinctMembers s
  distinct = record { fields = same_fields; methods = same_methods; none_extra = no_extra }

  once : HasMethodsOnce s
  once =
      picked_once MethodIs 0 full.methods s.methods cut.reduced.methods
      (λ i j x a b. one_method class false full file (cut_stated w dims p s cut).1.states i j x x a b refl)

  instances : (method : MethodShape) → Contains s.methods method → MakesInstances method
  instances method among init static =
      let at = method_at method among in
      p.no_static_init full.name at.place method (method_collected method at) (full, cut.has, at.stands) init static

  -- ---- its names

  short_name : length s.name ≤ 60000
  short_name = by (cases_lt 60000 (length s.name))
    where
      by : (60000 < length s.name) ⊎ (length s.name ≤ 60000) → length s.name ≤ 60000
      by (inl long) =
          let unfit : IsUnfitName s.name = inr (inr long) in
          absurd (fit_name p.given p.library p.fails_not full.name cut.collected (subst IsUnfitName cut.reduced.name unfit))
      by (inr le) = le

  names_super : (name : List ℕ) → NamesSuper s name → NamesSuper full name
  names_super name (inl parent) = inl (sym cut.reduced.parent ∙ parent)
  names_super name (inr among) = inr (subst (λ (l : List (List ℕ)). Contains l name) cut.reduced.interfaces among)

  -- a supertype is no class of the application
  supers : (other : Shape) → Contains w other → NamesSuper s other.name → other.application ≡ false
  supers other here names =
      ⊎_elim
      (λ own. absurd (p.fails_not.2 full.name (as_super full other.name cut.collected cut.has (names_super other.name names) (other, own, refl))))
      (λ behind. cut_marked w dims p other (cut_of w dims p other behind))
      (parts w dims p other here)

  pub leaves_room : LeavesRoom w s
  leaves_room = record {
    short_name = short_name;
    distinct = distinct;
    once = once;
    instances = instances;
    supers = supers;
  }
