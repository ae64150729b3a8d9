use Rattle.std.proofs.Common.{◌≡◌, ◌<◌, ◌↔◌, ℕ, List, Some, slice_get, length, Contains, sym, ap, ◌∙◌, subst}
use Rattle.std.specs.List.Sorted.{IsStrictlyIncreasing}
use Rattle.jv_resolve.proofs.PlacesLemmas.{read_at}
use Rattle.av_tables.specs.Steps.{known}
use Rattle.av_forcing.specs.declared.fact.RoundFact.TheVariants.{Field, Method}
use Rattle.av_round.proofs.Entries.{all_fields, all_methods}
use Rattle.av_round.proofs.listing.entry_of.Goals as goal

pub returns : goal.returns
returns c =
    let k = known c.args.classes.now in
    let names = c.as_slice-names.result.now in
    let at : slice_get names c.args.class ≡ Some c.index-names-class.result =
    read_at names c.args.class c.index-names-class.result (subst (λ (l : List (List ℕ)). c.args.class < length l) (sym c.as_slice-names.ensures.value) c.requires.here) c.index-names-class.is in
    record {
      name = subst (λ (l : List (List ℕ)). slice_get l c.args.class ≡ Some c.in_ok-name.name) c.as_slice-names.ensures.value (at ∙ ap (λ (n : List ℕ). Some n) (sym c.in_ok-name.ensures));
      fields = subst (λ (l : List ℕ). (place : ℕ) → Contains l place ↔ Contains c.args.found.now (Field c.args.class place)) (sym c.from_vec-fields.ensures)
          (all_fields k c.args.found.now c.requires.there c.args.class c.field_count.result c.in_ok-field_places.field_places.items c.field_count.ensures.same c.in_ok-field_places.ensures);
      methods = subst (λ (l : List ℕ). (place : ℕ) → Contains l place ↔ Contains c.args.found.now (Method c.args.class place)) (sym c.from_vec-methods.ensures)
          (all_methods k c.args.found.now c.requires.there c.args.class c.method_count.result c.in_ok-method_places.method_places.items c.method_count.ensures.same c.in_ok-method_places.ensures);
      fields_rise = subst IsStrictlyIncreasing (sym c.from_vec-fields.ensures) c.in_ok-field_places.ensures.rising;
      methods_rise = subst IsStrictlyIncreasing (sym c.from_vec-methods.ensures) c.in_ok-method_places.ensures.rising;
    }
