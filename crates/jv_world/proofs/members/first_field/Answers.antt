use Rattle.std.proofs.Common.{ℕ, List, Some, sym, ◌∙◌, rules, is_lt}
use Rattle.std.specs.Option.{option_cmp}
use Rattle.std.proofs.lemmas.List.Sorted.{IsPartitionPoint-from_clause}
use Rattle.jv_types.specs.declared.desc.Desc.{Desc}
use Rattle.jv_world.specs.Steps.Ordered.{key_at, field_key, field_key_cmp}
use Rattle.jv_world.proofs.MemberKeys.{field_keys_total, field_keys_tie, field_key_of, of_field_key}
use Rattle.jv_world.proofs.OrderedPlaces.{parted, none_past, none_there, found_there, first_there}
use Rattle.jv_world.proofs.members.first_field.Goals as goal

pub returns-in_err-place-clause-none : goal.returns-in_err-place-clause-none
returns-in_err-place-clause-none c =
    let fields = c.args.fields.now in
    let places = c.args.places.now in
    let key : List ℕ × Desc = (c.args.name.now, c.args.desc.now) in
    let point = IsPartitionPoint-from_clause (λ y. is_lt (option_cmp field_key_cmp (key_at field_key fields y) (Some key))) places c.partition_point-at.result c.partition_point-at.ensures.partitioned
    (parted field_keys_total field_key fields places c.requires key) (λ a r f called. search rules) in
    rw c.from_residual.ensures
    (λ q y got is. none_past field_keys_total field_key fields places c.requires key c.partition_point-at.result point c.in_err-place.ensures.lookup.3 q y got (field_key_of y c.args.name.now c.args.desc.now is))

pub returns-then-is_eq-clause-found : goal.returns-then-is_eq-clause-found
returns-then-is_eq-clause-found c =
    let fields = c.args.fields.now in
    let places = c.args.places.now in
    let key : List ℕ × Desc = (c.args.name.now, c.args.desc.now) in
    let point = IsPartitionPoint-from_clause (λ y. is_lt (option_cmp field_key_cmp (key_at field_key fields y) (Some key))) places c.partition_point-at.result c.partition_point-at.ensures.partitioned
    (parted field_keys_total field_key fields places c.requires key) (λ a r f called. search rules) in
    let place = c.in_ok-place.field-0.now in
    let looked = c.in_ok-place.ensures.lookup in
    let same = rw c.compare_field_at.ensures at (sym c.is_eq.ensures ∙ c.if-is_eq.true) in
    let found = found_there field_keys_total field_key fields places c.requires key c.partition_point-at.result point place looked.3.0 looked.1 field_keys_tie same in
    (found.0, found.1, of_field_key found.0 c.args.name.now c.args.desc.now found.2, λ q y low got is. first_there field_keys_total field_key fields places c.requires key c.partition_point-at.result point place looked.3.0 looked.1 field_keys_tie same q y low got (field_key_of y c.args.name.now c.args.desc.now is))

pub returns-else-is_eq-clause-none : goal.returns-else-is_eq-clause-none
returns-else-is_eq-clause-none c =
    let fields = c.args.fields.now in
    let places = c.args.places.now in
    let key : List ℕ × Desc = (c.args.name.now, c.args.desc.now) in
    let point = IsPartitionPoint-from_clause (λ y. is_lt (option_cmp field_key_cmp (key_at field_key fields y) (Some key))) places c.partition_point-at.result c.partition_point-at.ensures.partitioned
    (parted field_keys_total field_key fields places c.requires key) (λ a r f called. search rules) in
    let place = c.in_ok-place.field-0.now in
    let looked = c.in_ok-place.ensures.lookup in
    let other = rw c.compare_field_at.ensures at (sym c.is_eq.ensures ∙ c.if-is_eq.false) in
    λ q y got is. none_there field_keys_total field_key fields places c.requires key c.partition_point-at.result point place looked.3.0 looked.1 other q y got (field_key_of y c.args.name.now c.args.desc.now is)
