-- The map has each item's index, before and after.
use Rattle.std.proofs.Common.{◌≡◌, ◌++◌, ◌+◌, ℕ, Some, None, ap, sym, subst, ◌∙◌, List, length, length-append, arith}
use Rattle.jv_pool.specs.declared.item.PoolItem.{PoolItem}
use Rattle.jv_pool.specs.Adding.{slots_of, place_of, HasPlaces, item_cmp}
use Rattle.std.specs.BTreeMap.{get, Updates}
use Rattle.jv_pool.specs.Lookups.{item_at}
use Rattle.jv_pool.proofs.AddingLaws.{found_at, first_at, not_found, stands_nowhere, places_grow, new_at, new_first}
use Rattle.jv_pool.proofs.pool_writer.PoolWriter.add.Goals as goal

pub returns-in-Some-clause-index : goal.returns-in-Some-clause-index
returns-in-Some-clause-index c =
    let has : HasPlaces c.args.self.now c.self.inside.places = subst (λ (l : List PoolItem). HasPlaces l c.self.inside.places) c.self.view_is c.self.invariant.1 in
    found_at c.args.self.now c.args.item c.self.inside.places c.get.result c.in-Some.place has c.get.ensures.value c.in-Some.is

pub returns-in-Some-clause-first : goal.returns-in-Some-clause-first
returns-in-Some-clause-first c =
    let has : HasPlaces c.args.self.now c.self.inside.places = subst (λ (l : List PoolItem). HasPlaces l c.self.inside.places) c.self.view_is c.self.invariant.1 in
    first_at c.args.self.now c.args.item c.self.inside.places c.get.result c.in-Some.place has c.get.ensures.value c.in-Some.is

pub returns-in-Some-clause-grown : goal.returns-in-Some-clause-grown
returns-in-Some-clause-grown c = λ absent.
    let has : HasPlaces c.args.self.now c.self.inside.places = subst (λ (l : List PoolItem). HasPlaces l c.self.inside.places) c.self.view_is c.self.invariant.1 in
    absurd (absent (c.in-Some.place.now, found_at c.args.self.now c.args.item c.self.inside.places c.get.result c.in-Some.place has c.get.ensures.value c.in-Some.is))

pub returns-then-len-slot_count-gt-LAST_INDEX-clause-full :
    goal.returns-then-len-slot_count-gt-LAST_INDEX-clause-full
returns-then-len-slot_count-gt-LAST_INDEX-clause-full c = λ _.
    let has : HasPlaces c.args.self.now c.self.inside.places = subst (λ (l : List PoolItem). HasPlaces l c.self.inside.places) c.self.view_is c.self.invariant.1 in
    let absent : get item_cmp c.self.inside.places c.args.item ≡ None = not_found c.args.self.now c.args.item c.self.inside.places c.get.result c.get.ensures.value c.in_default.is in
    let len : c.len-len.result ≡ length c.args.self.now = (let same : length c.self.inside.items.items ≡ length c.args.self.now = ap length c.self.view_is in omega (arith, c.len-len.ensures, c.self.inside.items.ok.0, same)) in (
      (λ h. stands_nowhere c.args.self.now c.args.item c.self.inside.places has c.requires absent h),
      omega (arith, len, c.slot_count.ensures, c.if-len-slot_count-gt-LAST_INDEX.true),
    )

pub invariant_of-self-in_default-insert : goal.invariant_of-self-in_default-insert
invariant_of-self-in_default-insert c =
    let has : HasPlaces c.args.self.now c.self.inside.places = subst (λ (l : List PoolItem). HasPlaces l c.self.inside.places) c.self.view_is c.self.invariant.1 in
    let absent : get item_cmp c.self.inside.places c.args.item ≡ None = not_found c.args.self.now c.args.item c.self.inside.places c.get.result c.get.ensures.value c.in_default.is in
    let same : length c.self.inside.items.items ≡ length c.args.self.now = ap length c.self.view_is in
    let len : c.len-len.result ≡ length c.args.self.now = omega (arith, c.len-len.ensures, c.self.inside.items.ok.0, same) in
    let grown : c.push_slots.new.items.items ≡ c.args.self.now ++ slots_of c.args.item = c.in_ok-push_slots.ensures.ok ∙ ap (λ (l : List PoolItem). l ++ slots_of c.args.item) c.self.view_is in
    let index : c.len-len.result + 1 ≡ length c.args.self.now + 1 = omega (arith, len) in
    let updates : Updates item_cmp c.self.inside.places c.insert.new.self c.args.item (Some (c.len-len.result + 1)) =
    subst (λ (k : PoolItem). Updates item_cmp c.self.inside.places c.insert.new.self k (Some (c.len-len.result + 1))) c.in_ok-key.ensures c.in_default-insert.ensures.updates in
    let placed = places_grow c.args.self.now c.args.item c.self.inside.places c.insert.new.self (c.len-len.result + 1) has c.requires absent index updates in (
      omega (arith, ap length grown, length-append c.args.self.now (slots_of c.args.item), len, c.slot_count.ensures, c.if-len-slot_count-gt-LAST_INDEX.false),
      subst (λ (l : List PoolItem). HasPlaces l c.insert.new.self) (sym grown) placed,
    )

pub returns-clause-index : goal.returns-clause-index
returns-clause-index c =
    let same : length c.self.inside.items.items ≡ length c.args.self.now = ap length c.self.view_is in
    let len : c.len-len.result ≡ length c.args.self.now = omega (arith, c.len-len.ensures, c.self.inside.items.ok.0, same) in
    let grown : c.push_slots.new.items.items ≡ c.args.self.now ++ slots_of c.args.item = c.in_ok-push_slots.ensures.ok ∙ ap (λ (l : List PoolItem). l ++ slots_of c.args.item) c.self.view_is in
    ap (λ (l : List PoolItem). item_at l (c.len-len.result + 1)) grown ∙ ap (λ (n : ℕ). item_at (c.args.self.now ++ slots_of c.args.item) (n + 1)) len ∙ new_at c.args.self.now c.args.item

pub returns-clause-first : goal.returns-clause-first
returns-clause-first c =
    let has : HasPlaces c.args.self.now c.self.inside.places = subst (λ (l : List PoolItem). HasPlaces l c.self.inside.places) c.self.view_is c.self.invariant.1 in
    let absent : get item_cmp c.self.inside.places c.args.item ≡ None = not_found c.args.self.now c.args.item c.self.inside.places c.get.result c.get.ensures.value c.in_default.is in
    let same : length c.self.inside.items.items ≡ length c.args.self.now = ap length c.self.view_is in
    let len : c.len-len.result ≡ length c.args.self.now = omega (arith, c.len-len.ensures, c.self.inside.items.ok.0, same) in
    let grown : c.push_slots.new.items.items ≡ c.args.self.now ++ slots_of c.args.item = c.in_ok-push_slots.ensures.ok ∙ ap (λ (l : List PoolItem). l ++ slots_of c.args.item) c.self.view_is in
    ap (λ (l : List PoolItem). place_of l c.args.item) grown
    ∙ new_first c.args.self.now c.args.item c.requires (sym (has c.args.item) ∙ absent)
    ∙ ap (λ (n : ℕ). Some (n + 1)) (sym len)

pub returns-clause-kept : goal.returns-clause-kept
returns-clause-kept c = λ h.
    let has : HasPlaces c.args.self.now c.self.inside.places = subst (λ (l : List PoolItem). HasPlaces l c.self.inside.places) c.self.view_is c.self.invariant.1 in
    let absent : get item_cmp c.self.inside.places c.args.item ≡ None = not_found c.args.self.now c.args.item c.self.inside.places c.get.result c.get.ensures.value c.in_default.is in
    absurd (stands_nowhere c.args.self.now c.args.item c.self.inside.places has c.requires absent h)
