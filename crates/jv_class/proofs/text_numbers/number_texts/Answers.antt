use Rattle.std.proofs.Common.{◌≡◌, Some, ap, refl, length, arith}
use Rattle.std.specs.List.{slice_get}
use Rattle.std.specs.Option.{option_and_then}
use Rattle.std.specs.Prelude.{Option}
use Rattle.std.proofs.lemmas.Option.{slice_get_read}
use Rattle.jv_pool.specs.declared.item.PoolItem.{PoolItem}
use Rattle.jv_pool.specs.Lookups.{text_in}
use Rattle.jv_class.specs.Steps.TextNumbers.{text_of}
use Rattle.jv_class.proofs.text_numbers.number_texts.Invariants.Steps.{goes_on, is_done}
use Rattle.jv_class.proofs.text_numbers.number_texts.Goals as goal

pub loop-place-preserved : goal.loop-place-preserved
loop-place-preserved c =
    let items = c.items-item-items.result.now in
    let at : slice_get items c.loop-place.place ≡ Some c.item-item.result = slice_get_read items (length items) c.loop-place.place c.item-item.result refl c.loop-place-test.true c.item-item.is in
    let text : text_of c.args.pool.now c.loop-place.place ≡ text_in c.item-item.result =
    rw c.items-item-items.ensures at (ap (λ (o : Option PoolItem). option_and_then text_in o) at) in
    rw c.in_ok-push.ensures.items (goes_on c.args.pool.now c.loop-place.place c.loop-place.known c.number_item.new.numbers c.loop-place.numbers.items c.in_ok-number.number (text_in c.item-item.result) c.loop-place.invariant text c.in_ok-number.ensures)

pub returns : goal.returns
returns c = is_done c.args.pool.now c.loop-place.place c.loop-place.known c.loop-place.numbers.items (let e = ap (length {A = PoolItem}) c.items-item-items.ensures in let a = c.loop-place-test.false in let b = c.loop-place.auto.place-end in omega arith) c.loop-place.invariant
