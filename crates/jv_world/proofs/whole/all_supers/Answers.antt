use Rattle.std.proofs.Common.{length, refl}
use Rattle.jv_world.proofs.Built.{AreInRange-links}
use Rattle.jv_world.proofs.Wholes.{HaveSupers-led}
use Rattle.jv_world.proofs.whole.all_supers.Goals as goal

pub all_led-requires-clause-range : goal.all_led-requires-clause-range
all_led-requires-clause-range c =
    rw c.as_slice.ensures.value (AreInRange-links c.args.shapes.now c.in_ok-links.links.items c.in_ok-links.ensures)

pub returns : goal.returns
returns c =
    let led = rw c.as_slice.ensures.value at c.in_ok-rows.ensures in
    HaveSupers-led c.args.shapes.now c.in_ok-links.links.items c.in_ok-rows.rows.items (length c.in_ok-links.links.items) c.in_ok-links.ensures refl led
