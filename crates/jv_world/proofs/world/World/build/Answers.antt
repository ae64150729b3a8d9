use Rattle.jv_world.proofs.Built.{AreInRange-links, missing, none_absent, circular, none_circular, wrong, AreSupers-led, IsWorld-built, IsKept-built}
use Rattle.jv_world.proofs.world.World.build.Goals as goal

pub returns-in-Some-clause-refused : goal.returns-in-Some-clause-refused
returns-in-Some-clause-refused c =
    let names = rw c.as_slice.ensures.value at c.in_ok-names.ensures in
    let least = rw c.as_slice-2.ensures.value at c.in-Some.ensures in
    missing c.args.shapes.items c.in_ok-names.names c.in-Some.name.now c.in_ok-copy.field-0 names least c.in_ok-copy.ensures

pub all_led-requires-clause-range : goal.all_led-requires-clause-range
all_led-requires-clause-range c =
    let links = rw c.as_slice-3.ensures.value at c.in_ok-links.ensures in
    rw c.as_slice-4.ensures.value (AreInRange-links c.args.shapes.items c.in_ok-links.links.items links)

pub returns-in-Some-least_circular-clause-refused : goal.returns-in-Some-least_circular-clause-refused
returns-in-Some-least_circular-clause-refused c =
    let w = c.args.shapes.items in
    let names = rw c.as_slice.ensures.value at c.in_ok-names.ensures in
    let absent = rw c.as_slice-2.ensures.value at c.in_default.ensures in
    let links = rw c.as_slice-3.ensures.value at c.in_ok-links.ensures in
    let led = rw c.as_slice-4.ensures.value at c.in_ok-supers.ensures in
    let rows = c.in_ok-supers.supers.items in
    let none = none_absent w c.in_ok-names.names names absent in
    let least = rw (c.as_slice-5.ensures.value, c.as_slice-6.ensures.value) at c.in-Some-least_circular.ensures in
    (none, circular w c.in_ok-links.links.items rows _ c.in-Some-least_circular.name.now c.in_ok-copy-2.field-0 links led links.count least c.in_ok-copy-2.ensures)

pub returns-in-Some-least_wrong-clause-refused : goal.returns-in-Some-least_wrong-clause-refused
returns-in-Some-least_wrong-clause-refused c =
    let w = c.args.shapes.items in
    let names = rw c.as_slice.ensures.value at c.in_ok-names.ensures in
    let absent = rw c.as_slice-2.ensures.value at c.in_default.ensures in
    let links = rw c.as_slice-3.ensures.value at c.in_ok-links.ensures in
    let led = rw c.as_slice-4.ensures.value at c.in_ok-supers.ensures in
    let rows = c.in_ok-supers.supers.items in
    let none = none_absent w c.in_ok-names.names names absent in
    let apart = rw (c.as_slice-5.ensures.value, c.as_slice-6.ensures.value) at c.in_default-least_circular.ensures in
    let no_circle = none_circular w c.in_ok-links.links.items rows _ links led links.count apart in
    let least = rw c.as_slice-7.ensures.value at c.in-Some-least_wrong.ensures.least in
    (none, no_circle, wrong w c.in-Some-least_wrong.name.now c.in_ok-copy-3.field-0 least c.in_ok-copy-3.ensures)

pub invariant_of-result : goal.invariant_of-result
invariant_of-result c =
    let w = c.args.shapes.items in
    let names = rw c.as_slice.ensures.value at c.in_ok-names.ensures in
    let absent = rw c.as_slice-2.ensures.value at c.in_default.ensures in
    let links = rw c.as_slice-3.ensures.value at c.in_ok-links.ensures in
    let led = rw c.as_slice-4.ensures.value at c.in_ok-supers.ensures in
    let rows = c.in_ok-supers.supers.items in
    let none = none_absent w c.in_ok-names.names names absent in
    let apart = rw (c.as_slice-5.ensures.value, c.as_slice-6.ensures.value) at c.in_default-least_circular.ensures in
    let no_circle = none_circular w c.in_ok-links.links.items rows _ links led links.count apart in
    let right = rw c.as_slice-7.ensures.value at c.in_default-least_wrong.ensures.right in
    let supers = AreSupers-led w c.in_ok-links.links.items rows _ links led links.count no_circle in
    let world = IsWorld-built w rows c.requires supers none right in
    let indexed = rw c.as_slice-8.ensures.value at c.in_ok-members.ensures in
    IsKept-built w c.in_ok-names.names rows c.in_ok-members.members.items names supers indexed world

pub returns-clause-world : goal.returns-clause-world
returns-clause-world c =
    let w = c.args.shapes.items in
    let names = rw c.as_slice.ensures.value at c.in_ok-names.ensures in
    let absent = rw c.as_slice-2.ensures.value at c.in_default.ensures in
    let links = rw c.as_slice-3.ensures.value at c.in_ok-links.ensures in
    let led = rw c.as_slice-4.ensures.value at c.in_ok-supers.ensures in
    let rows = c.in_ok-supers.supers.items in
    let none = none_absent w c.in_ok-names.names names absent in
    let apart = rw (c.as_slice-5.ensures.value, c.as_slice-6.ensures.value) at c.in_default-least_circular.ensures in
    let no_circle = none_circular w c.in_ok-links.links.items rows _ links led links.count apart in
    let right = rw c.as_slice-7.ensures.value at c.in_default-least_wrong.ensures.right in
    let supers = AreSupers-led w c.in_ok-links.links.items rows _ links led links.count no_circle in
    let world = IsWorld-built w rows c.requires supers none right in
    world
