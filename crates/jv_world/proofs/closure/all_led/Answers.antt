use Rattle.jv_world.proofs.Searching.{IsMarking-none, AreLedFrom-more, AreLedFrom-none}
use Rattle.jv_world.proofs.closure.all_led.Goals as goal

pub loop-number-init : goal.loop-number-init
loop-number-init c = record {
  clear = record {
    marking = IsMarking-none _ _ c.in_ok-search.ensures.empty c.in_ok-search.ensures.unmarked;
    count = c.in_ok-search.ensures.count;
    empty = c.in_ok-search.ensures.empty;
  };
  rows = AreLedFrom-none c.args.links.now c.in_ok-rows.rows.items c.in_ok-rows.ensures.items;
}

pub loop-number-preserved : goal.loop-number-preserved
loop-number-preserved c = record {
  clear = c.in_ok-led_from.ensures.clear;
  rows = AreLedFrom-more c.args.links.now c.loop-number.number _ _ c.in_ok-led_from.field-0 c.in_ok-led_from.ensures.led c.in_ok-push.ensures.items c.loop-number.invariant.rows;
}
