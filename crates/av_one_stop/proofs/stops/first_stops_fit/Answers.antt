use Rattle.av_one_stop.proofs.Comparing.{fits}
use Rattle.av_one_stop.proofs.stops.first_stops_fit.Goals as goal

pub returns : goal.returns
returns c = λ folders main stop result.
    fits folders main (c.first_stop_is_one.ensures folders main) (c.stopped_is_no_program.ensures folders main) stop result
