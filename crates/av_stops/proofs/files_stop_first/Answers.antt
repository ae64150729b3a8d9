use Rattle.av_stops.specs.FirstStops.{in_files}
use Rattle.av_stops.proofs.files_stop_first.Goals as goal

pub returns : goal.returns
returns _ = λ folders main stop p. in_files p
