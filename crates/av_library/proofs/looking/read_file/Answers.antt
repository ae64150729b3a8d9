use Rattle.std.proofs.Common.{ℕ, List, Vec, Global, option_map, ap}
use Rattle.av_library.proofs.Answers.{absent_read, fits_read, says_read}
use Rattle.av_library.proofs.looking.read_file.Goals as goal

-- the items of what was read
abbrev items_of : Vec ℕ Global → List ℕ
items_of bytes = bytes.items

pub returns-in-Ok-Some-clause-says : goal.returns-in-Ok-Some-clause-says
returns-in-Ok-Some-clause-says g c =
    says_read c.weighed.result.found (g.H.Host.files c.args.host.now) c.args.lib.now c.args.name.now c.args.file.now c.in-Ok-Some.bytes.items c.as_slice.result.now c.most_read.result (option_map items_of c.in-Ok-Some.field-0)
    c.requires.file c.requires.counts c.most_read.ensures c.as_slice.ensures.value (ap (option_map items_of) c.in-Ok-Some.field-0-is) c.in-Ok-Some.ensures.gives c.weighed.ensures.found

pub returns-in-Ok-Some-clause-fit : goal.returns-in-Ok-Some-clause-fit
returns-in-Ok-Some-clause-fit g c = fits_read c.weighed.result.found c.args.name.now c.as_slice.result.now c.weighed.ensures.found

pub returns-in-Ok-None-clause-says : goal.returns-in-Ok-None-clause-says
returns-in-Ok-None-clause-says g c =
    absent_read (g.H.Host.files c.args.host.now) c.args.lib.now c.args.name.now c.args.file.now c.most_read.result (option_map items_of c.in-Ok-None.field-0)
    c.requires.file c.most_read.ensures (ap (option_map items_of) c.in-Ok-None.field-0-is) c.in-Ok-None.ensures.gives
