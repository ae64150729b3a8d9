use Rattle.std.proofs.Common.{None}
use Rattle.av_given.specs.Steps.Parts.{IsDecoding}
use Rattle.av_given.proofs.Names.{undecoded_body, undecoded_names}
use Rattle.av_given.proofs.methods.add_code.Goals as goal

pub returns-in-None-clause-maps : goal.returns-in-None-clause-maps
returns-in-None-clause-maps c =
    let none : IsDecoding c.args.class.now c.args.code.now None = rw c.in-None.is at c.in_ok-decoding.ensures in
    undecoded_names c.args.class.now c.args.member.now c.args.code.now c.args.found.maps.items c.requires.has none

pub returns-in-None-clause-bodies : goal.returns-in-None-clause-bodies
returns-in-None-clause-bodies c =
    let none : IsDecoding c.args.class.now c.args.code.now None = rw c.in-None.is at c.in_ok-decoding.ensures in
    undecoded_body c.args.class.now c.args.index c.args.member.now c.args.code.now c.args.found.bodies.items c.requires.has none

pub add_body-requires-clause-decoded : goal.add_body-requires-clause-decoded
add_body-requires-clause-decoded c = rw c.in-Some.is at c.in_ok-decoding.ensures
