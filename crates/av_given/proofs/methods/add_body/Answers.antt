use Rattle.av_given.proofs.Names.{decoded_body, frames_of_code}
use Rattle.av_given.proofs.methods.add_body.Goals as goal

pub returns-clause-maps : goal.returns-clause-maps
returns-clause-maps c =
    frames_of_code c.args.class.now c.args.member.now c.args.code.now c.args.body c.written_frames-frames.result.now c.args.found.maps.items c.in_ok-maps.maps.items c.requires.has c.requires.decoded
    (rw c.as_slice-attrs.ensures at c.written_frames-frames.ensures) c.in_ok-maps.ensures

pub returns-clause-bodies : goal.returns-clause-bodies
returns-clause-bodies c =
    rw c.in_ok-bodies.ensures (decoded_body c.args.class.now c.args.index c.args.member.now c.args.code.now c.args.body c.args.found.bodies.items c.args.name.now c.requires.named c.requires.has c.requires.decoded)
