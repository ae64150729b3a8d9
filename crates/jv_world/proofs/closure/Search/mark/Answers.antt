use Rattle.std.proofs.Common.{◌∙◌}
use Rattle.jv_world.proofs.Marking.{AddsAll-one, marked-read}
use Rattle.jv_world.proofs.closure.Search.mark.Goals as goal

pub returns : goal.returns
returns c =
    let marks = c.args.self.now.marks.items in
    AddsAll-one marks c.args.self.now.found.items c.push.new.self.items c.args.class c.requires.marking c.requires.here
    (marked-read marks c.args.class.number c.index.result.now c.requires.here c.index.ensures ∙ c.if-index.false) c.in_ok-push.ensures.items
