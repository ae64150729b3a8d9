use Rattle.std.proofs.lemmas.Result.{IfOk-weaker}
use Rattle.jv_world.proofs.Counting.{AreNumbered-by}
use Rattle.jv_world.proofs.numbered.are_numbered.Goals as goal

pub returns : goal.returns
returns c =
    IfOk-weaker c.have_distinct_names.result _ _
    (λ b says. AreNumbered-by c.args.shapes.now b c.if-shapes-ge-CLASSES_END.false (c.have_few_members.ensures.0 c.if-not-have_few_members.false) says)
    c.have_distinct_names.ensures
