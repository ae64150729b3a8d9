-- Each turn of the loop that writes is one value.
use Rattle.av_asm.specs.Mapping.{values_of}
use Rattle.av_asm.proofs.TypesLoop.{types_more}
use Rattle.av_asm.proofs.map_types.map_types.Goals as goal

pub loop-word-preserved : goal.loop-word-preserved
loop-word-preserved c =
    types_more (values_of c.args.words.now) c.args.words.now c.loop-word.word-index c.loop-word.second c.is_wide-second.result c.word-item.result c.in-Ok.of c.args.pool.now c.loop-word.pool c.map_type.new.pool
    c.loop-word.types.items c.push.new.items.items c.loop-word-test.true c.word-item.is c.if-second.false c.loop-word.invariant c.in-Ok.ensures.put c.in-Ok.ensures.grown c.in_ok-push-in-Ok.ensures.ok c.is_wide-second.ensures
