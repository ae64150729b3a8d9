use Rattle.std.proofs.lemmas.Result.{on_ok_weaker}
use Rattle.jv_desc.proofs.Layers.{put_array}
use Rattle.jv_desc.proofs.showing.+put_ref.Goals as goal

pub returns-in_ok-push-in-Array : goal.returns-in_ok-push-in-Array
returns-in_ok-push-in-Array t c =
    on_ok_weaker c.put_ref.result (λ e. put_array c.args.of.now c.in-Array.item c.get.result.now c.args.text.now.items _ c.put_ref.new.text.items c.in-Array.is c.get.ensures c.in_ok-push-in-Array.ensures.items e) c.put_ref.ensures
