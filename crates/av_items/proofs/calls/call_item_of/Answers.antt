use Rattle.av_standin_of.specs.Items.{call_rows}
use Rattle.av_items.specs.Steps.{answered, throwable_known}
use Rattle.av_items.proofs.Handling.{call_put}
use Rattle.av_items.proofs.calls.call_item_of.Goals as goal

pub returns : goal.returns
returns c =
    let callee = c.args.callee.now in
    call_put c.args.builder c.in_ok-builder.builder c.in_ok-builder-2.builder c.handler.new.self (call_rows c.args.get callee.interface callee.class callee.name callee.desc)
    (answered callee.desc.result) throwable_known c.mark-covered.result c.throwable_known.result
    c.requires c.in_ok-builder.ensures c.mark-covered.ensures c.in_ok-builder-2.ensures c.in_ok-handler.ensures.ok c.throwable_known.ensures
