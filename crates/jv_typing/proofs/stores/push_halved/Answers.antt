use Rattle.jv_typing.proofs.Storing.{pushed_halved}
use Rattle.jv_typing.proofs.stores.push_halved.Goals as goal

pub returns-in_ok-push-in-Some : goal.returns-in_ok-push-in-Some
returns-in_ok-push-in-Some c =
    pushed_halved c.args.words.now.items c.push_copies.new.words.items c.push.new.self.items c.args.before.now c.in-Some.rest.now c.in-Some.last.now c.in_ok-word_before-in-Some.field-0
    c.in-Some.ensures.cases.0 c.in_ok-push_copies-in-Some.ensures c.in_ok-push-in-Some.ensures.items c.in_ok-word_before-in-Some.ensures
