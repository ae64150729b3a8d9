-- Each turn of the loop is one method, and its body.
use Rattle.std.proofs.Common.{◌+◌, ap, drop, map}
use Rattle.jv_lists.proofs.Places.{drop_one}
use Rattle.av_standin_of.specs.Files.{put_method}
use Rattle.av_standin_of.specs.Worlds.{coded_method, IsBodyOf}
use Rattle.av_sketches.specs.Sketches.{made_method}
use Rattle.av_class_files.specs.Steps.{listed}
use Rattle.av_class_files.proofs.Each.{one_body, one_more_body, one_more_put}
use Rattle.av_class_files.proofs.methods.add_methods.Goals as goal

pub loop-sketched-preserved : goal.loop-sketched-preserved
loop-sketched-preserved c =
    let owner = c.args.owner.now in
    let made = made_method owner.dims owner.name.now in
    let methods = c.args.methods.now in
    let i = c.loop-sketched.sketched-index in
    let x = c.sketched-item.result in
    let put = c.in-Ok.ensures in record {
      members =
          one_more_put put_method (map made methods) (map made (drop i methods)) (map made (drop (i + 1) methods)) (made x) c.in-Ok.filed.member c.args.pool.now c.loop-sketched.pool c.add_method.new.pool c.loop-sketched.members.items c.push.new.items.items
          (ap (map made) (drop_one methods i x c.loop-sketched-test.true c.sketched-item.is)) c.loop-sketched.invariant.members put.member c.in_ok-push-in-Ok.ensures;
      bodies =
          one_more_body (IsBodyOf owner.world.now) made (coded_method owner.name.now) methods i x c.loop-sketched.bodies.items (listed c.in-Ok.filed.body) c.push_any.new.items.items c.loop-sketched-test.true c.sketched-item.is
          c.loop-sketched.invariant.bodies (one_body owner.world.now owner.name.now (made x) c.in-Ok.filed.body put.body) c.in_ok-push_any-in-Ok.ensures;
    }
