use Rattle.av_asked.proofs.Keys.{added_last}
use Rattle.av_asked.proofs.names.NameList.add.Goals as goal

pub returns : goal.returns
returns c =
    let is = rw c.as_slice.ensures at c.in_ok-key.ensures.items in
    let fresh = rw (← c.self.view_is) at c.requires in
    rw (← c.self.view_is) (added_last c.self.inside.keys.keys c.insert.new.self.keys c.in_ok-key.key c.args.name.now is fresh c.in_ok-insert.ensures.keys)
