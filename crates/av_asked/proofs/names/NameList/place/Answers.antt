use Rattle.av_asked.proofs.Keys.{name_at, name_nowhere}
use Rattle.av_asked.proofs.names.NameList.place.Goals as goal

pub returns-clause-found : goal.returns-clause-found
returns-clause-found c =
    let index = rw c.as_slice.ensures at c.get_index_of.ensures.index in
    rw (← c.self.view_is) (name_at c.self.inside.keys.keys c.args.name.now c.get_index_of.result index)

pub returns-clause-none : goal.returns-clause-none
returns-clause-none c =
    let found = rw c.as_slice.ensures at c.get_index_of.ensures.found in
    rw (← c.self.view_is) (name_nowhere c.self.inside.keys.keys c.args.name.now c.get_index_of.result found)
