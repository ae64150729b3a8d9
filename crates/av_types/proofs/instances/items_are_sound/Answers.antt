use Rattle.std.proofs.Common.{refl}
use Rattle.av_types.proofs.Types.{sound_item}
use Rattle.av_types.proofs.instances.items_are_sound.Goals as goal

pub returns : goal.returns
returns c = sound_item c.args._world.now c.args._t.now c.args._item.now c.args._item.now c.requires.array refl c.requires.sound
