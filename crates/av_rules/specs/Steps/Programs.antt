-- What is analysed, as the code keeps it.
use Rattle.av_rules.specs.declared.given.Given.{Given}
use Rattle.av_rules.specs.Program.{Program}
use Rattle.av_rules.specs.Steps.Kept.{IsKept}

abbrev pub program_of : Given → Program
program_of given = record { world = given.world.now; methods = given.methods.now; start = given.start }

-- the program is one that may be analysed, and the tables are those of its world
abbrev pub IsKeptIn : Given → Type 0
IsKeptIn given = IsKept given.world.now given.methods.now given.start given.any.items given.object
