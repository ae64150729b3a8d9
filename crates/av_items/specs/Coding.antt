-- A builder to which a code was added, and one to which nothing was.
use Rattle.std.specs.Prelude.{◌≡◌, [], ◌++◌}
use Rattle.av_asm.specs.Built.{Built}
use Rattle.av_standin_of.specs.Codes.{Code}
use Rattle.av_templates.specs.Putting.{with_rows}

-- the instructions with their frames, and the handlers, whose numbers are those of a builder that had no instruction
abbrev pub with_code : Built → Code → Built
with_code built code = record (with_rows built code.rows) { spans = built.spans ++ code.spans }

-- nothing was put into a builder
pub record IsBegun (built : Built) : Type 0 where
  pub steps : built.steps ≡ []
  pub frames : built.frames ≡ []
  pub spans : built.spans ≡ []
