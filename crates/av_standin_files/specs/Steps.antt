-- Files with one more behind them.
use Rattle.std.specs.Prelude.{◌≡◌, List, [], ◌∷◌, ◌++◌}
use Rattle.std.specs.List.{AllZip, flat_map}
use Rattle.jv_types.specs.declared.frames.FramedBody.{FramedBody}
use Rattle.jv_types.specs.declared.shapes.Shape.{Shape}
use Rattle.av_standin_of.specs.declared.standin.StandinFile.{StandinFile}
use Rattle.av_standin_of.specs.Classes.{MadeClass}
use Rattle.av_standin_of.specs.Files.{IsFileOf}
use Rattle.av_standin_of.specs.Worlds.{coded_method, IsBodyOf}
use Rattle.av_standin_files.specs.declared.files.Files.{Files}

-- the file of a class and the bodies of its methods stand behind those before
pub record AddsFile (w : List Shape) (made : MadeClass) (before after : Files) : Type 0 where
  pub file : StandinFile
  pub is_file : IsFileOf made file
  pub files : after.files.items ≡ before.files.items ++ file ∷ []
  pub bodies : List FramedBody
  pub are_bodies : AllZip (IsBodyOf w) (flat_map (coded_method made.name) made.methods) bodies
  pub methods : after.methods.items ≡ before.methods.items ++ bodies
