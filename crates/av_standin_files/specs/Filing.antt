-- When a stand-in has no files.
use Rattle.std.specs.Prelude.{◌≡◌, ℕ, List, None, Contains}
use Rattle.av_standin_of.specs.Files.{class_file}
use Rattle.av_sketches.specs.declared.sketch.Sketch.{Sketch}
use Rattle.av_sketches.specs.Sketches.{made_class}

-- what the class of one of the sketches names finds no room in a pool (JVMS 4.1)
abbrev pub HasNoRoom : ℕ → List Sketch → Type 0
HasNoRoom dims sketches = (sketch : Sketch) × Contains sketches sketch × (class_file (made_class dims sketch) ≡ None)
