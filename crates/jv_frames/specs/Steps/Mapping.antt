-- How far the frames of a map were made.
use Rattle.std.specs.Prelude.{ℕ, ◌≤◌, List, ◌++◌, drop}
use Rattle.jv_types.specs.declared.body.Body.{Body}
use Rattle.jv_types.specs.declared.frames.VType.{VType}
use Rattle.jv_types.specs.declared.frames.Frame.{Frame}
use Rattle.jv_pool.specs.declared.item.PoolItem.{PoolItem}
use Rattle.jv_attr.specs.declared.frame.MapFrame.{MapFrame}
use Rattle.jv_frames.specs.Maps.{AreMapFrames, IsFirstBad}

-- the first frames of a map were made: what is left gives the others, and fails where it fails
pub record GoesOn (pool : List PoolItem) (body : Body) (entry : List VType) (frames : List MapFrame) (base : ℕ) (before : List VType) (rows : List (ℕ × Frame)) (n : ℕ) : Type 0 where
  pub base_fits : base ≤ 65536
  pub makes : (rest : List (ℕ × Frame)) → AreMapFrames pool body base before (drop n frames) rest → AreMapFrames pool body 0 entry frames (rows ++ rest)
  pub fails : (pc : ℕ) → IsFirstBad pool body base before (drop n frames) pc → IsFirstBad pool body 0 entry frames pc
