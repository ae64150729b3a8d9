-- How the bytes of the files of an application are counted.
use Rattle.std.specs.Prelude.{◌≡◌, ◌<◌, ◌≤◌, ◌+◌, ℕ}
use Rattle.jv_types.specs.declared.quantity.Quantity.TheVariants as quantities
use Rattle.av_program.specs.declared.accept_stop.AcceptStop.{AcceptStop}
use Rattle.av_program.specs.declared.accept_stop.AcceptStop.TheVariants as stops
use Rattle.av_app_files.specs.FileRules.{most_file_bytes, most_app_bytes}

-- the count after a file of this length, where the files before it have so many bytes
pub record IsCounted (before length total : ℕ) : Type 0 where
  pub short : length ≤ most_file_bytes
  pub sum : total ≡ before + length
  pub few : total ≤ most_app_bytes

-- why there is none
pub data IsUncounted (before length : ℕ) (stop : AcceptStop) : Type 0 where
  too_long : stop ≡ stops.Limit quantities.FileBytes most_file_bytes → most_file_bytes < length → IsUncounted before length stop
  too_many : stop ≡ stops.Limit quantities.AppBytes most_app_bytes → length ≤ most_file_bytes → most_app_bytes < before + length
      → IsUncounted before length stop
