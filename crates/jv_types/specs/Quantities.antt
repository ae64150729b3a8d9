-- The name under which each counted quantity is printed, and its limit.
use Rattle.std.specs.Prelude.{ℕ, List, codes}
use Rattle.jv_types.specs.declared.quantity.Quantity.{Quantity}
use Rattle.jv_types.specs.declared.quantity.Quantity.TheVariants.{Files, FileBytes, AppBytes, Classes, LibraryBytes, Instructions, Methods, Pool, StandinBytes, Labels, Facts}

-- the name of a quantity, as it is printed
abbrev pub quantity_name : Quantity → List ℕ
quantity_name Files = codes "files"
quantity_name FileBytes = codes "file-bytes"
quantity_name AppBytes = codes "app-bytes"
quantity_name Classes = codes "classes"
quantity_name LibraryBytes = codes "library-bytes"
quantity_name Instructions = codes "instructions"
quantity_name Methods = codes "methods"
quantity_name Pool = codes "pool"
quantity_name StandinBytes = codes "standin-bytes"
quantity_name Labels = codes "labels"
quantity_name Facts = codes "facts"

-- the greatest count within a quantity's limit
abbrev pub quantity_limit : Quantity → ℕ
quantity_limit Files = 20000
quantity_limit FileBytes = 16777216
quantity_limit AppBytes = 67108864
quantity_limit Classes = 8000
quantity_limit LibraryBytes = 268435456
quantity_limit Instructions = 1000000
quantity_limit Methods = 65535
quantity_limit Pool = 65534
quantity_limit StandinBytes = 268435456
quantity_limit Labels = 1000000
quantity_limit Facts = 100000000
