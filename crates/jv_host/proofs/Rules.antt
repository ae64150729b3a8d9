-- Sets of lemmas that functions cite.
use Rattle.jv_host.proofs.Listing.{Lists-from_take}

-- the first names under a root are a listing of it
pub ruleset listing = Lists-from_take
