-- Lists place by place, the one of which is mapped.
use Rattle.std.proofs.Common.{List, [], ◌∷◌, map}
use Rattle.std.specs.List.{AllZip}

pub zip_mapped : {X Y Z : Type 0} (R : Y → Z → Type 0) (f : X → Y) (xs : List X) (zs : List Z) → AllZip (λ (x : X). R (f x)) xs zs → AllZip R (map f xs) zs
zip_mapped R f [] [] h = h
zip_mapped R f [] (z ∷ zs) h = h
zip_mapped R f (x ∷ xs) [] h = h
zip_mapped R f (x ∷ xs) (z ∷ zs) h = (h.0, zip_mapped R f xs zs h.1)
