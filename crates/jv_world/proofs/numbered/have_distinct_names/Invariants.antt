use Rattle.std.proofs.Common.{◌≡◌, map, take, nat_eq}
use Rattle.std.specs.Cmp.Lexicographic.{pointwise}
use Rattle.std.specs.List.{IsDistinct}
use Rattle.jv_world.proofs.numbered.have_distinct_names.Given as goal

abbrev pub invariant-loop-shape : goal.invariant-loop-shape
invariant-loop-shape l = record {
  names : map (λ k. k.items) l.keys.keys ≡ map (λ s. s.name) (take l.shape-index l.shapes);
  unique : IsDistinct (λ x y. pointwise nat_eq x.items y.items) l.keys.keys;
}
