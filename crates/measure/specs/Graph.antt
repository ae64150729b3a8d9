-- A graph on the numbers below a size, in which each node has four successors.
use Rattle.std.specs.Prelude.{ℕ, ◌+◌, ◌*◌, ◌/◌, ◌%◌, List, [], ◌∷◌, ◌++◌}
use Rattle.std.proofs.Common.{arith, refl, inl, inr}
use Rattle.std.proofs.lemmas.Map.Lookups.{exact_pairs, exact_unsigned}
use Rattle.std.specs.Ordering.{nat_cmp, ordering_then}
use Rattle.std.specs.declared.cmp.Ordering.{Ordering}
use Rattle.jv_fix.specs.Order.{TellsApart}
use Rattle.std.specs.List.{Contains}
use Rattle.jv_fix.specs.Facts.{Premises, One, Two, IsClosed, IsForcedBy, AppendsForced}
use Rattle.measure.specs.declared.node.Node.{Node}

-- nodes in order of their fields
abbrev pub node_cmp : Node → Node → Ordering
node_cmp x y =
    ordering_then (nat_cmp x.kind y.kind) (ordering_then (nat_cmp x.method y.method) (ordering_then (nat_cmp x.place y.place) (nat_cmp x.number y.number)))

-- the node of a number
abbrev pub node_of : ℕ → Node
node_of number = record { kind = number % 4; method = number / 1024; place = number / 4; number = number }

-- the number of a successor, by two factors
abbrev pub step : ℕ → ℕ → ℕ → ℕ → ℕ
step size factor term number = (number * factor + term) % size

-- the successors of a node
abbrev pub successors : ℕ → Node → List Node
successors size node =
    node_of (step size 1664525 1013904223 node.number)
    ∷ node_of (step size 22695477 12345 node.number)
    ∷ node_of (step size 69069 5 node.number)
    ∷ node_of (step size 3 1 node.number)
    ∷ []

-- a node forces its successors
abbrev pub leads_to : ℕ → Premises Node → Node → Type 0
leads_to size (One node) next = Contains (successors size node) next
leads_to size (Two _ _) next = ⊥

-- the order of nodes tells them apart
pub nodes_apart : TellsApart node_cmp
nodes_apart x y h =
    let rest = exact_pairs nat_cmp _ exact_unsigned (exact_pairs nat_cmp _ exact_unsigned (exact_pairs nat_cmp nat_cmp exact_unsigned exact_unsigned)) in
    let e = rest (x.kind, (x.method, (x.place, x.number))) (y.kind, (y.method, (y.place, y.number))) h in
    λ k. record { kind = (e k).0; method = (e k).1.0; place = (e k).1.1.0; number = (e k).1.1.1 }

-- no facts are closed under any rule
pub none_closed : (size : ℕ) → IsClosed (leads_to size) (Contains [])
none_closed size (One _) next (k, within, is) h = absurd (omega (arith, within))
none_closed size (Two _ _) next ((k, within, is), second) h = absurd (omega (arith, within))

-- who appends the successors of a node appends what it forces
pub appends_successors : (size : ℕ) (node : Node) (found old : List Node) → AppendsForced (leads_to size) node found old (old ++ successors size node)
appends_successors size node found old = record {
  added = successors size node;
  appended = refl;
  exact = λ next. (λ h. inl h, only next);
}
  where
    only : (next : Node) → IsForcedBy (leads_to size) node found next → Contains (successors size node) next
    only next (inl h) = h
    only next (inr (other, there, inl h)) = absurd h
    only next (inr (other, there, inr h)) = absurd h
