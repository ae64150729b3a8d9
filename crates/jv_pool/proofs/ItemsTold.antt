-- `==` and `cmp` tell each item from the others.
use Rattle.std.proofs.Common.{refl}
use Rattle.std.proofs.lemmas.Bool.{and_parts, false≢true}
use Rattle.jv_equality.specs.Equality.{TellsApart, Ties}
use Rattle.jv_equality.proofs.Exact.{Exact, nats_exact, ints_exact, texts_exact, told_apart, ties_told}
use Rattle.jv_pool.specs.declared.item.PoolItem.TheVariants as items
use Rattle.jv_pool.specs.contracts.item.PoolItemPartialEq as item_per
use Rattle.jv_pool.specs.contracts.item.PoolItemEq as item_eq
use Rattle.jv_pool.specs.contracts.item.PoolItemOrd as item_ord

-- what `==` does not tell apart is one item
items_exact : Exact item_per.TheImpl.ghosts.eq
items_exact (items.Utf8 a) (items.Utf8 b) e = λ i. items.Utf8 (texts_exact a b e i)
items_exact (items.Integer a) (items.Integer b) e = λ i. items.Integer (ints_exact a b e i)
items_exact (items.Float a) (items.Float b) e = λ i. items.Float (nats_exact a b e i)
items_exact (items.Long a) (items.Long b) e = λ i. items.Long (ints_exact a b e i)
items_exact (items.Double a) (items.Double b) e = λ i. items.Double (nats_exact a b e i)
items_exact (items.Class a) (items.Class b) e = λ i. items.Class (nats_exact a b e i)
items_exact (items.Text a) (items.Text b) e = λ i. items.Text (nats_exact a b e i)
items_exact (items.Field a1 a2) (items.Field b1 b2) e = let p = and_parts _ _ e in λ i. items.Field (nats_exact a1 b1 p.0 i) (nats_exact a2 b2 p.1 i)
items_exact (items.Method a1 a2) (items.Method b1 b2) e = let p = and_parts _ _ e in λ i. items.Method (nats_exact a1 b1 p.0 i) (nats_exact a2 b2 p.1 i)
items_exact (items.InterfaceMethod a1 a2) (items.InterfaceMethod b1 b2) e = let p = and_parts _ _ e in λ i. items.InterfaceMethod (nats_exact a1 b1 p.0 i) (nats_exact a2 b2 p.1 i)
items_exact (items.NameAndType a1 a2) (items.NameAndType b1 b2) e = let p = and_parts _ _ e in λ i. items.NameAndType (nats_exact a1 b1 p.0 i) (nats_exact a2 b2 p.1 i)
items_exact (items.MethodHandle a1 a2) (items.MethodHandle b1 b2) e = let p = and_parts _ _ e in λ i. items.MethodHandle (nats_exact a1 b1 p.0 i) (nats_exact a2 b2 p.1 i)
items_exact (items.MethodType a) (items.MethodType b) e = λ i. items.MethodType (nats_exact a b e i)
items_exact (items.InvokeDynamic a1 a2) (items.InvokeDynamic b1 b2) e = let p = and_parts _ _ e in λ i. items.InvokeDynamic (nats_exact a1 b1 p.0 i) (nats_exact a2 b2 p.1 i)
items_exact items.Hole items.Hole e = refl
items_exact _ _ e = absurd (false≢true e)

pub items_told : TellsApart item_per.TheImpl.ghosts.eq
items_told = told_apart items_exact item_eq.TheImpl.Laws.laws-law

pub items_tied : Ties item_ord.TheImpl.ghosts.cmp
items_tied = ties_told item_ord.TheImpl.ghosts.cmp items_told item_ord.TheImpl.Laws.matches_eq-law
