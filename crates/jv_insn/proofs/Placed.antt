-- Where entries stand in a pool: they stay there as it grows, and adding one gives its place.
use Rattle.std.proofs.Common.{◌≡◌, ℕ, suc, ◌+◌, Bool, true, false, cond, leb, List, [], ◌∷◌, ◌++◌, length, Option, Some, None, refl, sym, ap, ◌∙◌, append_assoc}
use Rattle.std.specs.Prelude.{option_map, unwrap_or}
use Rattle.std.proofs.lemmas.List.{append-nil}
use Rattle.jv_lists.proofs.Tests.{suc_some}
use Rattle.jv_types.specs.declared.instruction.Const.TheVariants as consts
use Rattle.jv_types.specs.declared.instruction.Arg.{Arg}
use Rattle.jv_types.specs.declared.instruction.Arg.TheVariants as args
use Rattle.jv_desc.specs.Texts.{desc_text, method_text}
use Rattle.jv_pool.specs.declared.item.PoolItem.{PoolItem}
use Rattle.jv_pool.specs.declared.item.PoolItem.TheVariants as items
use Rattle.jv_pool.specs.PoolText.{is_hole}
use Rattle.jv_pool.specs.Adding.{slots_of, is_same, place_of}
use Rattle.jv_read.specs.Reading.{◌>>=◌}
use Rattle.jv_pool.proofs.AddingLaws.{new_first}
use Rattle.jv_read.proofs.Fronts.{bind_some, bind_is, past_true, given_as}
use Rattle.jv_insn.specs.declared.entries.MemberKind.{MemberKind}
use Rattle.jv_insn.specs.declared.entries.MemberKind.TheVariants as kinds
use Rattle.jv_insn.specs.Entries.{Entry, Plain, ClassOf, MemberOf, member_item, method_kind, entry_of, class_place, pair_place, member_place, arg_place, put_item, put_class, put_pair, put_member, put_named, Grows}
use Rattle.jv_names.specs.Naming.{type_text}
use Rattle.jv_insn.specs.Encoding.{index_in}
use Rattle.jv_insn.proofs.Placing.{place_by, put_found, put_behind}

-- ---- a pool that grows

pub grows_on : (a b c : List PoolItem) → Grows a b → Grows b c → Grows a c
grows_on a b c g h = (g.0 ++ h.0, h.1 ∙ ap (λ (p : List PoolItem). p ++ h.0) g.1 ∙ append_assoc a g.0 h.0)

-- the first index of an item stays
pub item_stays : (pool more : List PoolItem) (item : PoolItem) (i : ℕ) → place_of pool item ≡ Some i → place_of (pool ++ more) item ≡ Some i
unfolding place_of
item_stays [] more item i e = absurd cc
item_stays (x ∷ xs) more item i e = by (is_same item x) (item_stays xs more item) e
  where
    by : (b : Bool) → ((q : ℕ) → place_of xs item ≡ Some q → place_of (xs ++ more) item ≡ Some q) → cond b (Some 1) (option_map suc (place_of xs item)) ≡ Some i → cond b (Some 1) (option_map suc (place_of (xs ++ more) item)) ≡ Some i
    by true stays e = e
    by false stays e =
        let q = suc_some (place_of xs item) i e in
        ap (option_map suc) (stays q.0 q.1) ∙ ap (λ (n : ℕ). Some n) q.2

pub class_stays : (pool more : List PoolItem) (text : List ℕ) (i : ℕ) → class_place pool text ≡ Some i → class_place (pool ++ more) text ≡ Some i
unfolding class_place
class_stays pool more text i e =
    let n = bind_some (place_of pool (items.Utf8 text)) (λ name. place_of pool (items.Class name)) i e in
    bind_is (place_of (pool ++ more) (items.Utf8 text)) (λ name. place_of (pool ++ more) (items.Class name)) n.0 (item_stays pool more (items.Utf8 text) n.0 n.1) ∙ item_stays pool more (items.Class n.0) i n.2

pub pair_stays : (pool more : List PoolItem) (name desc : List ℕ) (i : ℕ) → pair_place pool name desc ≡ Some i → pair_place (pool ++ more) name desc ≡ Some i
unfolding pair_place
pair_stays pool more name desc i e =
    let a = bind_some (place_of pool (items.Utf8 name)) (λ first. place_of pool (items.Utf8 desc) >>= λ second. place_of pool (items.NameAndType first second)) i e in
    let b = bind_some (place_of pool (items.Utf8 desc)) (λ second. place_of pool (items.NameAndType a.0 second)) i a.2 in
    let grown = pool ++ more in
    bind_is (place_of grown (items.Utf8 name)) (λ first. place_of grown (items.Utf8 desc) >>= λ second. place_of grown (items.NameAndType first second)) a.0 (item_stays pool more (items.Utf8 name) a.0 a.1)
    ∙ bind_is (place_of grown (items.Utf8 desc)) (λ second. place_of grown (items.NameAndType a.0 second)) b.0 (item_stays pool more (items.Utf8 desc) b.0 b.1)
    ∙ item_stays pool more (items.NameAndType a.0 b.0) i b.2

pub member_stays : (pool more : List PoolItem) (kind : MemberKind) (class name desc : List ℕ) (i : ℕ) → member_place pool kind class name desc ≡ Some i → member_place (pool ++ more) kind class name desc ≡ Some i
unfolding member_place
member_stays pool more kind class name desc i e =
    let a = bind_some (class_place pool class) (λ owner. pair_place pool name desc >>= λ pair. place_of pool (member_item kind owner pair)) i e in
    let b = bind_some (pair_place pool name desc) (λ pair. place_of pool (member_item kind a.0 pair)) i a.2 in
    let grown = pool ++ more in
    bind_is (class_place grown class) (λ owner. pair_place grown name desc >>= λ pair. place_of grown (member_item kind owner pair)) a.0 (class_stays pool more class a.0 a.1)
    ∙ bind_is (pair_place grown name desc) (λ pair. place_of grown (member_item kind a.0 pair)) b.0 (pair_stays pool more name desc b.0 b.1)
    ∙ item_stays pool more (member_item kind a.0 b.0) i b.2

pub arg_stays : (pool more : List PoolItem) (entry : Option Entry) (i : ℕ) → arg_place pool entry ≡ Some i → arg_place (pool ++ more) entry ≡ Some i
arg_stays pool more None i e = e
arg_stays pool more (Some (Plain item)) i e = item_stays pool more item i e
arg_stays pool more (Some (ClassOf text)) i e = class_stays pool more text i e
arg_stays pool more (Some (MemberOf kind class name desc)) i e = member_stays pool more kind class name desc i e

-- the same, in a pool that grew
pub arg_later : (old new : List PoolItem) (entry : Option Entry) (i : ℕ) → Grows old new → arg_place old entry ≡ Some i → arg_place new entry ≡ Some i
arg_later old new entry i g e = ap (λ (p : List PoolItem). arg_place p entry) g.1 ∙ arg_stays old g.0 entry i e

-- ---- adding

-- what was added stands at its index
pub record IsPut (place : List PoolItem → Option ℕ) (old new : List PoolItem) (i : ℕ) : Type 0 where
  pub grows : Grows old new
  pub stands : place new ≡ Some i

pub item_put : (item : PoolItem) (old : List PoolItem) (x : ℕ × List PoolItem) → is_hole item ≡ false → put_item item old ≡ Some x → IsPut (λ p. place_of p item) old x.1 x.0
item_put item old x whole e =
    place_by old item (IsPut (λ p. place_of p item) old x.1 x.0) whole
    (λ j at.
    let made : ℕ × List PoolItem = (j, old) in
    given_as (λ (y : ℕ × List PoolItem). IsPut (λ p. place_of p item) old y.1 y.0) made x (sym (put_found item old j at) ∙ e)
    (record { grows = ([], sym (append-nil old)); stands = at }))
    (λ none.
    let made : ℕ × List PoolItem = (length old + 1, old ++ slots_of item) in
    let g = past_true (leb (length old + length (slots_of item)) 65534) (Some made) x (sym (put_behind item old none) ∙ e) in
    given_as (λ (y : ℕ × List PoolItem). IsPut (λ p. place_of p item) old y.1 y.0) made x g.1
    (record { grows = (slots_of item, refl); stands = new_first old item whole none }))

pub class_put : (text : List ℕ) (old : List PoolItem) (x : ℕ × List PoolItem) → put_class text old ≡ Some x → IsPut (λ p. class_place p text) old x.1 x.0
unfolding put_class class_place
class_put text old x e =
    let a = bind_some (put_item (items.Utf8 text) old) (λ name. put_item (items.Class name.0) name.1) x e in
    let p = item_put (items.Utf8 text) old a.0 refl a.1 in
    let q = item_put (items.Class a.0.0) a.0.1 x refl a.2 in
    let first : place_of x.1 (items.Utf8 text) ≡ Some a.0.0 = arg_later a.0.1 x.1 (Some (Plain (items.Utf8 text))) a.0.0 q.grows p.stands in
    record {
      grows = grows_on old a.0.1 x.1 p.grows q.grows;
      stands = bind_is (place_of x.1 (items.Utf8 text)) (λ name. place_of x.1 (items.Class name)) a.0.0 first ∙ q.stands;
    }

pub pair_put : (name desc : List ℕ) (old : List PoolItem) (x : ℕ × List PoolItem) → put_pair name desc old ≡ Some x → IsPut (λ p. pair_place p name desc) old x.1 x.0
unfolding put_pair pair_place
pair_put name desc old x e =
    let a = bind_some (put_item (items.Utf8 name) old) (λ first. put_item (items.Utf8 desc) first.1 >>= λ second. put_item (items.NameAndType first.0 second.0) second.1) x e in
    let b = bind_some (put_item (items.Utf8 desc) a.0.1) (λ second. put_item (items.NameAndType a.0.0 second.0) second.1) x a.2 in
    let p = item_put (items.Utf8 name) old a.0 refl a.1 in
    let q = item_put (items.Utf8 desc) a.0.1 b.0 refl b.1 in
    let r = item_put (items.NameAndType a.0.0 b.0.0) b.0.1 x refl b.2 in
    let first : place_of x.1 (items.Utf8 name) ≡ Some a.0.0 = arg_later a.0.1 x.1 (Some (Plain (items.Utf8 name))) a.0.0 (grows_on a.0.1 b.0.1 x.1 q.grows r.grows) p.stands in
    let second : place_of x.1 (items.Utf8 desc) ≡ Some b.0.0 = arg_later b.0.1 x.1 (Some (Plain (items.Utf8 desc))) b.0.0 r.grows q.stands in
    record {
      grows = grows_on old a.0.1 x.1 p.grows (grows_on a.0.1 b.0.1 x.1 q.grows r.grows);
      stands =
          bind_is (place_of x.1 (items.Utf8 name)) (λ first. place_of x.1 (items.Utf8 desc) >>= λ second. place_of x.1 (items.NameAndType first second)) a.0.0 first
          ∙ bind_is (place_of x.1 (items.Utf8 desc)) (λ second. place_of x.1 (items.NameAndType a.0.0 second)) b.0.0 second ∙ r.stands;
    }

whole_member : (kind : MemberKind) (class pair : ℕ) → is_hole (member_item kind class pair) ≡ false
whole_member kinds.Field class pair = refl
whole_member kinds.Method class pair = refl
whole_member kinds.InterfaceMethod class pair = refl

pair_later : (old new : List PoolItem) (name desc : List ℕ) (i : ℕ) → Grows old new → pair_place old name desc ≡ Some i → pair_place new name desc ≡ Some i
pair_later old new name desc i g e = ap (λ (p : List PoolItem). pair_place p name desc) g.1 ∙ pair_stays old g.0 name desc i e

pub member_put : (kind : MemberKind) (class name desc : List ℕ) (old : List PoolItem) (x : ℕ × List PoolItem) → put_member kind class name desc old ≡ Some x → IsPut (λ p. member_place p kind class name desc) old x.1 x.0
unfolding put_member member_place
member_put kind class name desc old x e =
    let a = bind_some (put_class class old) (λ owner. put_pair name desc owner.1 >>= λ pair. put_item (member_item kind owner.0 pair.0) pair.1) x e in
    let b = bind_some (put_pair name desc a.0.1) (λ pair. put_item (member_item kind a.0.0 pair.0) pair.1) x a.2 in
    let p = class_put class old a.0 a.1 in
    let q = pair_put name desc a.0.1 b.0 b.1 in
    let r = item_put (member_item kind a.0.0 b.0.0) b.0.1 x (whole_member kind a.0.0 b.0.0) b.2 in
    let owner : class_place x.1 class ≡ Some a.0.0 = arg_later a.0.1 x.1 (Some (ClassOf class)) a.0.0 (grows_on a.0.1 b.0.1 x.1 q.grows r.grows) p.stands in
    let pair : pair_place x.1 name desc ≡ Some b.0.0 = pair_later b.0.1 x.1 name desc b.0.0 r.grows q.stands in
    record {
      grows = grows_on old a.0.1 x.1 p.grows (grows_on a.0.1 b.0.1 x.1 q.grows r.grows);
      stands =
          bind_is (class_place x.1 class) (λ owner. pair_place x.1 name desc >>= λ pair. place_of x.1 (member_item kind owner pair)) a.0.0 owner
          ∙ bind_is (pair_place x.1 name desc) (λ pair. place_of x.1 (member_item kind a.0.0 pair)) b.0.0 pair ∙ r.stands;
    }

nothing_put : (old : List PoolItem) (x : ℕ × List PoolItem) → Some (0, old) ≡ Some x → IsPut (λ p. Some 0) old x.1 x.0
nothing_put old x e =
    let made : ℕ × List PoolItem = (0, old) in
    given_as (λ (y : ℕ × List PoolItem). IsPut (λ p. Some 0) old y.1 y.0) made x e (record { grows = ([], sym (append-nil old)); stands = refl })

-- what operands name stands at its index, once it is added
pub arg_put : (arg : Arg) (old : List PoolItem) (x : ℕ × List PoolItem) → put_named (entry_of arg) old ≡ Some x → IsPut (λ p. arg_place p (entry_of arg)) old x.1 x.0
arg_put (args.Constant (consts.Int value)) old x e = let h = item_put (items.Integer value) old x refl e in record { grows = h.grows; stands = h.stands }
arg_put (args.Constant (consts.Float bits)) old x e = let h = item_put (items.Float bits) old x refl e in record { grows = h.grows; stands = h.stands }
arg_put (args.Constant (consts.Long value)) old x e = let h = item_put (items.Long value) old x refl e in record { grows = h.grows; stands = h.stands }
arg_put (args.Constant (consts.Double bits)) old x e = let h = item_put (items.Double bits) old x refl e in record { grows = h.grows; stands = h.stands }
arg_put (args.Constant (consts.Class type)) old x e = let h = class_put (type_text type) old x e in record { grows = h.grows; stands = h.stands }
arg_put (args.Constant consts.Text) old x e = let h = nothing_put old x e in record { grows = h.grows; stands = h.stands }
arg_put (args.Constant consts.Handle) old x e = let h = nothing_put old x e in record { grows = h.grows; stands = h.stands }
arg_put (args.Constant consts.MethodKind) old x e = let h = nothing_put old x e in record { grows = h.grows; stands = h.stands }
arg_put (args.Class type) old x e = let h = class_put (type_text type) old x e in record { grows = h.grows; stands = h.stands }
arg_put (args.Field field) old x e = let h = member_put kinds.Field field.class field.name (desc_text field.desc) old x e in record { grows = h.grows; stands = h.stands }
arg_put (args.Method method) old x e = let h = member_put (method_kind method.interface) (type_text method.class) method.name (method_text method.desc) old x e in record { grows = h.grows; stands = h.stands }
arg_put (args.Multi type dims) old x e = let h = class_put (type_text type) old x e in record { grows = h.grows; stands = h.stands }
arg_put _ old x e = let h = nothing_put old x e in record { grows = h.grows; stands = h.stands }

-- ---- the index of what operands name

pub index_is : (pool : List PoolItem) (arg : Arg) (i : ℕ) → arg_place pool (entry_of arg) ≡ Some i → index_in pool arg ≡ i
index_is pool arg i e = ap (λ (o : Option ℕ). unwrap_or o 0) e
