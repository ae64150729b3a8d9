-- The keys of members: their orders, and which members have a key.
use Rattle.std.proofs.Common.{◌≡◌, ℕ, ◌+◌, ◌<◌, List, [], ◌∷◌, ◌++◌, length, get_or, Some, Equal, slice_get, sym, ap, ◌∙◌, subst, ⊎_elim, arith}
use Rattle.std.specs.Cmp.{IsTotalOrder}
use Rattle.std.proofs.lemmas.List.{length_push}
use Rattle.std.proofs.lemmas.Option.{same_Some, slice_get-get_or}
use Rattle.jv_types.specs.declared.desc.Desc.{Desc}
use Rattle.jv_types.specs.declared.desc.MethodDesc.{MethodDesc}
use Rattle.jv_types.specs.declared.shapes.FieldShape.{FieldShape}
use Rattle.jv_types.specs.declared.shapes.MethodShape.{MethodShape}
use Rattle.jv_types.specs.declared.shapes.Shape.{Shape}
use Rattle.jv_types.specs.contracts.desc.DescOrd.TheImpl as desc_ord
use Rattle.jv_types.specs.contracts.desc.MethodDescOrd.TheImpl as method_desc_ord
use Rattle.jv_equality.proofs.ToldApart.{desc_ties, method_desc_ties}
use Rattle.jv_world.specs.Steps.Ordered.{AreIndexed, AreMembers, field_key, field_key_cmp, method_key, method_key_cmp}
use Rattle.jv_world.specs.declared.members.Members.{Members}
use Rattle.jv_world.specs.MemberPlaces.{IsFieldOf, IsMethodOf}
use Rattle.jv_world.proofs.Linking.{slice_get-push}
use Rattle.jv_world.proofs.OrderedPlaces.{named_total, named_ties}

pub method_keys_total : IsTotalOrder method_key_cmp
method_keys_total = named_total (method_desc_ord.ghosts).cmp method_desc_ord.Laws.total-law

pub method_keys_tie : (x y : List ℕ × MethodDesc) → method_key_cmp x y ≡ Equal → x ≡ y
method_keys_tie x y e = named_ties (method_desc_ord.ghosts).cmp (λ (d f : MethodDesc) h. (method_desc_ties d f).0 h) x y e

pub field_keys_total : IsTotalOrder field_key_cmp
field_keys_total = named_total (desc_ord.ghosts).cmp desc_ord.Laws.total-law

pub field_keys_tie : (x y : List ℕ × Desc) → field_key_cmp x y ≡ Equal → x ≡ y
field_keys_tie x y e = named_ties (desc_ord.ghosts).cmp (λ (d f : Desc) h. (desc_ties d f).0 h) x y e

-- a member has a name and what comes beside it where it has them as its key
pub method_key_of : (method : MethodShape) (name : List ℕ) (desc : MethodDesc) → IsMethodOf name desc method → method_key method ≡ (name, desc)
method_key_of method name desc is = λ i. (is.0 i, is.1 i)

pub of_method_key : (method : MethodShape) (name : List ℕ) (desc : MethodDesc) → method_key method ≡ (name, desc) → IsMethodOf name desc method
of_method_key method name desc is = (ap (λ (k : List ℕ × MethodDesc). k.0) is, ap (λ (k : List ℕ × MethodDesc). k.1) is)

pub field_key_of : (field : FieldShape) (name : List ℕ) (desc : Desc) → IsFieldOf name desc field → field_key field ≡ (name, desc)
field_key_of field name desc is = λ i. (is.0 i, is.1 i)

pub of_field_key : (field : FieldShape) (name : List ℕ) (desc : Desc) → field_key field ≡ (name, desc) → IsFieldOf name desc field
of_field_key field name desc is = (ap (λ (k : List ℕ × Desc). k.0) is, ap (λ (k : List ℕ × Desc). k.1) is)

-- ---- the members of each class

-- those of one more class
pub AreIndexed-more : (w : List Shape) (n : ℕ) (shape : Shape) (rows new_rows : List Members) (row : Members) → n < length w → shape ≡ get_or w n shape → AreMembers shape row → new_rows ≡ rows ++ row ∷ []
    → AreIndexed w n rows → AreIndexed w (n + 1) new_rows
AreIndexed-more w n shape rows new_rows row below is made grown so_far =
    let P : List Members → Type 0 = λ l. AreIndexed w (n + 1) l in
    subst P (sym grown)
    (record {
      count = omega (arith, so_far.count, length_push rows row);
      each = λ c s r there at.
          ⊎_elim
          (λ before. so_far.each c s r there before)
          (λ (last : (c ≡ length rows) × (r ≡ row)).
          let here : slice_get w c ≡ Some shape = ap (slice_get w) (last.0 ∙ so_far.count) ∙ slice_get-get_or w n shape below ∙ ap Some (sym is) in
          let same : shape ≡ s = same_Some shape s (sym here ∙ there) in
          let Q : Members → Type 0 = λ v. AreMembers s v in
          let S : Shape → Type 0 = λ v. AreMembers v row in
          subst Q (sym last.1) (subst S same made))
          (slice_get-push rows row c r at);
    })

-- those of one class
pub AreMembers-at : (w : List Shape) (rows : List Members) (c : ℕ) (shape : Shape) (row : Members) → AreIndexed w (length w) rows → c < length w → slice_get w c ≡ Some shape → row ≡ get_or rows c row → AreMembers shape row
AreMembers-at w rows c shape row indexed below there here =
    indexed.each c shape row there (slice_get-get_or rows c row (omega (arith, indexed.count, below)) ∙ ap Some (sym here))
