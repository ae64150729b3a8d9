-- The bytes of a file, their outline and its class.
use Rattle.std.proofs.Common.{◌≡◌, ℕ, zero, suc, ◌+◌, ◌<◌, ◌≤◌, List, [], ◌∷◌, length, Some, ap, subst, arith}
use Rattle.std.specs.List.{slice_get, AllZip}
use Rattle.std.proofs.lemmas.Option.{none-some}
use Rattle.calls_form.specs.declared.outline.Entry.{Entry}
use Rattle.calls_form.specs.declared.outline.Outline.{Outline}
use Rattle.calls_form.specs.declared.object_class.Placed.{Placed}
use Rattle.calls_form.specs.declared.object_class.ObjectClass.{ObjectClass}
use Rattle.calls_form.specs.Outlines.{IsOutline}
use Rattle.calls_form.specs.ObjectForm.{AreInstructions, IsFieldOf, IsMethodOf, IsClassOf, IsObjectClass}
use Rattle.calls_form.specs.Ranges.{IsInRange}
use Rattle.calls_form.proofs.LayoutWhole.{one_outline_lem}
use Rattle.calls_form.proofs.ClassesInstructions.{instruction_some}
use Rattle.calls_form.proofs.ClassesOutline.{one_class, zip_length}
use Rattle.calls_form.proofs.LayoutFields.{some_is}

-- the class of the one outline
pub class_of_outline : (name bytes : List ℕ) (o : Outline) (c : ObjectClass) → IsOutline bytes o → IsObjectClass name bytes c → IsClassOf name o c
class_of_outline name bytes o c is h = subst (λ (p : Outline). IsClassOf name p c) (one_outline_lem bytes h.outline o h.is_outline is) h.is_class

-- bytes are no two classes
pub one_object : (name bytes : List ℕ) (c d : ObjectClass) → IsObjectClass name bytes c → IsObjectClass name bytes d → c ≡ d
one_object name bytes c d h k = one_class name h.outline c d h.is_class (class_of_outline name bytes h.outline d h.is_outline k)

-- ---- ranges

zip_at : {A B : Type 0} (R : A → B → Type 0) (xs : List A) (ys : List B) (i : ℕ) (y : B) → AllZip R xs ys → slice_get ys i ≡ Some y → (x : A) × R x y
zip_at R [] [] i y z e = absurd (none-some y e)
zip_at R [] (v ∷ ys) i y z e = absurd z
zip_at R (w ∷ xs) [] i y z e = absurd z
zip_at {A} {B} R (w ∷ xs) (v ∷ ys) zero y z e = (w, subst (λ (u : B). R w u) (some_is v y e) z.0)
zip_at R (w ∷ xs) (v ∷ ys) (suc i) y z e = zip_at R xs ys i y z.1 e

-- instructions start at pc or behind it
starts_behind : (pool : List Entry) (class : ObjectClass) (pc : ℕ) (bytes : List ℕ) (code : List Placed) (i : ℕ) (p : Placed) → AreInstructions pool class pc bytes code → slice_get code i ≡ Some p → pc ≤ p.pc
starts_behind pool class pc bytes [] i p h e = absurd (none-some p e)
starts_behind pool class pc bytes (first ∷ others) zero p h e = let is = ap (λ (q : Placed). q.pc) (some_is first p e) in let at = h.3 in omega (arith, is, at)
starts_behind pool class pc bytes (first ∷ others) (suc i) p h e =
    let later = starts_behind pool class (pc + length h.0) h.1 others i p h.5 e in omega (arith, later)

rising : (pool : List Entry) (class : ObjectClass) (pc : ℕ) (bytes : List ℕ) (code : List Placed) (i j : ℕ) (p q : Placed) → AreInstructions pool class pc bytes code
    → slice_get code i ≡ Some p → slice_get code j ≡ Some q → i < j → p.pc < q.pc
rising pool class pc bytes [] i j p q h at_i at_j lt = absurd (none-some p at_i)
rising pool class pc bytes (first ∷ others) i zero p q h at_i at_j lt = absurd (omega (arith, lt))
rising pool class pc bytes (first ∷ others) zero (suc j) p q h at_i at_j lt =
    let is = ap (λ (r : Placed). r.pc) (some_is first p at_i) in
    let at = h.3 in
    let some = instruction_some pool class h.0 first.instruction h.4 in
    let behind = starts_behind pool class (pc + length h.0) h.1 others j q h.5 at_j in
    omega (arith, is, at, some, behind)
rising pool class pc bytes (first ∷ others) (suc i) (suc j) p q h at_i at_j lt = rising pool class (pc + length h.0) h.1 others i j p q h.5 at_i at_j (omega (arith, lt))

pub in_range : (name bytes : List ℕ) (c : ObjectClass) → IsObjectClass name bytes c → IsInRange c
in_range name bytes c h =
    let o = h.outline in
    let fields = zip_length (IsFieldOf o.pool name) o.fields c.fields h.is_class.fields in
    let methods = zip_length (IsMethodOf o.pool c) o.methods c.methods h.is_class.methods in
    record {
      few_fields = omega (arith, fields, h.is_class.few_fields);
      few_methods = omega (arith, methods, h.is_class.few_methods);
      stacks = λ i m at. let x = zip_at (IsMethodOf o.pool c) o.methods c.methods i m h.is_class.methods at in let is = x.1.max_stack in let fits = x.1.is_code.max_stack in omega (arith, is, fits);
      rises = λ place i j m p q at at_i at_j lt. let x = zip_at (IsMethodOf o.pool c) o.methods c.methods place m h.is_class.methods at in rising o.pool c 0 x.1.code.bytes m.code i j p q x.1.instructions at_i at_j lt;
    }
