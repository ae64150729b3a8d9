-- Reading parts one after the other, as loops do.
use Rattle.std.proofs.Common.{◌≡◌, ℕ, suc, ◌-◌, ◌+◌, ◌≤◌, ◌<◌, List, [], ◌∷◌, ◌++◌, Bool, true, false, Option, Some, None, refl, sym, ap, ◌∙◌, append_assoc, arith}
use Rattle.std.proofs.lemmas.List.{append-nil}
use Rattle.calls_form.specs.declared.outline.Entry.{Entry}
use Rattle.calls_form.specs.declared.read_error.ReadError.{ReadError}
use Rattle.calls_form.specs.declared.read_error.ReadError.TheVariants as errors
use Rattle.calls_form.specs.Reading.{◌>>=◌, Fails}
use Rattle.calls_form.specs.declared.outline.Entry.TheVariants.{Unused}
use Rattle.calls_form.specs.declared.outline.RawField.{RawField}
use Rattle.calls_form.specs.declared.outline.RawMethod.{RawMethod}
use Rattle.calls_form.specs.LayoutReading.{slot_at, entries_at, indexed_at, attribute_at, behind_at, found_at, code_at, field_at, fields_at, method_at, methods_at}

-- what was read before, and what is still read
abbrev pub with_front : {A : Type 0} → List A → Option (List A × List ℕ) → Option (List A × List ℕ)
with_front front read = read >>= λ x. Some (front ++ x.0, x.1)

-- one part more in front of the rest is one more at the end of what was read
pub regroup : {A : Type 0} (front : List A) (a : A) (read : Option (List A × List ℕ)) → with_front front (read >>= λ x. Some (a ∷ x.0, x.1)) ≡ with_front (front ++ a ∷ []) read
regroup {A} front a (Some x) = ap (λ (parts : List A). Some (parts, x.1)) (simp append_assoc)
regroup front a None = refl

-- ---- entries of the pool

-- nothing was read yet but the entry at 0
pub entries_begin : (front : List Entry) (count : ℕ) (bytes : List ℕ) → front ≡ Unused ∷ [] → with_front front (entries_at (count - 0) false bytes) ≡ indexed_at count bytes
unfolding indexed_at
entries_begin front count bytes h =
    let k : count - 0 ≡ count = omega arith in
    rw (h, k) refl

-- one entry more was read
pub entry_goes_on : (front : List Entry) (count i : ℕ) (wide after_wide : Bool) (bytes after : List ℕ) (e : Entry) (total : Option (List Entry × List ℕ)) → i < count
    → slot_at wide bytes ≡ Some (e, after_wide, after) → with_front front (entries_at (count - i) wide bytes) ≡ total
    → with_front (front ++ e ∷ []) (entries_at (count - (i + 1)) after_wide after) ≡ total
unfolding entries_at
entry_goes_on front count i wide after_wide bytes after e total lt h so_far =
    let k : count - i ≡ suc (count - (i + 1)) = omega arith in
    let one : with_front front (entries_at (count - i) wide bytes) ≡ with_front (front ++ e ∷ []) (entries_at (count - (i + 1)) after_wide after) = rw (k, h) (regroup front e (entries_at (count - (i + 1)) after_wide after)) in
    sym one ∙ so_far

-- an entry that is not read ends it all
pub entry_ends : (error : ReadError) (front : List Entry) (count i : ℕ) (wide : Bool) (bytes : List ℕ) (total : Option (List Entry × List ℕ)) → i < count
    → Fails error (slot_at wide bytes) → with_front front (entries_at (count - i) wide bytes) ≡ total → Fails error total
unfolding entries_at
entry_ends errors.Memory front count i wide bytes total lt h so_far = tt
entry_ends errors.Malformed front count i wide bytes total lt h so_far =
    let k : count - i ≡ suc (count - (i + 1)) = omega arith in
    let one : with_front front (entries_at (count - i) wide bytes) ≡ None = rw (k, h) refl in
    sym so_far ∙ one

-- all entries were read
pub entries_are_done : (front : List Entry) (count i : ℕ) (wide : Bool) (bytes : List ℕ) (total : Option (List Entry × List ℕ)) → count ≤ i → wide ≡ false
    → with_front front (entries_at (count - i) wide bytes) ≡ total → total ≡ Some (front, bytes)
unfolding entries_at
entries_are_done front count i wide bytes total le narrow so_far =
    let k : count - i ≡ 0 = omega arith in
    let one : with_front front (entries_at (count - i) wide bytes) ≡ Some (front, bytes) = rw (k, narrow) (ap (λ (es : List Entry). Some (es, bytes)) (append-nil front)) in
    sym so_far ∙ one

-- the last item takes an index more than there are
pub entries_are_cut : (front : List Entry) (count i : ℕ) (wide : Bool) (bytes : List ℕ) (total : Option (List Entry × List ℕ)) → count ≤ i → wide ≡ true
    → with_front front (entries_at (count - i) wide bytes) ≡ total → total ≡ None
unfolding entries_at
entries_are_cut front count i wide bytes total le is_wide so_far =
    let k : count - i ≡ 0 = omega arith in
    let one : with_front front (entries_at (count - i) wide bytes) ≡ None = rw (k, is_wide) refl in
    sym so_far ∙ one

-- ---- attributes that are passed over

-- one attribute more was passed over
pub behind_goes_on : (count i name : ℕ) (bytes content after : List ℕ) (total : Option (List ℕ)) → i < count → attribute_at bytes ≡ Some (name, content, after)
    → behind_at (count - i) bytes ≡ total → behind_at (count - (i + 1)) after ≡ total
unfolding behind_at
behind_goes_on count i name bytes content after total lt h so_far =
    let k : count - i ≡ suc (count - (i + 1)) = omega arith in
    let one : behind_at (count - i) bytes ≡ behind_at (count - (i + 1)) after = rw (k, h) refl in
    sym one ∙ so_far

-- an attribute that is not read ends it all
pub behind_ends : (error : ReadError) (count i : ℕ) (bytes : List ℕ) (total : Option (List ℕ)) → i < count → Fails error (attribute_at bytes)
    → behind_at (count - i) bytes ≡ total → Fails error total
unfolding behind_at
behind_ends errors.Memory count i bytes total lt h so_far = tt
behind_ends errors.Malformed count i bytes total lt h so_far =
    let k : count - i ≡ suc (count - (i + 1)) = omega arith in
    let one : behind_at (count - i) bytes ≡ None = rw (k, h) refl in
    sym so_far ∙ one

-- all attributes were passed over
pub behind_is_done : (count i : ℕ) (bytes : List ℕ) (total : Option (List ℕ)) → count ≤ i → behind_at (count - i) bytes ≡ total → total ≡ Some bytes
unfolding behind_at
behind_is_done count i bytes total le so_far =
    let k : count - i ≡ 0 = omega arith in
    let one : behind_at (count - i) bytes ≡ Some bytes = rw k refl in
    sym so_far ∙ one

-- ---- attributes among which Code is looked for

-- one attribute more was looked at
pub code_goes_on : (pool : List Entry) (count i name : ℕ) (found next : Option (List ℕ)) (bytes content after : List ℕ) (total : Option (Option (List ℕ) × List ℕ)) → i < count
    → attribute_at bytes ≡ Some (name, content, after) → found_at pool found name content ≡ Some next
    → code_at pool (count - i) found bytes ≡ total → code_at pool (count - (i + 1)) next after ≡ total
unfolding code_at
code_goes_on pool count i name found next bytes content after total lt h g so_far =
    let k : count - i ≡ suc (count - (i + 1)) = omega arith in
    let one : code_at pool (count - i) found bytes ≡ code_at pool (count - (i + 1)) next after = rw (k, h, g) refl in
    sym one ∙ so_far

-- an attribute that is not read ends it all
pub code_ends : (error : ReadError) (pool : List Entry) (count i : ℕ) (found : Option (List ℕ)) (bytes : List ℕ) (total : Option (Option (List ℕ) × List ℕ)) → i < count
    → Fails error (attribute_at bytes) → code_at pool (count - i) found bytes ≡ total → Fails error total
unfolding code_at
code_ends errors.Memory pool count i found bytes total lt h so_far = tt
code_ends errors.Malformed pool count i found bytes total lt h so_far =
    let k : count - i ≡ suc (count - (i + 1)) = omega arith in
    let one : code_at pool (count - i) found bytes ≡ None = rw (k, h) refl in
    sym so_far ∙ one

-- a second Code ends it all
pub code_is_second : (error : ReadError) (pool : List Entry) (count i name : ℕ) (found : Option (List ℕ)) (bytes content after : List ℕ) (total : Option (Option (List ℕ) × List ℕ)) → i < count
    → attribute_at bytes ≡ Some (name, content, after) → Fails error (found_at pool found name content)
    → code_at pool (count - i) found bytes ≡ total → Fails error total
unfolding code_at
code_is_second errors.Memory pool count i name found bytes content after total lt h g so_far = tt
code_is_second errors.Malformed pool count i name found bytes content after total lt h g so_far =
    let k : count - i ≡ suc (count - (i + 1)) = omega arith in
    let one : code_at pool (count - i) found bytes ≡ None = rw (k, h, g) refl in
    sym so_far ∙ one

-- all attributes were looked at
pub code_is_done : (pool : List Entry) (count i : ℕ) (found : Option (List ℕ)) (bytes : List ℕ) (total : Option (Option (List ℕ) × List ℕ)) → count ≤ i
    → code_at pool (count - i) found bytes ≡ total → total ≡ Some (found, bytes)
unfolding code_at
code_is_done pool count i found bytes total le so_far =
    let k : count - i ≡ 0 = omega arith in
    let one : code_at pool (count - i) found bytes ≡ Some (found, bytes) = rw k refl in
    sym so_far ∙ one

-- ---- fields

-- one field more was read
pub field_goes_on : (front : List RawField) (count i : ℕ) (bytes after : List ℕ) (m : RawField) (total : Option (List RawField × List ℕ)) → i < count
    → field_at bytes ≡ Some (m, after) → with_front front (fields_at (count - i) bytes) ≡ total
    → with_front (front ++ m ∷ []) (fields_at (count - (i + 1)) after) ≡ total
unfolding fields_at
field_goes_on front count i bytes after m total lt h so_far =
    let k : count - i ≡ suc (count - (i + 1)) = omega arith in
    let one : with_front front (fields_at (count - i) bytes) ≡ with_front (front ++ m ∷ []) (fields_at (count - (i + 1)) after) = rw (k, h) (regroup front m (fields_at (count - (i + 1)) after)) in
    sym one ∙ so_far

-- a field that is not read ends it all
pub field_ends : (error : ReadError) (front : List RawField) (count i : ℕ) (bytes : List ℕ) (total : Option (List RawField × List ℕ)) → i < count
    → Fails error (field_at bytes) → with_front front (fields_at (count - i) bytes) ≡ total → Fails error total
unfolding fields_at
field_ends errors.Memory front count i bytes total lt h so_far = tt
field_ends errors.Malformed front count i bytes total lt h so_far =
    let k : count - i ≡ suc (count - (i + 1)) = omega arith in
    let one : with_front front (fields_at (count - i) bytes) ≡ None = rw (k, h) refl in
    sym so_far ∙ one

-- all fields were read
pub fields_are_done : (front : List RawField) (count i : ℕ) (bytes : List ℕ) (total : Option (List RawField × List ℕ)) → count ≤ i
    → with_front front (fields_at (count - i) bytes) ≡ total → total ≡ Some (front, bytes)
unfolding fields_at
fields_are_done front count i bytes total le so_far =
    let k : count - i ≡ 0 = omega arith in
    let one : with_front front (fields_at (count - i) bytes) ≡ Some (front, bytes) = rw k (ap (λ (xs : List RawField). Some (xs, bytes)) (append-nil front)) in
    sym so_far ∙ one

-- ---- methods

-- one method more was read
pub method_goes_on : (pool : List Entry) (front : List RawMethod) (count i : ℕ) (bytes after : List ℕ) (m : RawMethod) (total : Option (List RawMethod × List ℕ)) → i < count
    → method_at pool bytes ≡ Some (m, after) → with_front front (methods_at pool (count - i) bytes) ≡ total
    → with_front (front ++ m ∷ []) (methods_at pool (count - (i + 1)) after) ≡ total
unfolding methods_at
method_goes_on pool front count i bytes after m total lt h so_far =
    let k : count - i ≡ suc (count - (i + 1)) = omega arith in
    let one : with_front front (methods_at pool (count - i) bytes) ≡ with_front (front ++ m ∷ []) (methods_at pool (count - (i + 1)) after) = rw (k, h) (regroup front m (methods_at pool (count - (i + 1)) after)) in
    sym one ∙ so_far

-- a method that is not read ends it all
pub method_ends : (error : ReadError) (pool : List Entry) (front : List RawMethod) (count i : ℕ) (bytes : List ℕ) (total : Option (List RawMethod × List ℕ)) → i < count
    → Fails error (method_at pool bytes) → with_front front (methods_at pool (count - i) bytes) ≡ total → Fails error total
unfolding methods_at
method_ends errors.Memory pool front count i bytes total lt h so_far = tt
method_ends errors.Malformed pool front count i bytes total lt h so_far =
    let k : count - i ≡ suc (count - (i + 1)) = omega arith in
    let one : with_front front (methods_at pool (count - i) bytes) ≡ None = rw (k, h) refl in
    sym so_far ∙ one

-- all methods were read
pub methods_are_done : (pool : List Entry) (front : List RawMethod) (count i : ℕ) (bytes : List ℕ) (total : Option (List RawMethod × List ℕ)) → count ≤ i
    → with_front front (methods_at pool (count - i) bytes) ≡ total → total ≡ Some (front, bytes)
unfolding methods_at
methods_are_done pool front count i bytes total le so_far =
    let k : count - i ≡ 0 = omega arith in
    let one : with_front front (methods_at pool (count - i) bytes) ≡ Some (front, bytes) = rw k (ap (λ (ms : List RawMethod). Some (ms, bytes)) (append-nil front)) in
    sym so_far ∙ one
