-- The codes of methods, but for items: each frame is full, and the branch leads to a later instruction.
use Rattle.std.proofs.Common.{◌≡◌, ℕ, ◌+◌, ◌*◌, ◌<◌, ◌≤◌, Bool, true, false, not, List, [], ◌∷◌, ◌++◌, length, map, Option, Some, None, refl, sym, ap, subst, ◌∙◌, length-append, arith}
use Rattle.std.specs.Prelude.{if◌then◌else◌, sum_by, IfSome, bit_and}
use Rattle.std.specs.List.{AllByRecursion}
use Rattle.std.specs.Str.{bytes_eq}
use Rattle.std.proofs.lemmas.Bool.{and_parts, eqb-true}
use Rattle.std.proofs.lemmas.List.{length-map, map-append}
use Rattle.std.proofs.lemmas.Slice.Eq.{bytes_eq-Decides}
use Rattle.jv_table.specs.declared.ops.TheConstants.{ACONST_NULL, ARETURN, RETURN, ATHROW, IFNULL}
use Rattle.jv_types.specs.declared.desc.Desc.{Desc}
use Rattle.jv_types.specs.declared.desc.Desc.TheVariants as descs
use Rattle.jv_types.specs.declared.desc.RefType as refs
use Rattle.jv_types.specs.declared.frames.VType.{VType}
use Rattle.jv_types.specs.declared.frames.VType as types
use Rattle.jv_types.specs.declared.shapes.MethodShape.{MethodShape}
use Rattle.jv_desc.specs.Texts.{desc_words, words_of, IsDesc, IsResult, IsMethodDesc}
use Rattle.jv_names.specs.Spellings.{IsClassName}
use Rattle.jv_resolve.specs.Members.{init_name}
use Rattle.jv_frames.specs.Types.{ref_vtype, desc_vtype, type_words, in_words}
use Rattle.jv_frames.specs.Entry.{is_static, begins_uninit, entry_types}
use Rattle.av_asm.specs.declared.step.Step.{Step}
use Rattle.av_asm.specs.declared.step.Step.TheVariants as steps
use Rattle.av_conditions.specs.CoreClasses.{throwable_name}
use Rattle.av_conditions.specs.StandIn.{library_name}
use Rattle.av_fitting.specs.Fitting.{AreFit}
use Rattle.av_standin_of.specs.Codes.{Row, row, plain, aload, get_known, put_known, put_fresh, checkcast, call_extra, zero_op, return_op, object_vtype, throwable_vtype, known_as}
use Rattle.av_standin_of.specs.Templates.{is_void, is_called, is_constructor, is_finalize_of_object, hand_over, hand_over_params, hand_over_receiver, throws, answers, calls_super, local_types, first_param, words_in, hands_over, template, makes_fresh, extra_code, begins_with}
use Rattle.av_sketches.specs.Conditions.{MakesInstances, TemplateFits, IsFinishable}
use Rattle.av_fit_codes.proofs.Instructions.{aconst_null_fits, return_fits, areturn_fits, athrow_fits, zero_fits, return_of_fits, aload_fits, get_known_fits, put_known_fits, put_fresh_fits, class_named, checkcast_fits, call_extra_fits, ifnull_fits}
use Rattle.av_fit_codes.proofs.Frames.{IsPlain, null_plain, uninit_this_plain, class_plain, ref_plain, desc_plain, descs_plain, sum_cons, params_size, params_few, FillsLocals, empty_stack, one_on_stack}
use Rattle.av_fit_codes.proofs.Rows.{step_of, HasFullFrame, IsFullRow, fit_row, has_full_frame, full_row, all_both, full_rows_fit, full_rows_framed, fit_both, nowhere_finishable, framed_finishable}
use Rattle.av_fit_codes.proofs.Calling.{object_plain, throwable_plain, known_full}

-- ---- local variables

receiver_before : (words : ℕ) (first : VType) (params : List Desc) → IsPlain first → length (in_words (first ∷ [])) ≡ 1 → AllByRecursion IsDesc params → words ≡ sum_by desc_words params + 1
    → FillsLocals words (first ∷ map desc_vtype params)
receiver_before words first params named one formed is = record {
  few = omega (arith, is, one, params_size params, length-append (type_words first) (in_words (map desc_vtype params)), length-append (type_words first) []);
  plain = (named, descs_plain params formed);
}

params_alone : (params : List Desc) → AllByRecursion IsDesc params → FillsLocals (sum_by desc_words params + 0) (map desc_vtype params)
params_alone params formed = record { few = omega (arith, params_size params); plain = descs_plain params formed }

pub locals_fill : (class : List ℕ) (method : MethodShape) → IsClassName class → IsMethodDesc method.desc → FillsLocals (words_in method) (local_types class method)
locals_fill class method named formed = by (is_static method)
  where
    by : (static : Bool) → FillsLocals (words_of method.desc (not static)) ((if static then [] else types.Class class ∷ []) ++ map desc_vtype method.desc.params)
    by true = params_alone method.desc.params formed.params
    by false = receiver_before (words_of method.desc true) (types.Class class) method.desc.params (class_plain class named) refl formed.params refl

pub entry_fills : (class : List ℕ) (method : MethodShape) → IsClassName class → IsMethodDesc method.desc → FillsLocals (words_in method) (entry_types class method)
entry_fills class method named formed = by (is_static method) (begins_uninit class method)
  where
    by : (static uninit : Bool) → FillsLocals (words_of method.desc (not static)) ((if static then [] else (if uninit then types.UninitThis else types.Class class) ∷ []) ++ map desc_vtype method.desc.params)
    by true uninit = params_alone method.desc.params formed.params
    by false true = receiver_before (words_of method.desc true) types.UninitThis method.desc.params uninit_this_plain refl formed.params refl
    by false false = receiver_before (words_of method.desc true) (types.Class class) method.desc.params (class_plain class named) refl formed.params refl

-- ---- what becomes known

hand_over_full : (words : ℕ) (locals : List VType) (local : ℕ) (type : VType) → FillsLocals words locals → IsPlain type → local < words → words ≤ 255 → AllByRecursion (IsFullRow words) (hand_over words locals local type)
hand_over_full words locals local type l named within few = (
  full_row words locals [] (aload local) (aload_fits words local within (omega arith)) l empty_stack,
  (
    full_row words locals (type ∷ []) put_known (put_known_fits words) l (one_on_stack type named),
    tt,
  ),
)

params_full : (words : ℕ) (locals : List VType) (local : ℕ) (params : List Desc) → FillsLocals words locals → AllByRecursion IsDesc params → local + sum_by desc_words params ≤ words → words ≤ 255
    → AllByRecursion (IsFullRow words) (hand_over_params words locals local params)
params_full words locals local [] l formed within few = tt
params_full words locals local (descs.Ref type ∷ params) l formed within few =
    let sum = sum_cons (descs.Ref type) params in
    all_both (IsFullRow words) (hand_over words locals local (ref_vtype type)) (hand_over_params words locals (local + 1) params)
    (hand_over_full words locals local (ref_vtype type) l (ref_plain type formed.0) (omega (arith, within, sum)) few) (params_full words locals (local + 1) params l formed.1 (omega (arith, within, sum)) few)
params_full words locals local (descs.Prim prim ∷ params) l formed within few =
    params_full words locals (local + desc_words (descs.Prim prim)) params l formed.1 (omega (arith, within, sum_cons (descs.Prim prim) params)) few

params_count : (words : ℕ) (locals : List VType) (local : ℕ) (params : List Desc) → length (hand_over_params words locals local params) ≤ 2 * length params
params_count words locals local [] = omega arith
params_count words locals local (descs.Ref type ∷ params) = omega (arith, params_count words locals (local + 1) params)
params_count words locals local (descs.Prim prim ∷ params) = omega (arith, params_count words locals (local + desc_words (descs.Prim prim)) params)

receiver_full : (words : ℕ) (locals : List VType) (class : List ℕ) (method : MethodShape) → FillsLocals words locals → IsClassName class → words ≡ words_in method → words ≤ 255
    → AllByRecursion (IsFullRow words) (hand_over_receiver words locals class method)
receiver_full words locals class method l named is few = by (is_static method) (is_finalize_of_object class method) is
  where
    by : (static final : Bool) → words ≡ words_of method.desc (not static) → AllByRecursion (IsFullRow words) (if static then [] else if final then [] else hand_over words locals 0 (types.Class class))
    by true final e = tt
    by false true e = tt
    by false false e = hand_over_full words locals 0 (types.Class class) l (class_plain class named) (omega (arith, e)) few

receiver_count : (words : ℕ) (locals : List VType) (class : List ℕ) (method : MethodShape) → length (hand_over_receiver words locals class method) ≤ 2
receiver_count words locals class method = by (is_static method) (is_finalize_of_object class method)
  where
    by : (static final : Bool) → length (if static then [] else if final then [] else hand_over words locals 0 (types.Class class)) ≤ 2
    by true final = omega arith
    by false true = omega arith
    by false false = omega arith

-- the parameters are behind the receiver
params_within : (method : MethodShape) → first_param method + sum_by desc_words method.desc.params ≤ words_in method
params_within method = by (is_static method)
  where
    by : (static : Bool) → (if static then 0 else 1) + sum_by desc_words method.desc.params ≤ words_of method.desc (not static)
    by true = omega arith
    by false = omega arith

handed_full : (class : List ℕ) (method : MethodShape) → TemplateFits class method → AllByRecursion (IsFullRow (words_in method)) (hands_over class method)
handed_full class method h =
    let words = words_in method in
    let locals = local_types class method in
    let desc = h.formed.types in
    let few = h.formed.few_words in
    let l = locals_fill class method h.named desc in
    all_both (IsFullRow words) (hand_over_receiver words locals class method) (hand_over_params words locals (first_param method) method.desc.params)
    (receiver_full words locals class method l h.named refl few) (params_full words locals (first_param method) method.desc.params l desc.params (params_within method) few)

-- there are at most as many parameters as words
params_below : (method : MethodShape) → length method.desc.params ≤ words_in method
params_below method = omega (arith, params_few method.desc.params, params_within method)

handed_count : (class : List ℕ) (method : MethodShape) → words_in method ≤ 255 → length (hands_over class method) ≤ 600
handed_count class method few =
    let words = words_in method in
    let locals = local_types class method in
    let receiver = hand_over_receiver words locals class method in
    let params = hand_over_params words locals (first_param method) method.desc.params in
    omega (arith, few, params_below method, receiver_count words locals class method, params_count words locals (first_param method) method.desc.params, length-append receiver params)

-- ---- what is thrown, and answered

throws_fit : (words count before : ℕ) (locals : List VType) → before + 5 < count → AreFit words count before (map step_of (throws words locals before))
throws_fit words count before locals there = (
  get_known_fits words,
  (
    ifnull_fits count (before + 1) (before + 5) (omega arith) there (omega arith),
    (
      get_known_fits words,
      (
        checkcast_fits words (refs.Class throwable_name) (class_named throwable_name refl),
        (
          athrow_fits words,
          tt,
        ),
      ),
    ),
  ),
)

throws_framed : (words : ℕ) (locals : List VType) (before : ℕ) → FillsLocals words locals → AllByRecursion (HasFullFrame words) (throws words locals before)
throws_framed words locals before l = (
  has_full_frame words locals [] (steps.Put get_known) l empty_stack,
  (
    has_full_frame words locals (object_vtype ∷ []) (steps.Landed IFNULL (before + 5)) l (one_on_stack object_vtype object_plain),
    (
      has_full_frame words locals [] (steps.Put get_known) l empty_stack,
      (
        has_full_frame words locals (object_vtype ∷ []) (steps.Put (checkcast (refs.Class throwable_name))) l (one_on_stack object_vtype object_plain),
        (
          has_full_frame words locals (throwable_vtype ∷ []) (steps.Put (plain ATHROW)) l (one_on_stack throwable_vtype throwable_plain),
          tt,
        ),
      ),
    ),
  ),
)

answers_full : (words : ℕ) (locals : List VType) (result : Option Desc) → FillsLocals words locals → IsResult result → AllByRecursion (IsFullRow words) (answers words locals result)
answers_full words locals None l formed = (full_row words locals [] (plain RETURN) (return_fits words) l empty_stack, tt)
answers_full words locals (Some (descs.Ref type)) l formed =
    all_both (IsFullRow words) (known_as words locals [] type) (row words locals (ref_vtype type ∷ []) (plain ARETURN) ∷ []) (known_full words locals [] type l (omega arith) tt formed)
    (full_row words locals (ref_vtype type ∷ []) (plain ARETURN) (areturn_fits words) l (one_on_stack (ref_vtype type) (ref_plain type formed)), tt)
answers_full words locals (Some (descs.Prim prim)) l formed = (
  full_row words locals [] (plain (zero_op prim)) (zero_fits words prim) l empty_stack,
  (
    full_row words locals (desc_vtype (descs.Prim prim) ∷ []) (plain (return_op prim)) (return_of_fits words prim) l (one_on_stack (desc_vtype (descs.Prim prim)) (desc_plain (descs.Prim prim) tt)),
    tt,
  ),
)

answers_some : (words : ℕ) (locals : List VType) (result : Option Desc) → 1 ≤ length (answers words locals result)
answers_some words locals None = omega arith
answers_some words locals (Some (descs.Ref type)) = omega arith
answers_some words locals (Some (descs.Prim prim)) = omega arith

answers_few : (words : ℕ) (locals : List VType) (result : Option Desc) → length (answers words locals result) ≤ 3
answers_few words locals None = omega arith
answers_few words locals (Some (descs.Ref type)) = omega arith
answers_few words locals (Some (descs.Prim prim)) = omega arith

-- ---- the template

-- full rows, a branch over what throws, and full rows
throwing_fits : (words : ℕ) (locals : List VType) (front back : List Row) → AllByRecursion (IsFullRow words) front → AllByRecursion (IsFullRow words) back → 1 ≤ length back
    → AreFit words (length (map step_of (front ++ (throws words locals (length front) ++ back)))) 0 (map step_of (front ++ (throws words locals (length front) ++ back)))
throwing_fits words locals front back f b some =
    let middle = throws words locals (length front) in
    let all = front ++ (middle ++ back) in
    let count = length (map step_of all) in
    let size = length-map all step_of in
    let sum = length-append front (middle ++ back) in
    let here : length front ≡ 0 + length (map step_of front) = omega (arith, length-map front step_of) in
    let thrown = subst (λ (n : ℕ). AreFit words count n (map step_of middle)) here (throws_fit words count (length front) locals (omega (arith, size, sum, some))) in
    let before = 0 + length (map step_of front) in
    let behind = fit_both words count before (map step_of middle) (map step_of back) thrown (full_rows_fit words count (before + length (map step_of middle)) back b) in
    let joined : map step_of front ++ (map step_of middle ++ map step_of back) ≡ map step_of all =
    ap (λ (steps : List Step). map step_of front ++ steps) (sym (map-append step_of middle back)) ∙ sym (map-append step_of front (middle ++ back)) in
    subst (λ (steps : List Step). AreFit words count 0 steps) joined (fit_both words count 0 (map step_of front) (map step_of middle ++ map step_of back) (full_rows_fit words count 0 front f) behind)

pub template_finishable : (shape : MethodShape) (class : List ℕ) (method : MethodShape) (begin : List Row) → words_in shape ≡ words_in method → TemplateFits class method
    → AllByRecursion (IsFullRow (words_in method)) begin → length begin ≤ 3 → IsFinishable shape (template class method begin)
template_finishable shape class method begin same h begins short =
    let words = words_in method in
    let locals = local_types class method in
    let few = h.formed.few_words in
    let l = locals_fill class method h.named h.formed.types in
    let hands = hands_over class method in
    let front = begin ++ hands in
    let back = answers words locals method.desc.result in
    let middle = throws words locals (length front) in
    let f = all_both (IsFullRow words) begin hands begins (handed_full class method h) in
    let b = answers_full words locals method.desc.result l h.formed.types.result in
    let framed = all_both (HasFullFrame words) front (middle ++ back) (full_rows_framed words front f)
    (all_both (HasFullFrame words) middle back (throws_framed words locals (length front) l) (full_rows_framed words back b)) in
    let many : length (front ++ (middle ++ back)) ≤ 10000 =
    omega (arith, length-append front (middle ++ back), length-append begin hands, short, handed_count class method few, answers_few words locals method.desc.result) in
    framed_finishable shape (template class method begin) (sym same) (omega (arith, few)) (throwing_fits words locals front back f b (answers_some words locals method.desc.result)) tt framed many

-- ---- constructors

-- the receiver is in the first local variable
instance_some : (method : MethodShape) → is_static method ≡ false → 0 < words_in method
instance_some method is = by (is_static method) is
  where
    by : (static : Bool) → static ≡ false → 0 < words_of method.desc (not static)
    by true e = absurd cc
    by false e = omega arith

not_static : (method : MethodShape) → MakesInstances method → method.name ≡ init_name → is_static method ≡ false
not_static method instances named = by (is_static method) refl
  where
    by : (static : Bool) → is_static method ≡ static → static ≡ false
    by true e = absurd (instances named (eqb-true (bit_and method.flags.0 8) 8 e))
    by false e = refl

super_full : (words : ℕ) (locals : List VType) (parent : List ℕ) → FillsLocals words locals → 0 < words → IsClassName parent → AllByRecursion (IsFullRow words) (calls_super words locals parent)
super_full words locals parent l some named = (
  full_row words locals [] (aload 0) (aload_fits words 0 some (omega arith)) l empty_stack,
  (
    full_row words locals (types.UninitThis ∷ []) (plain ACONST_NULL) (aconst_null_fits words) l (one_on_stack types.UninitThis uninit_this_plain),
    (
      full_row words locals (types.UninitThis ∷ types.Null ∷ []) (call_extra parent) (call_extra_fits words parent named) l (record { few = omega arith; plain = (uninit_this_plain, (null_plain, tt)) }),
      tt,
    ),
  ),
)

pub begins_full : (class : List ℕ) (method : MethodShape) (parent : Option (List ℕ)) → TemplateFits class method → IfSome parent IsClassName → MakesInstances method
    → AllByRecursion (IsFullRow (words_in method)) (begins_with class method parent)
begins_full class method None h named instances = tt
begins_full class method (Some parent) h named instances = by (is_constructor method) refl
  where
    by : (constructs : Bool) → is_constructor method ≡ constructs → AllByRecursion (IsFullRow (words_in method)) (if constructs then calls_super (words_in method) (entry_types class method) parent else [])
    by true e =
        let static = not_static method instances ((bytes_eq-Decides method.name init_name).0 e) in
        super_full (words_in method) (entry_types class method) parent (entry_fills class method h.named h.formed.types) (instance_some method static) named
    by false e = tt

pub begins_few : (class : List ℕ) (method : MethodShape) (parent : Option (List ℕ)) → length (begins_with class method parent) ≤ 3
begins_few class method None = omega arith
begins_few class method (Some parent) = by (is_constructor method)
  where
    by : (constructs : Bool) → length (if constructs then calls_super (words_in method) (entry_types class method) parent else []) ≤ 3
    by true = omega arith
    by false = omega arith

-- ---- the extra constructor, and that of Object

pub extra_finishable : (shape : MethodShape) (class : List ℕ) (parent : Option (List ℕ)) → words_in shape ≡ 2 → IfSome parent IsClassName → IsFinishable shape (extra_code class parent)
extra_finishable shape class None words named =
    let locals = types.Class class ∷ types.Class library_name ∷ [] in
    nowhere_finishable shape (extra_code class None) (sym words) (omega arith) refl (fit_row 2 locals [] (plain RETURN) (return_fits 2) (omega arith), tt) (omega arith)
extra_finishable shape class (Some parent) words named =
    let first = types.UninitThis ∷ types.Class library_name ∷ [] in
    let last = types.Class class ∷ types.Class library_name ∷ [] in
    nowhere_finishable shape (extra_code class (Some parent)) (sym words) (omega arith) refl (
      fit_row 2 first [] (aload 0) (aload_fits 2 0 (omega arith) (omega arith)) (omega arith),
      (
        fit_row 2 first (types.UninitThis ∷ []) (plain ACONST_NULL) (aconst_null_fits 2) (omega arith),
        (
          fit_row 2 first (types.UninitThis ∷ types.Null ∷ []) (call_extra parent) (call_extra_fits 2 parent named) (omega arith),
          (
            fit_row 2 last [] (plain RETURN) (return_fits 2) (omega arith),
            tt,
          ),
        ),
      ),
    )
    (omega arith)

-- a method `()V` that has a receiver takes one word
void_words : (params : List Desc) (result : Option Desc) → is_void params result ≡ true → sum_by desc_words params ≡ 0
void_words [] result is = refl
void_words (param ∷ params) result is = absurd cc

pub fresh_words : (method : MethodShape) → MakesInstances method → is_called init_name method ≡ true → words_in method ≡ 1
fresh_words method instances called =
    let parts = and_parts (bytes_eq method.name init_name) (is_void method.desc.params method.desc.result) called in
    let static = not_static method instances ((bytes_eq-Decides method.name init_name).0 parts.0) in
    let none = void_words method.desc.params method.desc.result parts.1 in
    let here : words_in method ≡ words_of method.desc true = ap (λ (b : Bool). words_of method.desc (not b)) static in
    omega (arith, here, none)

pub fresh_finishable : (shape : MethodShape) → words_in shape ≡ 1 → IsFinishable shape makes_fresh
fresh_finishable shape words =
    let locals = object_vtype ∷ [] in
    nowhere_finishable shape makes_fresh (sym words) (omega arith) refl (
      fit_row 1 locals [] (aload 0) (aload_fits 1 0 (omega arith) (omega arith)) (omega arith),
      (
        fit_row 1 locals (object_vtype ∷ []) put_fresh (put_fresh_fits 1) (omega arith),
        (
          fit_row 1 locals [] (plain RETURN) (return_fits 1) (omega arith),
          tt,
        ),
      ),
    )
    (omega arith)
