-- A frame and an instruction lead to at most one frame.
use Rattle.std.proofs.Common.{◌≡◌, ℕ, Bool, true, false, not, if◌then◌else◌, List, [], ◌∷◌, ◌++◌, Option, Some, slice_get, refl, sym, ap, ◌∙◌, subst, ◌⊎◌, inl, inr}
use Rattle.std.specs.List.{AllZip, list_all}
use Rattle.std.specs.Option.{option_map_or}
use Rattle.std.specs.Ordering.{nat_cmp}
use Rattle.jv_lists.proofs.Zips.{one_zip}
use Rattle.jv_table.specs.Rows.{row_of}
use Rattle.jv_table.specs.CodeRows.{OpForm, opcode_rows}
use Rattle.jv_table.specs.declared.code_tables.Kind.{Kind}
use Rattle.jv_table.specs.declared.code_tables.Kind.TheVariants as kinds
use Rattle.jv_types.specs.declared.desc.PrimType.{PrimType}
use Rattle.jv_types.specs.declared.desc.PrimType.TheVariants as prims
use Rattle.jv_types.specs.declared.desc.Desc.TheVariants as descs
use Rattle.jv_types.specs.declared.desc.RefType.{RefType}
use Rattle.jv_types.specs.declared.desc.RefType as refs
use Rattle.jv_types.specs.declared.ids.MethodId.{MethodId}
use Rattle.jv_types.specs.declared.references.FieldRef.{FieldRef}
use Rattle.jv_types.specs.declared.references.MethodRef.{MethodRef}
use Rattle.jv_types.specs.declared.shapes.Shape.{Shape}
use Rattle.jv_types.specs.declared.instruction.Const.{Const}
use Rattle.jv_types.specs.declared.instruction.Arg.{Arg}
use Rattle.jv_types.specs.declared.instruction.Arg.TheVariants as args
use Rattle.jv_types.specs.declared.instruction.Insn.{Insn}
use Rattle.jv_types.specs.declared.frames.VType.{VType, Top, Integer, Null, Class}
use Rattle.jv_types.specs.declared.frames.VType as types
use Rattle.jv_types.specs.declared.frames.Frame.{Frame}
use Rattle.jv_insn.specs.Effects.{effect_of, op_row, local_of}
use Rattle.jv_insn.proofs.Tables.{row_passes}
use Rattle.jv_resolve.specs.Members.{init_name}
use Rattle.jv_names.proofs.NamedOnce.{given_twice}
use Rattle.jv_frames.specs.Types.{is_uninit_this, is_object, in_words, frame_of, ref_vtype, desc_vtype}
use Rattle.jv_frames.specs.Assignable.{IsAssignable, same, to_top, of_null, of_class, of_array, of_items}
use Rattle.jv_frames.specs.Entry.{IsInitialFrame}
use Rattle.jv_frames.proofs.Arrays.{same_items, is_object-Array}
use Rattle.jv_frames.proofs.OneAnswer.{one_entry}
use Rattle.jv_typing.specs.declared.rules.RefRule.{RefRule}
use Rattle.jv_typing.specs.declared.rules.RefRule.TheVariants as rules
use Rattle.jv_typing.specs.Rules.{ref_rules}
use Rattle.jv_typing.specs.Typing.{AreStored, IsWordTyping}
use Rattle.jv_typing.specs.Transitions.{IsReplaced, AreReplaced}
use Rattle.jv_typing.specs.References.{Site, Goes, LoadsItem, param_types, result_types, const_type, LoadsPrim, StoresPrim, IsSpecialTyping, IsPutTyping, IsOwnPutTyping, IsInitialised, this, made, IsInitTyping, IsNewTyping, IsLoadRefTyping, IsLoadTyping, IsStoreTyping, HasRuleTyping, IsRefTyping}
use Rattle.jv_typing.specs.Steps.{StepTyping, words, references}
use Rattle.jv_typing.proofs.TypingOnce.{same_tops, same_ends, one_store, one_frame, one_word_typing, one_move_typing}

-- ---- what is popped and pushed

-- what an instruction leaves where it pops as much and pushes the same
one_goes : (w : List Shape) (site : Site) (frame : Frame) (insn : Insn) (wanted others given pushed : List VType) (a b : Frame) → given ≡ pushed → Goes w site frame insn wanted given a → Goes w site frame insn others pushed b → a ≡ b
one_goes w site frame insn wanted others given pushed a b e x y =
    let parts = same_tops (effect_of insn).takes frame.stack x.pops.takes y.pops.takes in
    let stack = x.stack ∙ ap (λ (below : List VType). below ++ in_words given) parts.first ∙ ap (λ (types : List VType). y.pops.takes.below ++ in_words types) e ∙ sym y.stack in
    one_frame a b (x.locals ∙ sym y.locals) stack (x.flag ∙ sym y.flag)

-- ---- types in place of others

one_replaced_type : (old new x y z : VType) → IsReplaced old new x y → IsReplaced old new x z → y ≡ z
one_replaced_type old new x y z (inl h) (inl k) = h.1 ∙ sym k.1
one_replaced_type old new x y z (inl h) (inr k) = absurd (k.0 h.0)
one_replaced_type old new x y z (inr h) (inl k) = absurd (h.0 k.0)
one_replaced_type old new x y z (inr h) (inr k) = h.1 ∙ sym k.1

one_replaced : (old new : VType) (xs ys zs : List VType) → AreReplaced old new xs ys → AreReplaced old new xs zs → ys ≡ zs
one_replaced old new xs ys zs h k = one_zip (IsReplaced old new) (one_replaced_type old new) xs ys zs h k

-- the same where the types are the same
one_replaced_by : (old new other fresh : VType) (xs ws ys zs : List VType) → old ≡ other → new ≡ fresh → xs ≡ ws → AreReplaced old new xs ys → AreReplaced other fresh ws zs → ys ≡ zs
one_replaced_by old new other fresh xs ws ys zs e f g h k =
    one_replaced old new xs ys zs h
    (subst (λ (t : VType). AreReplaced t new xs zs) (sym e)
    (subst (λ (t : VType). AreReplaced other t xs zs) (sym f)
    (subst (λ (l : List VType). AreReplaced other fresh l zs) (sym g) k)))

-- ---- constructors

abbrev pub is_uninit : VType → Bool
is_uninit types.UninitThis = true
is_uninit (types.Uninit pc) = true
is_uninit types.Top = false
is_uninit types.Integer = false
is_uninit types.Float = false
is_uninit types.Long = false
is_uninit types.Double = false
is_uninit types.Null = false
is_uninit (types.Class name) = false
is_uninit (types.PrimArray prim) = false
is_uninit (types.Array' shape items) = false

uninit_no_object : (b : VType) → is_uninit b ≡ true → is_object b ≡ true → ⊥
uninit_no_object types.UninitThis u o = absurd cc
uninit_no_object (types.Uninit pc) u o = absurd cc
uninit_no_object types.Top u o = absurd cc
uninit_no_object types.Integer u o = absurd cc
uninit_no_object types.Float u o = absurd cc
uninit_no_object types.Long u o = absurd cc
uninit_no_object types.Double u o = absurd cc
uninit_no_object types.Null u o = absurd cc
uninit_no_object (types.Class name) u o = absurd cc
uninit_no_object (types.PrimArray prim) u o = absurd cc
uninit_no_object (types.Array' shape items) u o = absurd cc

uninit_no_top : (b : VType) → is_uninit b ≡ true → b ≡ Top → ⊥
uninit_no_top b u e = let t : is_uninit Top ≡ true = subst (λ (x : VType). is_uninit x ≡ true) e u in absurd cc

-- nothing else is assignable to a type that isn't initialised
to_uninit : (w : List Shape) (a b : VType) → is_uninit b ≡ true → IsAssignable w a b → a ≡ b
to_uninit w a b u (same _ _ e) = e
to_uninit w a b u (to_top _ _ e) = absurd (uninit_no_top b u e)
to_uninit w a b u (of_null _ _ e o) = absurd (uninit_no_object b u o)
to_uninit w a b u (of_class _ _ name of e f h) = absurd (uninit_no_object b u (ap is_object f))
to_uninit w a b u (of_array _ _ of i f h) = absurd (uninit_no_object b u (ap is_object f))
to_uninit w a b u (of_items _ _ item other e f h) = absurd (uninit_no_object b u (ap is_object f ∙ is_object-Array other))

-- the lowest word that a constructor's call pops is what isn't initialised
uninit_lowest : (w : List Shape) (top rest : List VType) (before : VType) → is_uninit before ≡ true → AllZip (IsAssignable w) top (in_words (before ∷ rest)) → (more : List VType) × (top ≡ before ∷ more)
uninit_lowest w [] rest types.UninitThis u h = absurd h
uninit_lowest w [] rest (types.Uninit pc) u h = absurd h
uninit_lowest w (t ∷ ts) rest types.UninitThis u h = (ts, ap (λ (x : VType). x ∷ ts) (to_uninit w t types.UninitThis refl h.0))
uninit_lowest w (t ∷ ts) rest (types.Uninit pc) u h = (ts, ap (λ (x : VType). x ∷ ts) (to_uninit w t (types.Uninit pc) refl h.0))
uninit_lowest w top rest types.Top u h = absurd cc
uninit_lowest w top rest types.Integer u h = absurd cc
uninit_lowest w top rest types.Float u h = absurd cc
uninit_lowest w top rest types.Long u h = absurd cc
uninit_lowest w top rest types.Double u h = absurd cc
uninit_lowest w top rest types.Null u h = absurd cc
uninit_lowest w top rest (types.Class name) u h = absurd cc
uninit_lowest w top rest (types.PrimArray prim) u h = absurd cc
uninit_lowest w top rest (types.Array' shape items) u h = absurd cc

pub initialised_uninit : (w : List Shape) (site : Site) (class : RefType) (before after : VType) → IsInitialised w site class before after → is_uninit before ≡ true
initialised_uninit w site class before after (this _ _ current name b t c p a) = ap is_uninit b
initialised_uninit w site class before after (made _ _ pc insn name b i o g c a) = ap is_uninit b

pub same_head : (x y : VType) (xs ys : List VType) → x ∷ xs ≡ y ∷ ys → x ≡ y
same_head x y xs ys e = cc

same_name : (m n : List ℕ) (class other : RefType) → class ≡ refs.Class m → other ≡ refs.Class n → class ≡ other → m ≡ n
same_name m n class other e f g = cc

one_initialised : (w : List Shape) (site : Site) (class other : RefType) (a b m n : VType) → class ≡ other → IsInitialised w site class a m → IsInitialised w site other b n → a ≡ b → m ≡ n
one_initialised w site class other a b m n g (this _ _ current name x t c p y) (this _ _ current' name' x' t' c' p' y') e =
    let one : current ≡ current' = given_twice (slice_get w site.from) current current' t t' in
    y ∙ ap (λ (s : Shape). Class s.name) one ∙ sym y'
one_initialised w site class other a b m n g (made _ _ pc insn name x i o r c y) (made _ _ pc' insn' name' x' i' o' r' c' y') e =
    y ∙ ap Class (same_name name name' class other c c' g) ∙ sym y'
one_initialised w site class other a b m n g (this _ _ current name x t c p y) (made _ _ pc' insn' name' x' i' o' r' c' y') e = absurd cc
one_initialised w site class other a b m n g (made _ _ pc insn name x i o r c y) (this _ _ current' name' x' t' c' p' y') e = absurd cc

one_init : (w : List Shape) (site : Site) (frame : Frame) (insn : Insn) (method other : MethodRef) (a b : Frame) → method ≡ other → IsInitTyping w site frame insn method a → IsInitTyping w site frame insn other b → a ≡ b
one_init w site frame insn method other a b e x y =
    let parts = same_tops (effect_of insn).takes frame.stack x.pops.takes y.pops.takes in
    let low = uninit_lowest w x.pops.takes.top (param_types method.desc) x.before (initialised_uninit w site method.class x.before x.made x.initialised) x.pops.fits in
    let high = uninit_lowest w y.pops.takes.top (param_types other.desc) y.before (initialised_uninit w site other.class y.before y.made y.initialised) y.pops.fits in
    let before : x.before ≡ y.before = same_head x.before y.before low.0 high.0 (sym low.1 ∙ parts.second ∙ high.1) in
    let type : x.made ≡ y.made = one_initialised w site method.class other.class x.before y.before x.made y.made (ap (λ (m : MethodRef). m.class) e) x.initialised y.initialised before in
    let locals = one_replaced_by x.before x.made y.before y.made frame.locals frame.locals a.locals b.locals before type refl x.locals y.locals in
    let stack = one_replaced_by x.before x.made y.before y.made x.pops.takes.below y.pops.takes.below a.stack b.stack before type parts.first x.stack y.stack in
    one_frame a b locals stack (x.flag ∙ ap (λ (t : VType). if is_uninit_this t then false else frame.this_uninit) before ∙ sym y.flag)

-- ---- loads, stores, and what is made

one_new : (w : List Shape) (site : Site) (frame a b : Frame) → IsNewTyping w site frame a → IsNewTyping w site frame b → a ≡ b
one_new w site frame a b x y =
    one_frame a b (one_replaced (types.Uninit site.pc) Top frame.locals a.locals b.locals x.locals y.locals) (x.stack ∙ sym y.stack) (x.flag ∙ sym y.flag)

null_no_array : (item : VType) → Null ≡ types.Array item → ⊥
null_no_array item e = let t : is_object Null ≡ true = ap is_object e ∙ is_object-Array item in absurd cc

one_item : (array other item found : VType) → array ≡ other → LoadsItem array item → LoadsItem other found → item ≡ found
one_item array other item found e (inl h) (inl k) = h.1 ∙ sym k.1
one_item array other item found e (inl h) (inr k) = absurd (null_no_array found (sym h.0 ∙ e ∙ k))
one_item array other item found e (inr h) (inl k) = absurd (null_no_array item (sym k.0 ∙ sym e ∙ h))
one_item array other item found e (inr h) (inr k) = same_items item found (sym h ∙ e ∙ k)

one_load_ref : (site : Site) (frame a b : Frame) → IsLoadRefTyping site frame a → IsLoadRefTyping site frame b → a ≡ b
one_load_ref site frame a b x y =
    let parts = same_ends x.below (x.array ∷ Integer ∷ []) y.below (y.array ∷ Integer ∷ []) (sym x.whole ∙ y.whole) refl in
    let array = same_head x.array y.array (Integer ∷ []) (Integer ∷ []) parts.second in
    let item = one_item x.array y.array x.item y.item array x.loads y.loads in
    let stack = x.stack ∙ ap (λ (below : List VType). below ++ x.item ∷ []) parts.first ∙ ap (λ (t : VType). y.below ++ t ∷ []) item ∙ sym y.stack in
    one_frame a b (x.locals ∙ sym y.locals) stack (x.flag ∙ sym y.flag)

one_load : (site : Site) (frame : Frame) (insn : Insn) (a b : Frame) → IsLoadTyping site frame insn a → IsLoadTyping site frame insn b → a ≡ b
one_load site frame insn a b x y =
    let type = given_twice (slice_get frame.locals (local_of insn.op insn.arg)) x.type y.type x.stands y.stands in
    one_frame a b (x.locals ∙ sym y.locals) (x.stack ∙ ap (λ (t : VType). frame.stack ++ t ∷ []) type ∙ sym y.stack) (x.flag ∙ sym y.flag)

one_store_ref : (w : List Shape) (site : Site) (frame : Frame) (insn : Insn) (a b : Frame) → IsStoreTyping w site frame insn a → IsStoreTyping w site frame insn b → a ≡ b
one_store_ref w site frame insn a b x y =
    let parts = same_tops (effect_of insn).takes frame.stack x.pops.takes y.pops.takes in
    let local = local_of insn.op insn.arg in
    let stored = subst (λ (top : List VType). AreStored local top frame.locals b.locals) (sym parts.second) y.locals in
    one_frame a b (one_store local x.pops.takes.top frame.locals a.locals b.locals x.locals stored) (x.stack ∙ parts.first ∙ sym y.stack) (x.flag ∙ sym y.flag)

-- ---- operands

same_const : (arg : Arg) (x y : Const) → arg ≡ args.Constant x → arg ≡ args.Constant y → x ≡ y
same_const arg x y e f = cc

same_field : (arg : Arg) (x y : FieldRef) → arg ≡ args.Field x → arg ≡ args.Field y → x ≡ y
same_field arg x y e f = cc

same_method : (arg : Arg) (x y : MethodRef) → arg ≡ args.Method x → arg ≡ args.Method y → x ≡ y
same_method arg x y e f = cc

same_class : (arg : Arg) (x y : RefType) → arg ≡ args.Class x → arg ≡ args.Class y → x ≡ y
same_class arg x y e f = cc

same_prim : (arg : Arg) (x y : PrimType) → arg ≡ args.NewPrim x → arg ≡ args.NewPrim y → x ≡ y
same_prim arg x y e f = cc

same_multi : (arg : Arg) (x y : RefType) (m n : ℕ) → arg ≡ args.Multi x m → arg ≡ args.Multi y n → x ≡ y
same_multi arg x y m n e f = cc

one_const_type : (x y : Const) (s t : VType) → x ≡ y → const_type x ≡ Some s → const_type y ≡ Some t → s ≡ t
one_const_type x y s t e f g = given_twice (const_type x) s t f (ap const_type e ∙ g)

-- ---- the rules

one_special : (w : List Shape) (site : Site) (frame : Frame) (insn : Insn) (x y : MethodRef) (a b : Frame) → x ≡ y
    → ((x.name ≡ init_name) × IsInitTyping w site frame insn x a) ⊎ IsSpecialTyping w site frame insn x a
    → ((y.name ≡ init_name) × IsInitTyping w site frame insn y b) ⊎ IsSpecialTyping w site frame insn y b → a ≡ b
one_special w site frame insn x y a b e (inl h) (inl k) = one_init w site frame insn x y a b e h.1 k.1
one_special w site frame insn x y a b e (inl h) (inr k) = absurd (k.plain.no_constructor (sym (ap (λ (m : MethodRef). m.name) e) ∙ h.0))
one_special w site frame insn x y a b e (inr h) (inl k) = absurd (h.plain.no_constructor (ap (λ (m : MethodRef). m.name) e ∙ k.0))
one_special w site frame insn x y a b e (inr h) (inr k) =
    one_goes w site frame insn _ _ (result_types x.desc.result) (result_types y.desc.result) a b (ap (λ (m : MethodRef). result_types m.desc.result) e) h.goes k.goes

one_put : (w : List Shape) (site : Site) (frame : Frame) (insn : Insn) (x y : FieldRef) (a b : Frame) → IsPutTyping w site frame insn x a ⊎ IsOwnPutTyping w site frame insn x a
    → IsPutTyping w site frame insn y b ⊎ IsOwnPutTyping w site frame insn y b → a ≡ b
one_put w site frame insn x y a b (inl h) (inl k) = one_goes w site frame insn _ _ [] [] a b refl h.goes k.goes
one_put w site frame insn x y a b (inl h) (inr k) = one_goes w site frame insn _ _ [] [] a b refl h.goes k.goes
one_put w site frame insn x y a b (inr h) (inl k) = one_goes w site frame insn _ _ [] [] a b refl h.goes k.goes
one_put w site frame insn x y a b (inr h) (inr k) = one_goes w site frame insn _ _ [] [] a b refl h.goes k.goes

one_load_small : (w : List Shape) (site : Site) (frame : Frame) (insn : Insn) (a b : Frame) → LoadsPrim w site frame insn a prims.Byte ⊎ LoadsPrim w site frame insn a prims.Boolean
    → LoadsPrim w site frame insn b prims.Byte ⊎ LoadsPrim w site frame insn b prims.Boolean → a ≡ b
one_load_small w site frame insn a b (inl h) (inl k) = one_goes w site frame insn _ _ (Integer ∷ []) (Integer ∷ []) a b refl h k
one_load_small w site frame insn a b (inl h) (inr k) = one_goes w site frame insn _ _ (Integer ∷ []) (Integer ∷ []) a b refl h k
one_load_small w site frame insn a b (inr h) (inl k) = one_goes w site frame insn _ _ (Integer ∷ []) (Integer ∷ []) a b refl h k
one_load_small w site frame insn a b (inr h) (inr k) = one_goes w site frame insn _ _ (Integer ∷ []) (Integer ∷ []) a b refl h k

one_store_small : (w : List Shape) (site : Site) (frame : Frame) (insn : Insn) (a b : Frame) → StoresPrim w site frame insn a prims.Byte ⊎ StoresPrim w site frame insn a prims.Boolean
    → StoresPrim w site frame insn b prims.Byte ⊎ StoresPrim w site frame insn b prims.Boolean → a ≡ b
one_store_small w site frame insn a b (inl h) (inl k) = one_goes w site frame insn _ _ [] [] a b refl h k
one_store_small w site frame insn a b (inl h) (inr k) = one_goes w site frame insn _ _ [] [] a b refl h k
one_store_small w site frame insn a b (inr h) (inl k) = one_goes w site frame insn _ _ [] [] a b refl h k
one_store_small w site frame insn a b (inr h) (inr k) = one_goes w site frame insn _ _ [] [] a b refl h k

one_rule : (w : List Shape) (site : Site) (frame : Frame) (insn : Insn) (a b : Frame) (rule : RefRule) → HasRuleTyping w site frame insn a rule → HasRuleTyping w site frame insn b rule → a ≡ b
one_rule w site frame insn a b rules.PushNull h k = one_goes w site frame insn _ _ (Null ∷ []) (Null ∷ []) a b refl h k
one_rule w site frame insn a b rules.PushConstant h k =
    let const = same_const insn.arg h.0 k.0 h.2 k.2 in
    let type = one_const_type h.0 k.0 h.1 k.1 const h.3 k.3 in
    one_goes w site frame insn _ _ (h.1 ∷ []) (k.1 ∷ []) a b (ap (λ (t : VType). t ∷ []) type) h.4 k.4
one_rule w site frame insn a b rules.Load h k = one_load site frame insn a b h k
one_rule w site frame insn a b rules.Store h k = one_store_ref w site frame insn a b h k
one_rule w site frame insn a b (rules.LoadItem prim) h k = one_goes w site frame insn _ _ (desc_vtype (descs.Prim prim) ∷ []) (desc_vtype (descs.Prim prim) ∷ []) a b refl h k
one_rule w site frame insn a b rules.LoadSmall h k = one_load_small w site frame insn a b h k
one_rule w site frame insn a b rules.LoadRef h k = one_load_ref site frame a b h k
one_rule w site frame insn a b (rules.StoreItem prim) h k = one_goes w site frame insn _ _ [] [] a b refl h k
one_rule w site frame insn a b rules.StoreSmall h k = one_store_small w site frame insn a b h k
one_rule w site frame insn a b rules.StoreRef h k = one_goes w site frame insn _ _ [] [] a b refl h k
one_rule w site frame insn a b rules.Move h k = one_move_typing site.body.max_stack frame insn a b h k
one_rule w site frame insn a b rules.TakeRefs h k = one_goes w site frame insn _ _ [] [] a b refl h k
one_rule w site frame insn a b rules.ReturnValue h k = one_goes w site frame insn _ _ [] [] a b refl h.goes k.goes
one_rule w site frame insn a b rules.ReturnVoid h k = one_goes w site frame insn _ _ [] [] a b refl h.goes k.goes
one_rule w site frame insn a b rules.GetStatic h k =
    one_goes w site frame insn _ _ _ _ a b (ap (λ (f : FieldRef). desc_vtype f.desc ∷ []) (same_field insn.arg h.0 k.0 h.1 k.1)) h.2 k.2
one_rule w site frame insn a b rules.PutStatic h k = one_goes w site frame insn _ _ [] [] a b refl h.2 k.2
one_rule w site frame insn a b rules.GetField h k =
    one_goes w site frame insn _ _ _ _ a b (ap (λ (f : FieldRef). desc_vtype f.desc ∷ []) (same_field insn.arg h.0 k.0 h.1 k.1)) h.2.goes k.2.goes
one_rule w site frame insn a b rules.PutField h k = one_put w site frame insn h.0 k.0 a b h.2 k.2
one_rule w site frame insn a b rules.InvokeVirtual h k =
    one_goes w site frame insn _ _ _ _ a b (ap (λ (m : MethodRef). result_types m.desc.result) (same_method insn.arg h.0 k.0 h.1 k.1)) h.2.goes k.2.goes
one_rule w site frame insn a b rules.InvokeSpecial h k = one_special w site frame insn h.0 k.0 a b (same_method insn.arg h.0 k.0 h.1 k.1) h.2 k.2
one_rule w site frame insn a b rules.InvokeStatic h k =
    one_goes w site frame insn _ _ _ _ a b (ap (λ (m : MethodRef). result_types m.desc.result) (same_method insn.arg h.0 k.0 h.1 k.1)) h.3 k.3
one_rule w site frame insn a b rules.InvokeInterface h k =
    one_goes w site frame insn _ _ _ _ a b (ap (λ (m : MethodRef). result_types m.desc.result) (same_method insn.arg h.0 k.0 h.1 k.1)) h.3 k.3
one_rule w site frame insn a b rules.New h k = one_new w site frame a b h.2 k.2
one_rule w site frame insn a b rules.NewArray h k =
    one_goes w site frame insn _ _ _ _ a b (ap (λ (p : PrimType). types.PrimArray p ∷ []) (same_prim insn.arg h.0 k.0 h.1 k.1)) h.2 k.2
one_rule w site frame insn a b rules.NewRefArray h k =
    one_goes w site frame insn _ _ _ _ a b (ap (λ (t : RefType). types.Array (ref_vtype t) ∷ []) (same_class insn.arg h.0 k.0 h.1 k.1)) h.2 k.2
one_rule w site frame insn a b rules.ArrayLength h k = one_goes w site frame insn _ _ (Integer ∷ []) (Integer ∷ []) a b refl h.2 k.2
one_rule w site frame insn a b rules.Throw h k = one_goes w site frame insn _ _ [] [] a b refl h k
one_rule w site frame insn a b rules.CheckCast h k =
    one_goes w site frame insn _ _ _ _ a b (ap (λ (t : RefType). ref_vtype t ∷ []) (same_class insn.arg h.0 k.0 h.1 k.1)) h.2 k.2
one_rule w site frame insn a b rules.InstanceOf h k = one_goes w site frame insn _ _ (Integer ∷ []) (Integer ∷ []) a b refl h.2 k.2
one_rule w site frame insn a b rules.NewMultiArray h k =
    one_goes w site frame insn _ _ _ _ a b (ap (λ (t : RefType). ref_vtype t ∷ []) (same_multi insn.arg h.0 k.0 h.1 k.1 h.2 k.2)) h.3 k.3

one_ref : (w : List Shape) (site : Site) (frame : Frame) (insn : Insn) (a b : Frame) → IsRefTyping w site frame insn a → IsRefTyping w site frame insn b → a ≡ b
one_ref w site frame insn a b h k =
    let rule = given_twice (row_of nat_cmp insn.op ref_rules) h.rule k.rule h.stands k.stands in
    one_rule w site frame insn a b h.rule h.typing (subst (λ (r : RefRule). HasRuleTyping w site frame insn b r) (sym rule) k.typing)

-- ---- the two halves

abbrev is_word_kind : Kind → Bool
is_word_kind kinds.Word = true
is_word_kind kinds.Refs = false
is_word_kind kinds.Outside = false

-- the row of an opcode with a rule of the references' half isn't of the words' half
abbrev is_no_word : ℕ × RefRule → Bool
is_no_word row = not (option_map_or (λ (form : OpForm). is_word_kind form.kind) (op_row row.0) false)

no_rule_of_words : list_all is_no_word ref_rules ≡ true
unfolding opcode_rows
no_rule_of_words = refl

not_both : (max_stack : ℕ) (w : List Shape) (site : Site) (frame : Frame) (insn : Insn) (a b : Frame) → IsWordTyping max_stack frame insn a → IsRefTyping w site frame insn b → ⊥
not_both max_stack w site frame insn a b h k =
    let passes : is_no_word (insn.op, k.rule) ≡ true = row_passes is_no_word ref_rules insn.op k.rule no_rule_of_words k.stands in
    let word : is_word_kind h.is_word.row.kind ≡ true = ap is_word_kind h.is_word.half in
    let found : option_map_or (λ (form : OpForm). is_word_kind form.kind) (op_row insn.op) false ≡ true = ap (λ (o : Option OpForm). option_map_or (λ (form : OpForm). is_word_kind form.kind) o false) h.is_word.stands ∙ word in
    let wrong : not true ≡ true = ap not (sym found) ∙ passes in
    absurd cc

pub one_step : (w : List Shape) (site : Site) (frame : Frame) (insn : Insn) (a b : Frame) → StepTyping w site frame insn a → StepTyping w site frame insn b → a ≡ b
one_step w site frame insn a b (words h) (words k) = one_word_typing site.body.max_stack frame insn a b h k
one_step w site frame insn a b (words h) (references k) = absurd (not_both site.body.max_stack w site frame insn a b h k)
one_step w site frame insn a b (references h) (words k) = absurd (not_both site.body.max_stack w site frame insn b a k h)
one_step w site frame insn a b (references h) (references k) = one_ref w site frame insn a b h k

-- ---- the first frame

pub one_initial : (w : List Shape) (id : MethodId) (max_locals : ℕ) (a b : Frame) → IsInitialFrame w id max_locals a → IsInitialFrame w id max_locals b → a ≡ b
one_initial w id max_locals a b h k =
    h.is ∙ ap (λ (types : List VType). frame_of max_locals types []) (one_entry w id h.types k.types h.entry k.entry) ∙ sym k.is
