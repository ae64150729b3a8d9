-- The members that are read are those of the file, and those of the file are read.
use Rattle.std.proofs.Common.{◌≡◌, ℕ, true, cond, eqb, ◌&&◌, List, ◌++◌, length, Option, Some, None, refl, sym, ap, subst, ◌∙◌, append_assoc, arith}
use Rattle.std.proofs.lemmas.Bool.{eqb-true}
use Rattle.std.proofs.lemmas.Bool.Decides.{Decides-eqb}
use Rattle.std.proofs.lemmas.List.{take_at, drop_at}
use Rattle.jv_types.specs.declared.access.Access.{Access}
use Rattle.calls_form.specs.declared.outline.Entry.{Entry}
use Rattle.calls_form.specs.declared.outline.RawField.{RawField}
use Rattle.calls_form.specs.declared.outline.RawMethod.{RawMethod}
use Rattle.calls_form.specs.declared.object_class.Kind.{Kind}
use Rattle.calls_form.specs.declared.object_class.Placed.{Placed}
use Rattle.calls_form.specs.declared.object_class.Field.{Field}
use Rattle.calls_form.specs.declared.object_class.Method.{Method}
use Rattle.calls_form.specs.declared.object_class.ObjectClass.{ObjectClass}
use Rattle.calls_form.specs.declared.target.Target.{Target}
use Rattle.calls_form.specs.Layout.{u2, u4, attributes_text, Code, code_text}
use Rattle.calls_form.specs.Outlines.{IsUtf8At}
use Rattle.calls_form.specs.ObjectForm.{IsVisible, AreInstructions, IsFieldOf, IsMethodOf}
use Rattle.calls_form.specs.Reading.{◌>>=◌}
use Rattle.calls_form.specs.Classes.{IsBytes, text_at, Content, code_of}
use Rattle.calls_form.specs.ClassesTypes.{whole_type, method_desc}
use Rattle.calls_form.specs.ClassesBodies.{placed_from}
use Rattle.calls_form.specs.ClassesHeads.{is_visible, is_allowed, typed_field, field_at, Heading, heading_at, body_at, method_at}
use Rattle.calls_form.proofs.ClassesCode.{kept_of, code_takes, code_again}
use Rattle.calls_form.proofs.ClassesInstructions.{KnowsTargets, placed_take, placed_again}
use Rattle.calls_form.proofs.ClassesPool.{text_takes, text_again}
use Rattle.calls_form.proofs.ClassesKinds.{both_true, two_true, three_true, Decides-visible, IsAllowed, Decides-allowed}
use Rattle.calls_form.proofs.ClassesTypes.{whole_type_takes, whole_type_again, method_desc_takes, method_desc_again}
use Rattle.calls_form.proofs.LayoutFields.{bind_some, past_true, some_is, IsBytes-drop, IsBytes-take}

-- ---- a field

-- a field by its parts
abbrev field_by : Access → List ℕ → List ℕ → Kind → Field
field_by access name desc kind = record { access = access; name = name; desc = desc; kind = kind }

pub field_takes : (pool : List Entry) (own : List ℕ) (raw : RawField) (x : Field) → field_at pool own raw ≡ Some x → IsFieldOf pool own raw x
unfolding field_at typed_field
field_takes pool own raw x e =
    let a = bind_some (text_at pool raw.name) (λ name. text_at pool raw.desc >>= λ desc. whole_type own desc >>= λ kind. cond (is_visible name && is_visible desc) (Some (field_by raw.access name desc kind)) None) x e in
    let b = bind_some (text_at pool raw.desc) (λ desc. whole_type own desc >>= λ kind. cond (is_visible a.0 && is_visible desc) (Some (field_by raw.access a.0 desc kind)) None) x a.2 in
    let k = bind_some (whole_type own b.0) (λ kind. cond (is_visible a.0 && is_visible b.0) (Some (field_by raw.access a.0 b.0 kind)) None) x b.2 in
    let made : Field = field_by raw.access a.0 b.0 k.0 in
    let c = past_true (is_visible a.0 && is_visible b.0) (Some made) x k.2 in
    let visible = both_true (is_visible a.0) (is_visible b.0) c.0 in
    let whole : IsFieldOf pool own raw made = record {
      access = refl;
      name = text_takes pool raw.name a.0 a.1;
      desc = text_takes pool raw.desc b.0 b.1;
      visible_name = (Decides-visible a.0).0 visible.0;
      visible_desc = (Decides-visible b.0).0 visible.1;
      kind = whole_type_takes own b.0 k.0 k.1;
    } in
    subst (IsFieldOf pool own raw) (some_is made x c.1) whole

pub field_again : (pool : List Entry) (own : List ℕ) (raw : RawField) (x : Field) → IsFieldOf pool own raw x → field_at pool own raw ≡ Some x
unfolding field_at typed_field
field_again pool own raw x h =
    let visible = two_true (is_visible x.name) (is_visible x.desc) ((Decides-visible x.name).1 h.visible_name) ((Decides-visible x.desc).1 h.visible_desc) in
    rw (text_again pool raw.name x.name h.name, text_again pool raw.desc x.desc h.desc, whole_type_again own x.desc x.kind h.kind, visible)
    (ap (λ (a : Access). Some (field_by a x.name x.desc x.kind)) (sym h.access))

-- ---- a method's texts

-- what is known of a method's texts
pub record IsHeading (pool : List Entry) (raw : RawMethod) (h : Heading) : Type 0 where
  pub access : h.access ≡ raw.access
  pub name : IsUtf8At pool raw.name h.name
  pub desc : IsUtf8At pool raw.desc h.desc
  pub visible_name : IsVisible h.name
  pub visible_desc : IsVisible h.desc
  pub allowed : IsAllowed h.access h.name
  pub code : h.code ≡ raw.code

pub heading_takes : (pool : List Entry) (raw : RawMethod) (h : Heading) → heading_at pool raw ≡ Some h → IsHeading pool raw h
unfolding heading_at
heading_takes pool raw h e =
    let a = bind_some (text_at pool raw.name) (λ name. text_at pool raw.desc >>= λ desc. cond ((is_visible name && is_visible desc) && is_allowed raw.access name) (let x : Heading = record { access = raw.access; name = name; desc = desc; code = raw.code } in Some x) None) h e in
    let b = bind_some (text_at pool raw.desc) (λ desc. cond ((is_visible a.0 && is_visible desc) && is_allowed raw.access a.0) (let x : Heading = record { access = raw.access; name = a.0; desc = desc; code = raw.code } in Some x) None) h a.2 in
    let made : Heading = record { access = raw.access; name = a.0; desc = b.0; code = raw.code } in
    let c = past_true ((is_visible a.0 && is_visible b.0) && is_allowed raw.access a.0) (Some made) h b.2 in
    let tests = both_true (is_visible a.0 && is_visible b.0) (is_allowed raw.access a.0) c.0 in
    let visible = both_true (is_visible a.0) (is_visible b.0) tests.0 in
    let whole : IsHeading pool raw made = record {
      access = refl;
      name = text_takes pool raw.name a.0 a.1;
      desc = text_takes pool raw.desc b.0 b.1;
      visible_name = (Decides-visible a.0).0 visible.0;
      visible_desc = (Decides-visible b.0).0 visible.1;
      allowed = (Decides-allowed raw.access a.0).0 tests.1;
      code = refl;
    } in
    subst (IsHeading pool raw) (some_is made h c.1) whole

heading_again : (pool : List Entry) (raw : RawMethod) (name desc : List ℕ) → IsUtf8At pool raw.name name → IsUtf8At pool raw.desc desc → IsVisible name → IsVisible desc → is_allowed raw.access name ≡ true
    → heading_at pool raw ≡ Some (record { access = raw.access; name = name; desc = desc; code = raw.code })
unfolding heading_at
heading_again pool raw name desc at_name at_desc visible_name visible_desc allowed =
    let tests = three_true (is_visible name) (is_visible desc) (is_allowed raw.access name) ((Decides-visible name).1 visible_name) ((Decides-visible desc).1 visible_desc) allowed in
    rw (text_again pool raw.name name at_name, text_again pool raw.desc desc at_desc, tests) refl

-- ---- a method

-- the bytes of a code are among those of its text
code_bytes_fit : (content : List ℕ) (c : Code) → IsBytes content → content ≡ code_text c → IsBytes c.bytes
code_bytes_fit content c fits text =
    let front = u2 c.max_stack ++ u2 c.max_locals ++ u4 (length c.bytes) in
    let back = u2 c.handler_count ++ c.handlers ++ attributes_text c.attributes in
    let parts : code_text c ≡ front ++ (c.bytes ++ back) = simp append_assoc in
    let all = subst IsBytes (text ∙ parts) fits in
    let later = subst IsBytes (drop_at front (c.bytes ++ back) (length front) refl) (IsBytes-drop (length front) (front ++ (c.bytes ++ back)) all) in
    subst IsBytes (take_at c.bytes back (length c.bytes) refl) (IsBytes-take (length c.bytes) (c.bytes ++ back) later)

-- the instructions of a code without handlers
abbrev IsBody : List Entry → ObjectClass → List Placed → Content → Type 0
IsBody pool class list code = (code.handler_count ≡ 0) × AreInstructions pool class 0 code.bytes list

body_takes : (pool : List Entry) (class : ObjectClass) (target : ℕ → Option Target) → KnowsTargets pool class target → (code : Content) (list : List Placed) → IsBytes code.bytes
    → body_at target code ≡ Some list → IsBody pool class list code
unfolding body_at
body_takes pool class target knows code list fits e =
    let a = past_true (eqb code.handler_count 0) (placed_from target 0 code.bytes) list e in
    (eqb-true code.handler_count 0 a.0, placed_take pool class target knows (length code.bytes) 0 code.bytes list fits a.1)

body_again : (pool : List Entry) (class : ObjectClass) (target : ℕ → Option Target) → KnowsTargets pool class target → (code : Content) (list : List Placed) → IsBody pool class list code → body_at target code ≡ Some list
unfolding body_at
body_again pool class target knows code list h =
    rw ((Decides-eqb code.handler_count 0).1 h.0) (placed_again pool class target knows (length code.bytes) 0 code.bytes list (omega arith) h.1)

-- a method by its parts
abbrev method_by : Heading → List Kind × Option Kind → Content → List Placed → Method
method_by h types code body = record { access = h.access; name = h.name; desc = h.desc; arguments = types.0; result = types.1; max_stack = code.max_stack; max_locals = code.max_locals; code = body }

pub method_takes : (pool : List Entry) (class : ObjectClass) (target : ℕ → Option Target) → KnowsTargets pool class target → (raw : RawMethod) (h : Heading) (m : Method) → IsHeading pool raw h → IsBytes h.code
    → method_at class.name target h ≡ Some m → IsMethodOf pool class raw m
unfolding method_at
method_takes pool class target knows raw h m heading fits e =
    let a = bind_some (method_desc class.name h.access h.desc) (λ types. code_of h.code >>= λ code. body_at target code >>= λ body. Some (method_by h types code body)) m e in
    let b = bind_some (code_of h.code) (λ code. body_at target code >>= λ body. Some (method_by h a.0 code body)) m a.2 in
    let c = bind_some (body_at target b.0) (λ body. Some (method_by h a.0 b.0 body)) m b.2 in
    let made : Method = method_by h a.0 b.0 c.0 in
    let content = code_takes h.code b.0 fits b.1 in
    let code_fits : IsBytes b.0.bytes = subst (λ (k : Content). IsBytes k.bytes) content.kept (code_bytes_fit h.code content.code fits content.text) in
    let body = subst (IsBody pool class c.0) (sym content.kept) (body_takes pool class target knows b.0 c.0 code_fits c.1) in
    let whole : IsMethodOf pool class raw made = record {
      access = heading.access;
      name = heading.name;
      desc = heading.desc;
      visible_name = heading.visible_name;
      visible_desc = heading.visible_desc;
      not_native = heading.allowed.0.0;
      not_abstract = heading.allowed.0.1;
      not_class_init = heading.allowed.1.0;
      not_static_init = λ s n. heading.allowed.1.1 (s, n);
      types = method_desc_takes class.name h.access h.desc a.0 a.1;
      code = content.code;
      is_code = content.is_code;
      code_is = sym heading.code ∙ content.text;
      no_handlers = body.0;
      max_stack = ap (λ (k : Content). k.max_stack) (sym content.kept);
      max_locals = ap (λ (k : Content). k.max_locals) (sym content.kept);
      instructions = body.1;
    } in
    subst (IsMethodOf pool class raw) (some_is made m c.2) whole

-- the texts of a method of the class
abbrev pub heading_for : RawMethod → Method → Heading
heading_for raw m = record { access = raw.access; name = m.name; desc = m.desc; code = raw.code }

pub heading_for_again : (pool : List Entry) (class : ObjectClass) (raw : RawMethod) (m : Method) → IsMethodOf pool class raw m → heading_at pool raw ≡ Some (heading_for raw m)
heading_for_again pool class raw m h =
    let allowed : is_allowed m.access m.name ≡ true = (Decides-allowed m.access m.name).1 ((h.not_native, h.not_abstract), (h.not_class_init, λ both. h.not_static_init both.0 both.1)) in
    heading_again pool raw m.name m.desc h.name h.desc h.visible_name h.visible_desc (subst (λ (a : Access). is_allowed a m.name ≡ true) h.access allowed)

method_is : (m : Method) (access : Access) (max_stack max_locals : ℕ) → m.access ≡ access → m.max_stack ≡ max_stack → m.max_locals ≡ max_locals
    → let made : Method = record { access = access; name = m.name; desc = m.desc; arguments = m.arguments; result = m.result; max_stack = max_stack; max_locals = max_locals; code = m.code } in made ≡ m
method_is m access max_stack max_locals e f g =
    ap (λ (a : Access). let x : Method = record { access = a; name = m.name; desc = m.desc; arguments = m.arguments; result = m.result; max_stack = max_stack; max_locals = max_locals; code = m.code } in x) (sym e)
    ∙ ap (λ (n : ℕ). let x : Method = record { access = m.access; name = m.name; desc = m.desc; arguments = m.arguments; result = m.result; max_stack = n; max_locals = max_locals; code = m.code } in x) (sym f)
    ∙ ap (λ (n : ℕ). let x : Method = record { access = m.access; name = m.name; desc = m.desc; arguments = m.arguments; result = m.result; max_stack = m.max_stack; max_locals = n; code = m.code } in x) (sym g)

pub method_again : (pool : List Entry) (class : ObjectClass) (target : ℕ → Option Target) → KnowsTargets pool class target → (raw : RawMethod) (m : Method) → IsMethodOf pool class raw m
    → method_at class.name target (heading_for raw m) ≡ Some m
unfolding method_at
method_again pool class target knows raw m h =
    let types : method_desc class.name raw.access m.desc ≡ Some (m.arguments, m.result) =
    subst (λ (a : Access). method_desc class.name a m.desc ≡ Some (m.arguments, m.result)) h.access (method_desc_again class.name m.access m.desc m.arguments m.result h.types) in
    let content : code_of raw.code ≡ Some (kept_of h.code) = ap code_of h.code_is ∙ code_again h.code h.is_code in
    let body = body_again pool class target knows (kept_of h.code) m.code (h.no_handlers, h.instructions) in
    rw (types, content, body) (ap (λ (x : Method). Some x) (method_is m raw.access h.code.max_stack h.code.max_locals h.access h.max_stack h.max_locals))

-- a method that is read has the name and descriptor
pub method_same : (own : List ℕ) (target : ℕ → Option Target) (h : Heading) (m : Method) → method_at own target h ≡ Some m → (h.name ≡ m.name) × (h.desc ≡ m.desc)
unfolding method_at
method_same own target h m e =
    let a = bind_some (method_desc own h.access h.desc) (λ types. code_of h.code >>= λ code. body_at target code >>= λ body. Some (method_by h types code body)) m e in
    let b = bind_some (code_of h.code) (λ code. body_at target code >>= λ body. Some (method_by h a.0 code body)) m a.2 in
    let c = bind_some (body_at target b.0) (λ body. Some (method_by h a.0 b.0 body)) m b.2 in
    let is = some_is (method_by h a.0 b.0 c.0) m c.2 in
    (ap (λ (x : Method). x.name) is, ap (λ (x : Method). x.desc) is)
