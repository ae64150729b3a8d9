-- What a class file names, and one method's body.
use Rattle.std.proofs.Common.{◌≡◌, Bor, option_copied, ℕ, ◌<◌, ◌≤◌, List, length, get_or, ap, arith, [], ◌∷◌, ◌++◌, Option, Some, None, inl, inr, refl, sym, ◌∙◌, subst}
use Rattle.std.specs.Prelude.{Contains, IfNone, IfSome}
use Rattle.std.specs.List.{AllByRecursion}
use Rattle.std.proofs.lemmas.List.Elements.{All-contains, All-from_recursion}
use Rattle.std.proofs.lemmas.Option.{none-some}
use Rattle.jv_types.specs.declared.body.Body.{Body}
use Rattle.jv_types.specs.declared.raw_handler.RawHandler.{RawHandler}
use Rattle.jv_pool.specs.declared.item.PoolItem.{PoolItem}
use Rattle.jv_pool.specs.Lookups.{class_name_at}
use Rattle.jv_attr.specs.declared.attr.Attr.{Attr}
use Rattle.jv_attr.specs.declared.attr.AttrBody.{AttrBody}
use Rattle.jv_attr.specs.declared.attr.AttrBody.TheVariants.{Code, Maps, Raw}
use Rattle.jv_attr.specs.declared.attr.CodeAttr.{CodeAttr}
use Rattle.jv_attr.specs.AttrText.{IsShort, IsShortCode, IsShortWith}
use Rattle.jv_attr.specs.declared.frame.MapFrame.{MapFrame}
use Rattle.jv_attr.specs.declared.frame.MapType.{MapType}
use Rattle.jv_class.specs.declared.class_file.ClassFile.{ClassFile}
use Rattle.jv_class.specs.declared.class_file.Member.{Member}
use Rattle.jv_class.specs.MethodCodes.{code_in, code_or}
use Rattle.jv_frames.specs.Maps.{written_frames}
use Rattle.jv_insn.specs.Decoding.{Decodes, IsLeastFailure}
use Rattle.jv_insn.proofs.Failing.{decoded_fails_nowhere}
use Rattle.jv_insn.proofs.OneBody.{one_body}
use Rattle.jv_read.proofs.Fronts.{some_is}
use Rattle.av_collected.specs.declared.method_body.MethodBody.{MethodBody}
use Rattle.av_app_files.specs.FileRules.{StatesName}
use Rattle.av_stops.specs.Bodies.{HasDecoded}
use Rattle.av_stops.specs.Programs.{IsOfFile}
use Rattle.av_given.specs.Steps.Adding.{Adds}
use Rattle.av_given.specs.Steps.Parts.{FrameNames, FramesName, IsDecoding, MemberHasBody, MemberNames, TypeNames, TypesName}
use Rattle.av_given.proofs.Adding.{adds_none, adds_one, adds_same, adds_then}

-- ---- a written type

its_name : (pool : List PoolItem) (type : MapType) (texts : List (List ℕ)) (text : List ℕ) → type.tag ≡ 7 → class_name_at pool type.arg ≡ Some text
    → Adds (TypeNames pool type) texts (texts ++ text ∷ [])
its_name pool type texts text of_class names =
    adds_one (TypeNames pool type) texts text (record { of_class = of_class; names = names }) (λ other p. some_is other text (sym p.names ∙ names))

-- ---- a frame

both_lists : (pool : List PoolItem) (frame : MapFrame) (a b c : List (List ℕ)) → Adds (TypesName pool frame.locals) a b → Adds (TypesName pool frame.stack) b c → Adds (FrameNames pool frame) a c
both_lists pool frame a b c p q =
    adds_then (TypesName pool frame.locals) (TypesName pool frame.stack) (FrameNames pool frame) a b c (λ text h. h) (λ text h. inl h) (λ text h. inr h) p q

-- ---- a method

one_code : (member : Member) (a b : CodeAttr) → code_in member.attrs ≡ Some a → code_in member.attrs ≡ Some b → a ≡ b
one_code member a b p q = some_is a b (sym p ∙ q)

-- the code of the method decodes to nothing else
decodes_so : (class : ClassFile) (member : Member) (code other : CodeAttr) (body : Body) → code_in member.attrs ≡ Some code → HasDecoded class member other body
    → Decodes class.pool code.max_stack code.max_locals code.code code.handlers body
decodes_so class member code other body has decoded =
    subst (λ (c : CodeAttr). Decodes class.pool c.max_stack c.max_locals c.code c.handlers body) (one_code member other code decoded.has has) decoded.decodes

pub no_code_names : (class : ClassFile) (member : Member) (texts : List (List ℕ)) → code_in member.attrs ≡ None → Adds (MemberNames class member) texts texts
no_code_names class member texts none = adds_none (MemberNames class member) texts (λ text p. none-some p.code (sym none ∙ p.decoded.has))

pub no_code_body : (class : ClassFile) (place : ℕ) (member : Member) (bodies : List MethodBody) → code_in member.attrs ≡ None → Adds (MemberHasBody class place member) bodies bodies
no_code_body class place member bodies none = adds_none (MemberHasBody class place member) bodies (λ m p. none-some p.code (sym none ∙ p.decoded.has))

pub undecoded_names : (class : ClassFile) (member : Member) (code : CodeAttr) (texts : List (List ℕ)) → code_in member.attrs ≡ Some code → IsDecoding class code None
    → Adds (MemberNames class member) texts texts
undecoded_names class member code texts has none = adds_none (MemberNames class member) texts (λ text p. none p.body (decodes_so class member code p.code p.body has p.decoded))

pub undecoded_body : (class : ClassFile) (place : ℕ) (member : Member) (code : CodeAttr) (bodies : List MethodBody) → code_in member.attrs ≡ Some code → IsDecoding class code None
    → Adds (MemberHasBody class place member) bodies bodies
undecoded_body class place member code bodies has none =
    adds_none (MemberHasBody class place member) bodies (λ m p. none m.body (decodes_so class member code p.code m.body has p.decoded))

decoded_names : (class : ClassFile) (member : Member) (code : CodeAttr) (body : Body) (old new : List (List ℕ)) → code_in member.attrs ≡ Some code → IsDecoding class code (Some body)
    → Adds (FramesName class.pool (written_frames code.attrs)) old new → Adds (MemberNames class member) old new
decoded_names class member code body old new has decodes adds =
    adds_same (FramesName class.pool (written_frames code.attrs)) (MemberNames class member) old new
    (λ text p. record { code = code; body = body; decoded = record { has = has; decodes = decodes }; names = p })
    (λ text p. subst (λ (c : CodeAttr). FramesName class.pool (written_frames c.attrs) text) (one_code member p.code code p.decoded.has has) p.names) adds

one_method : (a b : MethodBody) → a.class ≡ b.class → a.index ≡ b.index → a.body ≡ b.body → a ≡ b
one_method a b class index body = λ i. record { class = class i; index = index i; body = body i }

pub decoded_body : (class : ClassFile) (place : ℕ) (member : Member) (code : CodeAttr) (body : Body) (bodies : List MethodBody) (name : List ℕ) → StatesName class name
    → code_in member.attrs ≡ Some code → IsDecoding class code (Some body)
    → Adds (MemberHasBody class place member) bodies (bodies ++ (record { class = name; index = place; body = body }) ∷ [])
decoded_body class place member code body bodies name named has decodes =
    let own : MethodBody = record { class = name; index = place; body = body } in
    adds_one (MemberHasBody class place member) bodies own (record { named = named; place_is = refl; code = code; decoded = record { has = has; decodes = decodes } })
    (λ m p. one_method m own (some_is m.class name (sym p.named ∙ named)) p.place_is
    (one_body class.pool code.max_stack code.max_locals code.code code.handlers m.body body (decodes_so class member code p.code m.body has p.decoded) decodes))

-- ---- as code finds it

pub name_some : (pool : List PoolItem) (type : MapType) (o : Option (List ℕ)) → type.tag ≡ 7 → o ≡ class_name_at pool type.arg → IfSome o (TypeNames pool type)
name_some pool type None of_class is = tt
name_some pool type (Some text) of_class is = record { of_class = of_class; names = sym is }

pub name_none : (pool : List PoolItem) (type : MapType) (o : Option (List ℕ)) → o ≡ class_name_at pool type.arg → IfNone o ((text : List ℕ) → ¬ TypeNames pool type text)
name_none pool type None is = λ text p. none-some text (is ∙ p.names)
name_none pool type (Some text) is = tt

pub nothing_named : (pool : List PoolItem) (type : MapType) (texts : List (List ℕ)) → ((text : List ℕ) → ¬ TypeNames pool type text) → Adds (TypeNames pool type) texts texts
nothing_named pool type texts none = adds_none (TypeNames pool type) texts none

pub one_named : (pool : List PoolItem) (type : MapType) (texts new : List (List ℕ)) (text : List ℕ) → TypeNames pool type text → new ≡ texts ++ text ∷ [] → Adds (TypeNames pool type) texts new
one_named pool type texts new text named is =
    subst (λ (l : List (List ℕ)). Adds (TypeNames pool type) texts l) (sym is) (its_name pool type texts text named.of_class named.names)

pub two_lists : (pool : List PoolItem) (frame : MapFrame) (locals stack : List MapType) (a b c : List (List ℕ)) → locals ≡ frame.locals → stack ≡ frame.stack → Adds (TypesName pool locals) a b
    → Adds (TypesName pool stack) b c → Adds (FrameNames pool frame) a c
two_lists pool frame locals stack a b c p q first second =
    both_lists pool frame a b c (subst (λ (l : List MapType). Adds (TypesName pool l) a b) p first) (subst (λ (l : List MapType). Adds (TypesName pool l) b c) q second)

pub undecoded : (class : ClassFile) (code : CodeAttr) (bytes : List ℕ) (handlers : List RawHandler) (pc : ℕ) → bytes ≡ code.code → handlers ≡ code.handlers
    → IsLeastFailure class.pool code.max_locals bytes handlers pc → IsDecoding class code None
undecoded class code bytes handlers pc p q least =
    let moved : IsLeastFailure class.pool code.max_locals code.code handlers pc = subst (λ (l : List ℕ). IsLeastFailure class.pool code.max_locals l handlers pc) p least in
    let own : IsLeastFailure class.pool code.max_locals code.code code.handlers pc = subst (λ (l : List RawHandler). IsLeastFailure class.pool code.max_locals code.code l pc) q moved in
    λ body decodes. decoded_fails_nowhere class.pool code.max_stack code.max_locals code.code code.handlers body pc decodes own.fails

pub frames_of_code : (class : ClassFile) (member : Member) (code : CodeAttr) (body : Body) (frames : List MapFrame) (old new : List (List ℕ)) → code_in member.attrs ≡ Some code
    → IsDecoding class code (Some body) → frames ≡ written_frames code.attrs → Adds (FramesName class.pool frames) old new → Adds (MemberNames class member) old new
frames_of_code class member code body frames old new has decodes is adds =
    decoded_names class member code body old new has decodes (subst (λ (l : List MapFrame). Adds (FramesName class.pool l) old new) is adds)

-- ---- a class

pub states_name : (class : ClassFile) → IsOfFile class → (text : List ℕ) × (class_name_at class.pool class.this_class ≡ Some text)
states_name class of_file = let this = of_file.1.is_class.rules.this_class in (this.text, this.found)

pub place_fits : (class : ClassFile) (members : List Member) (index : ℕ) → IsOfFile class → members ≡ class.methods → index < length members → index < 65536
place_fits class members index of_file same within =
    let few : length class.methods < 65536 = of_file.1.few_parts.methods in
    let long = ap (λ (l : List Member). length l) same in
    omega (arith, few, long, within)

pub among_here : (class : ClassFile) (members : List Member) (index : ℕ) (member : Member) → members ≡ class.methods → index < length members → member ≡ get_or members index member
    → Contains class.methods member
among_here class members index member same within is =
    subst (λ (l : List Member). Contains l member) same (index, within, sym is)

-- the code among attributes has at most 65,535 bytes
by_body : (code : CodeAttr) (body : AttrBody CodeAttr) (later : Option CodeAttr) → IsShortWith IsShortCode body → (later ≡ Some code → IsShortCode code) → code_or body later ≡ Some code → IsShortCode code
by_body code (Code own) later short more e = subst IsShortCode (some_is own code e) short
by_body code (Maps frames) later short more e = more e
by_body code (Raw bytes) later short more e = more e

short_in : (attrs : List (Attr CodeAttr)) (code : CodeAttr) → AllByRecursion IsShort attrs → code_in attrs ≡ Some code → IsShortCode code
short_in [] code short e = absurd (none-some code e)
short_in (a ∷ attrs) code short e = by_body code a.body (code_in attrs) short.0.code (λ (later : code_in attrs ≡ Some code). short_in attrs code short.1 later) e

pub short_code : (class : ClassFile) (member : Member) (code : CodeAttr) → IsOfFile class → Contains class.methods member → code_in member.attrs ≡ Some code → length code.code ≤ 65535
short_code class member code of_file among has =
    let all = of_file.1.short_parts.methods in
    let own : AllByRecursion IsShort member.attrs =
    All-contains (λ (m : Member). AllByRecursion IsShort m.attrs) class.methods member (All-from_recursion (λ (m : Member). AllByRecursion IsShort m.attrs) class.methods all) among in
    let short : length code.code < 65536 = (short_in member.attrs code own has).code in
    omega (arith, short)

-- ---- what is lent is as what is owned

pub lent_some : (found : Option (Bor (List ℕ))) (P : List ℕ → Type 0) → IfSome (option_copied found) P → IfSome found (λ text. P text.now)
lent_some None P is = tt
lent_some (Some text) P is = is

pub lent_none : (found : Option (Bor (List ℕ))) (P : Type 0) → IfNone (option_copied found) P → IfNone found P
lent_none None P is = is
lent_none (Some text) P is = tt
