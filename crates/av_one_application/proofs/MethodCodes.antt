-- How many of a method's attributes are its code (JVMS 4.7.3).
use Rattle.std.proofs.Common.{◌≡◌, ℕ, ◌+◌, ◌<◌, cond, List, [], ◌∷◌, Option, Some, None, Contains, count_by, refl, subst, ⊎_elim, arith}
use Rattle.std.specs.List.{AllByRecursion}
use Rattle.std.proofs.lemmas.List.Sums.{sum_by-cons}
use Rattle.jv_attr.specs.declared.attr.Attr.{Attr}
use Rattle.jv_attr.specs.declared.attr.AttrBody.{AttrBody}
use Rattle.jv_attr.specs.declared.attr.AttrBody.TheVariants.{Code, Maps, Raw}
use Rattle.jv_attr.specs.declared.attr.CodeAttr.{CodeAttr}
use Rattle.jv_class.specs.declared.class_file.ClassFile.{ClassFile}
use Rattle.jv_class.specs.declared.class_file.Member.{Member}
use Rattle.jv_class.specs.ClassTexts.{IsMethodMember, has_code, is_code_body}
use Rattle.jv_class.specs.MethodCodes.{code_in, code_or}
use Rattle.av_collected.proofs.Lists.{in_none, of_cons}
use Rattle.av_stops.specs.Programs.{IsOfFile}

-- what holds of each element holds of those among them
pub among_all : {X : Type 0} (P : X → Type 0) (xs : List X) (x : X) → AllByRecursion P xs → Contains xs x → P x
among_all P [] x all h = absurd (in_none x h)
among_all {X} P (y ∷ xs) x all h = ⊎_elim (λ same. subst P same all.0) (λ later. among_all P xs x all.1 later) (of_cons y xs x h)

one_more : (body : AttrBody CodeAttr) (later : Option CodeAttr) (code : CodeAttr) (more : ℕ) → code_or body later ≡ Some code → (later ≡ Some code → 0 < more)
    → 0 < cond (is_code_body body) 1 0 + more
one_more (Code made) later code more e onward = omega arith
one_more (Maps frames) later code more e onward = let l = onward e in omega (arith, l)
one_more (Raw bytes) later code more e onward = let l = onward e in omega (arith, l)

-- a code among attributes is counted
pub counted : (attrs : List (Attr CodeAttr)) (code : CodeAttr) → code_in attrs ≡ Some code → 0 < count_by has_code attrs
counted [] code e = absurd cc
counted (a ∷ attrs) code e =
    let l = one_more a.body (code_in attrs) code (count_by has_code attrs) e (λ later. counted attrs code later) in
    let sum = sum_by-cons (λ (x : Attr CodeAttr). cond (has_code x) 1 0) a attrs in
    omega (arith, l, sum)

none_more : (body : AttrBody CodeAttr) (later : Option CodeAttr) (more : ℕ) → code_or body later ≡ None → (later ≡ None → more ≡ 0) → cond (is_code_body body) 1 0 + more ≡ 0
none_more (Code made) later more e onward = absurd cc
none_more (Maps frames) later more e onward = let l = onward e in omega (arith, l)
none_more (Raw bytes) later more e onward = let l = onward e in omega (arith, l)

-- where there is none, none is
pub none_counted : (attrs : List (Attr CodeAttr)) → code_in attrs ≡ None → count_by has_code attrs ≡ 0
none_counted [] e = refl
none_counted (a ∷ attrs) e =
    let l = none_more a.body (code_in attrs) (count_by has_code attrs) e (λ later. none_counted attrs later) in
    let sum = sum_by-cons (λ (x : Attr CodeAttr). cond (has_code x) 1 0) a attrs in
    omega (arith, l, sum)

-- a method of a class file is one
pub is_member : (class : ClassFile) (member : Member) → IsOfFile class → Contains class.methods member → IsMethodMember class.pool member
is_member class member file here = among_all (IsMethodMember class.pool) class.methods member file.1.is_class.rules.methods here
