-- Descriptors that are read are spelled so, and those that are spelled so are read.
use Rattle.std.proofs.Common.{◌≡◌, ◌≢◌, ℕ, zero, suc, ◌+◌, ◌≤◌, ◌<◌, Bool, true, false, cond, eqb, ltb, not, ◌&&◌, ◌||◌, List, [], ◌∷◌, ◌++◌, length, take, drop, Option, Some, None, refl, sym, ap, subst, ◌∙◌, append_assoc, arith, inl, inr, ◌⊎◌, codes}
use Rattle.std.specs.List.{AllByRecursion, prefix_len}
use Rattle.std.specs.Str.{bytes_eq}
use Rattle.std.proofs.lemmas.Bool.{eqb-true, eqb-false, ne_eqb, ltb-true, lt-ltb}
use Rattle.std.proofs.lemmas.Bool.Decides.{Decides-or}
use Rattle.std.proofs.lemmas.Slice.Eq.{bytes_eq-Decides}
use Rattle.std.proofs.lemmas.List.{take_at, drop_at, take-append-drop, append-nil, nil_from_length, length-append}
use Rattle.jv_types.specs.declared.access.Access.{Access}
use Rattle.calls_form.specs.declared.object_class.Kind.{Kind}
use Rattle.calls_form.specs.declared.object_class.Kind.TheVariants.{Word, Reference}
use Rattle.calls_form.specs.Descriptors.{main_desc, HasNoSemicolon, class_type, IsType, AreTypes, IsResult, IsReceiver, IsTypedDesc, IsMainDesc, IsMethodDesc}
use Rattle.calls_form.specs.ObjectForm.{object_name}
use Rattle.calls_form.specs.Reading.{◌>>=◌, u1_at}
use Rattle.calls_form.specs.ClassesTypes.{name_at, class_type_at, type_at, whole_type, is_closed, types_at, kind_of_result, result_at, has_static, receiver_of, arguments_at, typed_desc, method_desc}
use Rattle.calls_form.proofs.ClassesSteps.{chosen}
use Rattle.calls_form.proofs.ClassesKinds.{both_true, two_true, not_true, Decides-static}
use Rattle.calls_form.proofs.LayoutFields.{bind_some, past_true, some_is, given_as}

pub one_takes : (bytes : List ℕ) (x : ℕ × List ℕ) → u1_at bytes ≡ Some x → bytes ≡ x.0 ∷ x.1
one_takes [] x e = absurd cc
one_takes (b ∷ bytes) x e = ap (λ (y : ℕ × List ℕ). y.0 ∷ y.1) (some_is (b, bytes) x e)

-- ---- names before a semicolon

-- a byte that is no semicolon
abbrev plain : ℕ → Bool
plain b = not (eqb b 59)

-- a semicolon stands at this place, and none before it
abbrev FirstAt : List ℕ → ℕ → Type 0
FirstAt bytes n = AllByRecursion (λ b. b ≢ 59) (take n bytes) × ((rest : List ℕ) × (drop n bytes ≡ 59 ∷ rest))

first_step : (b : ℕ) (bytes : List ℕ) (n : ℕ) (t : Bool) → eqb b 59 ≡ t → (n < length bytes → FirstAt bytes n) → cond (not t) (1 + n) 0 < suc (length bytes) → FirstAt (b ∷ bytes) (cond (not t) (1 + n) 0)
first_step b bytes n true e later lt = (tt, (bytes, ap (λ (x : ℕ). x ∷ bytes) (eqb-true b 59 e)))
first_step b bytes n false e later lt =
    let h = later (omega (arith, lt)) in
    let one : suc n ≡ 1 + n = omega arith in
    subst (FirstAt (b ∷ bytes)) one ((eqb-false b 59 e, h.0), h.1)

first_takes : (bytes : List ℕ) → prefix_len plain bytes < length bytes → FirstAt bytes (prefix_len plain bytes)
first_takes [] lt = absurd (omega (arith, lt))
first_takes (b ∷ bytes) lt = first_step b bytes (prefix_len plain bytes) (eqb b 59) refl (first_takes bytes) lt

first_again : (name rest : List ℕ) → HasNoSemicolon name → prefix_len plain (name ++ 59 ∷ rest) ≡ length name
first_again [] rest h = refl
first_again (b ∷ name) rest h =
    let later = first_again name rest h.1 in
    let step : prefix_len plain (b ∷ name ++ 59 ∷ rest) ≡ 1 + prefix_len plain (name ++ 59 ∷ rest) = ap (λ (t : Bool). cond (not t) (1 + prefix_len plain (name ++ 59 ∷ rest)) 0) (ne_eqb b 59 h.0) in
    let counted : 1 + prefix_len plain (name ++ 59 ∷ rest) ≡ suc (length name) = omega (arith, later) in
    step ∙ counted

name_takes : (bytes : List ℕ) (x : List ℕ × List ℕ) → name_at bytes ≡ Some x → (bytes ≡ x.0 ++ 59 ∷ x.1) × HasNoSemicolon x.0
unfolding name_at
name_takes bytes x e =
    let n = prefix_len plain bytes in
    let a = bind_some (cond (ltb n (length bytes)) (Some n) None) (λ i. u1_at (drop i bytes) >>= λ mark. Some (take i bytes, mark.1)) x e in
    let b = past_true (ltb n (length bytes)) (Some n) a.0 a.1 in
    let m = bind_some (u1_at (drop a.0 bytes)) (λ mark. Some (take a.0 bytes, mark.1)) x a.2 in
    let found : FirstAt bytes a.0 = subst (FirstAt bytes) (some_is n a.0 b.1) (first_takes bytes (ltb-true n (length bytes) b.0)) in
    let rest : m.0.1 ≡ found.1.0 = ap (λ (y : ℕ × List ℕ). y.1) (some_is m.0 (59, found.1.0) (sym m.1 ∙ ap u1_at found.1.1)) in
    let parts : bytes ≡ take a.0 bytes ++ 59 ∷ m.0.1 = sym (take-append-drop a.0 bytes) ∙ ap (λ (r : List ℕ). take a.0 bytes ++ r) (found.1.1 ∙ ap (λ (r : List ℕ). 59 ∷ r) (sym rest)) in
    given_as (λ (y : List ℕ × List ℕ). (bytes ≡ y.0 ++ 59 ∷ y.1) × HasNoSemicolon y.0) (take a.0 bytes, m.0.1) x m.2 (parts, found.0)

name_again : (name rest : List ℕ) → HasNoSemicolon name → name_at (name ++ 59 ∷ rest) ≡ Some (name, rest)
unfolding name_at
name_again name rest h =
    let bytes = name ++ 59 ∷ rest in
    let long : ltb (length name) (length bytes) ≡ true = lt-ltb (length name) (length bytes) (omega (arith, length-append name (59 ∷ rest))) in
    rw (first_again name rest h, long, take_at name (59 ∷ rest) (length name) refl, drop_at name (59 ∷ rest) (length name) refl) refl

-- ---- one type

-- a type of this kind stands at the front
pub record TakesType (own bytes : List ℕ) (x : Kind × List ℕ) : Type 0 where
  pub front : List ℕ
  pub parts : bytes ≡ front ++ x.1
  pub is_type : IsType own x.0 front

named_either : (name own : List ℕ) → (bytes_eq name own || bytes_eq name object_name) ≡ true → (name ≡ own) ⊎ (name ≡ object_name)
named_either name own e = (Decides-or (bytes_eq name own) (bytes_eq name object_name) (bytes_eq-Decides name own) (bytes_eq-Decides name object_name)).0 e

either_named : (name own : List ℕ) → (name ≡ own) ⊎ (name ≡ object_name) → (bytes_eq name own || bytes_eq name object_name) ≡ true
either_named name own h = (Decides-or (bytes_eq name own) (bytes_eq name object_name) (bytes_eq-Decides name own) (bytes_eq-Decides name object_name)).1 h

class_type_takes : (own bytes : List ℕ) (x : Kind × List ℕ) → class_type_at own bytes ≡ Some x → TakesType own (76 ∷ bytes) x
unfolding class_type_at
class_type_takes own bytes x e =
    let a = bind_some (name_at bytes) (λ name. cond (bytes_eq name.0 own || bytes_eq name.0 object_name) (Some (Reference, name.1)) None) x e in
    let b = past_true (bytes_eq a.0.0 own || bytes_eq a.0.0 object_name) (Some (Reference, a.0.1)) x a.2 in
    let n = name_takes bytes a.0 a.1 in
    let regroup : a.0.0 ++ 59 ∷ a.0.1 ≡ (a.0.0 ++ 59 ∷ []) ++ a.0.1 = simp append_assoc in
    given_as (TakesType own (76 ∷ bytes)) (Reference, a.0.1) x b.1
    (record { front = class_type a.0.0; parts = ap (λ (r : List ℕ). 76 ∷ r) (n.0 ∙ regroup); is_type = (a.0.0, refl, n.1, named_either a.0.0 own b.0) })

class_type_again : (own name rest : List ℕ) → HasNoSemicolon name → (name ≡ own) ⊎ (name ≡ object_name) → class_type_at own (name ++ 59 ∷ rest) ≡ Some (Reference, rest)
unfolding class_type_at
class_type_again own name rest h either = rw (name_again name rest h, either_named name own either) refl

pub type_takes : (own bytes : List ℕ) (x : Kind × List ℕ) → type_at own bytes ≡ Some x → TakesType own bytes x
unfolding type_at
type_takes own [] x e = absurd cc
type_takes own (b ∷ bytes) x e =
    elim (chosen (eqb b 73) (Some (Word, bytes)) (cond (eqb b 76) (class_type_at own bytes) None) (Some x) e) [
      | inl h ↦ given_as (TakesType own (b ∷ bytes)) (Word, bytes) x h.1 (record { front = b ∷ []; parts = refl; is_type = ap (λ (y : ℕ). y ∷ []) (eqb-true b 73 h.0) })
      | inr h ↦
          let a = past_true (eqb b 76) (class_type_at own bytes) x h.1 in
          subst (λ (y : ℕ). TakesType own (y ∷ bytes) x) (sym (eqb-true b 76 a.0)) (class_type_takes own bytes x a.1)
    ]

pub type_again : (own : List ℕ) (kind : Kind) (front rest : List ℕ) → IsType own kind front → type_at own (front ++ rest) ≡ Some (kind, rest)
unfolding type_at
type_again own Word front rest h = ap (λ (f : List ℕ). type_at own (f ++ rest)) h
type_again own Reference front rest h =
    let name = h.0 in
    let regroup : (name ++ 59 ∷ []) ++ rest ≡ name ++ 59 ∷ rest = append_assoc name (59 ∷ []) rest in
    ap (λ (f : List ℕ). type_at own (f ++ rest)) h.1 ∙ ap (class_type_at own) regroup ∙ class_type_again own name rest h.2 h.3

-- how a type begins
type_begins : (own : List ℕ) (kind : Kind) (front : List ℕ) → IsType own kind front → (b : ℕ) × (others : List ℕ) × (front ≡ b ∷ others) × ((b ≡ 73) ⊎ (b ≡ 76))
type_begins own Word front h = (73, [], h, inl refl)
type_begins own Reference front h = (76, h.0 ++ 59 ∷ [], h.1, inr refl)

pub whole_type_takes : (own bytes : List ℕ) (kind : Kind) → whole_type own bytes ≡ Some kind → IsType own kind bytes
unfolding whole_type
whole_type_takes own bytes kind e =
    let a = bind_some (type_at own bytes) (λ t. cond (eqb (length t.1) 0) (Some t.0) None) kind e in
    let b = past_true (eqb (length a.0.1) 0) (Some a.0.0) kind a.2 in
    let t = type_takes own bytes a.0 a.1 in
    let nothing : a.0.1 ≡ [] = nil_from_length a.0.1 (eqb-true (length a.0.1) 0 b.0) in
    let whole : bytes ≡ t.front = t.parts ∙ ap (λ (r : List ℕ). t.front ++ r) nothing ∙ append-nil t.front in
    subst (λ (k : Kind). IsType own k bytes) (some_is a.0.0 kind b.1) (subst (IsType own a.0.0) (sym whole) t.is_type)

pub whole_type_again : (own bytes : List ℕ) (kind : Kind) → IsType own kind bytes → whole_type own bytes ≡ Some kind
unfolding whole_type
whole_type_again own bytes kind h =
    let read : type_at own bytes ≡ Some (kind, []) = ap (type_at own) (sym (append-nil bytes)) ∙ type_again own kind bytes [] h in
    rw read refl

-- ---- the types of parameters

record TakesTypes (n : ℕ) (own bytes : List ℕ) (x : List Kind × List ℕ) : Type 0 where
  types : List ℕ
  parts : bytes ≡ types ++ x.1
  are_types : AreTypes own x.0 types
  few : length x.0 ≤ n

types_take : (n : ℕ) (own bytes : List ℕ) (x : List Kind × List ℕ) → types_at n own bytes ≡ Some x → TakesTypes n own bytes x
unfolding types_at
types_take zero own bytes x e = given_as (TakesTypes 0 own bytes) ([], bytes) x e (record { types = []; parts = refl; are_types = refl; few = omega arith })
types_take (suc n) own bytes x e =
    elim (chosen (is_closed bytes) (Some ([], bytes)) (type_at own bytes >>= λ first. types_at n own first.1 >>= λ others. Some (first.0 ∷ others.0, others.1)) (Some x) e) [
      | inl h ↦ given_as (TakesTypes (suc n) own bytes) ([], bytes) x h.1 (record { types = []; parts = refl; are_types = refl; few = omega arith })
      | inr h ↦
          let a = bind_some (type_at own bytes) (λ first. types_at n own first.1 >>= λ others. Some (first.0 ∷ others.0, others.1)) x h.1 in
          let b = bind_some (types_at n own a.0.1) (λ others. Some (a.0.0 ∷ others.0, others.1)) x a.2 in
          let t = type_takes own bytes a.0 a.1 in
          let r = types_take n own a.0.1 b.0 b.1 in
          let made : List Kind × List ℕ = (a.0.0 ∷ b.0.0, b.0.1) in
          let parts : bytes ≡ (t.front ++ r.types) ++ b.0.1 = t.parts ∙ ap (λ (y : List ℕ). t.front ++ y) r.parts ∙ sym (append_assoc t.front r.types b.0.1) in
          given_as (TakesTypes (suc n) own bytes) made x b.2
          (record { types = t.front ++ r.types; parts = parts; are_types = (t.front, r.types, refl, t.is_type, r.are_types); few = omega (arith, r.few) })
    ]

closed_not : (b : ℕ) → (b ≡ 73) ⊎ (b ≡ 76) → eqb b 41 ≡ false
closed_not b (inl e) = ap (λ (x : ℕ). eqb x 41) e
closed_not b (inr e) = ap (λ (x : ℕ). eqb x 41) e

type_not_closed : (own : List ℕ) (kind : Kind) (front rest : List ℕ) → IsType own kind front → is_closed (front ++ rest) ≡ false
type_not_closed own kind front rest h =
    let b = type_begins own kind front h in
    ap (λ (f : List ℕ). is_closed (f ++ rest)) b.2 ∙ closed_not b.0 b.3

types_again : (n : ℕ) (own : List ℕ) (kinds : List Kind) (types rest : List ℕ) → length kinds ≤ n → AreTypes own kinds types → types_at n own (types ++ 41 ∷ rest) ≡ Some (kinds, 41 ∷ rest)
unfolding types_at
types_again zero own [] types rest le h = ap (λ (t : List ℕ). types_at 0 own (t ++ 41 ∷ rest)) h
types_again (suc n) own [] types rest le h = ap (λ (t : List ℕ). types_at (suc n) own (t ++ 41 ∷ rest)) h
types_again zero own (kind ∷ kinds) types rest le h = absurd (omega (arith, le))
types_again (suc n) own (kind ∷ kinds) types rest le h =
    let front = h.0 in
    let others = h.1 in
    let regroup : types ++ 41 ∷ rest ≡ front ++ (others ++ 41 ∷ rest) = ap (λ (t : List ℕ). t ++ 41 ∷ rest) h.2 ∙ append_assoc front others (41 ∷ rest) in
    ap (types_at (suc n) own) regroup
    ∙ rw (type_not_closed own kind front (others ++ 41 ∷ rest) h.3, type_again own kind front (others ++ 41 ∷ rest) h.3, types_again n own kinds others rest (omega (arith, le)) h.4) refl

-- ---- results

result_kind_takes : (own bytes : List ℕ) (r : Option Kind) → kind_of_result own bytes ≡ Some r → IsResult own r bytes
unfolding kind_of_result
result_kind_takes own bytes r e =
    elim (chosen (bytes_eq bytes (codes "V")) (Some None) (whole_type own bytes >>= λ kind. Some (Some kind)) (Some r) e) [
      | inl h ↦ given_as (λ (o : Option Kind). IsResult own o bytes) None r h.1 ((bytes_eq-Decides bytes (codes "V")).0 h.0)
      | inr h ↦
          let a = bind_some (whole_type own bytes) (λ kind. Some (Some kind)) r h.1 in
          given_as (λ (o : Option Kind). IsResult own o bytes) (Some a.0) r a.2 (whole_type_takes own bytes a.0 a.1)
    ]

type_not_v : (own : List ℕ) (kind : Kind) (text : List ℕ) → IsType own kind text → bytes_eq text (codes "V") ≡ false
type_not_v own kind text h = not_true (bytes_eq text (codes "V")) (λ t. differs ((bytes_eq-Decides text (codes "V")).0 t))
  where
    differs : text ≡ codes "V" → ⊥
    differs e =
        let b = type_begins own kind text h in
        let one : b.0 ∷ b.1 ≡ 86 ∷ [] = sym b.2 ∙ e in
        begins b.0 (let n : b.0 ≡ 86 = cc in n) b.3
      where
        begins : (n : ℕ) → n ≡ 86 → (n ≡ 73) ⊎ (n ≡ 76) → ⊥
        begins n e (inl f) = absurd (omega (arith, e, f))
        begins n e (inr f) = absurd (omega (arith, e, f))

result_kind_again : (own bytes : List ℕ) (r : Option Kind) → IsResult own r bytes → kind_of_result own bytes ≡ Some r
unfolding kind_of_result
result_kind_again own bytes None h = rw ((bytes_eq-Decides bytes (codes "V")).1 h) refl
result_kind_again own bytes (Some kind) h = rw (type_not_v own kind bytes h, whole_type_again own bytes kind h) refl

result_takes : (own bytes : List ℕ) (r : Option Kind) → result_at own bytes ≡ Some r → (text : List ℕ) × (bytes ≡ 41 ∷ text) × IsResult own r text
unfolding result_at
result_takes own bytes r e =
    let a = bind_some (u1_at bytes) (λ mark. cond (eqb mark.0 41) (kind_of_result own mark.1) None) r e in
    let b = past_true (eqb a.0.0 41) (kind_of_result own a.0.1) r a.2 in
    (a.0.1, one_takes bytes a.0 a.1 ∙ ap (λ (x : ℕ). x ∷ a.0.1) (eqb-true a.0.0 41 b.0), result_kind_takes own a.0.1 r b.1)

result_again : (own text : List ℕ) (r : Option Kind) → IsResult own r text → result_at own (41 ∷ text) ≡ Some r
unfolding result_at
result_again own text r h = result_kind_again own text r h

-- ---- descriptors of methods

receiver_is : (access : Access) (b : Bool) → has_static access ≡ b → IsReceiver access (cond b [] (Reference ∷ []))
receiver_is access true e = inl ((Decides-static access).0 e, refl)
receiver_is access false e = inr (λ s. let both : true ≡ false = sym ((Decides-static access).1 s) ∙ e in absurd cc, refl)

receiver_again : (access : Access) (words : List Kind) → IsReceiver access words → receiver_of access ≡ words
receiver_again access words (inl h) = ap (λ (b : Bool). cond b [] (Reference ∷ [])) ((Decides-static access).1 h.0) ∙ sym h.1
receiver_again access words (inr h) = ap (λ (b : Bool). cond b [] (Reference ∷ [])) (not_true (has_static access) (λ s. h.0 ((Decides-static access).0 s))) ∙ sym h.1

pub typed_takes : (own : List ℕ) (access : Access) (desc : List ℕ) (x : List Kind × Option Kind) → typed_desc own access desc ≡ Some x → IsTypedDesc own access desc x.0 x.1
unfolding typed_desc arguments_at
typed_takes own access desc x e =
    let after = λ (arguments : List Kind × List ℕ). result_at own arguments.1 >>= λ result. let y : List Kind × Option Kind = (arguments.0, result) in Some y in
    let a = bind_some (u1_at desc) (λ mark. cond (eqb mark.0 40) (types_at 255 own mark.1 >>= λ types. let y : List Kind × List ℕ = (receiver_of access ++ types.0, types.1) in Some y) None >>= after) x e in
    let b = bind_some (cond (eqb a.0.0 40) (types_at 255 own a.0.1 >>= λ types. let y : List Kind × List ℕ = (receiver_of access ++ types.0, types.1) in Some y) None) after x a.2 in
    let g = past_true (eqb a.0.0 40) (types_at 255 own a.0.1 >>= λ types. let y : List Kind × List ℕ = (receiver_of access ++ types.0, types.1) in Some y) b.0 b.1 in
    let t = bind_some (types_at 255 own a.0.1) (λ types. let y : List Kind × List ℕ = (receiver_of access ++ types.0, types.1) in Some y) b.0 g.1 in
    let pair = some_is (receiver_of access ++ t.0.0, t.0.1) b.0 t.2 in
    let c = bind_some (result_at own b.0.1) (λ result. let y : List Kind × Option Kind = (b.0.0, result) in Some y) x b.2 in
    let is = some_is (b.0.0, c.0) x c.2 in
    let types = types_take 255 own a.0.1 t.0 t.1 in
    let result = result_takes own b.0.1 c.0 c.1 in
    let rest : t.0.1 ≡ 41 ∷ result.0 = ap (λ (y : List Kind × List ℕ). y.1) pair ∙ result.1 in
    let spelled : desc ≡ 40 ∷ types.types ++ 41 ∷ result.0 =
    one_takes desc a.0 a.1 ∙ ap (λ (y : ℕ). y ∷ a.0.1) (eqb-true a.0.0 40 g.0) ∙ ap (λ (y : List ℕ). 40 ∷ y) (types.parts ∙ ap (λ (y : List ℕ). types.types ++ y) rest) in
    let whole : IsTypedDesc own access desc b.0.0 c.0 = record {
      receiver = receiver_of access;
      parameters = t.0.0;
      types = types.types;
      result_type = result.0;
      few = types.few;
      are_types = types.are_types;
      is_result = result.2;
      is_receiver = receiver_is access (has_static access) refl;
      spelled = spelled;
      arguments_are = sym (ap (λ (y : List Kind × List ℕ). y.0) pair);
    } in
    subst (λ (y : List Kind × Option Kind). IsTypedDesc own access desc y.0 y.1) is whole

typed_again : (own : List ℕ) (access : Access) (desc : List ℕ) (arguments : List Kind) (result : Option Kind) → IsTypedDesc own access desc arguments result → typed_desc own access desc ≡ Some (arguments, result)
unfolding typed_desc arguments_at
typed_again own access desc arguments result h =
    ap (typed_desc own access) h.spelled
    ∙ rw (types_again 255 own h.parameters h.types h.result_type h.few h.are_types, result_again own h.result_type result h.is_result, receiver_again access h.receiver h.is_receiver)
    (ap (λ (w : List Kind). let y : List Kind × Option Kind = (w, result) in Some y) (sym h.arguments_are))

-- no parameter's type begins as main's does
not_array : (own : List ℕ) (kinds : List Kind) (types rest others : List ℕ) → AreTypes own kinds types → types ++ 41 ∷ rest ≡ 91 ∷ others → ⊥
not_array own [] types rest others h e =
    let one : 41 ∷ rest ≡ 91 ∷ others = sym (ap (λ (t : List ℕ). t ++ 41 ∷ rest) h) ∙ e in
    let n : ◌≡◌ {A = ℕ} 41 91 = cc in
    absurd (omega (arith, n))
not_array own (kind ∷ kinds) types rest others h e =
    let b = type_begins own kind h.0 h.3 in
    let one : b.0 ∷ (b.1 ++ (h.1 ++ 41 ∷ rest)) ≡ 91 ∷ others =
    sym (ap (λ (t : List ℕ). t ++ 41 ∷ rest) h.2 ∙ append_assoc h.0 h.1 (41 ∷ rest) ∙ ap (λ (f : List ℕ). f ++ (h.1 ++ 41 ∷ rest)) b.2) ∙ e in
    differs b.0 (let n : b.0 ≡ 91 = cc in n) b.3
  where
    differs : (n : ℕ) → n ≡ 91 → (n ≡ 73) ⊎ (n ≡ 76) → ⊥
    differs n f (inl g) = absurd (omega (arith, f, g))
    differs n f (inr g) = absurd (omega (arith, f, g))

typed_not_main : (own : List ℕ) (access : Access) (desc : List ℕ) (arguments : List Kind) (result : Option Kind) → IsTypedDesc own access desc arguments result → desc ≡ main_desc → ⊥
typed_not_main own access desc arguments result h e =
    let both : 40 ∷ (h.types ++ 41 ∷ h.result_type) ≡ 40 ∷ 91 ∷ codes "Ljava/lang/String;)V" = sym h.spelled ∙ e in
    not_array own h.parameters h.types h.result_type (codes "Ljava/lang/String;)V") h.are_types (let t : h.types ++ 41 ∷ h.result_type ≡ 91 ∷ codes "Ljava/lang/String;)V" = cc in t)

pub method_desc_takes : (own : List ℕ) (access : Access) (desc : List ℕ) (x : List Kind × Option Kind) → method_desc own access desc ≡ Some x → IsMethodDesc own access desc x.0 x.1
unfolding method_desc
method_desc_takes own access desc x e =
    elim (chosen (bytes_eq desc main_desc) (Some (receiver_of access ++ Reference ∷ [], None)) (typed_desc own access desc) (Some x) e) [
      | inl h ↦
          inl (given_as (λ (y : List Kind × Option Kind). IsMainDesc access desc y.0 y.1) (receiver_of access ++ Reference ∷ [], None) x h.1
          (record { receiver = receiver_of access; is_receiver = receiver_is access (has_static access) refl; spelled = (bytes_eq-Decides desc main_desc).0 h.0; arguments_are = refl; result_is = refl }))
      | inr h ↦ inr (typed_takes own access desc x h.1)
    ]

pub method_desc_again : (own : List ℕ) (access : Access) (desc : List ℕ) (arguments : List Kind) (result : Option Kind) → IsMethodDesc own access desc arguments result → method_desc own access desc ≡ Some (arguments, result)
unfolding method_desc
method_desc_again own access desc arguments result (inl h) =
    let test = (bytes_eq-Decides desc main_desc).1 h.spelled in
    let words : (receiver_of access ++ Reference ∷ [], None) ≡ (arguments, result) =
    ap (λ (w : List Kind). let y : List Kind × Option Kind = (w ++ Reference ∷ [], None) in y) (receiver_again access h.receiver h.is_receiver)
    ∙ ap (λ (w : List Kind). let y : List Kind × Option Kind = (w, None) in y) (sym h.arguments_are) ∙ ap (λ (r : Option Kind). let y : List Kind × Option Kind = (arguments, r) in y) (sym h.result_is) in
    rw test (ap (λ (y : List Kind × Option Kind). Some y) words)
method_desc_again own access desc arguments result (inr h) =
    let test : bytes_eq desc main_desc ≡ false = not_true (bytes_eq desc main_desc)
    (λ t. typed_not_main own access desc arguments result h ((bytes_eq-Decides desc main_desc).0 t)) in
    rw test (typed_again own access desc arguments result h)
