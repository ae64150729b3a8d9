-- What a test's answer says.
use Rattle.std.proofs.Common.{◌≡◌, Bool, true, false, refl, sym, ◌∙◌, subst}
use Rattle.std.specs.Prelude.{IsTrue, ◌↔◌, Option, Some, None, IfNone, IfSome, IfOk, Result, Ok, Err}

pub denied : {P : Type 0} (b : Bool) → b ≡ false → (P → IsTrue b) → P → ⊥
denied b e f p = let t : b ≡ true = f p in let q : false ≡ true = sym e ∙ t in cc

pub granted : {P : Type 0} (b : Bool) → b ≡ true → (IsTrue b → P) → P
granted b e f = f e

pub yes : (P : Type 0) → P → IsTrue true ↔ P
yes P p = (λ _. p, λ _. refl)

pub never : (P : Type 0) → (P → ⊥) → IsTrue false ↔ P
never P fails = (λ e. absurd cc, λ p. absurd (fails p))

-- a test that was answered no decides what is not so
pub never_at : (P : Type 0) (b : Bool) → b ≡ false → (P → ⊥) → IsTrue b ↔ P
never_at P b e fails = (λ t. absurd (let q : false ≡ true = sym e ∙ t in cc), λ p. absurd (fails p))

pub none_weaker : {A : Type 0} (o : Option A) (P Q : Type 0) → (P → Q) → IfNone o P → IfNone o Q
none_weaker None P Q f h = f h
none_weaker (Some x) P Q f h = h

pub some_weaker : {A : Type 0} (o : Option A) (P Q : A → Type 0) → ((x : A) → P x → Q x) → IfSome o P → IfSome o Q
some_weaker None P Q f h = h
some_weaker (Some x) P Q f h = f x h

pub ok_none : {A E : Type 0} (r : Result (Option A) E) (P Q : Type 0) → (P → Q) → IfOk r (λ o. IfNone o P) → IfOk r (λ o. IfNone o Q)
ok_none (Ok o) P Q f h = none_weaker o P Q f h
ok_none (Err e) P Q f h = h

pub ok_some : {A E : Type 0} (r : Result (Option A) E) (P Q : A → Type 0) → ((x : A) → P x → Q x) → IfOk r (λ o. IfSome o P) → IfOk r (λ o. IfSome o Q)
ok_some (Ok o) P Q f h = some_weaker o P Q f h
ok_some (Err e) P Q f h = h

pub none_at : {A : Type 0} (o : Option A) (P : Type 0) → o ≡ None → IfNone o P → P
none_at None P e h = h
none_at (Some x) P e h = absurd cc

pub some_at : {A : Type 0} (o : Option A) (x : A) (P : A → Type 0) → o ≡ Some x → IfSome o P → P x
some_at None x P e h = absurd cc
some_at (Some y) x P e h = let is : y ≡ x = cc in subst P is h
