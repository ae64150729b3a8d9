-- Steps of functions that give a value or nothing.
use Rattle.std.proofs.Common.{◌≡◌, ◌⊎◌, inl, inr, Bool, true, false, cond, Option, Some, None, Result, Err, subst, refl}
use Rattle.std.specs.Option.{is_some}
use Rattle.calls_form.specs.declared.read_error.ReadError.{ReadError}
use Rattle.calls_form.specs.declared.read_error.ReadError.TheVariants as errors
use Rattle.calls_form.specs.Reading.{Fails}

-- which way a test went
pub chosen : {A : Type 0} (b : Bool) (x y z : A) → cond b x y ≡ z → ((b ≡ true) × (x ≡ z)) ⊎ ((b ≡ false) × (y ≡ z))
chosen true x y z e = inl (refl, e)
chosen false x y z e = inr (refl, e)

pub some_value : {A : Type 0} (o : Option A) → is_some o ≡ true → (x : A) × (o ≡ Some x)
some_value None e = absurd cc
some_value (Some x) e = (x, refl)

pub none_value : {A : Type 0} (o : Option A) → is_some o ≡ false → o ≡ None
none_value None e = refl
none_value (Some x) e = absurd cc

-- an error that was passed on is the one that came
pub err_is : {X : Type 0} (r : Result X ReadError) (y e : ReadError) → r ≡ Err y → y ≡ e → r ≡ Err errors.Malformed → e ≡ errors.Malformed
err_is r y e p q h = cc

pub failed_read : {X Y : Type 0} (r : Result X ReadError) (y e : ReadError) (read : Option Y) → r ≡ Err y → y ≡ e → r ≡ Err errors.Malformed → Fails e read → read ≡ None
failed_read r y e read p q h fails = subst (λ (x : ReadError). Fails x read) (err_is r y e p q h) fails
