-- Values and the words that they take.
use Rattle.std.proofs.Common.{◌≡◌, ℕ, zero, suc, ◌+◌, ◌-◌, ◌≤◌, Bool, false, List, [], ◌∷◌, ◌++◌, length, refl, sym, ap, ◌∙◌, append_assoc, length-append, arith}
use Rattle.std.specs.Prelude.{replicate, ◌||◌}
use Rattle.std.specs.List.{AllByRecursion}
use Rattle.std.proofs.lemmas.List.{append-nil, length-replicate}
use Rattle.std.proofs.lemmas.Grind.{flat_map-append}
use Rattle.jv_types.specs.declared.frames.VType.{VType, Top, Integer, Float, Long, Double, Null, UninitThis, Uninit, Class, PrimArray, Array'}
use Rattle.jv_types.specs.declared.frames.Frame.{Frame}
use Rattle.jv_frames.specs.Types.{is_uninit_this, has_uninit_this, type_words, in_words, padded, frame_of}
use Rattle.av_asm.specs.Mapping.{values_of}

value_first : (t : VType) (words : List VType) → values_of (type_words t ++ words) ≡ t ∷ values_of words
value_first Top words = refl
value_first Integer words = refl
value_first Float words = refl
value_first Long words = refl
value_first Double words = refl
value_first Null words = refl
value_first UninitThis words = refl
value_first (Uninit pc) words = refl
value_first (Class name) words = refl
value_first (PrimArray prim) words = refl
value_first (Array' shape items) words = refl

-- the values of the words of values are these
pub values_back : (types words : List VType) → values_of (in_words types ++ words) ≡ types ++ values_of words
values_back [] words = refl
values_back (t ∷ types) words =
    ap values_of (append_assoc (type_words t) (in_words types) words) ∙ value_first t (in_words types ++ words) ∙ ap (λ (ts : List VType). t ∷ ts) (values_back types words)

-- ---- Top behind values

abbrev pub tops : ℕ → List VType
tops n = replicate n Top

top_values : (n : ℕ) → values_of (tops n) ≡ tops n
top_values zero = refl
top_values (suc n) = ap (λ (ts : List VType). Top ∷ ts) (top_values n)

top_words : (n : ℕ) → in_words (tops n) ≡ tops n
top_words zero = refl
top_words (suc n) = ap (λ (ts : List VType). Top ∷ ts) (top_words n)

no_uninit : (n : ℕ) → has_uninit_this (tops n) ≡ false
no_uninit zero = refl
no_uninit (suc n) = no_uninit n

uninit_before : (types : List VType) (n : ℕ) → has_uninit_this (types ++ tops n) ≡ has_uninit_this types
uninit_before [] n = no_uninit n
uninit_before (t ∷ types) n = ap (λ (b : Bool). is_uninit_this t || b) (uninit_before types n)

pub each_behind : (P : VType → Type 0) (types : List VType) (n : ℕ) → P Top → AllByRecursion P types → AllByRecursion P (types ++ tops n)
each_behind P [] zero top h = tt
each_behind P [] (suc n) top h = (top, each_behind P [] n top tt)
each_behind P (t ∷ types) n top h = (h.0, each_behind P types n top h.1)

-- ---- the values of a frame

-- the values of the local variables of a frame of these types: they and Top behind them make the same frame
pub record AreLocals (max_locals : ℕ) (locals : List VType) : Type 0 where
  pub count : ℕ
  pub values : values_of (padded max_locals (in_words locals)) ≡ locals ++ tops count
  pub words : in_words (locals ++ tops count) ≡ padded max_locals (in_words locals)
  pub long : length (in_words (locals ++ tops count)) ≡ max_locals

pub locals_are : (max_locals : ℕ) (locals : List VType) → length (in_words locals) ≤ max_locals → AreLocals max_locals locals
locals_are max_locals locals fits =
    let n = max_locals - length (in_words locals) in
    let words : in_words (locals ++ tops n) ≡ padded max_locals (in_words locals) = flat_map-append type_words locals (tops n) ∙ ap (λ (ws : List VType). in_words locals ++ ws) (top_words n) in
    record {
      count = n;
      values = values_back locals (tops n) ∙ ap (λ (ts : List VType). locals ++ ts) (top_values n);
      words = words;
      long = ap length words ∙ length-append (in_words locals) (tops n) ∙ ap (λ (k : ℕ). length (in_words locals) + k) (length-replicate n Top) ∙ sums (length (in_words locals)) fits;
    }
  where
    sums : (k : ℕ) → k ≤ max_locals → k + (max_locals - k) ≡ max_locals
    sums k le = omega arith

-- nothing is padded where there are so many words
unpadded : (max_locals : ℕ) (words : List VType) → length words ≡ max_locals → padded max_locals words ≡ words
unpadded max_locals words long = ap (λ (n : ℕ). words ++ tops n) (none (length words) long) ∙ append-nil words
  where
    none : (k : ℕ) → k ≡ max_locals → max_locals - k ≡ 0
    none k e = omega (arith, e)

-- the frame of its own values is the frame
pub frame_back : (max_locals : ℕ) (locals stack : List VType) (h : AreLocals max_locals locals) → frame_of max_locals (locals ++ tops h.count) stack ≡ frame_of max_locals locals stack
frame_back max_locals locals stack h =
    let words : padded max_locals (in_words (locals ++ tops h.count)) ≡ padded max_locals (in_words locals) = unpadded max_locals (in_words (locals ++ tops h.count)) h.long ∙ h.words in
    let flag = uninit_before locals h.count in
    ap (λ (ws : List VType). let f : Frame = record { locals = ws; stack = in_words stack; this_uninit = has_uninit_this (locals ++ tops h.count) } in f) words
    ∙ ap (λ (b : Bool). let f : Frame = record { locals = padded max_locals (in_words locals); stack = in_words stack; this_uninit = b } in f) flag

pub stack_back : (stack : List VType) → values_of (in_words stack) ≡ stack
stack_back stack = ap values_of (sym (append-nil (in_words stack))) ∙ values_back stack [] ∙ append-nil stack
