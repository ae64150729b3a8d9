-- The local variables before a store.
use Rattle.std.proofs.Common.{◌≡◌, if◌then◌else◌, List, [], ◌∷◌, ◌++◌, refl, sym, ap, ◌∙◌, append_assoc}
use Rattle.jv_types.specs.declared.frames.VType.{VType, Top}
use Rattle.jv_insn.specs.Kinds.{is_wide}
use Rattle.jv_typing.specs.Typing.{halved}

pub halved_last : (rest : List VType) (last : VType) → halved (rest ++ last ∷ []) ≡ rest ++ (if is_wide last then Top else last) ∷ []
halved_last [] last = refl
halved_last (type ∷ []) last = refl
halved_last (type ∷ next ∷ rest) last = ap (λ (ts : List VType). type ∷ ts) (halved_last (next ∷ rest) last)

pub pushed_halved : (old copies new before rest : List VType) (last word : VType) → before ≡ rest ++ last ∷ [] → copies ≡ old ++ rest → new ≡ copies ++ word ∷ []
    → word ≡ (if is_wide last then Top else last) → new ≡ old ++ halved before
pushed_halved old copies new before rest last word is copied pushed e =
    pushed ∙ ap (λ (ws : List VType). ws ++ word ∷ []) copied ∙ append_assoc old rest (word ∷ []) ∙ ap (λ (w : VType). old ++ (rest ++ w ∷ [])) e
    ∙ ap (λ (ws : List VType). old ++ ws) (sym (halved_last rest last)) ∙ ap (λ (ws : List VType). old ++ halved ws) (sym is)
