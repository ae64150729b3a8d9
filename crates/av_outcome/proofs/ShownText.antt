-- The shown form of a text, byte by byte.
use Rattle.std.proofs.Common.{codes, ◌≡◌, ℕ, zero, suc, ◌<◌, List, [], ◌∷◌, ◌++◌, length, get_or, take, drop, refl, ap, ◌∙◌, sym, append_assoc, arith}
use Rattle.jv_bytes.specs.Shown.{shown_byte, shown_text}

-- the text before a byte, the byte, and the text after it
pub shown_text-at : (text : List ℕ) (i : ℕ) → i < length text → shown_text text ≡ shown_text (take i text) ++ (shown_byte (get_or text i 0) ++ shown_text (drop (suc i) text))
shown_text-at [] i lt = absurd (omega arith)
shown_text-at (b ∷ text) zero lt = refl
shown_text-at (b ∷ text) (suc i) lt =
    ap (λ (t : List ℕ). shown_byte b ++ t) (shown_text-at text i (omega arith))
    ∙ sym (append_assoc (shown_byte b) (shown_text (take i text)) (shown_byte (get_or text i 0) ++ shown_text (drop (suc i) text)))

shown_text-append : (x y : List ℕ) → shown_text (x ++ y) ≡ shown_text x ++ shown_text y
shown_text-append [] y = refl
shown_text-append (b ∷ x) y = ap (λ (t : List ℕ). shown_byte b ++ t) (shown_text-append x y) ∙ sym (append_assoc (shown_byte b) (shown_text x) (shown_text y))

-- a line that ends with a name
pub line_of_name : (before name : List ℕ) → before ++ (shown_text name ++ 10 ∷ []) ≡ before ++ shown_text name ++ 10 ∷ []
line_of_name before name = sym (append_assoc before (shown_text name) (10 ∷ []))

-- a line that ends with a file's name
pub line_of_file : (before name : List ℕ) → before ++ (shown_text name ++ (codes ".class" ++ 10 ∷ [])) ≡ before ++ shown_text (name ++ codes ".class") ++ 10 ∷ []
line_of_file before name =
    ap (λ (t : List ℕ). before ++ t) (sym (append_assoc (shown_text name) (codes ".class") (10 ∷ [])) ∙ ap (λ (t : List ℕ). t ++ 10 ∷ []) (sym (shown_text-append name (codes ".class"))))
    ∙ sym (append_assoc before (shown_text (name ++ codes ".class")) (10 ∷ []))
