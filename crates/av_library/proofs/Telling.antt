-- What is known of each source, told of the files of the names that were answered.
use Rattle.std.proofs.Common.{◌≡◌, ◌≤◌, inl, inr, Bool, true, false, ltb, ℕ, List, [], ◌∷◌, ◌++◌, sum_by, if◌then◌else◌, Option, Some, None, IfSome, refl, sym, subst, arith}
use Rattle.std.proofs.Math.Logic.{∥∥₁_elim, ∥∥₁_map}
use Rattle.std.specs.Coded.{coded_ℕ, coded_bool, le_prop}
use base.Stored.{Coded-set}
use Rattle.std.specs.List.{list_any}
use Rattle.std.proofs.lemmas.Bool.{ltb-true}
use Rattle.jv_types.specs.declared.quantity.Quantity.{Quantity}
use Rattle.jv_types.specs.declared.quantity.Quantity.TheVariants as quantities
use Rattle.jv_host.specs.declared.host.HostFile.{HostFile}
use Rattle.av_library.specs.declared.counted.Counted.{Counted}
use Rattle.av_library.specs.declared.history.Asked.{Asked}
use Rattle.av_library.specs.History.{answered_in, is_answered}
use Rattle.av_library.specs.Counting.{AreCounted, PassNone, PassesBy, counted_for, is_long, most_library_bytes, passed_of, size_of}
use Rattle.av_library.proofs.Counts.{counted_step, within}
use Rattle.av_library.proofs.Histories.{answered_more}

-- what was counted, where it is only known that it was
abbrev AreTold : List HostFile → List ℕ → List (List ℕ) → Counted → Type 0
AreTold files root names counted = ∥ IfSome (Some files) (λ told. AreCounted told root names counted) ∥₁

one_long : (files : List HostFile) (root : List ℕ) (names : List (List ℕ)) (counted : Counted) → AreTold files root names counted → counted.long ≡ true → list_any (is_long files root) names ≡ true
one_long files root names counted h e = ∥∥₁_elim h (Coded-set coded_bool (list_any (is_long files root) names) true) (λ k. k.one_long e)

no_more : (files : List HostFile) (root : List ℕ) (names : List (List ℕ)) (counted : Counted) → AreTold files root names counted → counted.bytes ≤ sum_by (size_of files root) names
no_more files root names counted h = ∥∥₁_elim h le_prop (λ k. k.no_more)

pub passes_by : (told : Option (List HostFile)) (root : List ℕ) (names : List (List ℕ)) (counted : Counted) → ∥ IfSome told (λ files. AreCounted files root names counted) ∥₁
    → IfSome told (λ files. (quantity : Quantity) → passed_of counted ≡ Some quantity → PassesBy files root names quantity)
passes_by None root names counted h = tt
passes_by (Some files) root names counted h = λ quantity e. by quantity counted.long (ltb most_library_bytes counted.bytes) refl refl e
  where
    by : (quantity : Quantity) (long over : Bool) → counted.long ≡ long → ltb most_library_bytes counted.bytes ≡ over
        → (if long then Some quantities.FileBytes else (if over then Some quantities.LibraryBytes else None)) ≡ Some quantity → PassesBy files root names quantity
    by quantity true over l o e = let is : quantity ≡ quantities.FileBytes = cc in inl (is, one_long files root names counted h l)
    by quantity false true l o e =
        let is : quantity ≡ quantities.LibraryBytes = cc in
        let lt = ltb-true most_library_bytes counted.bytes o in
        let le = no_more files root names counted h in
        inr (is, omega arith)
    by quantity false false l o e = absurd cc

pub pass_none : (told : Option (List HostFile)) (root : List ℕ) (names : List (List ℕ)) (counted : Counted) → ∥ IfSome told (λ files. AreCounted files root names counted) ∥₁
    → IfSome told (λ files. passed_of counted ≡ None → PassNone files root names)
pass_none None root names counted h = tt
pass_none (Some files) root names counted h = λ e. record {
  none_long = ∥∥₁_elim h (Coded-set coded_bool (list_any (is_long files root) names) false) (λ k. k.none_long e);
  few =
      let all : counted.bytes ≡ sum_by (size_of files root) names = ∥∥₁_elim h (Coded-set coded_ℕ counted.bytes (sum_by (size_of files root) names)) (λ k. k.all e) in
      let le = within counted e in
      omega arith;
}

-- what was counted goes on being right
pub right_next : (told later : Option (List HostFile)) (root name : List ℕ) (history : List (List ℕ × Asked)) (asked : Asked) (before after : Counted) → later ≡ told
    → ∥ IfSome told (λ files. AreCounted files root (answered_in history) before) ∥₁ → IfSome told (λ files. after ≡ counted_for (is_answered asked) (size_of files root name) before)
    → ∥ IfSome later (λ files. AreCounted files root (answered_in (history ++ (name, asked) ∷ [])) after) ∥₁
right_next told later root name history asked before after same h is =
    subst (λ (o : Option (List HostFile)). ∥ IfSome o (λ files. AreCounted files root (answered_in (history ++ (name, asked) ∷ [])) after) ∥₁) (sym same)
    (∥∥₁_map h (λ k.
    subst (λ (names : List (List ℕ)). IfSome told (λ files. AreCounted files root names after)) (sym (answered_more history name asked))
    (counted_step told root name (answered_in history) (is_answered asked) before after k is)))
