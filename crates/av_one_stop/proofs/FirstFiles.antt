-- The files of an application stop once.
use Rattle.std.proofs.Common.{◌≡◌, ℕ, ◌+◌, ◌≤◌, ◌⊎◌, inl, inr, List, [], ◌∷◌, ◌++◌, length, refl, sym, ap, ◌∙◌, subst, ⊎_elim, arith}
use Rattle.std.specs.List.{AllZip}
use Rattle.std.proofs.lemmas.List.Sums.{sum_by-append, sum_by-cons}
use Rattle.jv_types.specs.declared.refusal.RulePlace.TheVariants as places
use Rattle.jv_types.specs.declared.rule.Rule.{Rule}
use Rattle.jv_types.specs.declared.rule.Rule.TheVariants as rules
use Rattle.jv_class.specs.declared.class_file.ClassFile.{ClassFile}
use Rattle.jv_class.specs.ClassTexts.{ClassText}
use Rattle.av_program.specs.declared.accept_stop.AcceptStop.{AcceptStop}
use Rattle.av_program.specs.declared.accept_stop.AcceptStop.TheVariants as stops
use Rattle.av_app_files.specs.Folders.{Folders, Source}
use Rattle.av_app_files.specs.FileRules.{AreAllLoaded, AreLoaded, FailsFile, by_form, by_version, by_name, by_library, by_reserve, HasOtherName, HasReservedName, HasWrongVersion, IsInBoth, IsLoaded, IsStopAt, too_long, too_many, refused, StopsAtFile, StopsInFiles, at_list, at_file, bytes_in, most_app_bytes}
use Rattle.av_one_application.proofs.Loading.{OneText, one_sources}

-- ---- rules of one file

-- the first of four rules that fails
abbrev FailsOne : Type 0 → Type 0 → Type 0 → Type 0 → Rule → Type 0
FailsOne V N B R rule =
    ((rule ≡ rules.Version) × V)
    ⊎ (((rule ≡ rules.NameMismatch) × ¬ V × N)
    ⊎ (((rule ≡ rules.InBoth) × ¬ V × ¬ N × B)
    ⊎ ((rule ≡ rules.ReservedName) × ¬ V × ¬ N × ¬ B × R)))

one_of : (V N B R : Type 0) (rule another : Rule) → FailsOne V N B R rule → FailsOne V N B R another → rule ≡ another
one_of V N B R rule another (inl p) (inl q) = p.0 ∙ sym q.0
one_of V N B R rule another (inl p) (inr (inl q)) = absurd (q.1 p.1)
one_of V N B R rule another (inl p) (inr (inr (inl q))) = absurd (q.1 p.1)
one_of V N B R rule another (inl p) (inr (inr (inr q))) = absurd (q.1 p.1)
one_of V N B R rule another (inr (inl p)) (inl q) = absurd (p.1 q.1)
one_of V N B R rule another (inr (inl p)) (inr (inl q)) = p.0 ∙ sym q.0
one_of V N B R rule another (inr (inl p)) (inr (inr (inl q))) = absurd (q.2 p.2)
one_of V N B R rule another (inr (inl p)) (inr (inr (inr q))) = absurd (q.2 p.2)
one_of V N B R rule another (inr (inr (inl p))) (inl q) = absurd (p.1 q.1)
one_of V N B R rule another (inr (inr (inl p))) (inr (inl q)) = absurd (p.2 q.2)
one_of V N B R rule another (inr (inr (inl p))) (inr (inr (inl q))) = p.0 ∙ sym q.0
one_of V N B R rule another (inr (inr (inl p))) (inr (inr (inr q))) = absurd (q.3 p.3)
one_of V N B R rule another (inr (inr (inr p))) (inl q) = absurd (p.1 q.1)
one_of V N B R rule another (inr (inr (inr p))) (inr (inl q)) = absurd (p.2 q.2)
one_of V N B R rule another (inr (inr (inr p))) (inr (inr (inl q))) = absurd (p.3 q.3)
one_of V N B R rule another (inr (inr (inr p))) (inr (inr (inr q))) = p.0 ∙ sym q.0

abbrev FailsBy : Folders → Source → Rule → ClassFile → Type 0
FailsBy folders source rule class =
    FailsOne (HasWrongVersion class) (HasOtherName class source.name) (IsInBoth folders source.name) (HasReservedName class) rule

-- the file is no class, or its class fails one of the others
abbrev FailsSo : Folders → Source → Rule → Type 0
FailsSo folders source rule =
    ((rule ≡ rules.NotClass) × ((class : ClassFile) → ¬ ClassText class source.bytes))
    ⊎ ((class : ClassFile) × ClassText class source.bytes × FailsBy folders source rule class)

fails_so : (folders : Folders) (source : Source) (rule : Rule) → FailsFile folders source rule → FailsSo folders source rule
fails_so folders source rule (by_form is none) = inl (is, none)
fails_so folders source rule (by_version class is text v) = inr (class, text, inl (is, v))
fails_so folders source rule (by_name class is text v n) = inr (class, text, inr (inl (is, v, n)))
fails_so folders source rule (by_library class is text v n b) = inr (class, text, inr (inr (inl (is, v, n, b))))
fails_so folders source rule (by_reserve class is text v n b r) = inr (class, text, inr (inr (inr (is, v, n, b, r))))

fails_loaded : (V N B R : Type 0) (rule : Rule) → FailsOne V N B R rule → ¬ V → ¬ N → ¬ B → ¬ R → ⊥
fails_loaded V N B R rule (inl p) v n b r = v p.1
fails_loaded V N B R rule (inr (inl p)) v n b r = n p.2
fails_loaded V N B R rule (inr (inr (inl p))) v n b r = b p.3
fails_loaded V N B R rule (inr (inr (inr p))) v n b r = r p.4

-- ---- where two lists are cut

abbrev Goes : {X : Type 0} → List X → X → List X → Type 0
Goes {X} xs x ys = (mid : List X) × (ys ≡ xs ++ x ∷ mid)

cut : {X : Type 0} (xs ys : List X) (x y : X) (more others : List X) → xs ++ x ∷ more ≡ ys ++ y ∷ others
    → ((xs ≡ ys) × (x ≡ y)) ⊎ (Goes xs x ys ⊎ Goes ys y xs)
cut [] [] x y more others e = let h : x ≡ y = cc in inl (refl, h)
cut [] (b ∷ ys) x y more others e = let h : x ≡ b = cc in inr (inl (ys, ap (λ z. z ∷ ys) (sym h)))
cut (a ∷ xs) [] x y more others e = let h : a ≡ y = cc in inr (inr (xs, ap (λ z. z ∷ xs) h))
cut {X} (a ∷ xs) (b ∷ ys) x y more others e =
    let h : a ≡ b = cc in
    let t : xs ++ x ∷ more ≡ ys ++ y ∷ others = cc in
    ⊎_elim
    (λ p. inl ((λ i. h i ∷ p.0 i), p.1))
    (λ p. inr (⊎_elim (λ q. inl (q.0, (λ i. sym h i ∷ q.1 i))) (λ q. inr (q.0, (λ i. h i ∷ q.1 i))) p))
    (cut xs ys x y more others t)

module _ (text : OneText) (folders : Folders) where
  one_rule : (source : Source) (rule another : Rule) → FailsSo folders source rule → FailsSo folders source another → rule ≡ another
  one_rule source rule another (inl p) (inl q) = p.0 ∙ sym q.0
  one_rule source rule another (inl p) (inr q) = absurd (p.1 q.0 q.1)
  one_rule source rule another (inr p) (inl q) = absurd (q.1 p.0 p.1)
  one_rule source rule another (inr p) (inr q) =
      let same : p.0 ≡ q.0 = text source.bytes p.0 q.0 p.1 q.1 in
      one_of (HasWrongVersion q.0) (HasOtherName q.0 source.name) (IsInBoth folders source.name) (HasReservedName q.0) rule another
      (subst (λ (c : ClassFile). FailsBy folders source rule c) same p.2) q.2

  not_loaded : (source : Source) (rule : Rule) (class : ClassFile) → FailsSo folders source rule → IsLoaded folders source class → ⊥
  not_loaded source rule class (inl p) loaded = p.1 class loaded.text
  not_loaded source rule class (inr p) loaded =
      let same : p.0 ≡ class = text source.bytes p.0 class p.1 loaded.text in
      fails_loaded (HasWrongVersion class) (HasOtherName class source.name) (IsInBoth folders source.name) (HasReservedName class) rule
      (subst (λ (c : ClassFile). FailsBy folders source rule c) same p.2) loaded.version loaded.named loaded.alone loaded.free

  one_stop_at : (before : ℕ) (source : Source) (stop other : AcceptStop) → IsStopAt folders before source stop → IsStopAt folders before source other → stop ≡ other
  one_stop_at before source stop other (too_long is long) (too_long its far) = is ∙ sym its
  one_stop_at before source stop other (too_long is long) (too_many its short many) = absurd (omega (arith, long, short))
  one_stop_at before source stop other (too_long is long) (refused rule its short few fails) = absurd (omega (arith, long, short))
  one_stop_at before source stop other (too_many is short many) (too_long its far) = absurd (omega (arith, far, short))
  one_stop_at before source stop other (too_many is short many) (too_many its brief more) = is ∙ sym its
  one_stop_at before source stop other (too_many is short many) (refused rule its brief few fails) = absurd (omega (arith, many, few))
  one_stop_at before source stop other (refused rule is short few fails) (too_long its far) = absurd (omega (arith, far, short))
  one_stop_at before source stop other (refused rule is short few fails) (too_many its brief more) = absurd (omega (arith, more, few))
  one_stop_at before source stop other (refused rule is short few fails) (refused another its brief little cause) =
      let same : rule ≡ another = one_rule source rule another (fails_so folders source rule fails) (fails_so folders source another cause) in
      is ∙ ap (λ (r : Rule). stops.Refused (record { rule = r; place = places.File source.name })) same ∙ sym its

  not_stopped : (before : ℕ) (source : Source) (stop : AcceptStop) (class : ClassFile) → IsStopAt folders before source stop → IsLoaded folders source class
      → before + length source.bytes ≤ most_app_bytes → ⊥
  not_stopped before source stop class (too_long is long) loaded few = let short = loaded.short in absurd (omega (arith, long, short))
  not_stopped before source stop class (too_many is short many) loaded few = absurd (omega (arith, many, few))
  not_stopped before source stop class (refused rule is short sum fails) loaded few = not_loaded source rule class (fails_so folders source rule fails) loaded

  among : (xs mid : List Source) (x : Source) (classes : List ClassFile) → AllZip (IsLoaded folders) (xs ++ x ∷ mid) classes → (class : ClassFile) × IsLoaded folders x class
  among [] mid x [] p = absurd p
  among [] mid x (c ∷ classes) p = (c, p.0)
  among (y ∷ xs) mid x [] p = absurd p
  among (y ∷ xs) mid x (c ∷ classes) p = among xs mid x classes p.1

  counted : (xs mid : List Source) (x : Source) → bytes_in xs + length x.bytes ≤ bytes_in (xs ++ x ∷ mid)
  counted xs mid x =
      let whole : bytes_in (xs ++ x ∷ mid) ≡ bytes_in xs + bytes_in (x ∷ mid) = sum_by-append (λ (source : Source). length source.bytes) xs (x ∷ mid) in
      let last : bytes_in (x ∷ mid) ≡ length x.bytes + bytes_in mid = sum_by-cons (λ (source : Source). length source.bytes) x mid in
      omega (arith, whole, last)

  -- a file that passes with those behind it is where nothing stops
  passed_over : (xs ys : List Source) (x : Source) (stop : AcceptStop) (classes : List ClassFile) → IsStopAt folders (bytes_in xs) x stop → Goes xs x ys → AreLoaded folders ys classes → ⊥
  passed_over xs ys x stop classes p goes loaded =
      let own : AreLoaded folders (xs ++ x ∷ goes.0) classes = subst (λ (all : List Source). AreLoaded folders all classes) goes.1 loaded in
      let class = among xs goes.0 x classes own.each in
      let few = own.few in
      let sum = counted xs goes.0 x in
      not_stopped (bytes_in xs) x stop class.0 p class.1 (omega (arith, few, sum))

  one_at_file : (stop other : AcceptStop) → StopsAtFile folders stop → StopsAtFile folders other → stop ≡ other
  one_at_file stop other p q =
      let same : p.before ++ p.source ∷ p.after ≡ q.before ++ q.source ∷ q.after =
      one_sources folders (p.before ++ p.source ∷ p.after) (q.before ++ q.source ∷ q.after) p.sources q.sources in
      ⊎_elim
      (λ e.
      let counts : IsStopAt folders (bytes_in q.before) p.source stop = subst (λ (l : List Source). IsStopAt folders (bytes_in l) p.source stop) e.0 p.stops in
      one_stop_at (bytes_in q.before) q.source stop other (subst (λ (s : Source). IsStopAt folders (bytes_in q.before) s stop) e.1 counts) q.stops)
      (λ e. absurd
      (⊎_elim
      (λ goes. passed_over p.before q.before p.source stop q.classes p.stops goes q.loaded)
      (λ goes. passed_over q.before p.before q.source other p.classes q.stops goes p.loaded)
      e))
      (cut p.before q.before p.source q.source p.after q.after same)

  pub one_stop : (stop other : AcceptStop) → StopsInFiles folders stop → StopsInFiles folders other → stop ≡ other
  one_stop stop other (at_list is many) (at_list its more) = is ∙ sym its
  one_stop stop other (at_list is many) (at_file few q) = absurd (few many)
  one_stop stop other (at_file few p) (at_list its more) = absurd (few more)
  one_stop stop other (at_file few p) (at_file little q) = one_at_file stop other p q

  pub none_loaded : (stop : AcceptStop) (classes : List ClassFile) → StopsInFiles folders stop → AreAllLoaded folders classes → ⊥
  none_loaded stop classes (at_list is many) loaded = loaded.few many
  none_loaded stop classes (at_file few p) loaded =
      let same : loaded.sources ≡ p.before ++ p.source ∷ p.after = one_sources folders loaded.sources (p.before ++ p.source ∷ p.after) loaded.are_sources p.sources in
      passed_over p.before loaded.sources p.source stop classes p.stops (p.after, same) loaded.loaded
