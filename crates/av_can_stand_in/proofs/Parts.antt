-- Where the classes of a world of a program come from: class files of the application, and classes of the library, of
-- which just the collected members are kept.
use Rattle.std.proofs.Common.{◌≡◌, ℕ, ◌⊎◌, inl, inr, true, false, List, Contains, sym, ◌∙◌, subst}
use Rattle.std.proofs.lemmas.List.Elements.{Contains-append_cases}
use Rattle.jv_lists.proofs.Places.{among_at, placed}
use Rattle.jv_lists.proofs.Zips.{zip_back}
use Rattle.jv_types.specs.declared.shapes.Shape.{Shape}
use Rattle.jv_class.specs.declared.class_file.ClassFile.{ClassFile}
use Rattle.jv_class.specs.Shapes.{IsShapeOf}
use Rattle.av_collected.specs.Answers.{FailsNot, IsReduced, IsUnfitName}
use Rattle.av_collected.specs.Libraries.{HasShape, LibraryFile}
use Rattle.av_collected.specs.Naming.{Application}
use Rattle.av_collected.specs.Rules.{ClassNamed, IsCollected}
use Rattle.av_stops.specs.LibraryFolders.{IsStated}
use Rattle.av_stops.specs.Programs.{IsCollectedWorld, IsOfFile}

-- the shape is that of a class file of the application
pub record IsOwn (classes : List ClassFile) (s : Shape) : Type 0 where
  pub class : ClassFile
  pub here : Contains classes class
  pub states : IsShapeOf class true s

-- the shape has just the collected members of a collected class
pub record IsCut (given : Application) (library : List LibraryFile) (s : Shape) : Type 0 where
  pub full : Shape
  pub collected : IsCollected given library (ClassNamed full.name)
  pub has : HasShape library full.name full
  pub reduced : IsReduced given library full s

-- a collected class has no name that a class of a library may not have
pub fit_name : (given : Application) (library : List LibraryFile) → FailsNot given library → (name : List ℕ) → IsCollected given library (ClassNamed name) → IsUnfitName name → ⊥
fit_name given library passed name collected unfit =
    passed.1 name (collected, λ file. passed.0 name (collected, file.0, file.1, file.2, inr (inl (subst IsUnfitName (sym file.2) unfit))))

module _ (w : List Shape) (dims : ℕ) (p : IsCollectedWorld w dims) where
  pub own_of : (s : Shape) → Contains p.given.shapes s → IsOwn p.classes s
  own_of s among =
      let own = zip_back (λ (class : ClassFile) (shape : Shape). IsShapeOf class true shape) p.classes p.given.shapes p.is_given.shapes among.0 s (placed p.given.shapes s among) in
      record { class = own.0; here = among_at p.classes among.0 own.0 own.1; states = own.2 }

  pub cut_of : (s : Shape) → Contains p.found.shapes s → IsCut p.given p.library s
  cut_of s among =
      let full = zip_back (IsReduced p.given p.library) p.found.full p.found.shapes p.collected.reduced among.0 s (placed p.found.shapes s among) in
      let own = p.collected.each full.0 (among_at p.found.full among.0 full.0 full.1) in
      record { full = full.0; collected = own.0; has = own.1; reduced = full.2 }

  pub parts : (s : Shape) → Contains w s → Contains p.given.shapes s ⊎ Contains p.found.shapes s
  parts s here = Contains-append_cases p.given.shapes p.found.shapes s (subst (λ (l : List Shape). Contains l s) p.world here)

  -- a class file of the application
  pub own_file : (s : Shape) (own : IsOwn p.classes s) → IsOfFile own.class
  own_file s own = (p.of_files own.class own.here).0

  -- the whole class of the library is that of a class file
  pub cut_stated : (s : Shape) (cut : IsCut p.given p.library s) → IsStated cut.full
  cut_stated s cut = p.stated cut.has.0 cut.full cut.has.1 cut.has.3

  pub own_marked : (s : Shape) → IsOwn p.classes s → s.application ≡ true
  own_marked s own = own.states.marked

  pub cut_marked : (s : Shape) → IsCut p.given p.library s → s.application ≡ false
  cut_marked s cut = cut.reduced.application ∙ (p.is_library.shapes cut.has.0 cut.full cut.has.1 cut.has.3).of_library

  -- a class of the world that isn't the application's
  pub library_cut : (s : Shape) → Contains w s → s.application ≡ false → IsCut p.given p.library s
  library_cut s here library = by (parts s here)
    where
      by : Contains p.given.shapes s ⊎ Contains p.found.shapes s → IsCut p.given p.library s
      by (inl own) = let e : true ≡ false = sym (own_marked s (own_of s own)) ∙ library in absurd cc
      by (inr behind) = cut_of s behind
