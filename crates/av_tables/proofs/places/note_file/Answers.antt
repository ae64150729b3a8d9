use Rattle.std.proofs.Common.{◌≡◌, ℕ, List, Some, Contains, ap, ◌∙◌, subst}
use Rattle.jv_resolve.proofs.PlacesLemmas.{read_at}
use Rattle.av_tables.proofs.Placing.{left_out, noted}
use Rattle.av_tables.proofs.places.note_file.Goals as goal

pub returns-in-Some : goal.returns-in-Some
returns-in-Some c =
    noted c.args.names.now c.args.files.now c.args.at c.index-files-at.result c.requires.rising (read_at c.args.files.now c.args.at c.index-files-at.result c.requires.here c.index-files-at.is)
    c.args.places.now.items c.requires.before c.in-Some.class (c.in-Some.ensures.found ∙ ap (λ (n : List ℕ). Some n) c.name.ensures)

pub returns-in_default : goal.returns-in_default
returns-in_default c =
    left_out c.args.names.now c.args.files.now c.args.at c.index-files-at.result c.requires.rising (read_at c.args.files.now c.args.at c.index-files-at.result c.requires.here c.index-files-at.is)
    c.args.places.now.items c.requires.before (subst (λ (n : List ℕ). Contains c.args.names.now n → ⊥) c.name.ensures c.in_default.ensures.none)
