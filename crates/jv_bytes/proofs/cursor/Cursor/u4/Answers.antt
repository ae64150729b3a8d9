use Rattle.std.proofs.Common.{ap, ◌∙◌, ◌++◌, List, ℕ}
use Rattle.jv_bytes.proofs.NumberLaws.{front_is_number}
use Rattle.jv_bytes.proofs.cursor.Cursor.u4.Goals as goal

pub returns-clause-found : goal.returns-clause-found
returns-clause-found c =
    c.in_ok-bytes.ensures.found ∙ ap (λ (t : List ℕ). t ++ c.take.new.self) c.u32_of.ensures.text

pub returns-clause-read : goal.returns-clause-read
returns-clause-read c =
    let taken = c.in_ok-bytes in
    front_is_number 4 c.u32_of.result c.args.self.now taken.bytes.now c.take.new.self taken.ensures.len c.u32_of.ensures.read taken.ensures.found
