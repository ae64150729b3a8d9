use Rattle.av_outcome.proofs.telling.write_refusal.Goals as goal

pub returns-in-File-clause-handed : goal.returns-in-File-clause-handed
returns-in-File-clause-handed g c =
    rw c.in-File.is (rw (c.number.ensures, c.as_bytes.ensures.value, c.name.ensures, c.as_slice.ensures) at c.write_pieces.ensures.handed)

pub returns-in-Class-clause-handed : goal.returns-in-Class-clause-handed
returns-in-Class-clause-handed g c =
    rw c.in-Class.is
    (rw (c.number.ensures, c.as_bytes.ensures.value, c.name.ensures, c.as_slice-in-Class.ensures) at c.write_pieces-in-Class.ensures.handed)

pub returns-in-Method-clause-handed : goal.returns-in-Method-clause-handed
returns-in-Method-clause-handed g c =
    rw c.in-Method.is
    (rw (c.number.ensures, c.as_bytes.ensures.value, c.name.ensures, c.as_slice-in-Method.ensures, c.as_slice-in-Method-2.ensures, c.as_slice-in-Method-3.ensures)
    at c.write_pieces-in-Method.ensures.handed)
