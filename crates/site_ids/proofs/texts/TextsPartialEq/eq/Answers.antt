use Rattle.std.proofs.lemmas.Slice.Eq.{slice_eq-Decides, bytes_eq-Decides}
use Rattle.site_ids.proofs.texts.TextsPartialEq.eq.Goals as goal

pub returns-clause-same : goal.returns-clause-same
returns-clause-same c =
    rw (← c.as_slice.ensures, ← c.as_slice-2.ensures)
    (slice_eq-Decides bytes_eq-Decides _ _ _ c.eq.ensures)
