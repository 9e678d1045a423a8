use Rattle.std.proofs.Common.{◌-◌, min, length, ◌∙◌, refl, arith, ap, sym}
use Rattle.disk_model.specs.Past.{seen}
use Rattle.journal.proofs.ScanLemmas.{HasRead-fresh}
use Rattle.journal.proofs.scan.recover.Goals as goal

pub returns-clause-ok : goal.returns-clause-ok
returns-clause-ok g c = λ honest.
    let past = g.D.Disk.past c.args.disk.now in
    let file_is = c.journal_file-file.ensures in
    HasRead-fresh c.args.k c.in_ok-size.size c.in_ok-read_at.field-0 _ _ _ _
    (c.in_ok-size.ensures.length
    ∙ g.met.D.Disk.sizes_are c.args.disk.now honest c.journal_file-file.result
    ∙ ap (λ f. length (seen past f)) file_is)
    (omega arith)
    (c.in_ok-read_at.ensures.count ∙ ap (λ s. min 16 (s - 0))
    (c.len.ensures.sizes c.journal_file-file.result ∙ sym c.in_ok-size.ensures.length))
    refl
    (c.in_ok-read_at.ensures.moved (c.len.ensures.honest honest))
    (ap (λ p. seen p c.journal_file-file.result) (c.len.ensures.same honest)
    ∙ ap (seen past) file_is)
    (c.is_header.ensures.0 c.if-not-is_header.false)
