-- The length of the file says whether it is empty, and changes nothing.
use Rattle.std.proofs.Common.{◌≡◌, [], length, sym, ap, subst, ◌∙◌}
use Rattle.disk_model.specs.Past.{Past, seen}
use Rattle.site_store.specs.Opening.{start, IsBadAt, KeepsFiles}
use Rattle.site_store.proofs.OpenLemmas.{opened-under, none_of, some_if_not_none}
use Rattle.site_store.proofs.opening.open_log.Goals as goal

pub returns-in-Ok-eq0-clause-ok : goal.returns-in-Ok-eq0-clause-ok
returns-in-Ok-eq0-clause-ok g c =
    let empty : g.D.Disk.is_honest c.len.new.self → seen (g.D.Disk.past c.len.new.self) 3 ≡ [] =
    λ honest. none_of (seen (g.D.Disk.past c.len.new.self) 3)
    (sym (g.met.D.Disk.sizes_are c.len.new.self honest 3)
    ∙ (c.in-Ok-eq0.ensures.sizes 3 ∙ (sym c.in-Ok-eq0.ensures.length ∙ c.in-Ok-eq0.field-0-test))) in
    opened-under (g.D.Disk.is_honest c.len.new.self) (g.D.Disk.is_honest c.args.disk.now)
    (seen (g.D.Disk.past c.len.new.self) 3) (seen (g.D.Disk.past c.args.disk.now) 3) c.args.core.now
    (g.D.Disk.size c.create_log.new.disk) (g.D.Disk.past c.create_log.new.disk) c.create_log.result
    (λ honest. c.in-Ok-eq0.ensures.honest honest)
    (λ honest. ap (λ (p : Past). seen p 3) (c.in-Ok-eq0.ensures.same honest))
    (c.create_log.ensures.ok (seen (g.D.Disk.past c.len.new.self) 3) empty)

pub returns-in-Ok-clause-bad : goal.returns-in-Ok-clause-bad
returns-in-Ok-clause-bad g c = λ honest file offset is.
    let bad = c.recover_log.ensures.bad (c.in-Ok.ensures.honest honest) file offset is in
    let size : c.in-Ok.field-0 ≡ length (seen (g.D.Disk.past c.args.disk.now) 3) =
    c.in-Ok.ensures.length ∙ g.met.D.Disk.sizes_are c.args.disk.now honest 3 in (
      bad.0,
      some_if_not_none (length (seen (g.D.Disk.past c.args.disk.now) 3))
          (λ none. c.in-Ok.field-0-test.1 (size ∙ none)),
      subst (λ (p : Past). IsBadAt 1 start (seen p 3) offset) (c.in-Ok.ensures.same honest) bad.1,
    )

pub returns-in-Ok-clause-files : goal.returns-in-Ok-clause-files
returns-in-Ok-clause-files g c = λ honest some.
    subst (λ (p : Past). KeepsFiles p (g.D.Disk.past c.recover_log.new.disk))
    (c.in-Ok.ensures.same honest)
    (c.recover_log.ensures.files (c.in-Ok.ensures.honest honest))
