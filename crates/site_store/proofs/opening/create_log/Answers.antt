-- The journal that was created holds no entries.
use Rattle.site_store.proofs.OpenLemmas.{created_opened}
use Rattle.site_store.proofs.opening.create_log.Goals as goal

pub returns-in-Ok-clause-ok : goal.returns-in-Ok-clause-ok
returns-in-Ok-clause-ok g c = λ bytes empty.
    created_opened (g.D.Disk.is_honest c.args.disk.now) bytes c.args.core.now c.in-Ok.log
    (g.D.Disk.size c.create.new.disk) (g.D.Disk.past c.create.new.disk) empty c.requires
    c.in-Ok.ensures.log c.in-Ok.ensures.keeps c.in-Ok.ensures.size
