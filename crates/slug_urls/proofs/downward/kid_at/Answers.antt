-- No page has something that is no slug.
use Rattle.slug_urls.proofs.Descents.{no_slug_no_kid}
use Rattle.slug_urls.proofs.downward.kid_at.Goals as goal

pub returns-in_default : goal.returns-in_default
returns-in_default c slugs =
    no_slug_no_kid c.args.rows.now.pages c.args.page c.args.slug.now slugs c.in_default.ensures
