-- The pages of a sound world have slugs.
use Rattle.site_core.proofs.FindLemmas.{have_slugs}
use Rattle.site_core.proofs.state.Core.find.Goals as goal

pub returns : goal.returns
returns c = λ world ready.
    let pages = ready.stands.tree.pages in
    c.find_live.ensures world.part.tree pages
    (have_slugs world.part ready.reached.sound.part.pages c.args.self.now.tree.rows.pages pages)
