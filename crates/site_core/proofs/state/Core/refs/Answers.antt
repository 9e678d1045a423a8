-- The pairs in step have the pages that link to the page, if it is there.
use Rattle.std.proofs.Common.{◌≡◌, true, false, List, Some, take, is_some, refl, sym, ap, subst, ◌∙◌}
use Rattle.page_tree.specs.Tree.{has_page}
use Rattle.page_store.specs.Pages.{Page, ArePages}
use Rattle.public_view.specs.declared.refs.TheConstants.{MAX_REFS}
use Rattle.link_plans.proofs.RefLaws.{pairs_refs}
use Rattle.site_core.proofs.LinkRoom.{world_linked}
use Rattle.site_core.proofs.LookUpLemmas.{found_row}
use Rattle.site_core.proofs.state.Core.refs.Goals as goal

pub returns-in_default : goal.returns-in_default
returns-in_default c = λ world ready.
    let core = c.args.self.now in
    let gone : has_page c.args.id world.part.tree ≡ false =
    sym (found_row c.row.result c.args.id world.part.tree core.tree.rows.pages c.row.ensures
    ready.stands.tree.pages)
    ∙ ap is_some c.in_default.is in
    rw gone refl

pub returns : goal.returns
returns c = λ world ready.
    let core = c.args.self.now in
    let there : has_page c.args.id world.part.tree ≡ true =
    sym (found_row c.row.result c.args.id world.part.tree core.tree.rows.pages c.row.ensures
    ready.stands.tree.pages)
    ∙ ap is_some c.in-Some.is in
    rw there
    (ap Some (c.in_ok-refs.ensures.value
    ∙ ap (take MAX_REFS) (pairs_refs world.part core.tree.links.pairs c.args.id
    (subst (λ (rows : List Page). ArePages rows) ready.stands.tree.pages c.len-len.ensures.pages)
    c.in_ok-refs.ensures.rise (world_linked core.tree world.part ready.stands.tree))))
