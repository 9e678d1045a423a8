-- The URLs are found, the reply is told, and room is made.
use Rattle.std.proofs.Common.{refl, ◌∙◌}
use Rattle.site_types.specs.declared.command.Command.TheVariants.{SetSlug}
use Rattle.site_model.specs.Slugs.{slug_rules}
use Rattle.tree_edits.specs.Naming.{AreNewUrls}
use Rattle.new_pages.proofs.AskedLemmas.{own_refused, planned_is}
use Rattle.new_pages.proofs.CommandLemmas.{slug_own}
use Rattle.tree_edits.proofs.SlugLemmas.{slug_named, row_named, slug_planned}
use Rattle.tree_edits.proofs.renaming.plan_renaming.Goals as goal

pub urls_with-requires : goal.urls_with-requires
urls_with-requires c = (
  c.requires.0,
  slug_named c.args.part.now c.requires.0 c.requires.1 c.args.page c.args.slug.now c.requires.2,
)

pub returns-in-Err-clause-plan : goal.returns-in-Err-clause-plan
returns-in-Err-clause-plan c = λ world desk caller asked.
    own_refused c.args.part.now c.args.part.now world desk c.args.now caller
    (SetSlug c.args.page c.args.slug.now) asked
    (slug_rules world.tree c.args.page c.args.slug.now)
    (slug_own world desk c.args.now caller c.args.page c.args.slug.now)
    (AreNewUrls world.tree c.args.page c.args.slug.now) c.in-Err.fault
    (c.in-Err.ensures world (slug_named c.args.part.now world caller c.args.page c.args.slug.now
    asked))

pub told_page-requires : goal.told_page-requires
told_page-requires c =
    row_named c.args.part.now.rows.pages c.requires.0 c.args.page c.args.slug.now
    (slug_named c.args.part.now c.requires.0 c.requires.1 c.args.page c.args.slug.now c.requires.2)

pub returns-clause-plan : goal.returns-clause-plan
returns-clause-plan c = λ world desk caller asked.
    let made = c.in-Ok.ensures world (slug_named c.args.part.now world caller c.args.page
    c.args.slug.now asked) in
    planned_is (SetSlug c.args.page c.args.slug.now) _ world desk c.args.now caller _ _ _ _
    c.quiet.ensures c.of_tree-change.ensures
    (slug_planned c.args.part.now world desk c.args.now caller c.args.page c.args.slug.now asked
    c.later.ensures.moment c.in-Ok.urls made.0 made.1 c.len-len.ensures.pages _ _ _ _ _ (record {
      pages = c.reserve.ensures.pages;
      revisions = refl;
      lists = record { users = refl; groups = refl; members = refl; grants = refl };
      flows = record { tasks = refl; workflows = refl };
      desks = refl;
      time = refl;
      next_page = refl;
      next_revision = refl;
      indexes = record { expiries = refl; go_lives = refl; aliases = refl; links = refl };
    }) c.in-Ok-reserve.ensures.ok c.in-Ok-told_page.ensures
    (c.from_vec-none.ensures ∙ c.new.ensures.items) c.copy-slug.ensures c.later.ensures.value)
