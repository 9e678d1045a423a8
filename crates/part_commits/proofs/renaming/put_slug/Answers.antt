-- The slug first, and then the URLs.
use Rattle.std.proofs.Common.{List, sym, ap, subst, ◌∙◌}
use Rattle.page_store.specs.Pages.{Page, ArePages}
use Rattle.page_store.specs.Relabelling.{relabelled_rows, AreListed, first_moved, KeepParents}
use Rattle.tree_model.specs.Changes.{with_urls}
use Rattle.part_commits.proofs.SlugRows.{only_urls, only_urls_pages, only_urls_parents, none_listed, listed_after}
use Rattle.part_commits.proofs.renaming.put_slug.Goals as goal

pub relabel-requires-clause-paths_listed : goal.relabel-requires-clause-paths_listed
relabel-requires-clause-paths_listed g c =
    subst (AreListed c.set_slug.new.self.pages) (sym c.no_paths-paths.ensures)
    (none_listed c.set_slug.new.self.pages)

pub relabel-requires-clause-urls_listed : goal.relabel-requires-clause-urls_listed
relabel-requires-clause-urls_listed g c =
    subst (AreListed c.set_slug.new.self.pages)
    (sym (c.from_vec.ensures ∙ c.into_vec-pairs.ensures))
    (subst (λ rows. AreListed rows c.args.urls) (sym c.set_slug.ensures.pages)
    (listed_after c.args.page c.args.slug c.args.rows.now.pages c.args.urls c.requires.listed))

pub relabel-requires-clause-are_pages : goal.relabel-requires-clause-are_pages
relabel-requires-clause-are_pages g c =
    subst (λ paths. ArePages (relabelled_rows 0 0 0 paths c.from_vec.result
    c.set_slug.new.self.pages)) (sym c.no_paths-paths.ensures)
    (only_urls_pages c.set_slug.new.self.pages c.len-len.ensures.pages c.from_vec.result)

pub relabel-requires-clause-parents : goal.relabel-requires-clause-parents
relabel-requires-clause-parents g c =
    let rows = c.set_slug.new.self.pages in
    subst (λ paths. KeepParents (first_moved 0 0 rows) rows
    (relabelled_rows 0 0 0 paths c.from_vec.result rows)) (sym c.no_paths-paths.ensures)
    (only_urls_parents rows c.len-len.ensures.pages c.from_vec.result)

pub returns : goal.returns
returns g c =
    let rows = c.set_slug.new.self.pages in
    c.relabel.ensures.pages
    ∙ (ap (λ paths. relabelled_rows 0 0 0 paths c.from_vec.result rows) c.no_paths-paths.ensures
    ∙ (only_urls rows c.len-len.ensures.pages c.from_vec.result
    ∙ (ap (λ pairs. with_urls pairs rows rows) (c.from_vec.ensures ∙ c.into_vec-pairs.ensures)
    ∙ ap (λ (list : List Page). with_urls c.args.urls list list) c.set_slug.ensures.pages)))
