-- What a change tells of the pages after it: what becomes of rows, and all of it between sound worlds.
use Rattle.std.proofs.Common.{◌≡◌, ℕ, Bool, nat_eq, cond, List, Option, Some, None, IsSome, map, refl, sym, ap, subst, ◌∙◌, rules}
use Rattle.std.specs.List.{list_any}
use Rattle.page_tree.specs.Rows.{rows_of, row_with}
use Rattle.site_types.specs.declared.revision.Revision.{Revision}
use Rattle.page_store.specs.Changes.{without_range}
use Rattle.page_store.specs.Pages.{Page, EachPair, HasOtherId}
use Rattle.page_store.proofs.AllLemmas.{All-always}
use Rattle.page_store.proofs.CutLemmas.{any-map}
use Rattle.publishing.specs.Times.{body_in, AreLeft}
use Rattle.flat_model.specs.Fits.{TreeFits}
use Rattle.flat_model.specs.Made.{subtree}
use Rattle.flat_model.specs.declared.change.TreeChange.{TreeChange}
use Rattle.flat_model.specs.declared.change.TreeChange.TheVariants as trees
use Rattle.link_plans.specs.Told.{gone_with, AreRowsTold, AllNamed, revisions_made}
use Rattle.link_plans.proofs.FitLemmas.{change_tells}
use Rattle.link_plans.proofs.TellLemmas.{told_gone, told_rows}
use Rattle.part_commits.specs.Laws.{SoundStepsTell}
use Rattle.part_commits.proofs.NameLemmas.{all_named}
use Rattle.part_commits.proofs.RowBodies.{left_kept, kept_moved, kept_named}

-- without a page and all below it the pages are left without those that go with it
pub left_gone : (id : ℕ) (rows : List Page) → IsSome (row_with id rows) →
    EachPair HasOtherId rows → AreLeft (gone_with id rows) rows (without_range id rows)
left_gone id rows there own page = by (row_with id rows) refl there
  where
    by : (o : Option Page) → row_with id rows ≡ o → IsSome o →
        body_in page (without_range id rows)
        ≡ cond (list_any (λ one. nat_eq one page) (gone_with id rows)) None (body_in page rows)
    by None found some = absurd (search (rules, some))
    by (Some top) found some =
        left_kept page id top rows found own
        ∙ ap (λ (t : Bool). cond t None (body_in page rows))
        (sym (ap (λ (ids : List ℕ). list_any (λ one. nat_eq one page) ids) (gone top found)
        ∙ any-map (λ (one : ℕ). nat_eq one page) (λ (row : Page). row.id)
        (λ (row : Page). nat_eq row.id page) (subtree top.path rows)
        (All-always (λ (row : Page). nat_eq row.id page ≡ nat_eq row.id page) (λ row. refl)
        (subtree top.path rows))))
      where
        gone : (top : Page) → row_with id rows ≡ Some top →
            gone_with id rows ≡ map (λ (row : Page). row.id) (subtree top.path rows)
        gone top found = rw found refl

-- a change of the rows that fits is told
pub rows_told : (tree : TreeChange) (rows : List Page) → TreeFits tree rows →
    EachPair HasOtherId rows → AreRowsTold tree rows
rows_told trees.Nothing rows fits own page = refl
rows_told (trees.Insert new) rows fits own page = told_rows new rows fits page
rows_told (trees.Move plan urls) rows fits own page = kept_moved page plan urls rows own
rows_told (trees.Delete id) rows fits own page =
    left_gone id rows fits.0 own page
    ∙ sym (told_gone (gone_with id rows) page (body_in page rows))
rows_told (trees.Rename id slug urls) rows fits own page = kept_named page id slug urls rows

-- a change that leads from a sound world to another tells all of the pages after it
pub steps_tell : SoundStepsTell
steps_tell before after change sound later fits own pages revisions =
    change_tells (rows_of before.tree) before.revisions change sound.revisions.revisions_rise
    fits.revisions fits.bodies (rows_told change.tree (rows_of before.tree) fits.tree own)
    (all_named before sound)
    (subst (λ (rows : List Page). AllNamed rows (revisions_made change before.revisions))
    (sym pages)
    (subst (λ (list : List Revision). AllNamed (rows_of after.tree) list) (sym revisions)
    (all_named after later)))
