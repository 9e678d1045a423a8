-- A copy comes: the rows of its pages may be put in one after the other, and the rows are then those of
-- the tree with the copies grafted in.
use Rattle.std.proofs.Common.{◌≡◌, ◌+◌, ℕ, List, [], ◌∷◌, ◌++◌, length, Option, Some, refl, sym, ap, subst, ◌∙◌}
use Rattle.std.specs.List.{AllByRecursion}
use Rattle.page_tree.specs.Tree.{Forest, bare, grown, End, AreRising, kids_of, step_needed, graft}
use Rattle.page_tree.specs.Rows.{row_with, rows_below, rows_of, child_url}
use Rattle.step_path.specs.Path.{IsPath, path_text}
use Rattle.site_types.specs.declared.body.Body.{Body}
use Rattle.site_types.specs.declared.page_row.PageRow.{PageRow}
use Rattle.page_store.specs.Pages.{Page, EachPair}
use Rattle.page_store.proofs.AllLemmas.{All-append}
use Rattle.tree_rows.proofs.Apart.{AreApart}
use Rattle.publishing.specs.Laws.{IsUntimed}
use Rattle.flat_model.specs.Fits.{PagesFit}
use Rattle.flat_model.specs.Made.{with_pages}
use Rattle.site_model.specs.World.{TreePart}
use Rattle.site_model.specs.Create.{fresh_body}
use Rattle.site_model.specs.Copies.{size_of, copies, with_first_slug}
use Rattle.page_copies.specs.Copied.{copy_rows}
use Rattle.page_copies.proofs.ComingPairs.{Differ}
use Rattle.page_copies.proofs.CopiedRows.{copy_listed}
use Rattle.page_copies.proofs.GraftedRows.{graft_fits, graft_comes}

-- copies are neither live nor scheduled
all_untimed : (part : TreePart) (caller number : ℕ) (parent : Option ℕ) (path url : List ℕ)
    (f : Forest Body) →
    AllByRecursion (λ (row : Page). IsUntimed row.body)
    (rows_below parent path url (copies part caller number f))
all_untimed part caller number parent path url bare = tt
all_untimed part caller number parent path url (grown i s slug body kids rest) = (
  (refl, refl),
  All-append (λ (row : Page). IsUntimed row.body)
      (rows_below (Some (part.next_page + number)) (path ++ s ∷ []) (child_url url slug)
      (copies part caller (number + 1) kids))
      (rows_below parent path url (copies part caller (number + 1 + size_of kids) rest))
      (all_untimed part caller (number + 1) (Some (part.next_page + number)) (path ++ s ∷ [])
      (child_url url slug) kids)
      (all_untimed part caller (number + 1 + size_of kids) parent path url rest),
)

module _ (part : TreePart) (caller parent page step : ℕ) (slug new : List ℕ) (body : Body)
    (kids : Forest Body) (top : Page) (rising : AreRising 0 part.tree) (apart : AreApart part.tree)
    (found : row_with parent (rows_of part.tree) ≡ Some top)
    (pairs : EachPair Differ (rows_of (graft parent End
    (with_first_slug new (copies part caller 0 (grown page step slug body kids bare))) part.tree)))
    (paths : AllByRecursion (λ (row : Page). IsPath row.path) (rows_of (graft parent End
    (with_first_slug new (copies part caller 0 (grown page step slug body kids bare))) part.tree)))
  where
    -- the path and the URL of the copy
    abbrev own : List ℕ
    own = top.path ++ step_needed End (kids_of parent part.tree) ∷ []

    abbrev own_url : List ℕ
    own_url = child_url top.url new

    -- the rows that come with it
    abbrev pub rows_coming : List (PageRow × List ℕ)
    rows_coming = (
      record {
        id = part.next_page + 0;
        path = path_text own;
        depth = length own;
        numchild = 0;
        slug = new;
        body = fresh_body caller (part.next_revision + 0);
      },
      own_url,
    )
        ∷ copy_rows part caller (0 + 1) (rows_below (Some page) own own_url kids)

    -- they are neither live nor scheduled
    untimed : AllByRecursion (λ (row : Page). IsUntimed row.body)
        (rows_below (Some parent) top.path top.url
        (grown (part.next_page + 0) (step_needed End (kids_of parent part.tree)) new
        (fresh_body caller (part.next_revision + 0)) (copies part caller (0 + 1) kids) bare))
    untimed = (
      (refl, refl),
      All-append (λ (row : Page). IsUntimed row.body)
          (rows_below (Some (part.next_page + 0)) own own_url (copies part caller (0 + 1) kids)) []
          (all_untimed part caller (0 + 1) (Some (part.next_page + 0)) own own_url kids) tt,
    )

    -- they may come one after the other
    pub copy_fits : PagesFit rows_coming (rows_of part.tree)
    copy_fits =
        subst (λ rows. PagesFit rows (rows_of part.tree))
        (copy_listed part caller parent page (step_needed End (kids_of parent part.tree)) top.path
        top.url new kids)
        (graft_fits part.tree rising apart parent (part.next_page + 0) step new
        (fresh_body caller (part.next_revision + 0)) (copies part caller (0 + 1) kids) top found pairs
        paths untimed)

    -- and then the rows are those of the tree with the copies
    pub copy_comes : with_pages rows_coming (rows_of part.tree)
        ≡ rows_of (graft parent End
        (with_first_slug new (copies part caller 0 (grown page step slug body kids bare))) part.tree)
    copy_comes =
        ap (λ rows. with_pages rows (rows_of part.tree))
        (sym (copy_listed part caller parent page (step_needed End (kids_of parent part.tree)) top.path
        top.url new kids))
        ∙ graft_comes part.tree rising apart parent (part.next_page + 0) step new
        (fresh_body caller (part.next_revision + 0)) (copies part caller (0 + 1) kids) top found pairs
        paths untimed
