-- In a sound world the revisions that pages name are there.
use Rattle.std.proofs.Common.{◌≡◌, ℕ, Bool, true, false, nat_eq, List, [], ◌∷◌, ◌++◌, Option, Some, None, IsSome, refl, ap, subst, arith}
use Rattle.std.proofs.lemmas.Bool.Decides.{nat_tests}
use Rattle.std.specs.List.{AllByRecursion}
use Rattle.std.specs.Option.{IfSome, option_map}
use Rattle.page_tree.specs.Tree.{Forest, bare, grown}
use Rattle.page_tree.specs.Rows.{Row, rows_below, rows_of, row_with, child_url}
use Rattle.site_types.specs.declared.body.Body.{Body}
use Rattle.site_types.specs.declared.revision.Revision.{Revision}
use Rattle.tree_model.specs.Shape.{AllPages}
use Rattle.site_model.specs.Sound.{IsBody, IsSoundPart}
use Rattle.site_model.specs.World as worlds
use Rattle.page_store.specs.Pages.{Page}
use Rattle.page_store.proofs.AllLemmas.{All-append}
use Rattle.page_store.proofs.SeenLemmas.{All-find}
use Rattle.revision_shelf.specs.Shelf.{revision_with}
use Rattle.publishing.specs.Times.{body_in}
use Rattle.publishing.proofs.BodyLemmas.{eq_means}
use Rattle.link_plans.specs.Told.{NamesThere, AllNamed}
use Rattle.part_commits.proofs.StayLemmas.{own_there, waiting_there}

-- what holds of each page holds of its row
rows_all : (P : ℕ → Body → Type 0) (parent : Option ℕ) (path url : List ℕ) (f : Forest Body) →
    AllPages (λ id slug body. P id body) f →
    AllByRecursion (λ (row : Row Body). P row.id row.body) (rows_below parent path url f)
rows_all P parent path url bare all = tt
rows_all P parent path url (grown i s slug body kids rest) all = (
  all.0,
  All-append _ _ _
      (rows_all P (Some i) (path ++ s ∷ []) (child_url url slug) kids all.1)
      (rows_all P parent path url rest all.2),
)

-- The revisions that a page names are there.
pub record AllThere (revisions : List Revision) (body : Body) : Type 0 where
  pub latest : IfSome body.latest (λ id. IsSome (revision_with id revisions))
  pub shown : IfSome body.shown (λ id. IsSome (revision_with id revisions))
  pub scheduled : IfSome body.scheduled (λ id. IsSome (revision_with id revisions))

-- in a sound world they are
pub names_there : (part : worlds.TreePart) (page : ℕ) (body : Body) → IsSoundPart part →
    body_in page (rows_of part.tree) ≡ Some body → AllThere part.revisions body
names_there part page body sound found = at (row_with page (rows_of part.tree)) refl found
  where
    none_named : (body : Body) → body.latest ≡ None → body.shown ≡ None → body.scheduled ≡ None →
        AllThere part.revisions body
    none_named body latest shown scheduled =
        record { latest = rw latest tt; shown = rw shown tt; scheduled = rw scheduled tt }

    by_source : (id : ℕ) (body : Body) → (id ≡ 1 → ⊥) → (o : Option ℕ) → body.source ≡ o →
        IsBody part.revisions part.next_user part.next_workflow part.workflows id body →
        AllThere part.revisions body
    by_source id body other None is fits =
        let own = fits.regular other is in
        record {
          latest = own_there part.revisions id body.latest own.latest;
          shown = own_there part.revisions id body.shown own.shown;
          scheduled = waiting_there part.revisions id body.scheduled own.scheduled;
        }
    by_source id body other (Some source) is fits =
        let alias = rw is at fits.alias in
        none_named body alias.latest alias.shown alias.scheduled

    by : (id : ℕ) (body : Body) (t : Bool) → nat_eq id 1 ≡ t →
        IsBody part.revisions part.next_user part.next_workflow part.workflows id body →
        AllThere part.revisions body
    by id body true is fits =
        let root = fits.root (eq_means id 1 is) in
        none_named body (ap (λ (one : Body). one.latest) root) (ap (λ (one : Body). one.shown) root)
        (ap (λ (one : Body). one.scheduled) root)
    by id body false is fits =
        by_source id body (λ (same : id ≡ 1). absurd (grind (arith, nat_tests, same, is)))
        body.source refl fits

    at : (o : Option Page) → row_with page (rows_of part.tree) ≡ o →
        option_map (λ (row : Page). row.body) o ≡ Some body → AllThere part.revisions body
    at None e is = absurd (cc)
    at (Some row) e is =
        let one : row.body ≡ body = cc in
        subst (AllThere part.revisions) one
        (by row.id row.body (nat_eq row.id 1) refl
        (All-find (λ (row : Page).
        IsBody part.revisions part.next_user part.next_workflow part.workflows row.id row.body)
        (λ (row : Page). nat_eq row.id page) (rows_of part.tree) row
        (rows_all (IsBody part.revisions part.next_user part.next_workflow part.workflows) None []
        [] part.tree sound.bodies.bodies) e))

-- so those that they have as their latest and shown ones are
pub all_named : (part : worlds.TreePart) → IsSoundPart part →
    AllNamed (rows_of part.tree) part.revisions
all_named part sound page = by (body_in page (rows_of part.tree)) refl
  where
    by : (o : Option Body) → body_in page (rows_of part.tree) ≡ o →
        IfSome o (NamesThere part.revisions)
    by None is = tt
    by (Some body) is =
        let all = names_there part page body sound is in
        record { latest = all.latest; shown = all.shown }
