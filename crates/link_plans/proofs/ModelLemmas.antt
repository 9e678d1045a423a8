-- The links of a world's pages, by its tree and by its rows.
use Rattle.std.proofs.Common.{◌≡◌, ℕ, Bool, true, false, cond, nat_eq, ◌&&◌, ◌||◌, List, [], ◌∷◌, ◌++◌, Option, Some, None, refl, sym, ap, ◌∙◌}
use Rattle.std.specs.Option.{option_map, option_or, option_and_then}
use Rattle.std.proofs.lemmas.List.Folds.{find-append}
use Rattle.page_tree.specs.Tree.{Forest, bare, grown, node_of, or_else}
use Rattle.page_tree.specs.Walk.{kid_count}
use Rattle.page_tree.specs.Rows.{rows_below, rows_of, row_with, child_url}
use Rattle.site_types.specs.declared.body.Body.{Body}
use Rattle.page_store.specs.Pages.{Page}
use Rattle.site_model.specs.World.{TreePart}
use Rattle.site_model.specs.Views.{first_body, body_of, is_public}
use Rattle.site_model.specs.Aliases.{content_with}
use Rattle.site_model.specs.Links.{links_in, links_to, kept_links_to, page_links_to}
use Rattle.publishing.specs.Times.{body_in}
use Rattle.link_plans.specs.PageLinks.{Finds, content_in, finds_in, live_links, body_links, kept_links, page_links}

-- what is kept of the first page of two trees, one after the other
first_of_both : (one other : Forest Body) →
    first_body (or_else one other) ≡ option_or (first_body one) (first_body other)
first_of_both bare other = refl
first_of_both (grown i s slug body kids rest) other = refl

-- what is found among rows, of the first list or of the second
found_of_both : (one other : Option Page) →
    option_map (λ (row : Page). row.body) (option_or one other)
    ≡ option_or (option_map (λ (row : Page). row.body) one) (option_map (λ (row : Page). row.body) other)
found_of_both None other = refl
found_of_both (Some row) other = refl

-- what is kept of the first row or of a later one
pick : (t : Bool) (row : Page) (more : Option Page) (node other : Forest Body) →
    Some row.body ≡ first_body node →
    option_map (λ (one : Page). one.body) more ≡ first_body other →
    option_map (λ (one : Page). one.body) (cond t (Some row) more) ≡ first_body (cond t node other)
pick true row more node other here after = here
pick false row more node other here after = after

-- what is kept of a page is what its row has
rows_body : (id : ℕ) (parent : Option ℕ) (path url : List ℕ) (f : Forest Body) →
    body_in id (rows_below parent path url f) ≡ first_body (node_of id f)
rows_body id parent path url bare = refl
rows_body id parent path url (grown i s slug body kids rest) =
    let below = rows_below (Some i) (path ++ s ∷ []) (child_url url slug) kids in
    let after = rows_below parent path url rest in
    let both : body_in id (below ++ after)
    ≡ first_body (or_else (node_of id kids) (node_of id rest)) =
    ap (option_map (λ (row : Page). row.body))
    (find-append (λ (row : Page). nat_eq row.id id) below after)
    ∙ (found_of_both (row_with id below) (row_with id after)
    ∙ (rw (
      rows_body id (Some i) (path ++ s ∷ []) (child_url url slug) kids,
      rows_body id parent path url rest,
    ) (sym (first_of_both (node_of id kids) (node_of id rest))))) in
    pick (nat_eq i id)
    (record {
      id = i;
      parent = parent;
      path = path ++ s ∷ [];
      url = child_url url slug;
      slug = slug;
      numchild = kid_count kids;
      body = body;
    })
    (row_with id (below ++ after)) (grown i s slug body kids bare)
    (or_else (node_of id kids) (node_of id rest)) refl both

-- what is kept of a page of the tree, by its rows
pub tree_body : (id : ℕ) (tree : Forest Body) → body_of tree id ≡ body_in id (rows_of tree)
tree_body id tree = sym (rows_body id None [] [] tree)

-- what a source shows, if it is live
source_links : (part : TreePart) (linked : ℕ) (finds : Finds) → finds.content ≡ content_in part.revisions →
    (body : Option Body) →
    live_links finds body linked
    ≡ (is_public body
    && links_in (content_with part (option_and_then (λ (one : Body). one.shown) body)) linked)
source_links part linked finds is None = rw is refl
source_links part linked finds is (Some body) = rw is (by body.live)
  where
    by : (t : Bool) →
        links_in (content_in part.revisions (cond t body.shown None)) linked
        ≡ (t && links_in (content_with part body.shown) linked)
    by true = refl
    by false = refl

-- what a page of the tree links to, by its rows
pub body_same : (part : TreePart) (linked : ℕ) (body : Body) →
    body_links (finds_in (rows_of part.tree) part.revisions) body linked ≡ links_to part body linked
body_same part linked body = by body.source refl
  where
    by : (source : Option ℕ) → body.source ≡ source →
        body_links (finds_in (rows_of part.tree) part.revisions) body linked
        ≡ links_to part body linked
    by None is =
        rw is
        (ap (λ (shown : Bool). links_in (content_with part body.latest) linked || shown)
        (source_links part linked (finds_in (rows_of part.tree) part.revisions) refl (Some body)))
    by (Some source) is =
        rw is
        (rw (tree_body source part.tree)
        (source_links part linked (finds_in (rows_of part.tree) part.revisions) refl
        (body_in source (rows_of part.tree))))

-- and what a page links to, if it is there
pub rows_links : (part : TreePart) (page linked : ℕ) →
    page_links (rows_of part.tree) part.revisions page linked ≡ page_links_to part page linked
rows_links part page linked = rw (tree_body page part.tree) (by (body_in page (rows_of part.tree)))
  where
    by : (body : Option Body) →
        kept_links (finds_in (rows_of part.tree) part.revisions) body linked
        ≡ kept_links_to part body linked
    by None = refl
    by (Some body) = body_same part linked body
