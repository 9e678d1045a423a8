-- What is told of a page that gets another path or another URL.
use Rattle.std.proofs.Common.{◌≡◌, ℕ, nat_eq, List, [], Some, None, unwrap_or, refl, sym, ap, ◌∙◌, subst}
use Rattle.std.specs.List.{AllByRecursion}
use Rattle.std.specs.Map.{lookup}
use Rattle.page_tree.specs.Tree.{Forest, HasDistinctIds}
use Rattle.page_tree.specs.Walk.{path_of, url_of}
use Rattle.page_tree.specs.Rows.{rows_of, row_with}
use Rattle.page_tree.proofs.RowWalkLemmas.{rows_of-walk}
use Rattle.step_path.specs.Path.{path_text}
use Rattle.site_types.specs.declared.body.Body.{Body}
use Rattle.site_types.specs.declared.reply.Reply.TheVariants as replies
use Rattle.tree_model.specs.Changes.{path_in, url_in, changed_paths, changed_urls}
use Rattle.tree_model.specs.Shape.{IsWhole}
use Rattle.page_store.specs.Pages.{Page, EachPair, HasOtherId}
use Rattle.page_store.proofs.SeenLemmas.{All-find}
use Rattle.tree_rows.proofs.Apart.{AreApart-distinct}
use Rattle.path_moves.proofs.ApplyChanges.{changes-told}
use Rattle.path_moves.proofs.ApplySlugs.{found_id}
use Rattle.path_moves.proofs.TreePages.{rows_own_ids}
use Rattle.site_model.specs.Create.{page_reply}
use Rattle.new_pages.specs.Moving.{told_reply}

-- the rows of a tree with distinct ids have other ids
pub own_ids_of : (tree : Forest Body) → HasDistinctIds tree → EachPair HasOtherId (rows_of tree)
own_ids_of tree distinct = rows_own_ids None [] [] tree (AreApart-distinct tree distinct)

-- what is told of a page's URL is the URL in its later row
pub told_is : (before after : List Page) (page : ℕ) (row : Page) → EachPair HasOtherId after →
    row_with page after ≡ Some row →
    unwrap_or (lookup (nat_eq page) (changed_urls before after)) (url_in page before) ≡ row.url
told_is before after page row own found =
    subst
    (λ id. unwrap_or (lookup (nat_eq id) (changed_urls before after)) (url_in id before) ≡ row.url)
    (found_id page after row found)
    (All-find (λ (r : Page). unwrap_or (lookup (nat_eq r.id) (changed_urls before after))
    (url_in r.id before) ≡ r.url) (λ (r : Page). nat_eq r.id page) after row
    (changes-told (λ id. url_in id before) (λ r. r.url) after own) found)

-- what is told of a page's path is the path in its later row
pub told_path_is : (before after : List Page) (page : ℕ) (row : Page) → EachPair HasOtherId after →
    row_with page after ≡ Some row →
    unwrap_or (lookup (nat_eq page) (changed_paths before after)) (path_in page before) ≡ row.path
told_path_is before after page row own found =
    subst
    (λ id. unwrap_or (lookup (nat_eq id) (changed_paths before after)) (path_in id before) ≡ row.path)
    (found_id page after row found)
    (All-find (λ (r : Page). unwrap_or (lookup (nat_eq r.id) (changed_paths before after))
    (path_in r.id before) ≡ r.path) (λ (r : Page). nat_eq r.id page) after row
    (changes-told (λ id. path_in id before) (λ r. r.path) after own) found)

-- the reply of a page tells what its row in the tree has
pub reply_is : (tree : Forest Body) (page : ℕ) (row : Page) → IsWhole tree → HasDistinctIds tree →
    row_with page (rows_of tree) ≡ Some row →
    replies.Page page (path_text row.path) row.url ≡ page_reply page tree
reply_is tree page row whole distinct found =
    let walked : AllByRecursion (λ (r : Page). (path_of r.id tree ≡ r.path) × (url_of r.id tree
    ≡ r.url)) (rows_of tree) =
    subst (λ t. HasDistinctIds t → AllByRecursion (λ (r : Page). (path_of r.id t ≡ r.path)
    × (url_of r.id t ≡ r.url)) (rows_of t)) (sym whole.is) (rows_of-walk whole.own whole.kids)
    distinct in
    let own = subst (λ id. (path_of id tree ≡ row.path) × (url_of id tree ≡ row.url))
    (found_id page (rows_of tree) row found)
    (All-find (λ (r : Page). (path_of r.id tree ≡ r.path) × (url_of r.id tree ≡ r.url))
    (λ (r : Page). nat_eq r.id page) (rows_of tree) row walked found) in
    rw (own.0, own.1) refl

-- what is told before a command is what its reply tells
pub told_reply_is : (before : List Page) (after : Forest Body) (page : ℕ) (row : Page)
    (paths urls : List (ℕ × List ℕ)) → IsWhole after → HasDistinctIds after →
    row_with page (rows_of after) ≡ Some row →
    unwrap_or (lookup (nat_eq page) paths) (path_in page before) ≡ row.path →
    urls ≡ changed_urls before (rows_of after) →
    told_reply before page paths urls ≡ page_reply page after
told_reply_is before after page row paths urls whole distinct found path_is urls_are =
    ap (λ path. replies.Page page (path_text path)
    (unwrap_or (lookup (nat_eq page) urls) (url_in page before))) path_is
    ∙ (ap (replies.Page page (path_text row.path))
    (ap (λ pairs. unwrap_or (lookup (nat_eq page) pairs) (url_in page before)) urls_are
    ∙ told_is before (rows_of after) page row (own_ids_of after distinct) found)
    ∙ reply_is after page row whole distinct found)
