-- What a page below a parent and with a slug plans: why it is refused, or which pages get which
-- URLs.
use Rattle.std.specs.Prelude.{◌≡◌, ◌⊎◌, ℕ, Bool, List, [], ◌∷◌, length, nat_lt, Option, Some, None, Result, Ok, Err, if◌then◌else◌}
use Rattle.std.specs.List.{list_any}
use Rattle.page_tree.specs.Tree.{Forest, has_page, node_of, without, kids_of, kid_with_slug}
use Rattle.page_tree.specs.Rows.{child_url, rows_of, rows_below}
use Rattle.site_types.specs.declared.body.Body.{Body}
use Rattle.tree_model.specs.Limits.{MAX_URL}
use Rattle.tree_model.specs.Renames.{renamed}
use Rattle.tree_model.specs.Changes.{url_in, changed_urls}
use Rattle.slug_urls.specs.declared.fault.UrlFault.{UrlFault}
use Rattle.slug_urls.specs.declared.fault.UrlFault.TheVariants.{Taken, TooLong, Memory}

-- the result is this, unless memory ran out
abbrev pub UnlessMemory : {X : Type 0} → Result X UrlFault → Result X UrlFault → Type 0
UnlessMemory planned result = (result ≡ Err Memory) ⊎ (result ≡ planned)

-- The pages whose URL changes where the page stands below this parent and has this slug, each with
-- its new URL, depth first: of the page and of those below it the ones with another URL than
-- before.
-- A page that is not there is to be new: then it is that page alone.
abbrev pub new_urls : Forest Body → ℕ → ℕ → List ℕ → List (ℕ × List ℕ)
new_urls tree page parent slug =
    let url = url_in parent (rows_of tree) in
    if has_page page tree
    then changed_urls (rows_of tree)
    (rows_below (Some parent) [] url (renamed page slug (node_of page tree)))
    else (page, child_url url slug) ∷ []

-- whether one of these URLs is too long
abbrev pub is_one_long : List (ℕ × List ℕ) → Bool
is_one_long urls = list_any (λ (pair : ℕ × List ℕ). nat_lt MAX_URL (length pair.1)) urls

-- these URLs, or that one of them is too long
abbrev pub urls_that_fit : List (ℕ × List ℕ) → Result (List (ℕ × List ℕ)) UrlFault
urls_that_fit urls = if is_one_long urls then Err TooLong else Ok urls

-- these URLs, unless another page has the slug
abbrev pub unless_taken : Option ℕ → List (ℕ × List ℕ) → Result (List (ℕ × List ℕ)) UrlFault
unless_taken (Some other) urls = Err (Taken other)
unless_taken None urls = urls_that_fit urls

-- The new URLs, or why there are none: another page below the parent has the slug, or a URL would
-- have more than 8,192 bytes.
abbrev pub planned_urls : Forest Body → ℕ → ℕ → List ℕ → Result (List (ℕ × List ℕ)) UrlFault
planned_urls tree page parent slug =
    unless_taken (kid_with_slug slug (kids_of parent (without page tree)))
    (new_urls tree page parent slug)
