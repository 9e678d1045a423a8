-- The rules that refuse commands, each by its own fact, and how they are tried in order.
use Rattle.std.specs.Prelude.{ℕ, Bool, nat_lt, ◌==◌, ◌&&◌, not, List, [], ◌∷◌, length, Option, Some, None, if◌then◌else◌}
use Rattle.std.specs.List.{list_any}
use Rattle.std.specs.Option.{option_map}
use Rattle.page_tree.specs.Tree.{Forest, has_page, kids_of, kid_with_slug}
use Rattle.page_tree.specs.Rows.{Row}
use Rattle.step_path.specs.declared.step.TheConstants.{LAST_STEP}
use Rattle.step_path.specs.declared.path.TheConstants.{MAX_DEPTH}
use Rattle.site_types.specs.declared.body.Body.{Body}
use Rattle.site_types.specs.declared.refusal.NameKind.TheVariants as kinds
use Rattle.site_types.specs.declared.refusal.Refusal.{Refusal}
use Rattle.site_types.specs.declared.refusal.Refusal.TheVariants.{NoPage, IsRoot, SlugTaken, StepsFull, TooDeep, UrlTooLong, IdsFull, NoName, ContentFull}
use Rattle.site_types.specs.declared.revision.Revision.{Revision}
use Rattle.tree_model.specs.Limits.{MAX_URL}
use Rattle.site_model.specs.World.{TreePart}
use Rattle.site_model.specs.Limits.{MAX_CONTENTS, contents_length}

-- refused with this refusal where the test holds
abbrev pub refused_if : Bool → Refusal → Option Refusal
refused_if test refusal = if test then Some refusal else None

-- the first refusal of rules that are tried one after the other
abbrev pub first_of : List (Option Refusal) → Option Refusal
first_of [] = None
first_of (Some refusal ∷ rules) = Some refusal
first_of (None ∷ rules) = first_of rules

-- the id names no page
abbrev pub no_page : Forest Body → ℕ → Option Refusal
no_page tree id = refused_if (not (has_page id tree)) (NoPage id)

-- the first of these ids that names no page
abbrev pub no_pages : Forest Body → List ℕ → Option Refusal
no_pages tree [] = None
no_pages tree (id ∷ ids) = first_of (no_page tree id ∷ no_pages tree ids ∷ [])

-- one of these pages is the root
abbrev pub are_root : List ℕ → Option Refusal
are_root pages = refused_if (list_any (λ id. id == 1) pages) IsRoot

-- another page below the parent has the slug
abbrev pub slug_taken : Forest Body → ℕ → List ℕ → Option Refusal
slug_taken tree parent slug = option_map SlugTaken (kid_with_slug slug (kids_of parent tree))

-- a page among the rows has a step past the last that there is
abbrev pub steps_full : List (Row Body) → Option Refusal
steps_full rows =
    refused_if (list_any (λ row. list_any (λ step. nat_lt LAST_STEP step) row.path) rows) StepsFull

-- a page among the rows has more than 63 steps
abbrev pub too_deep : List (Row Body) → Option Refusal
too_deep rows = refused_if (list_any (λ row. nat_lt MAX_DEPTH (length row.path)) rows) TooDeep

-- a page among the rows has a URL of more than 8,192 bytes
abbrev pub url_too_long : List (Row Body) → Option Refusal
url_too_long rows = refused_if (list_any (λ row. nat_lt MAX_URL (length row.url)) rows) UrlTooLong

-- no id is left where the next one is past the last
abbrev pub ids_full : ℕ → ℕ → Option Refusal
ids_full last next = refused_if (nat_lt last next) IdsFull

-- the contents of these revisions would take more than they may
abbrev pub content_full : List Revision → Option Refusal
content_full revisions = refused_if (nat_lt MAX_CONTENTS (contents_length revisions)) ContentFull

-- the id is of something that is there, where this is the next id
abbrev pub is_given : ℕ → ℕ → Bool
is_given next id = nat_lt 0 id && nat_lt id next

-- the id names no user
abbrev pub no_user : TreePart → ℕ → Option Refusal
no_user part user = refused_if (not (is_given part.next_user user)) (NoName kinds.User)

-- the id names no group
abbrev pub no_group : TreePart → ℕ → Option Refusal
no_group part group = refused_if (not (is_given part.next_group group)) (NoName kinds.Group)
