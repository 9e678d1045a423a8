-- What is planned of an alias.
use Rattle.std.specs.Prelude.{◌≡◌, ℕ, List, [], ◌∷◌, Option, Some, None}
use Rattle.page_tree.specs.Rows.{rows_of}
use Rattle.site_ids.specs.declared.ids.TheConstants.{LAST_PAGE_ID}
use Rattle.site_types.specs.declared.body.Body.{Body}
use Rattle.site_types.specs.declared.refusal.Refusal.{Refusal}
use Rattle.site_types.specs.declared.refusal.Refusal.TheVariants.{IdsFull}
use Rattle.site_model.specs.World as worlds
use Rattle.site_model.specs.Rules.{first_of, slug_taken, steps_full, too_deep, url_too_long, ids_full}
use Rattle.new_pages.specs.declared.aliasing.NewAlias.{NewAlias}
use Rattle.new_pages.specs.Making.{with_page, IsPlace}

-- why a page is refused that comes without a revision, whose parent is there
abbrev pub newcomer_refusal : worlds.TreePart → ℕ → List ℕ → Body → Option Refusal
newcomer_refusal part parent slug body =
    let rows = rows_of (with_page part.tree part.next_page parent slug body) in
    first_of
    (slug_taken part.tree parent slug
    ∷ steps_full rows
    ∷ too_deep rows
    ∷ url_too_long rows
    ∷ ids_full LAST_PAGE_ID part.next_page
    ∷ [])

-- what is told of the next page's id: it, or that it is past the last
abbrev pub PageGiven : worlds.TreePart → Option ℕ → Type 0
PageGiven part None = ids_full LAST_PAGE_ID part.next_page ≡ Some IdsFull
PageGiven part (Some page) =
    (ids_full LAST_PAGE_ID part.next_page ≡ None) × (page ≡ part.next_page)

-- An alias that may be made: its place, and the next id.
pub record IsNewAlias (part : worlds.TreePart) (parent : ℕ) (slug : List ℕ) (made : NewAlias) :
    Type 0 where
  pub place : IsPlace part.tree parent slug made.place
  pub page : made.page ≡ part.next_page
