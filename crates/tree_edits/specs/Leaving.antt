-- What is planned of the aliases that a deletion leaves without their source.
use Rattle.std.specs.Prelude.{◌≡◌, ℕ, ◌+◌, not, List, [], ◌∷◌, filter, Some, unwrap_or}
use Rattle.page_tree.specs.Tree.{Forest, has_page}
use Rattle.site_types.specs.RootBody.{root_body}
use Rattle.site_types.specs.declared.body.Body.{Body}
use Rattle.site_model.specs.World as worlds
use Rattle.site_model.specs.Aliases.{detached_body, shown_content}
use Rattle.site_model.specs.Create.{plain_revision}
use Rattle.site_model.specs.Delete.{detached_revisions}
use Rattle.site_model.specs.Views.{body_of}
use Rattle.tree_edits.specs.declared.detaching.Detached.{Detached}
use Rattle.tree_edits.specs.declared.leaving.LeftAliases.{LeftAliases}

-- those of these pages that stay as others go
abbrev pub staying : Forest Body → List ℕ → List ℕ
staying gone pages = filter (λ page. not (has_page page gone)) pages

-- what is kept of a page, where it is there
abbrev pub body_at : Forest Body → ℕ → Body
body_at tree page = unwrap_or (body_of tree page) root_body

-- A page that is there and is an alias.
pub record IsAliasHere (tree : Forest Body) (page : ℕ) : Type 0 where
  pub body : Body
  pub found : body_of tree page ≡ Some body
  pub source : ℕ
  pub is : body.source ≡ Some source

-- An alias as a regular page with a revision of this id, as the world has it.
pub record IsDetachedAt (part : worlds.TreePart) (moment id caller page : ℕ) (made : Detached) :
    Type 0 where
  pub body : made.body ≡ detached_body part.tree moment id (body_at part.tree page)
  pub revision : made.revision ≡ plain_revision id page caller moment (shown_content part page)

-- these aliases, each with the body of a regular page, whose revisions have the ids from this one on
abbrev pub detached_pairs : worlds.TreePart → ℕ → ℕ → List ℕ → List (ℕ × Body)
detached_pairs part moment first [] = []
detached_pairs part moment first (alias ∷ aliases) =
    (alias, detached_body part.tree moment first (body_at part.tree alias))
    ∷ detached_pairs part moment (first + 1) aliases

-- All these aliases as regular pages, as the world has them.
pub record AreDetached (part : worlds.TreePart) (moment caller : ℕ) (aliases : List ℕ)
    (made : LeftAliases) : Type 0 where
  pub bodies : made.bodies ≡ detached_pairs part moment part.next_revision aliases
  pub revisions : made.revisions
      ≡ detached_revisions part moment caller part.next_revision aliases
