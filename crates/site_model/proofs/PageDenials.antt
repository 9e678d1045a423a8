-- Rules of the commands on pages: none of them says that a need is not met.
use Rattle.std.proofs.Common.{◌≡◌, ℕ, Bool, false, cond, ◌||◌, ◌&&◌, bytes_eq, ◌+◌, List, [], ◌∷◌, length, Option, Some, None, nat_lt, refl}
use Rattle.std.specs.List.{list_any}
use Rattle.std.specs.Option.{option_map}
use Rattle.page_tree.specs.Tree.{Forest, has_page, node_of, kids_of, kid_with_slug, without}
use Rattle.page_tree.specs.Rows.{Row, rows_of}
use Rattle.step_path.specs.declared.step.TheConstants.{LAST_STEP}
use Rattle.step_path.specs.declared.path.TheConstants.{MAX_DEPTH}
use Rattle.site_ids.specs.declared.ids.TheConstants.{LAST_PAGE_ID, LAST_REVISION_ID}
use Rattle.site_types.specs.declared.body.Body.{Body}
use Rattle.site_types.specs.declared.position.Position.{Position}
use Rattle.site_types.specs.declared.refusal.Refusal.TheVariants.{NothingNew, SlugTaken, IntoItself, StepsFull, TooDeep, UrlTooLong, IdsFull}
use Rattle.tree_model.specs.Limits.{MAX_URL}
use Rattle.tree_model.specs.Places.{parent_in, parent_at, slug_in, stays_put, moved_to, leads_into_itself}
use Rattle.tree_model.specs.Renames.{renamed}
use Rattle.site_model.specs.World.{TreePart}
use Rattle.site_model.specs.Rules.{refused_if, slug_taken, steps_full, too_deep, url_too_long, ids_full, content_full}
use Rattle.site_model.specs.Views.{body_of}
use Rattle.site_model.specs.Create.{creation_rules}
use Rattle.site_model.specs.Delete.{with_deleted, revision_ids_full, delete_rules}
use Rattle.site_model.specs.Moves.{into_itself, move_rules}
use Rattle.site_model.specs.Moves as moves
use Rattle.site_model.specs.Slugs.{slug_rules}
use Rattle.site_model.specs.Slugs as slugs
use Rattle.site_model.specs.Aliases.{with_alias, alias_rules, with_detached, is_regular, detach_rules}
use Rattle.site_model.specs.Copies.{with_copy, into_copy, copy_ids_full, copy_rules}
use Rattle.site_model.proofs.DenialLemmas.{is_denied, test_says, either_says, all_say, ids_say, contents_say, new_says}

-- nor a slug that is taken
taken_says : (found : Option ℕ) → is_denied (option_map SlugTaken found) ≡ false
taken_says None = refl
taken_says (Some id) = refl

-- nor a URL that is too long
url_says : (rows : List (Row Body)) → is_denied (url_too_long rows) ≡ false
url_says rows =
    test_says (list_any (λ (row : Row Body). nat_lt MAX_URL (length row.url)) rows) UrlTooLong refl

-- nor a path that is too long
depth_says : (rows : List (Row Body)) → is_denied (too_deep rows) ≡ false
depth_says rows =
    test_says (list_any (λ (row : Row Body). nat_lt MAX_DEPTH (length row.path)) rows) TooDeep refl

-- nor a step past the last
steps_say : (rows : List (Row Body)) → is_denied (steps_full rows) ≡ false
steps_say rows =
    test_says
    (list_any (λ (row : Row Body). list_any (λ step. nat_lt LAST_STEP step) row.path) rows)
    StepsFull refl

-- nor do the rules of a creation
pub create_says : (part after : TreePart) (parent : ℕ) (slug : List ℕ) →
    is_denied (creation_rules part after parent slug) ≡ false
create_says part after parent slug =
    let rows = rows_of after.tree in
    all_say
    (slug_taken part.tree parent slug
    ∷ steps_full rows
    ∷ too_deep rows
    ∷ url_too_long rows
    ∷ ids_full LAST_PAGE_ID part.next_page
    ∷ ids_full LAST_REVISION_ID part.next_revision
    ∷ content_full after.revisions
    ∷ []) (
      taken_says (kid_with_slug slug (kids_of parent part.tree)),
      (
        steps_say rows,
        (
          depth_says rows,
          (
            url_says rows,
            (
              ids_say LAST_PAGE_ID part.next_page,
              (
                ids_say LAST_REVISION_ID part.next_revision,
                (
                  contents_say after.revisions,
                  tt,
                ),
              ),
            ),
          ),
        ),
      ),
    )

-- nor those of a move
pub move_says : (tree : Forest Body) (page target : ℕ) (position : Position) →
    is_denied (move_rules tree page target position) ≡ false
move_says tree page target position =
    let rows = rows_of (moved_to tree page target position) in
    let left = without page tree in
    let effect = all_say
    (slug_taken left (parent_at tree target position) (slug_in tree page)
    ∷ steps_full rows
    ∷ too_deep rows
    ∷ url_too_long rows
    ∷ []) (
      taken_says
          (kid_with_slug (slug_in tree page) (kids_of (parent_at tree target position) left)),
      (steps_say rows, (depth_says rows, (url_says rows, tt))),
    ) in
    all_say
    (into_itself tree page target position
    ∷ cond (stays_put page target position) (Some NothingNew)
    (moves.effect_refusal tree page target position)
    ∷ []) (
      test_says (leads_into_itself tree page target position) IntoItself refl,
      (
        either_says (stays_put page target position) (Some NothingNew)
            (moves.effect_refusal tree page target position) refl effect,
        tt,
      ),
    )

-- nor those of another slug
pub slug_says : (tree : Forest Body) (page : ℕ) (slug : List ℕ) →
    is_denied (slug_rules tree page slug) ≡ false
slug_says tree page slug =
    let left = without page tree in
    let rows = rows_of (renamed page slug tree) in
    either_says (bytes_eq (slug_in tree page) slug) (Some NothingNew)
    (slugs.effect_refusal tree page slug) refl
    (all_say (slug_taken left (parent_in tree page) slug ∷ url_too_long rows ∷ [])
    (taken_says (kid_with_slug slug (kids_of (parent_in tree page) left)), (url_says rows, tt)))

-- nor those of a deletion
pub delete_says : (part : TreePart) (now caller page : ℕ) →
    is_denied (delete_rules part now caller page) ≡ false
delete_says part now caller page =
    let after = with_deleted part now caller page in
    all_say (revision_ids_full after ∷ content_full after.revisions ∷ []) (
      test_says (nat_lt (LAST_REVISION_ID + 1) after.next_revision) IdsFull refl,
      (contents_say after.revisions, tt),
    )

-- nor those of an alias
pub aliasing_says : (part : TreePart) (now caller source parent : ℕ) (slug : List ℕ) →
    is_denied (alias_rules part now caller source parent slug) ≡ false
aliasing_says part now caller source parent slug =
    let rows = rows_of (with_alias part now caller source parent slug).tree in
    all_say
    (slug_taken part.tree parent slug
    ∷ steps_full rows
    ∷ too_deep rows
    ∷ url_too_long rows
    ∷ ids_full LAST_PAGE_ID part.next_page
    ∷ []) (
      taken_says (kid_with_slug slug (kids_of parent part.tree)),
      (
        steps_say rows,
        (depth_says rows, (url_says rows, (ids_say LAST_PAGE_ID part.next_page, tt))),
      ),
    )

-- nor those of making an alias a regular page
pub detach_says : (part : TreePart) (now caller page : ℕ) →
    is_denied (detach_rules part now caller page) ≡ false
detach_says part now caller page =
    let after = with_detached part now caller page in
    let regular = is_regular (body_of part.tree page) in
    all_say
    (refused_if regular NothingNew
    ∷ ids_full LAST_REVISION_ID part.next_revision
    ∷ content_full after.revisions
    ∷ []) (
      new_says regular,
      (ids_say LAST_REVISION_ID part.next_revision, (contents_say after.revisions, tt)),
    )

-- nor those of a copy
pub copy_says : (part : TreePart) (now caller page parent : ℕ) (slug : List ℕ) (deep : Bool) →
    is_denied (copy_rules part now caller page parent slug deep) ≡ false
copy_says part now caller page parent slug deep =
    let after = with_copy part now caller page parent slug deep in
    let rows = rows_of after.tree in
    let many = nat_lt (LAST_PAGE_ID + 1) after.next_page
    || nat_lt (LAST_REVISION_ID + 1) after.next_revision in
    all_say
    (into_copy part page parent deep
    ∷ slug_taken part.tree parent slug
    ∷ steps_full rows
    ∷ too_deep rows
    ∷ url_too_long rows
    ∷ copy_ids_full part after
    ∷ content_full after.revisions
    ∷ []) (
      test_says (deep && has_page parent (node_of page part.tree)) IntoItself refl,
      (
        taken_says (kid_with_slug slug (kids_of parent part.tree)),
        (
          steps_say rows,
          (
            depth_says rows,
            (
              url_says rows,
              (test_says many IdsFull refl, (contents_say after.revisions, tt)),
            ),
          ),
        ),
      ),
    )
