-- Aliases and copies: the commands that make them, and that make an alias a regular page.
use Rattle.std.specs.Prelude.{ℕ, Bool, true, false, ◌+◌, List, [], ◌∷◌, ◌++◌, Option, Some, None, if◌then◌else◌}
use Rattle.std.specs.Option.{option_map, option_and_then, unwrap_or}
use Rattle.page_tree.specs.Tree.{Forest, bare, grown, End, graft}
use Rattle.page_tree.specs.Rows.{rows_of}
use Rattle.site_ids.specs.declared.ids.TheConstants.{LAST_PAGE_ID, LAST_REVISION_ID}
use Rattle.site_types.specs.Content.{ContentValue}
use Rattle.site_types.specs.declared.body.Body.{Body}
use Rattle.site_types.specs.declared.refusal.Refusal.{Refusal}
use Rattle.site_types.specs.declared.refusal.Refusal.TheVariants.{NothingNew}
use Rattle.site_types.specs.declared.reply.Reply.TheVariants.{Done}
use Rattle.site_model.specs.World.{TreePart, Deed, time_at}
use Rattle.site_model.specs.Rules.{refused_if, first_of, slug_taken, steps_full, too_deep, url_too_long, ids_full, content_full}
use Rattle.site_model.specs.Views.{body_of, is_live}
use Rattle.site_model.specs.Create.{plain_revision, page_reply, plain_deed}
use Rattle.site_model.specs.Bodies.{rebodied, revision_with}

-- the page that an alias of this page shows: its own source, where it is an alias itself
abbrev pub source_of : TreePart → ℕ → ℕ
source_of part page =
    unwrap_or (option_and_then (λ body. body.source) (body_of part.tree page)) page

-- the body of an alias
abbrev pub alias_body : ℕ → ℕ → Body
alias_body owner source =
    record {
      owner = owner;
      source = Some source;
      live = false;
      expired = false;
      shown = None;
      latest = None;
      scheduled = None;
      first_published = None;
      last_published = None;
      locked_by = None;
      workflow = None;
      moderation = None;
    }

-- the world with an alias appended below its parent
abbrev pub with_alias : TreePart → ℕ → ℕ → ℕ → ℕ → List ℕ → TreePart
with_alias part now caller source parent slug =
    let body = alias_body caller (source_of part source) in
    record part {
      time = time_at part now;
      next_page = part.next_page + 1;
      tree = graft parent End (grown part.next_page 1 slug body bare bare) part.tree;
    }

-- the rules of an alias
abbrev pub alias_rules : TreePart → ℕ → ℕ → ℕ → ℕ → List ℕ → Option Refusal
alias_rules part now caller source parent slug =
    let rows = rows_of (with_alias part now caller source parent slug).tree in
    first_of
    (slug_taken part.tree parent slug
    ∷ steps_full rows
    ∷ too_deep rows
    ∷ url_too_long rows
    ∷ ids_full LAST_PAGE_ID part.next_page
    ∷ [])

-- what making an alias does
abbrev pub make_alias : TreePart → ℕ → ℕ → ℕ → ℕ → List ℕ → Deed
make_alias part now caller source parent slug =
    let after = with_alias part now caller source parent slug in
    plain_deed after (page_reply part.next_page after.tree)

-- the content of the revision with this id, where there is one
abbrev pub content_with : TreePart → Option ℕ → Option ContentValue
content_with part id =
    option_map (λ revision. revision.content)
    (option_and_then (λ one. revision_with one part.revisions) id)

-- the content that a page of which this is kept shows: an alias shows its source's
abbrev pub shown_by : TreePart → Body → Option ContentValue
shown_by part body = shows body.source
  where
    shows : Option ℕ → Option ContentValue
    shows None = content_with part body.shown
    shows (Some source) =
        content_with part (option_and_then (λ one. one.shown) (body_of part.tree source))

-- no content, which no page shows that is there
abbrev pub no_content : ContentValue
no_content = record { title = []; blocks = [] }

-- the content that a page shows
abbrev pub shown_content : TreePart → ℕ → ContentValue
shown_content part page =
    unwrap_or (option_and_then (shown_by part) (body_of part.tree page)) no_content

-- the body of an alias that becomes a regular page with this revision; it is live as it was
abbrev pub detached_body : Forest Body → ℕ → ℕ → Body → Body
detached_body tree moment revision body =
    let live = is_live tree body in
    record body {
      source = None;
      live = live;
      shown = Some revision;
      latest = Some revision;
      first_published = if live then Some moment else None;
      last_published = if live then Some moment else None;
    }

-- the world with an alias made a regular page
abbrev pub with_detached : TreePart → ℕ → ℕ → ℕ → TreePart
with_detached part now caller page =
    let moment = time_at part now in
    record part {
      time = moment;
      next_revision = part.next_revision + 1;
      tree = rebodied page (detached_body part.tree moment part.next_revision) part.tree;
      revisions = part.revisions ++ plain_revision part.next_revision page caller moment
          (shown_content part page) ∷ [];
    }

-- whether a page of which this is kept is no alias
abbrev pub is_regular : Option Body → Bool
is_regular None = false
is_regular (Some body) = has_none body.source
  where
    has_none : Option ℕ → Bool
    has_none None = true
    has_none (Some source) = false

-- the rules of making an alias a regular page
abbrev pub detach_rules : TreePart → ℕ → ℕ → ℕ → Option Refusal
detach_rules part now caller page =
    first_of
    (refused_if (is_regular (body_of part.tree page)) NothingNew
    ∷ ids_full LAST_REVISION_ID part.next_revision
    ∷ content_full (with_detached part now caller page).revisions
    ∷ [])

-- what making an alias a regular page does
abbrev pub detach : TreePart → ℕ → ℕ → ℕ → Deed
detach part now caller page = plain_deed (with_detached part now caller page) Done
