-- What readers see of a world: the card of a page, which is its row, its URL, the content that it
-- shows and its live kids; and the answer to everybody at a URL, which is the card of the live page
-- there. An alias is live where its source is, and shows what its source shows.
use Rattle.std.specs.Prelude.{ℕ, Bool, ◌==◌, ◌&&◌, bytes_eq, List, [], length, map, take, filter, codes, find, Option, Some, None, option_map, option_and_then}
use Rattle.page_tree.specs.Tree.{Forest}
use Rattle.page_tree.specs.Rows.{Row, rows_of, row_with, is_parent}
use Rattle.step_path.specs.Path.{path_text}
use Rattle.site_types.specs.Content.{ContentValue}
use Rattle.site_types.specs.declared.body.Body.{Body}
use Rattle.site_types.specs.declared.revision.Revision.{Revision}
use Rattle.site_model.specs.World.{World}
use Rattle.site_model.specs.Views.{body_of, is_live}
use Rattle.public_view.specs.declared.card.Card.{Card}
use Rattle.public_view.specs.declared.kid.LiveKid.{LiveKid}
use Rattle.public_view.specs.declared.kid.TheConstants.{MAX_KIDS}

-- what the root shows: the title `Root`, and no blocks
abbrev pub root_content : ContentValue
root_content = record { title = codes "Root"; blocks = [] }

-- the revision with the id
abbrev pub revision_with : ℕ → List Revision → Option Revision
revision_with id revisions = find (λ revision. revision.id == id) revisions

-- the id of the revision that a page shows, if it shows one: an alias shows its source's
abbrev pub shown_id : Forest Body → Body → Option ℕ
shown_id tree body = shows body.source
  where
    shows : Option ℕ → Option ℕ
    shows None = body.shown
    shows (Some source) = option_and_then (λ kept. kept.shown) (body_of tree source)

-- the revision that a page shows, if it shows one
abbrev pub shown_revision : Forest Body → List Revision → Body → Option Revision
shown_revision tree revisions body =
    option_and_then (λ id. revision_with id revisions) (shown_id tree body)

-- the content of a revision, or else the root's
abbrev pub content_shown : Option Revision → ContentValue
content_shown (Some revision) = revision.content
content_shown None = root_content

-- what a card says of a kid with this row, which shows this revision
abbrev pub kid_showing : Row Body → Option Revision → LiveKid
kid_showing row shown =
    record { id = row.id; title = (content_shown shown).title; url = row.url }

-- what a card says of a kid with this row, by the tree and the revisions of all pages
abbrev pub kid_from : Forest Body → List Revision → Row Body → LiveKid
kid_from tree revisions row = kid_showing row (shown_revision tree revisions row.body)

-- the rows of a page's live kids, in path order
abbrev pub live_kids : World → ℕ → List (Row Body)
live_kids world page =
    filter (λ row. is_parent page row.parent && is_live world.part.tree row.body)
    (rows_of world.part.tree)

-- what a card says of a page's live kids: of the first `MAX_KIDS` of them
abbrev pub kids_shown : World → ℕ → List LiveKid
kids_shown world page =
    map (kid_from world.part.tree world.part.revisions) (take MAX_KIDS (live_kids world page))

-- when a page stops being live by the revision that it shows; an alias has no moment of its own
abbrev pub expiry_told : Option ℕ → Option Revision → Option ℕ
expiry_told None shown = option_and_then (λ revision. revision.expire) shown
expiry_told (Some source) shown = None

-- the card of a page with this row, which is live or not, shows this revision and has these live
-- kids
abbrev pub card_showing : Row Body → Bool → Option Revision → List LiveKid → Card
card_showing row live shown kids =
    record {
      id = row.id;
      path = path_text row.path;
      depth = length row.path;
      numchild = row.numchild;
      slug = row.slug;
      body = record row.body { live = live };
      url = row.url;
      title = (content_shown shown).title;
      blocks = (content_shown shown).blocks;
      expire_at = expiry_told row.body.source shown;
      kids = kids;
    }

-- the card of a page with this row
abbrev pub card_from : World → Row Body → Card
card_from world row =
    card_showing row (is_live world.part.tree row.body)
    (shown_revision world.part.tree world.part.revisions row.body) (kids_shown world row.id)

-- the card of the page with this id, if there is one
abbrev pub card_of : World → ℕ → Option Card
card_of world id = option_map (card_from world) (row_with id (rows_of world.part.tree))

-- the live page with this URL, if there is one
abbrev pub live_page : World → List ℕ → Option ℕ
live_page world url =
    option_map (λ row. row.id)
    (find (λ row. bytes_eq row.url url && is_live world.part.tree row.body)
    (rows_of world.part.tree))

-- what everybody is answered at this URL: the card of the live page there, if there is one
abbrev pub answer_of : World → List ℕ → Option Card
answer_of world url = option_and_then (card_of world) (live_page world url)
