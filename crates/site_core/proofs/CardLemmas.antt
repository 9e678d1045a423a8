-- The row, the URL and the revision from which a page's card is made are those of one page.
use Rattle.std.proofs.Common.{◌≡◌, ℕ, Bool, true, false, nat_eq, List, Option, Some, None, refl, sym, ap, subst, ◌∙◌}
use Rattle.std.specs.Option.{option_map}
use Rattle.page_tree.specs.Tree.{Forest}
use Rattle.page_tree.specs.Rows.{Row, rows_of, row_with}
use Rattle.site_types.specs.declared.revision.Revision.{Revision}
use Rattle.public_view.specs.declared.card.Card.{Card}
use Rattle.public_view.specs.declared.kid.LiveKid.{LiveKid}
use Rattle.tree_model.proofs.CountLemmas.{id_found}
use Rattle.page_store.proofs.KeptLemmas.{found_passes}
use Rattle.site_model.specs.World.{World}
use Rattle.site_model.specs.Views.{is_live}
use Rattle.sight_model.specs.Cards.{shown_revision, content_shown, kids_shown, card_showing, card_from, card_of}
use Rattle.site_core.specs.Kids.{told_of}
use Rattle.site_types.specs.declared.body.Body.{Body}
use Rattle.site_types.specs.declared.page_row.PageRow.{PageRow}
use Rattle.page_store.specs.PageRows.{page_row}

-- the row that a kept row and a URL were found for
pub seen_of : (row : PageRow) (url : List ℕ) (found : Option (Row Body)) →
    Some row ≡ option_map page_row found → Some url ≡ option_map (λ seen. seen.url) found →
    (seen : Row Body) × (found ≡ Some seen) × (row ≡ page_row seen) × (url ≡ seen.url)
seen_of row url None is url_is = cc
seen_of row url (Some seen) is url_is =
    let rows : row ≡ page_row seen = cc in
    let urls : url ≡ seen.url = cc in
    (seen, refl, rows, urls)

-- no row is found where no page is there
pub no_row : (found : Option (Row Body)) → None ≡ option_map page_row found → found ≡ None
no_row None is = refl
no_row (Some seen) is = cc

-- the row, the URL, what is shown and the kids of a page make its card
pub card_told : (world : World) (id : ℕ) (pages : List (Row Body)) (row : PageRow) (url : List ℕ)
    (revisions : List Revision) (live : Bool) (shown : Option Revision) (kids : List LiveKid)
    (card : Card) → pages ≡ rows_of world.part.tree → revisions ≡ world.part.revisions →
    Some row ≡ option_map page_row (row_with id pages) →
    Some url ≡ option_map (λ (seen : Row Body). seen.url) (row_with id pages) →
    live ≡ is_live world.part.tree row.body →
    shown ≡ shown_revision world.part.tree revisions row.body →
    kids ≡ kids_shown world id →
    ((seen : Row Body) → row ≡ page_row seen → url ≡ seen.url →
    card ≡ card_showing seen live shown kids) →
    Some card ≡ card_of world id
card_told world id pages row url revisions live shown kids card is same here there live_is
    shown_is kids_are made =
    subst (λ rows. Some card ≡ option_map (card_from world) (row_with id rows)) is
    (by (row_with id pages) refl here there)
  where
    tree : Forest Body
    tree = world.part.tree

    by : (found : Option (Row Body)) → row_with id pages ≡ found →
        Some row ≡ option_map page_row found →
        Some url ≡ option_map (λ (seen : Row Body). seen.url) found →
        Some card ≡ option_map (card_from world) found
    by None e a b = absurd (cc)
    by (Some seen) e a b =
        let rows : row ≡ page_row seen = cc in
        let urls : url ≡ seen.url = cc in
        let body : row.body ≡ seen.body = ap (λ (one : PageRow). one.body) rows in
        let own : seen.id ≡ id =
        id_found seen.id id (found_passes (λ (one : Row Body). nat_eq one.id id) pages seen e) in
        ap Some
        (made seen rows urls
        ∙ (ap (λ one. card_showing seen one shown kids) (live_is ∙ ap (is_live tree) body)
        ∙ (ap (λ one. card_showing seen (is_live tree seen.body) one kids)
        (shown_is
        ∙ (ap (shown_revision tree revisions) body
        ∙ ap (λ list. shown_revision tree list seen.body) same))
        ∙ ap (card_showing seen (is_live tree seen.body)
        (shown_revision tree world.part.revisions seen.body))
        (kids_are ∙ ap (kids_shown world) (sym own)))))

-- what a card says of a kid
abbrev kid_of : ℕ → List ℕ → List ℕ → LiveKid
kid_of id title url = record { id = id; title = title; url = url }

-- its parts make it
same_kid : (a b : ℕ) (s t u v : List ℕ) → a ≡ b → s ≡ t → u ≡ v → kid_of a s u ≡ kid_of b t v
same_kid a b s t u v ids titles urls =
    ap (λ n. kid_of n s u) ids ∙ (ap (λ one. kid_of b one u) titles ∙ ap (kid_of b t) urls)

-- the row, the URL and the title of a live kid make what a card says of it
pub kid_told : (tree : Forest Body) (revisions : List Revision) (pages : List (Row Body)) (id : ℕ)
    (row : PageRow) (url title : List ℕ) (shown : Option Revision) (live : Bool) →
    Some row ≡ option_map page_row (row_with id pages) →
    Some url ≡ option_map (λ (seen : Row Body). seen.url) (row_with id pages) →
    live ≡ is_live tree row.body → live ≡ true →
    shown ≡ shown_revision tree revisions row.body →
    title ≡ (content_shown shown).title →
    Some (record { id = id; title = title; url = url })
    ≡ told_of tree revisions (row_with id pages)
kid_told tree revisions pages id row url title shown live here there told is shown_is title_is =
    by (row_with id pages) refl here there
  where
    by : (found : Option (Row Body)) → row_with id pages ≡ found →
        Some row ≡ option_map page_row found →
        Some url ≡ option_map (λ (seen : Row Body). seen.url) found →
        Some (record { id = id; title = title; url = url }) ≡ told_of tree revisions found
    by None e a b = absurd (cc)
    by (Some seen) e a b =
        let rows : row ≡ page_row seen = cc in
        let urls : url ≡ seen.url = cc in
        let body : row.body ≡ seen.body = ap (λ (one : PageRow). one.body) rows in
        let own : seen.id ≡ id =
        id_found seen.id id (found_passes (λ (one : Row Body). nat_eq one.id id) pages seen e) in
        let shows : shown ≡ shown_revision tree revisions seen.body =
        shown_is ∙ ap (shown_revision tree revisions) body in
        let titles : title ≡ (content_shown (shown_revision tree revisions seen.body)).title =
        title_is ∙ ap (λ one. (content_shown one).title) shows in
        let up : is_live tree seen.body ≡ true = sym (ap (is_live tree) body) ∙ (sym told ∙ is) in
        rw up (ap Some (same_kid id seen.id title _ url seen.url (sym own) titles urls))

-- a page that is not live is told by no card of its parent
pub kid_hidden : (tree : Forest Body) (revisions : List Revision) (pages : List (Row Body))
    (id : ℕ) (row : PageRow) (live : Bool) →
    Some row ≡ option_map page_row (row_with id pages) →
    live ≡ is_live tree row.body → live ≡ false →
    None ≡ told_of tree revisions (row_with id pages)
kid_hidden tree revisions pages id row live here told is = by (row_with id pages) here
  where
    by : (found : Option (Row Body)) → Some row ≡ option_map page_row found →
        None ≡ told_of tree revisions found
    by None a = refl
    by (Some seen) a =
        let rows : row ≡ page_row seen = cc in
        let down : is_live tree seen.body ≡ false =
        sym (ap (λ (one : PageRow). is_live tree one.body) rows) ∙ (sym told ∙ is) in
        rw down refl
