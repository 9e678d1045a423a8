-- What is kept of a page is what its row has, and so what an alias shows is what its source shows.
use Rattle.std.proofs.Common.{◌≡◌, ℕ, Bool, true, false, cond, nat_eq, List, [], ◌∷◌, ◌++◌, Option, Some, None, is_some, refl, sym, ap, ◌∙◌}
use Rattle.std.specs.Prelude.{option_and_then}
use Rattle.std.specs.Option.{option_map}
use Rattle.page_tree.specs.Tree.{Forest, bare, grown, or_else, node_of}
use Rattle.page_tree.specs.Walk.{kid_count}
use Rattle.page_tree.specs.Rows.{Row, rows_below, row_with, child_url}
use Rattle.page_tree.proofs.RowLemmas.{find-append}
use Rattle.public_view.specs.declared.card.Card.{Card}
use Rattle.site_types.specs.declared.body.Body.{Body}
use Rattle.site_types.specs.declared.revision.Revision.{Revision}
use Rattle.site_model.specs.World.{World}
use Rattle.site_model.specs.Views.{first_body, body_of, is_live}
use Rattle.sight_model.specs.Cards.{content_shown, revision_with, shown_id, shown_revision, expiry_told, card_of}
use Rattle.sight_model.specs.Laws.{ShowsSource}
use Rattle.sight_model.proofs.CardLemmas.{card_made_of}

-- what is kept of the first page of two lists of pages
first_or : (a b : Forest Body) →
    first_body (or_else a b) ≡ cond (is_some (first_body a)) (first_body a) (first_body b)
first_or bare b = refl
first_or (grown i s slug body kids rest) b = refl

-- the first that is there, seen through a map
mapped_first : (a b : Option (Row Body)) →
    cond (is_some (option_map (λ (row : Row Body). row.body) a))
    (option_map (λ (row : Row Body). row.body) a)
    (option_map (λ (row : Row Body). row.body) b)
    ≡ option_map (λ (row : Row Body). row.body) (cond (is_some a) a b)
mapped_first None b = refl
mapped_first (Some row) b = refl

-- what is kept of a page is what its row has
pub body_in : (id : ℕ) (parent : Option ℕ) (path url : List ℕ) (f : Forest Body) →
    first_body (node_of id f)
    ≡ option_map (λ (row : Row Body). row.body) (row_with id (rows_below parent path url f))
body_in id parent path url bare = refl
body_in id parent path url (grown i s slug body kids rest) =
    by (nat_eq i id) (body_in id (Some i) (path ++ s ∷ []) (child_url url slug) kids)
    (body_in id parent path url rest)
  where
    below : List (Row Body)
    below = rows_below (Some i) (path ++ s ∷ []) (child_url url slug) kids

    behind : List (Row Body)
    behind = rows_below parent path url rest

    by : (t : Bool) →
        first_body (node_of id kids)
        ≡ option_map (λ (row : Row Body). row.body) (row_with id below) →
        first_body (node_of id rest)
        ≡ option_map (λ (row : Row Body). row.body) (row_with id behind) →
        first_body (cond t (grown i s slug body kids bare)
        (or_else (node_of id kids) (node_of id rest)))
        ≡ option_map (λ (row : Row Body). row.body) (cond t (Some (record {
          id = i;
          parent = parent;
          path = path ++ s ∷ [];
          url = child_url url slug;
          slug = slug;
          numchild = kid_count kids;
          body = body;
        })) (row_with id (below ++ behind)))
    by true first second = refl
    by false first second =
        first_or (node_of id kids) (node_of id rest)
        ∙ (rw (first, second) (mapped_first (row_with id below) (row_with id behind))
        ∙ ap (option_map (λ (row : Row Body). row.body))
        (sym (find-append (λ (row : Row Body). nat_eq row.id id) below behind)))

-- an alias is live where its source is
pub live_of_alias : (tree : Forest Body) (page : ℕ) (own kept : Body) → own.source ≡ Some page →
    kept.source ≡ None → body_of tree page ≡ Some kept → is_live tree own ≡ is_live tree kept
live_of_alias tree page own kept alias regular there = rw (alias, regular, there) refl

-- an alias shows what its source shows
pub shown_by_alias : (tree : Forest Body) (page : ℕ) (own kept : Body) → own.source ≡ Some page →
    kept.source ≡ None → body_of tree page ≡ Some kept → shown_id tree own ≡ shown_id tree kept
shown_by_alias tree page own kept alias regular there = rw (alias, regular, there) refl

-- an alias of a regular page shows what its source shows, and is live where that is
pub alias_shows : (world : World) (id page : ℕ) (own source : Card) → card_of world id ≡ Some own →
    own.body.source ≡ Some page → card_of world page ≡ Some source → source.body.source ≡ None →
    ShowsSource own source
alias_shows world id page own source is alias there regular =
    let tree = world.part.tree in
    let revisions = world.part.revisions in
    let mine = card_made_of world id own is in
    let other = card_made_of world page source there in
    let of_page : mine.row.body.source ≡ Some page =
    sym (ap (λ (c : Card). c.body.source) mine.made) ∙ alias in
    let itself : other.row.body.source ≡ None =
    sym (ap (λ (c : Card). c.body.source) other.made) ∙ regular in
    let kept : body_of tree page ≡ Some other.row.body =
    body_in page None [] [] tree ∙ ap (option_map (λ (row : Row Body). row.body)) other.found in
    let revision : shown_revision tree revisions mine.row.body
    ≡ shown_revision tree revisions other.row.body =
    ap (option_and_then (λ one. revision_with one revisions))
    (shown_by_alias tree page mine.row.body other.row.body of_page itself kept) in
    record {
      live =
          ap (λ (c : Card). c.body.live) mine.made
          ∙ (live_of_alias tree page mine.row.body other.row.body of_page itself kept
          ∙ sym (ap (λ (c : Card). c.body.live) other.made));
      title =
          ap (λ (c : Card). c.title) mine.made
          ∙ (ap (λ (one : Option Revision). (content_shown one).title) revision
          ∙ sym (ap (λ (c : Card). c.title) other.made));
      blocks =
          ap (λ (c : Card). c.blocks) mine.made
          ∙ (ap (λ (one : Option Revision). (content_shown one).blocks) revision
          ∙ sym (ap (λ (c : Card). c.blocks) other.made));
      no_expiry =
          ap (λ (c : Card). c.expire_at) mine.made
          ∙ ap (λ source. expiry_told source (shown_revision tree revisions mine.row.body)) of_page;
    }
