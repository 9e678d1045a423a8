-- The plan of a copy that no rule refuses.
use Rattle.std.proofs.Common.{◌≡◌, ◌<◌, ◌≤◌, ◌+◌, ℕ, Bool, true, false, List, [], ◌∷◌, ◌++◌, length, map, nat_lt, Option, Some, None, Ok, refl, sym, ap, subst, ◌∙◌, arith}
use Rattle.std.specs.List.{AllByRecursion}
use Rattle.page_tree.specs.Tree.{Forest, bare, grown, End, kids_of, node_of, step_needed, graft}
use Rattle.page_tree.specs.Rows.{row_with, rows_below, rows_of, child_url}
use Rattle.page_tree.specs.Walk.{kid_count, path_of}
use Rattle.site_ids.specs.Moment.{IsMoment}
use Rattle.step_path.specs.Path.{BeginsWith, IsPath, path_text}
use Rattle.step_path.specs.declared.path.TheConstants.{MAX_DEPTH}
use Rattle.site_types.specs.Content.{ContentValue}
use Rattle.site_types.specs.declared.body.Body.{Body}
use Rattle.site_types.specs.declared.command.Command.TheVariants.{Copy}
use Rattle.site_types.specs.declared.page_row.PageRow.{PageRow}
use Rattle.site_types.specs.declared.reply.Reply.{Reply}
use Rattle.site_types.specs.declared.reply.Reply.TheVariants as replies
use Rattle.site_types.specs.declared.revision.Revision.{Revision}
use Rattle.page_store.specs.Pages.{Page, EachPair, HasOtherId}
use Rattle.page_store.proofs.AllLemmas.{All-append, All-weaker}
use Rattle.page_store.proofs.SeenLemmas.{found_by_own_id}
use Rattle.tree_model.specs.Limits.{is_full}
use Rattle.tree_rows.proofs.Apart.{AreApart, AreApart-distinct}
use Rattle.tree_rows.proofs.SubtreeLemmas.{rows_begin}
use Rattle.path_moves.proofs.TreePages.{rows_paths}
use Rattle.site_model.specs.World as worlds
use Rattle.site_model.specs.Copies.{size_of, to_copy, copies, copy_revisions, with_first_slug, with_copy, copy_rules}
use Rattle.site_model.specs.Create.{fresh_body, page_reply}
use Rattle.flat_model.specs.Fits.{Fits, RevisionsFit}
use Rattle.flat_model.specs.Flat.{people_of, lists_of}
use Rattle.flat_model.proofs.ListLemmas.{lists_are, quiet_people, none_out}
use Rattle.site_part.specs.Plans.{HasPlan, quiet_plan, left_by}
use Rattle.site_part.specs.Standing.{IsSame}
use Rattle.site_part.specs.declared.part.TreePart.{TreePart}
use Rattle.site_part.specs.declared.plan.Plan.{Plan}
use Rattle.page_copies.specs.Copied.{copy_rows, copied_pages, revisions_of}
use Rattle.page_copies.proofs.ComingPairs.{Differ}
use Rattle.page_copies.proofs.CopiedRows.{rows_count, pages_count, revisions_numbered}
use Rattle.page_copies.proofs.CopyGraft.{copy_fits, copy_comes, rows_coming}
use Rattle.page_copies.proofs.GraftedRows.{tree_pairs}
use Rattle.new_pages.specs.Copying.{IsSource, IsNewCopy, AreMovable, AreShallow, rows_of_copy, moved_row, rows_below_it, copying_change, copying_plan}
use Rattle.new_pages.specs.Making.{IsPlace, row_at}
use Rattle.new_pages.specs.Plans.{IsAsked, IsSoundTree}
use Rattle.new_pages.specs.declared.copying.NewCopy.{NewCopy}
use Rattle.new_pages.specs.declared.place.NewPlace.{NewPlace}
use Rattle.new_pages.specs.declared.source.Source.{Source}
use Rattle.new_pages.proofs.CommandLemmas.{copy_own, copy_done, copy_desk, copy_quiet}
use Rattle.new_pages.proofs.CopyRefusals.{rest_is, size_is}
use Rattle.new_pages.proofs.CopyRules.{below_moved, path_above, row_among}
use Rattle.new_pages.proofs.CreationPlan.{path_told}
use Rattle.new_pages.proofs.EndingSteps.{left_open}
use Rattle.new_pages.proofs.QuietPlans.{IsQuiet, reached_after, quiet_planned}
use Rattle.new_pages.proofs.ReplyLemmas.{reply_is, own_ids_of}

-- revisions with the next ids may come one after the other
pub numbered_fit : (part : worlds.TreePart) (caller moment number : ℕ)
    (pages : List (ℕ × ContentValue)) (older : List Revision) →
    AllByRecursion (λ (one : Revision). one.id < part.next_revision + number) older →
    RevisionsFit (revisions_of part caller moment number pages) older
numbered_fit part caller moment number [] older below = tt
numbered_fit part caller moment number (page ∷ pages) older below = (
  below,
  numbered_fit part caller moment (number + 1) pages _
      (All-append (λ (one : Revision). one.id < part.next_revision + (number + 1)) older _
      (All-weaker (λ (one : Revision). one.id < part.next_revision + number)
      (λ (one : Revision). one.id < part.next_revision + (number + 1)) (λ one less. omega (arith, less))
      older below)
      (omega arith, tt)),
)

-- the rows of a page at another place: numbers, slugs and what is kept are those of the copies
pub rows_moved : (pages : List Page) (tree : Forest Body) (page : ℕ) (deep : Bool) (source : Source)
    (place : NewPlace)
    (is : IsSource pages tree page deep source) →
    map (moved_row source place) (rows_below_it pages source)
    ≡ rows_below (Some page) place.path place.url is.kids
rows_moved pages tree page deep source place is =
    rw (is.rows_are, is.path, is.url)
    (sym (below_moved page is.top.path place.path is.top.url place.url is.kids))

-- what has room at its place can be copied row by row
pub copy_movable : (pages : List Page) (tree : Forest Body) (page : ℕ) (deep : Bool) (source : Source)
    (place : NewPlace) → IsSource pages tree page deep source → AreShallow pages source place.path →
    AreMovable pages source place
copy_movable pages tree page deep source place is shallow = record {
  within = is.within;
  begin = subst (AllByRecursion (λ (row : Page). BeginsWith source.path row.path)) (sym is.rows_are)
      (subst (λ (path : List ℕ). AllByRecursion (λ (row : Page). BeginsWith path row.path)
      (rows_below (Some page) is.top.path is.top.url is.kids)) (sym is.path)
      (rows_begin (Some page) is.top.path is.top.url is.kids));
  shallow = shallow;
}

-- the path that is told is the one that was built
told_path : (full room : Bool) (path own : List ℕ) → path_told full room path ≡ Ok own → own ≡ path
told_path true room path own is = absurd (cc)
told_path false true path own is = cc
told_path false false path own is = absurd (cc)

-- a place below a parent, by the parent's row
pub own_place : (part : worlds.TreePart) → IsSoundTree part → (parent : ℕ) (slug : List ℕ)
    (above : Page) → row_with parent (rows_of part.tree) ≡ Some above → (given : NewPlace) →
    IsPlace part.tree parent slug given →
    (given.path ≡ above.path ++ step_needed End (kids_of parent part.tree) ∷ [])
    × (given.url ≡ child_url above.url slug)
own_place part sound parent slug above found given is = (
  told_path (is_full part.tree parent End)
      (nat_lt (length (path_of parent part.tree)) MAX_DEPTH)
      (path_of parent part.tree ++ step_needed End (kids_of parent part.tree) ∷ []) given.path is.path
      ∙ ap (λ (p : List ℕ). p ++ step_needed End (kids_of parent part.tree) ∷ [])
      (path_above part 0 parent 0 0 slug above.body bare above above sound.rising
      (AreApart-distinct part.tree sound.distinct) found),
  is.url ∙ rw found refl,
)

-- as many rows as pages
copy_rows_count : (part : worlds.TreePart) (caller number : ℕ) (rows : List Page) →
    length (copy_rows part caller number rows) ≡ length rows
copy_rows_count part caller number [] = refl
copy_rows_count part caller number (row ∷ rows) =
    let more = copy_rows_count part caller (number + 1) rows in omega (arith, more)

-- and as many revisions
revisions_count : (part : worlds.TreePart) (caller moment number : ℕ)
    (pages : List (ℕ × ContentValue)) →
    length (revisions_of part caller moment number pages) ≡ length pages
revisions_count part caller moment number [] = refl
revisions_count part caller moment number (page ∷ pages) =
    let more = revisions_count part caller moment (number + 1) pages in omega (arith, more)

module _ (kept : TreePart) (part : worlds.TreePart) (desk : Option ContentValue)
    (now caller page parent : ℕ) (slug : List ℕ) (deep : Bool)
    (asked : IsAsked kept part caller (Copy page parent slug deep)) (moment : IsMoment now)
    (made : NewCopy) (clear : copy_rules part now caller page parent slug deep ≡ None)
    (new : IsNewCopy part kept.rows.pages (worlds.time_at part now) caller page parent slug deep made)
    (above : Page) (found : row_with parent (rows_of part.tree) ≡ Some above)
    (own_path : made.place.path ≡ above.path ++ step_needed End (kids_of parent part.tree) ∷ [])
    (own_url : made.place.url ≡ child_url above.url slug) where
  -- the world with the copy
  abbrev after : worlds.TreePart
  after = with_copy part now caller page parent slug deep

  -- its reply
  abbrev reply : Reply
  reply = page_reply part.next_page after.tree

  -- with all its open desks
  abbrev left : worlds.TreePart
  left = left_open after [] part.desk_pairs

  -- what is copied
  abbrev source : IsSource kept.rows.pages part.tree page deep made.source
  source = new.source

  -- the command, with what it does
  quiet : IsQuiet part desk now caller (Copy page parent slug deep) after reply
  quiet =
      let ends = copy_quiet page parent slug deep in record {
        clear = copy_own part desk now caller page parent slug deep ∙ clear;
        own = copy_desk page parent slug deep;
        done = copy_done part desk now caller page parent slug deep;
        desks = refl;
        suspects = ends.0;
        shut = ends.1;
      }

  -- the world before it is sound, and so is that after it
  abbrev sound : IsSoundTree part
  sound = asked.ready.reached.sound.pages

  sound_after : IsSoundTree after
  sound_after =
      (reached_after kept part desk now caller (Copy page parent slug deep) after reply asked quiet
      moment).sound.pages

  -- the tree with the copies
  abbrev grafted : Forest Body
  grafted =
      graft parent End
      (with_first_slug slug
      (copies part caller 0 (grown page source.step source.top.slug source.top.body source.kids bare)))
      part.tree

  tree_is : after.tree ≡ grafted
  tree_is = ap (λ f. graft parent End (with_first_slug slug (copies part caller 0 f)) part.tree)
      source.copied

  apart : AreApart part.tree
  apart = AreApart-distinct part.tree sound.distinct

  -- its rows differ, and their paths are paths
  pairs : EachPair Differ (rows_of grafted)
  pairs = subst (λ f. EachPair Differ (rows_of f)) tree_is
      (tree_pairs after.tree sound_after.rising (AreApart-distinct after.tree sound_after.distinct)
      sound_after.siblings)

  paths : AllByRecursion (λ (row : Page). IsPath row.path) (rows_of grafted)
  paths =
      let deepest = sound_after.depth in
      subst (λ f. AllByRecursion (λ (row : Page). IsPath row.path) (rows_of f)) tree_is
      (rows_paths None [] [] 0 after.tree tt sound_after.rising sound_after.steps
      (omega (arith, deepest)))

  -- the rows that come are those that are planned
  abbrev coming : List (PageRow × List ℕ)
  coming = rows_coming part caller parent page source.step source.top.slug slug source.top.body
      source.kids above sound.rising apart found pairs paths

  -- the rows of a copy at a path with a URL
  abbrev planned : List ℕ → List ℕ → List (PageRow × List ℕ)
  planned path url =
      (row_at (part.next_page + 0) path slug (fresh_body caller (part.next_revision + 0)), url)
      ∷ copy_rows part caller 1 (rows_below (Some page) path url source.kids)

  rows_are : rows_of_copy part caller slug kept.rows.pages made.source made.place ≡ coming
  rows_are =
      ap (λ rows. (
        row_at (part.next_page + 0) made.place.path slug
            (fresh_body caller (part.next_revision + 0)),
        made.place.url,
      ) ∷ copy_rows part caller 1 rows)
      (rows_moved kept.rows.pages part.tree page deep made.source made.place source)
      ∙ (ap (λ path. planned path made.place.url) own_path
      ∙ ap (planned (above.path ++ step_needed End (kids_of parent part.tree) ∷ [])) own_url)

  -- the revisions that come
  abbrev ones : List Revision
  ones = copy_revisions part caller (worlds.time_at part now) 0 (to_copy deep (node_of page part.tree))

  revisions_fit : RevisionsFit ones part.revisions
  revisions_fit =
      subst (λ xs. RevisionsFit xs part.revisions)
      (sym (revisions_numbered part caller (worlds.time_at part now) 0
      (to_copy deep (node_of page part.tree))))
      (numbered_fit part caller (worlds.time_at part now) 0
      (copied_pages part (to_copy deep (node_of page part.tree))) part.revisions
      (All-weaker (λ (one : Revision). one.id < part.next_revision)
      (λ (one : Revision). one.id < part.next_revision + 0) (λ one less. omega (arith, less))
      part.revisions asked.ready.reached.sound.revisions.revision_ids))

  -- the lists of the world can take the change
  change_fits : Fits (lists_of part)
      (copying_change coming ones (worlds.time_at part now) after.next_page after.next_revision)
  change_fits = record {
    tree = copy_fits part caller parent page source.step source.top.slug slug source.top.body
        source.kids above sound.rising apart found pairs paths;
    bodies = tt;
    gone = tt;
    revisions = revisions_fit;
    people = tt;
    flows = tt;
  }

  -- it leads to those of the world after it
  change_leads : (told : Reply) →
      left_by (quiet_plan told
      (copying_change coming ones (worlds.time_at part now) after.next_page after.next_revision))
      (lists_of part) ≡ lists_of left
  change_leads told =
      lists_are
      (left_by (quiet_plan told
      (copying_change coming ones (worlds.time_at part now) after.next_page after.next_revision))
      (lists_of part)) (lists_of left)
      (copy_comes part caller parent page source.step source.top.slug slug source.top.body
      source.kids above sound.rising apart found pairs paths
      ∙ ap rows_of (sym tree_is))
      (ap (λ (xs : List Revision). xs ++ ones)
      (none_out (λ (one : Revision). one.page) part.revisions))
      (quiet_people (people_of part)) refl refl refl refl refl refl

  -- the row of the copy
  abbrev own_row : Page
  own_row = record {
    id = part.next_page + 0;
    parent = Some parent;
    path = above.path ++ step_needed End (kids_of parent part.tree) ∷ [];
    url = child_url above.url slug;
    slug = slug;
    numchild = kid_count (copies part caller (0 + 1) source.kids);
    body = fresh_body caller (part.next_revision + 0);
  }

  -- it is among those of the tree after it
  own_found : row_with part.next_page (rows_of after.tree) ≡ Some own_row
  own_found =
      let plain : part.next_page + 0 ≡ part.next_page = omega arith in
      let ids = subst (λ f. EachPair HasOtherId (rows_of f)) tree_is
      (own_ids_of after.tree sound_after.distinct) in
      ap (λ n. row_with n (rows_of after.tree)) (sym plain)
      ∙ (ap (λ f. row_with (part.next_page + 0) (rows_of f)) tree_is
      ∙ row_among part caller parent page source.step slug source.top.body source.kids source.top
      above sound.rising apart found (λ (row : Page). row_with row.id (rows_of grafted) ≡ Some row)
      (found_by_own_id (rows_of grafted) ids))

  -- what is told is the reply of the copy
  reply_told : replies.Page part.next_page (path_text made.place.path) made.place.url ≡ reply
  reply_told =
      ap (λ path. replies.Page part.next_page (path_text path) made.place.url) own_path
      ∙ (ap (replies.Page part.next_page (path_text own_row.path)) own_url
      ∙ reply_is after.tree part.next_page own_row sound_after.whole sound_after.distinct own_found)

  -- so as many rows and revisions come as pages are copied
  rows_counted : length coming ≡ made.source.rest + 1
  rows_counted =
      let own = above.path ++ step_needed End (kids_of parent part.tree) ∷ [] in
      let below = rows_below (Some page) own (child_url above.url slug) source.kids in
      let numbered = copy_rows_count part caller (0 + 1) below in
      let count = rows_count (Some page) own (child_url above.url slug) source.kids in
      let rest = rest_is kept.rows.pages part.tree page deep made.source source in
      omega (arith, numbered, count, rest)

  size : size_of (to_copy deep (node_of page part.tree)) ≡ made.source.rest + 1
  size = size_is kept.rows.pages part.tree page deep made.source source

  revisions_counted : length ones ≡ made.source.rest + 1
  revisions_counted =
      let pages = copied_pages part (to_copy deep (node_of page part.tree)) in
      ap length (revisions_numbered part caller (worlds.time_at part now) 0
      (to_copy deep (node_of page part.tree)))
      ∙ (revisions_count part caller (worlds.time_at part now) 0 pages
      ∙ (pages_count part (to_copy deep (node_of page part.tree)) ∙ size))

  -- the plan can be committed where room was made
  pub copy_planned : (room : TreePart) (own time next_page next_revision : ℕ)
      (rows : List (PageRow × List ℕ)) (revisions : List Revision) (plan : Plan) →
      IsSame kept room → made.source.rest + 1 ≤ room.rows.spare →
      made.source.rest + 1 ≤ room.shelf.spare → own ≡ part.next_page →
      time ≡ worlds.time_at part now →
      next_page ≡ part.next_page + (made.source.rest + 1) →
      next_revision ≡ part.next_revision + (made.source.rest + 1) →
      rows ≡ rows_of_copy part caller slug kept.rows.pages made.source made.place →
      revisions ≡ ones →
      plan ≡ copying_plan own made.place rows revisions time next_page next_revision →
      HasPlan room part desk now caller (Copy page parent slug deep) plan
  copy_planned room own time next_page next_revision rows revisions plan same rows_room shelf_room
      own_is time_is next_page_is next_revision_is rows_is revisions_is is =
      let counts = rows_counted in
      let ones_count = revisions_counted in
      subst (λ (p : Plan). HasPlan room part desk now caller (Copy page parent slug deep) p)
      (sym (is
      ∙ (rw (
        own_is,
        time_is,
        next_page_is,
        next_revision_is,
        rows_is,
        rows_are,
        revisions_is,
        ← size,
      ) refl)))
      (quiet_planned kept part desk now caller (Copy page parent slug deep) after reply asked quiet
      room (replies.Page part.next_page (path_text made.place.path) made.place.url)
      (copying_change coming ones (worlds.time_at part now) after.next_page after.next_revision) same
      reply_told change_fits
      (change_leads (replies.Page part.next_page (path_text made.place.path) made.place.url))
      (omega (arith, counts, rows_room)) (omega (arith, ones_count, shelf_room)) (omega arith)
      (omega arith))
