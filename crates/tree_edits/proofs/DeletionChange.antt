-- The change of a deletion: the lists can take it, and it leads to those of the world without the page.
use Rattle.std.proofs.Common.{◌≡◌, ◌≤◌, ◌+◌, ℕ, Bool, true, false, not, ◌||◌, List, [], ◌∷◌, ◌++◌, length, map, Option, Some, None, nat_eq, refl, sym, ap, subst, ◌∙◌, arith}
use Rattle.std.specs.Prelude.{filter}
use Rattle.std.specs.List.{AllByRecursion, list_any}
use Rattle.std.specs.Option.{option_map_or}
use Rattle.std.proofs.lemmas.Bool.Decides.{nat_tests}
use Rattle.std.proofs.lemmas.List.Folds.{list_any-append}
use Rattle.page_tree.specs.Tree.{Forest, bare, grown, has_page, node_of, without, ids_of}
use Rattle.page_tree.specs.Rows.{Row, rows_of, row_with}
use Rattle.page_tree.proofs.RowLemmas.{has_page-rows}
use Rattle.site_ids.specs.Ids.{IsPageId}
use Rattle.site_ids.specs.declared.ids.TheConstants.{LAST_PAGE_ID}
use Rattle.site_types.specs.declared.body.Body.{Body}
use Rattle.site_types.specs.declared.reply.Reply.{Reply}
use Rattle.site_types.specs.declared.revision.Revision.{Revision}
use Rattle.site_types.specs.declared.world_rows.Grant.{Grant}
use Rattle.page_store.specs.Changes.{changed, without_kid, without_range}
use Rattle.tree_rows.specs.Cuts.{lower_row, lower_count, other_rows}
use Rattle.path_moves.specs.Laws.{IsTree}
use Rattle.path_moves.proofs.LawLemmas.{cut_is}
use Rattle.tree_model.specs.Shape.{AllPages}
use Rattle.tree_model.proofs.PageLemmas.{AllPages-node_of}
use Rattle.tree_model.proofs.SiblingLemmas.{all_append}
use Rattle.site_model.specs.World as worlds
use Rattle.site_model.specs.Delete.{aliases_left, detached_revisions, deleted_at_once}
use Rattle.site_model.specs.Sound.{IsGiven, IsSoundPart}
use Rattle.new_pages.specs.Plans.{IsSoundTree}
use Rattle.flat_model.specs.Fits.{Fits, BodiesFit, RevisionsFit}
use Rattle.flat_model.specs.Flat.{people_of, lists_of}
use Rattle.flat_model.specs.Made.{of_others, people_left, with_bodies}
use Rattle.flat_model.specs.Single.{tree_change}
use Rattle.flat_model.specs.declared.change.Change.{Change}
use Rattle.flat_model.specs.declared.change.TreeChange.TheVariants as trees
use Rattle.flat_model.proofs.ListLemmas.{people_are, lists_are}
use Rattle.site_part.specs.Plans.{pages_of, pairs_left, quiet_plan, left_by}
use Rattle.site_part.specs.declared.plan.Plan.{Plan}
use Rattle.new_pages.proofs.EndingSteps.{left_open}
use Rattle.tree_edits.specs.Leaving.{AreDetached, detached_pairs}
use Rattle.tree_edits.specs.declared.leaving.LeftAliases.{LeftAliases}
use Rattle.tree_edits.proofs.LeavingRows.{bodies_made, new_fit, aliases_once, left_once, aliases_keep}
use Rattle.tree_edits.proofs.MoveChange.{some_row}

-- without a parent no count changes
lower_none : (rows : List (Row Body)) → map (lower_row None) rows ≡ rows
lower_none [] = refl
lower_none (row ∷ rows) = ap (λ more. row ∷ more) (lower_none rows)

-- the parent's count falls by one
lower_some : (parent : ℕ) (rows : List (Row Body)) →
    map (lower_row (Some parent)) rows ≡ changed parent without_kid rows
lower_some parent [] = refl
lower_some parent (row ∷ rows) =
    let same : nat_eq parent row.id ≡ nat_eq row.id parent = turned (nat_eq parent row.id)
    (nat_eq row.id parent) refl refl in
    rw (same, lower_some parent rows) refl
  where
    turned : (a b : Bool) → nat_eq parent row.id ≡ a → nat_eq row.id parent ≡ b → a ≡ b
    turned true true x y = refl
    turned false false x y = refl
    turned true false x y = absurd (grind (arith, nat_tests))
    turned false true x y = absurd (grind (arith, nat_tests))

-- what the store leaves is what a cut leaves
cut_left : (parent : Option ℕ) (rest : List (Row Body)) (top : Row Body) → top.parent ≡ parent →
    lower_count parent rest ≡ option_map_or (λ p. changed p without_kid rest) parent rest
cut_left None rest top is = lower_none rest
cut_left (Some parent) rest top is = lower_some parent rest

-- an id is among those of pages exactly where one has it
pub listed_is : (id : ℕ) (f : Forest Body) → list_any (λ i. nat_eq i id) (ids_of f) ≡ has_page id f
listed_is id bare = refl
listed_is id (grown i s slug body kids rest) =
    ap (λ t. nat_eq i id || t)
    (list_any-append (λ i. nat_eq i id) (ids_of kids) (ids_of rest)
    ∙ (ap (λ t. t || list_any (λ i. nat_eq i id) (ids_of rest)) (listed_is id kids)
    ∙ ap (λ t. has_page id kids || t) (listed_is id rest)))

-- so what is not of these pages is what is left without them
left_is : {X : Type 0} (page : X → ℕ) (f : Forest Body) (items : List X) →
    of_others page (ids_of f) items ≡ filter (λ item. not (has_page (page item) f)) items
left_is page f [] = refl
left_is page f (item ∷ items) = rw (listed_is (page item) f, left_is page f items) refl

-- each id of pages is a page's where each page's is given
ids_are : (next : ℕ) (f : Forest Body) → next ≤ LAST_PAGE_ID + 1 →
    AllPages (λ id slug body. IsGiven next id) f → AllByRecursion IsPageId (ids_of f)
ids_are next bare last all = tt
ids_are next (grown i s slug body kids rest) last all = (
  (all.0.0, let lower = all.0.1 in omega (arith, lower, last)),
  all_append IsPageId (ids_of kids) (ids_of rest) (ids_are next kids last all.1)
      (ids_are next rest last all.2),
)

-- the ids of the pages that go are ids of pages
pub gone_ids : (part : worlds.TreePart) (page : ℕ) → IsSoundTree part →
    AllByRecursion IsPageId (ids_of (node_of page part.tree))
gone_ids part page sound =
    ids_are part.next_page (node_of page part.tree) sound.next_page.1
    (AllPages-node_of (λ id slug body. IsGiven part.next_page id) page part.tree sound.page_ids)

-- what a deletion changes, where aliases become regular pages
abbrev pub deletion_change : ℕ → List ℕ → LeftAliases → ℕ → ℕ → ℕ → Change
deletion_change page gone left time next_page next_revision =
    record (tree_change (trees.Delete page) time next_page next_revision) {
      gone = gone;
      bodies = left.bodies;
      revisions = left.revisions;
    }

-- the plan of a deletion that ends the desks on these pages
abbrev pub deletion_plan : Reply → ℕ → List ℕ → LeftAliases → List ℕ → ℕ → ℕ → ℕ → Plan
deletion_plan reply page gone left shut time next_page next_revision =
    record (quiet_plan reply (deletion_change page gone left time next_page next_revision)) {
      shut = shut;
    }

module _ (part : worlds.TreePart) (now page : ℕ) (sound : IsSoundTree part)
    (there : has_page page part.tree ≡ true) where
  -- the page's row
  own_row : (top : Row Body) × (row_with page (rows_of part.tree) ≡ Some top)
  own_row =
      some_row (row_with page (rows_of part.tree))
      (sym (has_page-rows page None [] [] part.tree) ∙ there)

  -- the rows that are left are those of the tree without the page
  rows_left : without_range page (rows_of part.tree) ≡ rows_of (without page part.tree)
  rows_left =
      let top = own_row in
      let rows = rows_of part.tree in
      let is_tree : IsTree part.tree =
      record { rising = sound.rising; distinct = sound.distinct } in
      rw top.1 (sym (cut_left top.0.parent (other_rows top.0.path rows) top.0 refl))
      ∙ sym (cut_is page part.tree top.0 is_tree top.1)

module _ (part : worlds.TreePart) (now caller page : ℕ) (sound : IsSoundPart part)
    (there : has_page page part.tree ≡ true) (below : page ≡ 1 → ⊥) (left : LeftAliases)
    (detached : AreDetached part (worlds.time_at part now) caller (aliases_left part page) left)
  where
    -- the aliases that are left, and their bodies
    abbrev aliases : List ℕ
    aliases = aliases_left part page

    abbrev moment : ℕ
    moment = worlds.time_at part now

    abbrev pairs : List (ℕ × Body)
    pairs = detached_pairs part moment part.next_revision aliases

    -- the bodies fit, and make the rows of the tree that is left
    made : BodiesFit pairs (rows_of (without page part.tree))
        × (with_bodies pairs (rows_of (without page part.tree))
        ≡ rows_of (deleted_at_once part now caller page).tree)
    made =
        bodies_made part moment aliases part.next_revision (without page part.tree)
        (left_once part page sound.pages.distinct) (aliases_once part page sound.pages.distinct)
        (aliases_keep part page sound.pages.distinct moment)

    -- the rows without the page
    cut : without_range page (rows_of part.tree) ≡ rows_of (without page part.tree)
    cut = rows_left part now page sound.pages there

    -- the lists of the world can take the change
    pub deletion_fits : (gone : List ℕ) (time next_page next_revision : ℕ) →
        gone ≡ ids_of (node_of page part.tree) →
        Fits (lists_of part) (deletion_change page gone left time next_page next_revision)
    deletion_fits gone time next_page next_revision gone_is = record {
      tree = (sym (has_page-rows page None [] [] part.tree) ∙ there, below);
      bodies = subst (λ ones. BodiesFit ones (without_range page (rows_of part.tree)))
          (sym detached.bodies) (subst (BodiesFit pairs) (sym cut) made.0);
      gone = subst (AllByRecursion IsPageId) (sym gone_is) (gone_ids part page sound.pages);
      revisions = subst (λ ones. RevisionsFit ones part.revisions) (sym detached.revisions)
          (new_fit part moment caller aliases part.next_revision part.revisions
          sound.revisions.revision_ids);
      people = tt;
      flows = tt;
    }

    -- it leads to those of the world after it, where it ends these desks
    pub deletion_leads : (ended : List worlds.DeskPair) (reply : Reply) (gone shut : List ℕ)
        (time next_page next_revision : ℕ) → gone ≡ ids_of (node_of page part.tree) →
        shut ≡ pages_of ended → time ≡ moment → next_page ≡ part.next_page →
        next_revision ≡ part.next_revision + length aliases →
        left_by (deletion_plan reply page gone left shut time next_page next_revision)
        (lists_of part)
        ≡ lists_of (left_open (deleted_at_once part now caller page) ended part.desk_pairs)
    deletion_leads ended reply gone shut time next_page next_revision gone_is shut_is time_is page_is
        revision_is =
        let node = node_of page part.tree in
        let of_revision : Revision → ℕ = λ revision. revision.page in
        let of_grant : Grant → ℕ = λ grant. grant.page in
        let after = deleted_at_once part now caller page in
        lists_are
        (left_by (deletion_plan reply page gone left shut time next_page next_revision)
        (lists_of part))
        (lists_of (left_open after ended part.desk_pairs))
        (ap (λ ones. with_bodies ones (without_range page (rows_of part.tree))) detached.bodies
        ∙ (ap (with_bodies pairs) cut ∙ made.1))
        (ap (λ ones. of_others of_revision gone part.revisions ++ ones) detached.revisions
        ∙ (ap (λ ids. of_others of_revision ids part.revisions
        ++ detached_revisions part moment caller part.next_revision aliases) gone_is
        ∙ ap (λ ones. ones ++ detached_revisions part moment caller part.next_revision aliases)
        (left_is of_revision node part.revisions)))
        (people_are (people_left gone (people_of part)) (people_of after) refl refl refl
        (ap (λ ids. of_others of_grant ids part.grants) gone_is
        ∙ left_is of_grant node part.grants))
        refl refl (ap (λ ids. pairs_left ids part.desk_pairs) shut_is) time_is page_is revision_is
