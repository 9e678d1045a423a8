-- A move keeps a world sound.
use Rattle.std.proofs.Common.{◌≡◌, ◌+◌, ◌≤◌, ℕ, true, false, ◌&&◌, [], length, None, nat_eq, refl, sym, ◌∙◌, subst, arith}
use Rattle.std.specs.Prelude.{IfSome}
use Rattle.std.specs.List.{AllByRecursion}
use Rattle.page_tree.specs.Tree.{Forest, bare, grown, has_page, node_of, without, kids_of, kid_with_slug, last_step, graft}
use Rattle.page_tree.specs.Rows.{Row, rows_of}
use Rattle.step_path.specs.declared.step.TheConstants.{LAST_STEP}
use Rattle.step_path.specs.declared.path.TheConstants.{MAX_DEPTH}
use Rattle.site_ids.specs.Moment.{IsMoment}
use Rattle.site_ids.specs.Slug.{IsSlug}
use Rattle.site_types.specs.declared.body.Body.{Body}
use Rattle.site_types.specs.declared.position.Position.{Position}
use Rattle.site_types.specs.declared.revision.Revision.{Revision}
use Rattle.site_types.specs.declared.world_rows.Grant.{Grant}
use Rattle.site_types.specs.declared.refusal.Refusal.TheVariants.{IntoItself, NothingNew, StepsFull, TooDeep, UrlTooLong}
use Rattle.tree_model.specs.Limits.{MAX_URL, height}
use Rattle.tree_model.specs.Places.{is_beside, parent_at, place_at, slug_in, moved_to, stays_put, leads_into_itself}
use Rattle.tree_model.specs.Shape.{AllPages, AreWithin}
use Rattle.tree_model.proofs.CountLemmas.{count, once, distinct_ids, has_counts, counts_has, node_found, told_apart}
use Rattle.tree_model.proofs.MoveLemmas.{Lands, IsMoved, lands, grafted, AllPages-moved}
use Rattle.tree_model.proofs.PageLemmas.{all_weaker}
use Rattle.tree_model.proofs.WholeLemmas.{whole-graft, whole-without}
use Rattle.site_model.specs.World.{TreePart}
use Rattle.site_model.specs.Rules.{slug_taken, steps_full, too_deep, url_too_long}
use Rattle.site_model.specs.Moves.{into_itself, effect_refusal, move_rules, with_move}
use Rattle.site_model.specs.Sound.{IsTree, IsBody, IsRegular, IsGiven}
use Rattle.site_model.proofs.ClearLemmas.{first_clear, test_clear, then_clear, else_clear, slug_clear, limit_clear, urls_clear}
use Rattle.site_model.proofs.Groups.{AreGroups}
use Rattle.site_model.proofs.RegularLemmas.{KeepRegular, sources_stay}
use Rattle.site_model.proofs.RoomLemmas.{graft_room}
use Rattle.site_model.proofs.RowLemmas.{rows_within, rows_too_deep}

-- What no rule refused says of a move.
record IsClear (tree : Forest Body) (page target : ℕ) (position : Position) : Type 0 where
  pub outside : leads_into_itself tree page target position ≡ false
  pub moves : stays_put page target position ≡ false
  pub free :
      kid_with_slug (slug_in tree page)
      (kids_of (parent_at tree target position) (without page tree)) ≡ None
  pub steps : AreWithin LAST_STEP (moved_to tree page target position)
  pub depth : height (moved_to tree page target position) ≤ MAX_DEPTH
  pub urls :
      AllByRecursion (λ (row : Row Body). length row.url ≤ MAX_URL)
      (rows_of (moved_to tree page target position))

-- the rules, one by one
clear : (tree : Forest Body) (page target : ℕ) (position : Position) →
    move_rules tree page target position ≡ None → IsClear tree page target position
clear tree page target position none =
    let after = moved_to tree page target position in
    let parent = parent_at tree target position in
    let itself = first_clear (into_itself tree page target position) _ none in
    let last = first_clear _ [] itself.1 in
    let effect = else_clear (stays_put page target position) NothingNew
    (effect_refusal tree page target position) last.0 in
    let taken = first_clear (slug_taken (without page tree) parent (slug_in tree page)) _ effect in
    let full = first_clear (steps_full (rows_of after)) _ taken.1 in
    let deep = first_clear (too_deep (rows_of after)) _ full.1 in
    let long = first_clear (url_too_long (rows_of after)) [] deep.1 in
    record {
      outside = test_clear (leads_into_itself tree page target position) IntoItself itself.0;
      moves = then_clear (stays_put page target position) NothingNew
          (effect_refusal tree page target position) last.0;
      free = slug_clear (kid_with_slug (slug_in tree page) (kids_of parent (without page tree)))
          taken.0;
      steps = rows_within after (test_clear _ StepsFull full.0);
      depth = limit_clear MAX_DEPTH (height after)
          (sym (rows_too_deep after) ∙ test_clear _ TooDeep deep.0);
      urls = urls_clear (rows_of after) (test_clear _ UrlTooLong long.0);
    }

-- no page has the id 0
pub no_zero : (next : ℕ) (f : Forest Body) → AllPages (λ id slug body. IsGiven next id) f →
    count 0 f ≡ 0
no_zero next bare all = refl
no_zero next (grown i s slug body kids rest) all =
    let positive : 1 ≤ i = all.0.0 in
    let differs = told_apart i 0 (λ same. let no : ⊥ = omega (arith, positive, same) in no) in
    rw (differs, no_zero next kids all.1, no_zero next rest all.2) (omega arith)

-- there was room at the new place
room_there : (tree : Forest Body) (page target : ℕ) (position : Position) →
    1 ≤ count page tree →
    Lands (without page tree) (parent_at tree target position)
    (place_at (without page tree) target position) →
    AreWithin LAST_STEP (moved_to tree page target position) →
    last_step 0 (kids_of (parent_at tree target position) (without page tree)) + 1 ≤ LAST_STEP
room_there tree page target position found lands within =
    let left = without page tree in
    let parent = parent_at tree target position in
    let place = place_at left target position in
    let node = node_found page tree found in
    graft_room LAST_STEP parent page node.step node.slug node.body node.kids place left
    lands.one_parent lands.among
    (subst (λ f. AreWithin LAST_STEP (graft parent place f left)) node.is within)

-- what a move that no rule refuses keeps of the tree
pub move_keeps : (tree : Forest Body) (next page target : ℕ) (position : Position) →
    IsTree tree next → has_page page tree ≡ true → has_page target tree ≡ true →
    (nat_eq target 1 && is_beside position) ≡ false →
    move_rules tree page target position ≡ None →
    IsMoved tree (moved_to tree page target position)
move_keeps tree next page target position sound found there below_root none =
    let clear = clear tree page target position none in
    let parent = parent_at tree target position in
    let place = place_at (without page tree) target position in
    let each = once tree sound.distinct in
    let some = has_counts page tree found in
    let landed = lands tree page target position sound.whole
    (no_zero next tree sound.page_ids) each found there below_root clear.outside clear.moves in
    grafted tree page parent place each some sound.rising sound.steps sound.siblings landed
    clear.free (room_there tree page target position some landed clear.steps)

-- the tree with the page moved
tree_moved : (tree : Forest Body) (next page target : ℕ) (position : Position) →
    IsTree tree next → has_page page tree ≡ true → has_page target tree ≡ true →
    (1 ≡ page → ⊥) → (nat_eq target 1 && is_beside position) ≡ false →
    move_rules tree page target position ≡ None →
    IsTree (moved_to tree page target position) next
tree_moved tree next page target position sound found there other below_root none =
    let clear = clear tree page target position none in
    let parent = parent_at tree target position in
    let place = place_at (without page tree) target position in
    let after = moved_to tree page target position in
    let each = once tree sound.distinct in
    let moved = move_keeps tree next page target position sound found there below_root none in
    record {
      whole = whole-graft parent place (node_of page tree) (without page tree)
          (whole-without page tree other sound.whole);
      distinct = distinct_ids after (λ j.
          let same = moved.counts j in
          let most = each j in omega (arith, same, most));
      next_page = sound.next_page;
      page_ids = AllPages-moved (λ id slug body. IsGiven next id) page parent place tree
          sound.page_ids;
      rising = moved.rising;
      steps = moved.steps;
      depth = clear.depth;
      urls = clear.urls;
      slugs = AllPages-moved (λ id slug body. (id ≡ 1 → ⊥) → IsSlug slug) page parent place tree
          sound.slugs;
      siblings = moved.siblings;
    }

-- the regular pages are kept where the same pages stand afterwards
pub move_keeps_regular : (tree : Forest Body) (next page target : ℕ) (position : Position) →
    IsTree tree next → has_page page tree ≡ true → has_page target tree ≡ true →
    (nat_eq target 1 && is_beside position) ≡ false →
    move_rules tree page target position ≡ None →
    KeepRegular tree (moved_to tree page target position)
move_keeps_regular tree next page target position sound found there below_root none one regular =
    let moved = move_keeps tree next page target position sound found there below_root none in
    let some = has_counts one tree regular.1 in
    let same = moved.counts one in (
      regular.0,
      counts_has one (moved_to tree page target position) (omega (arith, some, same)),
      AllPages-moved (λ id slug body. id ≡ one → body.source ≡ None) page
          (parent_at tree target position) (place_at (without page tree) target position) tree
          regular.2,
    )

-- the world after a move that no rule refuses is sound
pub move_keeps_sound : (part : TreePart) (now page target : ℕ) (position : Position) →
    AreGroups part → IsMoment now →
    has_page page part.tree ≡ true → has_page target part.tree ≡ true → (1 ≡ page → ⊥) →
    (nat_eq target 1 && is_beside position) ≡ false →
    move_rules part.tree page target position ≡ None →
    AreGroups (with_move part now page target position)
move_keeps_sound part now page target position sound moment found there other below_root none =
    let tree = part.tree in
    let parent = parent_at tree target position in
    let place = place_at (without page tree) target position in
    let after = moved_to tree page target position in
    let moved = move_keeps tree part.next_page page target position sound.pages found there
    below_root none in
    let stays = λ (id : ℕ) (old : has_page id tree ≡ true).
    let some = has_counts id tree old in
    let same = moved.counts id in
    counts_has id after (omega (arith, some, same)) in
    record {
      time = omega (arith, sound.time, moment);
      pages = tree_moved tree part.next_page page target position sound.pages found there other
          below_root none;
      revisions = record {
        next_revision = sound.revisions.next_revision;
        revision_ids = sound.revisions.revision_ids;
        revisions_rise = sound.revisions.revisions_rise;
        revisions_have_pages = all_weaker
            (λ (revision : Revision). has_page revision.page tree ≡ true)
            (λ (revision : Revision). has_page revision.page after ≡ true) part.revisions
            (λ revision old. stays revision.page old) sound.revisions.revisions_have_pages;
        revisions_below_root = sound.revisions.revisions_below_root;
        authors = sound.revisions.authors;
        moments = sound.revisions.moments;
        contents = sound.revisions.contents;
        contents_fit = sound.revisions.contents_fit;
      };
      bodies = record {
        bodies = AllPages-moved
            (λ id slug body. IsBody part.revisions part.next_user part.next_workflow
            part.workflows id body) page parent place tree sound.bodies.bodies;
        sources = sources_stay tree after after
            (move_keeps_regular tree part.next_page page target position sound.pages found there
            below_root none)
            (AllPages-moved (λ id slug body. IfSome body.source (IsRegular tree)) page parent place
            tree sound.bodies.sources);
      };
      people = sound.people;
      tasks = sound.tasks;
      grants = record {
        grants_name = sound.grants.grants_name;
        grants_have_pages = all_weaker (λ (grant : Grant). has_page grant.page tree ≡ true)
            (λ (grant : Grant). has_page grant.page after ≡ true) part.grants
            (λ grant old. stays grant.page old) sound.grants.grants_have_pages;
        grants_rise = sound.grants.grants_rise;
        grants_fit = sound.grants.grants_fit;
      };
    }
