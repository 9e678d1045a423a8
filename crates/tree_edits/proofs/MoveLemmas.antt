-- The plan of a move that no rule refuses.
use Rattle.std.proofs.Common.{◌≡◌, ◌≤◌, ℕ, Bool, true, false, cond, max, nat_eq, List, [], ◌∷◌, filter, Option, Some, None, is_some, Ok, unwrap_or, refl, sym, ap, subst, ◌∙◌, arith}
use Rattle.std.specs.Map.{lookup}
use Rattle.page_tree.specs.Tree.{kids_of, kid_with_slug, without}
use Rattle.page_tree.specs.Rows.{Row, rows_of, row_with}
use Rattle.page_tree.proofs.RowLemmas.{has_page-rows}
use Rattle.site_ids.specs.Moment.{IsMoment}
use Rattle.site_types.specs.Content.{ContentValue}
use Rattle.site_types.specs.declared.body.Body.{Body}
use Rattle.site_types.specs.declared.command.Command.TheVariants.{Move}
use Rattle.site_types.specs.declared.position.Position.{Position}
use Rattle.site_types.specs.declared.refusal.Refusal.{Refusal}
use Rattle.site_types.specs.declared.refusal.Refusal.TheVariants.{IntoItself, NothingNew}
use Rattle.site_types.specs.declared.reply.Reply.{Reply}
use Rattle.tree_model.specs.Changes.{path_in, changed_paths}
use Rattle.tree_model.specs.Places.{stays_put, parent_at, slug_in, leads_into_itself}
use Rattle.tree_model.proofs.CountLemmas.{has_counts, counts_has}
use Rattle.page_store.specs.Pages.{ArePages}
use Rattle.page_store.specs.declared.plan.MovePlan.{MovePlan}
use Rattle.path_moves.proofs.ApplyAfter.{planned_clear}
use Rattle.site_model.specs.World as worlds
use Rattle.site_model.specs.Step.{step_by}
use Rattle.site_model.specs.Create.{page_reply}
use Rattle.site_model.specs.LosingLaws.{is_lost_below}
use Rattle.site_model.specs.Moves.{into_itself, effect_refusal, with_move}
use Rattle.site_model.specs.Rules.{first_of, slug_taken}
use Rattle.site_model.proofs.ClearLemmas.{first_clear, test_clear, slug_clear}
use Rattle.site_model.proofs.LosingEnds.{move_ends}
use Rattle.site_model.proofs.ReachedSound.{step_by_keeps_reached}
use Rattle.flat_model.specs.Flat.{people_of, lists_of}
use Rattle.flat_model.specs.Single.{tree_change}
use Rattle.flat_model.specs.declared.change.Change.{Change}
use Rattle.flat_model.specs.declared.change.TreeChange.TheVariants as trees
use Rattle.flat_model.proofs.ListLemmas.{lists_are, quiet_revisions, quiet_people}
use Rattle.site_part.specs.Plans.{HasPlan, pages_of, pairs_left, quiet_plan, left_by}
use Rattle.site_part.specs.declared.plan.Plan.{Plan}
use Rattle.site_part.specs.Standing.{IsSame}
use Rattle.site_part.specs.declared.part.TreePart.{TreePart}
use Rattle.site_part.proofs.StandingLemmas.{same_ready}
use Rattle.new_pages.specs.Moving.{there_rules, IsNamed, IsMovePlan, told_reply}
use Rattle.new_pages.specs.Plans.{IsAsked, IsSoundTree}
use Rattle.new_pages.proofs.CommandLemmas.{move_names, move_own, move_done, move_desk}
use Rattle.new_pages.proofs.EndingSteps.{ending, left_open, no_desk_fits, ends_step}
use Rattle.tree_edits.proofs.MoveChange.{IsMove, move_fits, move_leads}
use Rattle.tree_edits.proofs.MovePlans.{Found, found_of, movable_is}
use Rattle.new_pages.proofs.ReplyLemmas.{own_ids_of, told_path_is, told_reply_is}

-- what refuses where a test holds is not told where it does not refuse
test_out : (test : Bool) (refusal : Refusal) (other : Option Refusal) →
    cond test (Some refusal) other ≡ None → test ≡ false
test_out true refusal other is = absurd (cc)
test_out false refusal other is = refl

-- a move that is asked for is planned in the rows that stand for the tree
pub move_named : (kept : TreePart) (part : worlds.TreePart) (caller page target : ℕ)
    (position : Position) → IsAsked kept part caller (Move page target position) →
    IsNamed kept.rows.pages part page target position
move_named kept part caller page target position asked = record {
  stands = asked.ready.stands.pages;
  sound = asked.ready.reached.sound.pages;
  named = move_names part caller page target position asked.front;
}

module _ (kept : TreePart) (part : worlds.TreePart) (desk : Option ContentValue)
    (now caller page target : ℕ) (position : Position)
    (asked : IsAsked kept part caller (Move page target position)) (moment : IsMoment now)
    (plan : MovePlan) (urls : List (ℕ × List ℕ))
    (clear : first_of (there_rules part.tree page target position) ≡ None)
    (planned : IsMovePlan part.tree page target position (plan, urls)) where
  -- the world after the move
  abbrev after : worlds.TreePart
  after = with_move part now page target position

  -- its reply
  abbrev reply : Reply
  reply = page_reply page after.tree

  -- the desks that it ends
  abbrev ended : List worlds.DeskPair
  ended = filter (is_lost_below part page (parent_at part.tree target position)) part.desk_pairs

  -- the world with the others
  abbrev left : worlds.TreePart
  left = left_open after ended part.desk_pairs

  -- the step leads there
  step_is : step_by part desk now caller (Move page target position)
      ≡ Ok (left, ending reply ended)
  step_is =
      ends_step part desk now caller (Move page target position) after reply
      asked.ready.reached.sound asked.front
      (move_own part desk now caller page target position ∙ clear)
      (move_desk page target position) (move_done part desk now caller page target position) refl
      ended
      (λ later told is. move_ends part later told desk now caller page target position
      asked.ready.reached.sound is)

  -- the tree after it is sound
  sound_after : IsSoundTree after
  sound_after =
      (step_by_keeps_reached part left (ending reply ended) desk now caller
      (Move page target position) asked.ready.reached moment asked.fits
      (no_desk_fits part desk caller (Move page target position) (move_desk page target position))
      step_is).sound.pages

  -- what the rules say of where the page goes
  into_clear : (into_itself part.tree page target position ≡ None)
      × (first_of (cond (stays_put page target position) (Some NothingNew)
      (effect_refusal part.tree page target position) ∷ []) ≡ None)
  into_clear = first_clear (into_itself part.tree page target position) _ clear

  outside : leads_into_itself part.tree page target position ≡ false
  outside = test_clear (leads_into_itself part.tree page target position) IntoItself into_clear.0

  moves : stays_put page target position ≡ false
  moves =
      test_out (stays_put page target position) NothingNew
      (effect_refusal part.tree page target position)
      (first_clear (cond (stays_put page target position) (Some NothingNew)
      (effect_refusal part.tree page target position)) [] into_clear.1).0

  -- what is found
  found : Found part.tree page target position
  found =
      found_of part page target position asked.ready.reached.sound.pages
      (movable_is kept.rows.pages part page target position
      (move_named kept part caller page target position asked) moves) outside

  -- the page has a row behind the move
  row_after : (row : Row Body) × (row_with page (rows_of after.tree) ≡ Some row)
  row_after =
      some (row_with page (rows_of after.tree))
      (sym (has_page-rows page None [] [] after.tree)
      ∙ (let same = found.counts page in
      let there = has_counts page part.tree found.here in
      counts_has page after.tree (omega (arith, same, there))))
    where
      some : (o : Option (Row Body)) → is_some o ≡ true → (row : Row Body) × (o ≡ Some row)
      some None is = absurd (cc)
      some (Some row) is = (row, refl)

  -- the paths that change are those of the plan
  paths_are : plan.rows ≡ changed_paths (rows_of part.tree)
      (rows_of after.tree)
  paths_are =
      ap (λ (p : MovePlan). p.rows)
      (sym (planned_clear part.tree page target position plan planned.plan).1)

  -- what is told is the page's reply
  reply_told : told_reply kept.rows.pages page plan.rows urls ≡ page_reply page after.tree
  reply_told =
      let row = row_after in
      ap (λ pages. told_reply pages page plan.rows urls) asked.ready.stands.pages
      ∙ told_reply_is (rows_of part.tree) after.tree page row.0 plan.rows urls sound_after.whole
      sound_after.distinct row.1
      (ap (λ paths. unwrap_or (lookup (nat_eq page) paths)
      (path_in page (rows_of part.tree))) paths_are
      ∙ told_path_is (rows_of part.tree) (rows_of after.tree) page row.0
      (own_ids_of after.tree sound_after.distinct) row.1)
      planned.urls

  -- no other kid of the new parent has the page's slug
  free : kid_with_slug (slug_in part.tree page)
      (kids_of (parent_at part.tree target position) (without page part.tree)) ≡ None
  free =
      let effect_clear : effect_refusal part.tree page target position ≡ None =
      ap (λ t. cond t (Some NothingNew) (effect_refusal part.tree page target position)) (sym moves)
      ∙ (first_clear (cond (stays_put page target position) (Some NothingNew)
      (effect_refusal part.tree page target position)) [] into_clear.1).0 in
      slug_clear (kid_with_slug (slug_in part.tree page)
      (kids_of (parent_at part.tree target position) (without page part.tree)))
      (first_clear (slug_taken (without page part.tree) (parent_at part.tree target position)
      (slug_in part.tree page)) _ effect_clear).0

  module _ (are : ArePages kept.rows.pages) where
    -- what is known of the move
    is_move : IsMove part.tree page target position plan urls
    is_move = record {
      pages = subst ArePages asked.ready.stands.pages are;
      movable = movable_is kept.rows.pages part page target position
          (move_named kept part caller page target position asked) moves;
      outside = outside;
      free = free;
      counts = found.counts;
      distinct = sound_after.distinct;
      planned = planned.plan;
      urls_are = planned.urls;
    }

    -- what it changes
    abbrev change : ℕ → ℕ → ℕ → Change
    change time next_page next_revision =
        tree_change (trees.Move plan urls) time next_page next_revision

    -- the plan that ends the desks on these pages
    abbrev planned_move : Reply → List ℕ → ℕ → ℕ → ℕ → Plan
    planned_move told shut time next_page next_revision =
        record (quiet_plan told (change time next_page next_revision)) { shut = shut }

    -- the plan can be committed where room was made
    pub move_planned : (room : TreePart) (told : Reply) (shut : List ℕ) (time : ℕ) →
        IsSame kept room → 2 ≤ room.rows.spare → shut ≡ pages_of ended →
        told ≡ told_reply kept.rows.pages page plan.rows urls → time ≡ max room.time now →
        HasPlan room part desk now caller (Move page target position)
        (planned_move told shut time room.next_page room.next_revision)
    move_planned room told shut time same spare shut_is reply_is time_is =
        let ready = same_ready kept room part same asked.ready in
        record {
          after = left;
          effect = ending reply ended;
          can = record {
            ready = ready;
            right = record {
              step = step_is;
              reply = reply_is ∙ reply_told;
              opened = refl;
              shut = shut_is;
              no_text = refl;
              fits = record {
                change = record {
                  tree = move_fits part.tree page target position plan urls is_move;
                  bodies = tt;
                  gone = tt;
                  revisions = tt;
                  people = tt;
                  flows = tt;
                };
                opened = tt;
              };
              leads = lists_are
                  (left_by (planned_move told shut time room.next_page room.next_revision)
                  (lists_of part))
                  (lists_of left) (move_leads part.tree page target position plan urls is_move)
                  (quiet_revisions part.revisions) (quiet_people (people_of part)) refl refl
                  (ap (λ ids. pairs_left ids part.desk_pairs) shut_is)
                  (time_is ∙ ap (λ t. max t now) ready.stands.time) ready.stands.next_page
                  ready.stands.next_revision;
            };
            room = record {
              rows = spare;
              revisions = omega arith;
              people = omega arith;
              flows = omega arith;
              desks = omega arith;
            };
          };
        }
