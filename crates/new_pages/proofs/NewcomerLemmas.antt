-- The plan of a page that comes, with revisions or without.
use Rattle.std.proofs.Common.{◌≡◌, ◌≤◌, ◌+◌, ℕ, true, List, [], ◌++◌, length, Option, refl, sym, subst, ◌∙◌, arith}
use Rattle.page_tree.specs.Tree.{has_page}
use Rattle.page_tree.specs.Rows.{rows_of}
use Rattle.site_ids.specs.Moment.{IsMoment}
use Rattle.step_path.specs.Path.{path_text}
use Rattle.site_types.specs.Content.{ContentValue}
use Rattle.site_types.specs.declared.body.Body.{Body}
use Rattle.site_types.specs.declared.command.Command.{Command}
use Rattle.site_types.specs.declared.reply.Reply.{Reply}
use Rattle.site_types.specs.declared.reply.Reply.TheVariants.{Page}
use Rattle.site_types.specs.declared.revision.Revision.{Revision}
use Rattle.page_store.specs.PageRows.{IsNewRow}
use Rattle.page_store.specs.Pages.{ArePages}
use Rattle.path_moves.specs.Laws.{IsTree}
use Rattle.site_model.specs.World as worlds
use Rattle.site_model.specs.Create.{page_reply}
use Rattle.publishing.specs.Laws.{IsUntimed}
use Rattle.flat_model.specs.Fits.{Fits, RevisionsFit}
use Rattle.flat_model.specs.Flat.{people_of, lists_of}
use Rattle.flat_model.specs.Made.{revisions_left}
use Rattle.flat_model.specs.declared.change.Change.{Change}
use Rattle.flat_model.proofs.ListLemmas.{lists_are, quiet_people}
use Rattle.site_part.specs.Plans.{HasPlan, quiet_plan, left_by}
use Rattle.site_part.specs.Standing.{IsSame}
use Rattle.site_part.specs.declared.part.TreePart.{TreePart}
use Rattle.site_part.specs.declared.plan.Plan.{Plan}
use Rattle.new_pages.specs.declared.newcomer.Newcomer.{Newcomer}
use Rattle.new_pages.specs.declared.place.NewPlace.{NewPlace}
use Rattle.new_pages.specs.Making.{with_page, IsPlace, row_at, newcomer_change, newcomer_plan}
use Rattle.new_pages.specs.Plans.{IsAsked, IsSoundTree}
use Rattle.new_pages.proofs.CreationPlan.{next_free}
use Rattle.new_pages.proofs.CreationRows.{own_found, row_fits, rows_with}
use Rattle.new_pages.proofs.EndingSteps.{left_open}
use Rattle.new_pages.proofs.QuietPlans.{IsQuiet, reached_after, quiet_planned}
use Rattle.new_pages.proofs.ReplyLemmas.{reply_is}

-- the world with a page that came below its parent, with these revisions
abbrev pub came : worlds.TreePart → ℕ → ℕ → List ℕ → Body → List Revision → ℕ → worlds.TreePart
came part now parent slug body revisions next =
    record part {
      time = worlds.time_at part now;
      next_page = part.next_page + 1;
      next_revision = next;
      tree = with_page part.tree part.next_page parent slug body;
      revisions = revisions;
    }

-- The revisions of a world, and those that come: they may come, and these are then all of them.
pub record Comes (part : worlds.TreePart) (new all : List Revision) : Type 0 where
  pub fit : RevisionsFit new part.revisions
  pub all_are : revisions_left [] part.revisions ++ new ≡ all

module _ (kept : TreePart) (part : worlds.TreePart) (desk : Option ContentValue)
    (now caller parent : ℕ) (slug : List ℕ) (body : Body) (new all : List Revision) (next : ℕ)
    (command : Command) (asked : IsAsked kept part caller command) (moment : IsMoment now)
    (are : ArePages kept.rows.pages) (place : NewPlace)
    (placed : IsPlace part.tree parent slug place) (there : has_page parent part.tree ≡ true)
    (comes : Comes part new all) (untimed : IsUntimed body)
    (quiet : IsQuiet part desk now caller command (came part now parent slug body all next)
    (page_reply part.next_page (came part now parent slug body all next).tree)) where
  -- the world after it
  abbrev after : worlds.TreePart
  after = came part now parent slug body all next

  -- its reply
  abbrev reply : Reply
  reply = page_reply part.next_page after.tree

  -- with all its open desks
  abbrev left : worlds.TreePart
  left = left_open after [] part.desk_pairs

  -- the world before it is sound, and so is that after it
  abbrev sound : IsSoundTree part
  sound = asked.ready.reached.sound.pages

  sound_after : IsSoundTree after
  sound_after =
      (reached_after kept part desk now caller command after reply asked quiet moment).sound.pages

  -- the tree has rising steps and distinct ids
  is_tree : IsTree part.tree
  is_tree = record { rising = sound.rising; distinct = sound.distinct }

  -- the rows are those of a store
  are_rows : ArePages (rows_of part.tree)
  are_rows = subst ArePages asked.ready.stands.pages are

  -- what is told is the new page's reply
  reply_told : Page part.next_page (path_text place.path) place.url ≡ reply
  reply_told =
      reply_is after.tree part.next_page _ sound_after.whole sound_after.distinct
      (own_found part.tree are_rows is_tree sound.whole parent part.next_page slug place.path
      place.url body there (next_free part sound) placed.free placed.path placed.url
      sound_after.rising sound_after.steps sound_after.depth)

  -- the page, and what it changes
  abbrev newcomer : Newcomer
  newcomer = record { id = part.next_page; place = place; body = body }

  abbrev change : Change
  change = newcomer_change newcomer slug new (worlds.time_at part now) next

  -- the row of the page may be put in
  row_new : IsNewRow (rows_of part.tree) (row_at part.next_page place.path slug body)
  row_new =
      row_fits part.tree are_rows is_tree sound.whole parent part.next_page slug place.path place.url
      body there (next_free part sound) placed.free placed.path placed.url sound_after.rising
      sound_after.steps sound_after.depth

  -- the lists of the world can take the change
  change_fits : Fits (lists_of part) change
  change_fits = record {
    tree = (row_new, untimed, tt);
    bodies = tt;
    gone = tt;
    revisions = comes.fit;
    people = tt;
    flows = tt;
  }

  -- it leads to those of the world after it
  change_leads : (told : Reply) → left_by (quiet_plan told change) (lists_of part) ≡ lists_of left
  change_leads told =
      lists_are (left_by (quiet_plan told change) (lists_of part)) (lists_of left)
      (rows_with part.tree are_rows is_tree sound.whole parent part.next_page slug place.path
      place.url body there (next_free part sound) placed.free placed.path placed.url
      sound_after.rising sound_after.steps sound_after.depth)
      comes.all_are (quiet_people (people_of part)) refl refl refl refl refl refl

  -- its plan can be committed where room was made
  plan_is : (room : TreePart) → IsSame kept room → 1 ≤ room.rows.spare →
      length new ≤ room.shelf.spare →
      HasPlan room part desk now caller command
      (newcomer_plan newcomer slug new (worlds.time_at part now) next)
  plan_is room same rows shelf =
      quiet_planned kept part desk now caller command after reply asked quiet room
      (Page part.next_page (path_text place.path) place.url) change same reply_told change_fits
      (change_leads (Page part.next_page (path_text place.path) place.url)) rows shelf
      (omega arith) (omega arith)

  -- so it is of the plan that is built
  pub newcomer_planned : (room : TreePart) (one : Newcomer) (revisions : List Revision)
      (time number : ℕ) (plan : Plan) → IsSame kept room → 1 ≤ room.rows.spare →
      length new ≤ room.shelf.spare → one ≡ newcomer → revisions ≡ new →
      time ≡ worlds.time_at part now → number ≡ next →
      plan ≡ newcomer_plan one slug revisions time number →
      HasPlan room part desk now caller command plan
  newcomer_planned room one revisions time number plan same rows shelf one_is revisions_are time_is
      number_is is =
      subst (λ (p : Plan). HasPlan room part desk now caller command p)
      (sym (is ∙ (rw (one_is, revisions_are, time_is, number_is) refl)))
      (plan_is room same rows shelf)
