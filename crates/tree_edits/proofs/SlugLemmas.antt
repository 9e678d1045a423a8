-- The plan of another slug that no rule refuses.
use Rattle.std.proofs.Common.{◌≡◌, ◌≤◌, ℕ, Bool, true, false, cond, max, List, [], Option, Some, None, is_some, IsSome, Ok, bytes_eq, unwrap_or, refl, sym, ap, subst, ◌∙◌, arith}
use Rattle.std.specs.Option.{option_map}
use Rattle.page_tree.specs.Tree.{kids_of, kid_with_slug, without}
use Rattle.page_tree.specs.Rows.{Row, rows_of, row_with}
use Rattle.site_ids.specs.Moment.{IsMoment}
use Rattle.site_types.specs.Content.{ContentValue}
use Rattle.site_types.specs.declared.body.Body.{Body}
use Rattle.site_types.specs.declared.command.Command.TheVariants.{SetSlug}
use Rattle.site_types.specs.declared.refusal.Refusal.TheVariants.{NothingNew}
use Rattle.site_types.specs.declared.reply.Reply.{Reply}
use Rattle.tree_model.specs.Places.{parent_in, slug_in}
use Rattle.page_store.specs.Pages.{ArePages}
use Rattle.page_store.specs.Relabelling.{AreListed}
use Rattle.site_model.specs.World as worlds
use Rattle.site_model.specs.Step.{step_by}
use Rattle.site_model.specs.Create.{page_reply}
use Rattle.site_model.specs.Rules.{slug_taken}
use Rattle.site_model.specs.Slugs.{effect_refusal, slug_rules, with_slug as renamed_part}
use Rattle.site_model.proofs.ClearLemmas.{first_clear, slug_clear}
use Rattle.site_model.proofs.ReachedSound.{step_by_keeps_reached}
use Rattle.flat_model.specs.Fits.{Fits}
use Rattle.flat_model.specs.Flat.{people_of, lists_of}
use Rattle.flat_model.specs.Made.{with_name}
use Rattle.flat_model.specs.Single.{tree_change}
use Rattle.flat_model.specs.declared.change.Change.{Change}
use Rattle.flat_model.specs.declared.change.TreeChange.TheVariants as trees
use Rattle.flat_model.proofs.ListLemmas.{lists_are, quiet_revisions, quiet_people}
use Rattle.site_part.specs.Plans.{HasPlan, quiet_plan, left_by}
use Rattle.site_part.specs.Standing.{IsSame}
use Rattle.site_part.specs.declared.part.TreePart.{TreePart}
use Rattle.site_part.proofs.StandingLemmas.{same_ready}
use Rattle.new_pages.specs.Moving.{told_reply}
use Rattle.tree_edits.specs.Naming.{IsBelow, AreNewUrls}
use Rattle.new_pages.specs.Plans.{IsAsked, IsSoundTree, IsBelowRoot}
use Rattle.new_pages.proofs.CommandLemmas.{slug_names, slug_own, slug_done, slug_desk, slug_quiet}
use Rattle.new_pages.proofs.EndingSteps.{ending, left_open, no_desk_fits, quiet_step}
use Rattle.tree_edits.proofs.ListedUrls.{slug_listed}
use Rattle.new_pages.proofs.LookUpLemmas.{row_there}
use Rattle.new_pages.proofs.ReplyLemmas.{told_reply_is}
use Rattle.tree_edits.proofs.SlugChange.{may_have}
use Rattle.tree_edits.proofs.SlugTree.{slug_rows, later_row}

-- another slug that is asked for is planned in the rows that stand for the tree
pub slug_named : (kept : TreePart) (part : worlds.TreePart) (caller page : ℕ) (slug : List ℕ) →
    IsAsked kept part caller (SetSlug page slug) → IsBelow kept.rows.pages part page slug
slug_named kept part caller page slug asked = record {
  stands = asked.ready.stands.pages;
  sound = asked.ready.reached.sound.pages;
  named = slug_names part caller page slug asked.front;
}

-- its page has a row
pub row_named : (pages : List (Row Body)) (part : worlds.TreePart) (page : ℕ) (slug : List ℕ) →
    IsBelow pages part page slug → IsSome (row_with page pages)
row_named pages part page slug asked = row_there page part.tree pages asked.stands ∙ asked.named.0

module _ (kept : TreePart) (part : worlds.TreePart) (desk : Option ContentValue)
    (now caller page : ℕ) (slug : List ℕ) (asked : IsAsked kept part caller (SetSlug page slug))
    (moment : IsMoment now) (urls : List (ℕ × List ℕ))
    (clear : slug_rules part.tree page slug ≡ None)
    (news : AreNewUrls part.tree page slug urls) where
  -- the world after it
  abbrev after : worlds.TreePart
  after = renamed_part part now page slug

  -- its reply
  abbrev reply : Reply
  reply = page_reply page after.tree

  -- the page is there, and is not the root
  named : IsBelowRoot part.tree page
  named = slug_names part caller page slug asked.front

  -- with all its open desks
  abbrev left : worlds.TreePart
  left = left_open after [] part.desk_pairs

  -- the step leads there, and ends no desk
  step_is : step_by part desk now caller (SetSlug page slug) ≡ Ok (left, ending reply [])
  step_is =
      let quiet = slug_quiet page slug in
      quiet_step part desk now caller (SetSlug page slug) after reply asked.ready.reached.sound
      asked.front (slug_own part desk now caller page slug ∙ clear) (slug_desk page slug)
      (slug_done part desk now caller page slug) refl quiet.0 quiet.1

  -- the tree after it is sound
  sound_after : IsSoundTree after
  sound_after =
      (step_by_keeps_reached part left (ending reply []) desk now caller (SetSlug page slug)
      asked.ready.reached moment asked.fits
      (no_desk_fits part desk caller (SetSlug page slug) (slug_desk page slug)) step_is).sound.pages

  -- the page's row
  own_row : (row : Row Body) × (row_with page (rows_of part.tree) ≡ Some row)
  own_row =
      some (row_with page (rows_of part.tree))
      (row_there page part.tree (rows_of part.tree) refl ∙ named.0)
    where
      some : (o : Option (Row Body)) → is_some o ≡ true →
          (row : Row Body) × (o ≡ Some row)
      some None is = absurd (cc)
      some (Some row) is = (row, refl)

  -- what is told is the page's reply: its path stays
  reply_told : told_reply kept.rows.pages page [] urls ≡ page_reply page after.tree
  reply_told =
      let sound = asked.ready.reached.sound.pages in
      let row = own_row in
      let later = later_row part.tree sound.distinct page slug row.0 row.1 in
      ap (λ pages. told_reply pages page [] urls) asked.ready.stands.pages
      ∙ told_reply_is (rows_of part.tree) after.tree page later.later [] urls sound_after.whole
      sound_after.distinct later.found
      (ap (λ (o : Option (Row Body)). unwrap_or (option_map (λ (r : Row Body). r.path) o) []) row.1
      ∙ sym later.path_is)
      news

  -- no other kid of the parent has the slug
  free : kid_with_slug slug (kids_of (parent_in part.tree page) (without page part.tree)) ≡ None
  free =
      let effect_clear : effect_refusal part.tree page slug ≡ None =
      not_so (bytes_eq (slug_in part.tree page) slug) clear in
      slug_clear (kid_with_slug slug (kids_of (parent_in part.tree page) (without page part.tree)))
      (first_clear (slug_taken (without page part.tree) (parent_in part.tree page) slug) _
      effect_clear).0
    where
      not_so : (test : Bool) →
          cond test (Some NothingNew) (effect_refusal part.tree page slug) ≡ None →
          effect_refusal part.tree page slug ≡ None
      not_so true is = absurd (cc)
      not_so false is = is

  module _ (are : ArePages kept.rows.pages) where
    -- what it changes
    abbrev change : List ℕ → ℕ → ℕ → ℕ → Change
    change text time next_page next_revision =
        tree_change (trees.Rename page text urls) time next_page next_revision

    -- the lists of the world can take it
    change_fits : (time next_page next_revision : ℕ) →
        Fits (lists_of part) (change slug time next_page next_revision)
    change_fits time next_page next_revision = record {
      tree = (
        may_have part.tree page slug (subst ArePages asked.ready.stands.pages are) named.0
            named.1 free,
        subst (AreListed (rows_of part.tree)) (sym news)
            (slug_listed part.tree asked.ready.reached.sound.pages.distinct page slug),
      );
      bodies = tt;
      gone = tt;
      revisions = tt;
      people = tt;
      flows = tt;
    }

    -- it leads to those of the world after it
    change_leads : (told : Reply) (time next_page next_revision : ℕ) →
        time ≡ worlds.time_at part now → next_page ≡ part.next_page →
        next_revision ≡ part.next_revision →
        left_by (quiet_plan told (change slug time next_page next_revision)) (lists_of part)
        ≡ lists_of left
    change_leads told time next_page next_revision time_is page_is revision_is =
        lists_are
        (left_by (quiet_plan told (change slug time next_page next_revision)) (lists_of part))
        (lists_of left)
        (ap (λ pairs. with_name page slug pairs (rows_of part.tree)) news
        ∙ slug_rows part.tree asked.ready.reached.sound.pages.distinct page slug)
        (quiet_revisions part.revisions) (quiet_people (people_of part)) refl refl
        refl time_is page_is revision_is

    -- the plan can be committed where room was made
    pub slug_planned : (room : TreePart) (told : Reply) (paths : List (ℕ × List ℕ))
        (text : List ℕ) (time : ℕ) → IsSame kept room → 3 ≤ room.rows.spare →
        told ≡ told_reply kept.rows.pages page paths urls → paths ≡ [] → text ≡ slug →
        time ≡ max room.time now →
        HasPlan room part desk now caller (SetSlug page slug)
        (quiet_plan told (change text time room.next_page room.next_revision))
    slug_planned room told paths text time same spare reply_is no_paths text_is time_is =
        let ready = same_ready kept room part same asked.ready in
        subst (λ t. HasPlan room part desk now caller (SetSlug page slug)
        (quiet_plan told (change t time room.next_page room.next_revision))) (sym text_is)
        (record {
          after = left;
          effect = ending reply [];
          can = record {
            ready = ready;
            right = record {
              step = step_is;
              reply = reply_is
                  ∙ (ap (λ pairs. told_reply kept.rows.pages page pairs urls) no_paths
                  ∙ reply_told);
              opened = refl;
              shut = refl;
              no_text = refl;
              fits = record {
                change = change_fits time room.next_page room.next_revision;
                opened = tt;
              };
              leads = change_leads told time room.next_page room.next_revision
                  (time_is ∙ ap (λ t. max t now) ready.stands.time) ready.stands.next_page
                  ready.stands.next_revision;
            };
            room = record {
              rows = spare;
              revisions = omega arith;
              people = omega arith;
              flows = omega arith;
              desks = omega arith;
            };
          };
        })
