-- The rules on an alias that is to become a regular page, and its plan.
use Rattle.std.proofs.Common.{◌≡◌, ◌<◌, ◌≤◌, ◌+◌, ℕ, Bool, true, List, [], ◌∷◌, length, Option, Some, None, IsSome, unwrap_or, refl, sym, ap, subst, ◌∙◌, arith}
use Rattle.std.specs.Option.{option_map}
use Rattle.page_tree.specs.Tree.{Forest, has_page}
use Rattle.page_tree.specs.Rows.{rows_of, row_with}
use Rattle.site_ids.specs.declared.ids.TheConstants.{LAST_REVISION_ID}
use Rattle.site_types.specs.Content.{ContentValue, content_form}
use Rattle.site_types.specs.declared.body.Body.{Body}
use Rattle.site_types.specs.declared.command.Command.TheVariants.{Detach}
use Rattle.site_types.specs.declared.refusal.Refusal.{Refusal}
use Rattle.site_types.specs.declared.refusal.Refusal.TheVariants.{NothingNew, IdsFull, ContentFull}
use Rattle.site_types.specs.declared.reply.Reply.TheVariants.{Done}
use Rattle.site_types.specs.declared.revision.Revision.{Revision}
use Rattle.site_model.specs.World as worlds
use Rattle.page_store.specs.PageRows.{page_row}
use Rattle.page_store.specs.Pages.{Page}
use Rattle.site_model.specs.Rules.{first_of, content_full}
use Rattle.site_model.specs.Aliases.{shown_by, no_content, shown_content, detached_body, with_detached, detach_rules}
use Rattle.site_model.specs.Create.{plain_revision}
use Rattle.site_model.specs.Limits.{MAX_CONTENTS, contents_length}
use Rattle.site_model.specs.Sound.{AreBodies}
use Rattle.site_model.specs.Views.{body_of, is_live, is_live_page}
use Rattle.site_model.proofs.SourceLemmas.{found_is_there}
use Rattle.site_model.proofs.ContentLemmas.{within_room, past_room, within, past}
use Rattle.site_model.proofs.RegularLemmas.{kept_there, same_body}
use Rattle.flat_model.proofs.BodyRows.{rebodied_rows}
use Rattle.flat_model.proofs.ListLemmas.{lists_are, quiet_people}
use Rattle.flat_model.specs.Flat.{people_of, lists_of}
use Rattle.flat_model.specs.Single.{body_change}
use Rattle.flat_model.specs.declared.change.Change.{Change}
use Rattle.site_part.specs.Plans.{HasPlan, quiet_plan, left_by}
use Rattle.site_part.specs.Standing.{IsSame}
use Rattle.site_part.proofs.LiveLemmas.{body_missing}
use Rattle.page_copies.proofs.ShownLemmas.{shown_there}
use Rattle.site_part.specs.declared.part.TreePart.{TreePart}
use Rattle.site_part.specs.declared.plan.Plan.{Plan}
use Rattle.tree_edits.specs.Detaching.{regular_body, detaching_plan}
use Rattle.tree_edits.specs.Leaving.{body_at, IsAliasHere, IsDetachedAt}
use Rattle.tree_edits.specs.declared.detaching.Detached.{Detached}
use Rattle.new_pages.specs.Plans.{IsAsked}
use Rattle.new_pages.proofs.CommandLemmas.{detach_names, detach_own, detach_done, detach_desk, detach_quiet}
use Rattle.new_pages.proofs.CreationLemmas.{one_comes}
use Rattle.new_pages.proofs.CreationRules.{one_longer}
use Rattle.new_pages.proofs.EndingSteps.{left_open}
use Rattle.new_pages.proofs.LookUpLemmas.{row_there}
use Rattle.new_pages.proofs.QuietPlans.{IsQuiet, quiet_planned}

module _ (part : worlds.TreePart) (now caller page : ℕ) (body : Body)
    (found : body_of part.tree page ≡ Some body) where
  -- what the rules tell
  abbrev told : Option Refusal
  told = detach_rules part now caller page

  -- the revisions with the new one
  abbrev all : List Revision
  all = (with_detached part now caller page).revisions

  -- a regular page
  pub detach_known : body.source ≡ None → told ≡ Some NothingNew
  detach_known regular = rw (found, regular) refl

  module _ (source : ℕ) (alias : body.source ≡ Some source) where
    -- no id is left
    pub detach_ids : LAST_REVISION_ID < part.next_revision → told ≡ Some IdsFull
    detach_ids over =
        rw (found, alias, past LAST_REVISION_ID part.next_revision IdsFull over) refl

    module _ (fits : part.next_revision ≤ LAST_REVISION_ID) where
      -- how long the contents are with one more
      longer : contents_length all
          ≡ contents_length part.revisions + length (content_form (shown_content part page))
      longer =
          one_longer part.revisions
          (plain_revision part.next_revision page caller (worlds.time_at part now)
          (shown_content part page))

      -- the first two rules refuse nothing
      rest_is : told ≡ first_of (content_full all ∷ [])
      rest_is =
          rw (found, alias, within LAST_REVISION_ID part.next_revision IdsFull fits) refl

      module _ (weight sum : ℕ) (weight_is : weight ≡ contents_length part.revisions)
          (sum_is : sum ≡ weight + length (content_form (shown_content part page))) where
        -- no room is left
        pub detach_full : MAX_CONTENTS < sum → told ≡ Some ContentFull
        detach_full over =
            let past_all : MAX_CONTENTS < contents_length all =
            omega (arith, longer, weight_is, sum_is, over) in
            rest_is ∙ rw (past_room all past_all) refl

        -- nothing is in the way
        pub detach_clear : sum ≤ MAX_CONTENTS → told ≡ None
        detach_clear room =
            let all_fit : contents_length all ≤ MAX_CONTENTS =
            omega (arith, longer, weight_is, sum_is, room) in
            rest_is ∙ rw (within_room all all_fit) refl

-- what is kept of a page that becomes a regular one, and its revision, as the world has them
pub detached_is : (part : worlds.TreePart) (page caller id moment : ℕ) (body : Body)
    (live : Bool) (content : ContentValue) (own : Body) (revision : Revision) →
    body_of part.tree page ≡ Some body → live ≡ is_live_page part.tree page →
    content ≡ shown_content part page → own ≡ regular_body body live id moment →
    revision ≡ plain_revision id page caller moment content →
    IsDetachedAt part moment id caller page (record { body = own; revision = revision })
detached_is part page caller id moment body live content own revision found live_is content_is
    own_is revision_is =
    let one : is_live_page part.tree page ≡ is_live part.tree body = rw found refl in
    let at : body ≡ body_at part.tree page = rw found refl in
    record {
      body = own_is
          ∙ (ap (λ l. regular_body body l id moment) (live_is ∙ one)
          ∙ ap (detached_body part.tree moment id) at);
      revision = revision_is ∙ ap (plain_revision id page caller moment) content_is;
    }

-- what an alias shows is the content that is found
pub shown_is : (part : worlds.TreePart) (page : ℕ) (body : Body) (content : ContentValue) →
    body_of part.tree page ≡ Some body → Some content ≡ shown_by part body →
    content ≡ shown_content part page
shown_is part page body content found shown =
    let own : shown_content part page ≡ unwrap_or (shown_by part body) no_content =
    rw found refl in
    ap (λ o. unwrap_or o no_content) shown ∙ sym own

-- what an alias shows is there
pub not_missing : (part : worlds.TreePart) (page : ℕ) (body : Body) → IsAliasHere part.tree page →
    AreBodies part.tree part.revisions part.next_user part.next_workflow part.workflows →
    body_of part.tree page ≡ Some body → None ≡ shown_by part body → ⊥
not_missing part page body alias bodies found none =
    let same : alias.body ≡ body = same_body alias.body body (sym alias.found ∙ found) in
    shown_there part bodies page body (found_is_there part.tree page body found) found alias.source
    (subst (λ (b : Body). b.source ≡ Some alias.source) same alias.is) (sym none)

-- the page is there, so that it has a row
pub row_missing : (pages : List Page) (tree : Forest Body) (page : ℕ) → pages ≡ rows_of tree →
    has_page page tree ≡ true → None ≡ option_map page_row (row_with page pages) → ⊥
row_missing pages tree page is there none =
    let kept = kept_there page tree there in
    let no : ◌≡◌ {A = Option Body} None (Some kept.0) =
    sym (body_missing pages tree is page none) ∙ kept.1 in
    cc

module _ (kept : TreePart) (part : worlds.TreePart) (desk : Option ContentValue)
    (now caller page : ℕ) (asked : IsAsked kept part caller (Detach page)) (made : Detached)
    (clear : detach_rules part now caller page ≡ None)
    (new : IsDetachedAt part (worlds.time_at part now) part.next_revision caller page made) where
  -- the world after it
  abbrev after : worlds.TreePart
  after = with_detached part now caller page

  -- with all its open desks
  abbrev left : worlds.TreePart
  left = left_open after [] part.desk_pairs

  -- the command, with what it does
  quiet : IsQuiet part desk now caller (Detach page) after Done
  quiet =
      let ends = detach_quiet page in record {
        clear = detach_own part desk now caller page ∙ clear;
        own = detach_desk page;
        done = detach_done part desk now caller page;
        desks = refl;
        suspects = ends.0;
        shut = ends.1;
      }

  -- what is kept of the page then, its revision, and what changes
  abbrev time : ℕ
  time = worlds.time_at part now

  abbrev body : Body
  body = detached_body part.tree time part.next_revision (body_at part.tree page)

  abbrev revision : Revision
  revision = plain_revision part.next_revision page caller time (shown_content part page)

  abbrev change : Change
  change = record (body_change page body time part.next_page (part.next_revision + 1)) {
    revisions = revision ∷ [];
  }

  -- its plan
  plan_is : (room : TreePart) → IsSame kept room → 1 ≤ room.shelf.spare →
      HasPlan room part desk now caller (Detach page)
      (detaching_plan page (record { body = body; revision = revision }) part.next_page)
  plan_is room same shelf =
      let there : IsSome (row_with page (rows_of part.tree)) =
      row_there page part.tree (rows_of part.tree) refl
      ∙ (detach_names part caller page asked.front).0 in
      let sound = asked.ready.reached.sound in
      let kept_body = kept_there page part.tree (detach_names part caller page asked.front).0 in
      let at : kept_body.0 ≡ body_at part.tree page = rw kept_body.1 refl in
      let comes = one_comes part revision refl sound.revisions.revision_ids in
      quiet_planned kept part desk now caller (Detach page) after Done asked quiet room Done change
      same refl
      (record {
        tree = tt;
        bodies = (there, tt);
        gone = tt;
        revisions = comes.fit;
        people = tt;
        flows = tt;
      })
      (lists_are (left_by (quiet_plan Done change) (lists_of part)) (lists_of left)
      (sym (rebodied_rows page (detached_body part.tree time part.next_revision) kept_body.0 body
      part.tree sound.pages.distinct kept_body.1
      (ap (detached_body part.tree time part.next_revision) at)))
      comes.all_are (quiet_people (people_of part)) refl refl refl refl refl refl)
      (omega arith) shelf (omega arith) (omega arith)

  -- so it is of the plan that is built
  pub detach_planned : (room : TreePart) (number : ℕ) (plan : Plan) → IsSame kept room →
      1 ≤ room.shelf.spare → number ≡ kept.next_page → plan ≡ detaching_plan page made number →
      HasPlan room part desk now caller (Detach page) plan
  detach_planned room number plan same shelf number_is is =
      subst (λ (p : Plan). HasPlan room part desk now caller (Detach page) p)
      (sym (is
      ∙ (ap (λ (d : Detached). detaching_plan page d number) made_is
      ∙ ap (detaching_plan page (record { body = body; revision = revision }))
      (number_is ∙ asked.ready.stands.next_page))))
      (plan_is room same shelf)
    where
      made_is : made ≡ record { body = body; revision = revision }
      made_is =
          ap (λ (b : Body). detached_from b made.revision) new.body
          ∙ ap (detached_from body) new.revision
        where
          detached_from : Body → Revision → Detached
          detached_from b r = record { body = b; revision = r }
