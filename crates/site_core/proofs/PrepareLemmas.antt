-- What a plan of the tree part is for the whole site, and what a plan of a text that is saved is.
use Rattle.std.proofs.Common.{◌≡◌, ℕ, Bool, true, false, cond, nat_eq, ◌&&◌, ◌||◌, List, [], ◌∷◌, map, filter, find, Option, Some, None, is_some, Result, Ok, Err, refl, sym, ap, subst, ◌∙◌, arith}
use Rattle.std.specs.Prelude.{IfSome}
use Rattle.std.specs.List.{AllByRecursion, list_any}
use Rattle.std.specs.Result.{IfOk}
use Rattle.std.specs.Option.{option_map}
use Rattle.page_tree.specs.Tree.{Forest, bare, grown, has_page}
use Rattle.site_ids.specs.Ids.{IsPageId}
use Rattle.site_types.specs.Content.{ContentValue}
use Rattle.site_types.specs.declared.body.Body.{Body}
use Rattle.site_types.specs.declared.world_rows.DeskRow.{DeskRow}
use Rattle.site_types.specs.declared.command.Command.{Command}
use Rattle.site_types.specs.declared.command.Command.TheVariants as commands
use Rattle.site_types.specs.declared.refusal.Refusal.TheVariants.{NoDesk}
use Rattle.site_types.specs.declared.reply.Reply.TheVariants.{Done}
use Rattle.tree_model.specs.Shape.{AllPages}
use Rattle.tree_model.proofs.CountLemmas.{id_found}
use Rattle.tree_model.proofs.PageLemmas.{all_weaker}
use Rattle.site_model.proofs.OrderLemmas.{all_filter}
use Rattle.desks.specs.Desks.{rewritten}
use Rattle.desks.specs.Laws as kept_laws
use Rattle.site_model.specs.World.{World, DeskPair, Desk, pair_of}
use Rattle.site_model.specs.Desks.{desk_key, desk_page, own_text, text_at, desks_after}
use Rattle.site_model.specs.Laws.{FitsDesk}
use Rattle.site_model.specs.Losing.{is_lost}
use Rattle.site_model.specs.Sound.{KeysRise, IsRegular, IsGiven}
use Rattle.site_model.specs.Step.{saving, saved, step_by, step_at, with_desks}
use Rattle.site_model.proofs.LosingSteps.{ended_are}
use Rattle.site_model.proofs.OwnText.{own_text_fits}
use Rattle.flat_model.specs.Flat.{lists_of}
use Rattle.flat_model.proofs.ListLemmas.{lists_are, none_out, quiet_revisions, quiet_people}
use Rattle.site_part.specs.declared.fault.Fault.{Fault}
use Rattle.site_part.specs.declared.fault.Fault.TheVariants.{Refused, Memory}
use Rattle.site_part.specs.declared.plan.Plan.{Plan}
use Rattle.site_part.specs.Plans as parts
use Rattle.site_part.specs.Plans.{DeskFits, desk_of, pages_of, left_by}
use Rattle.site_part.specs.Standing as parts_stand
use Rattle.site_part.proofs.StandingLemmas.{same_ready}
use Rattle.part_commits.specs.InStep.{CanStayInStep}
use Rattle.part_commits.specs.Links.{CanPutLinks}
use Rattle.part_commits.proofs.InStepLemmas.{nothing_stays}
use Rattle.site_core.specs.Standing.{IsReady, IsSame, HasDeskRoom, HasPlan, Prepares, PlansSaving, kept_text, saving_plan}
use Rattle.site_core.specs.Texts.{row_of, desk_on, kept_on, OpensWell, desk_left}
use Rattle.part_commits.specs.Ending.{TellsPlan}
use Rattle.part_commits.specs.declared.done.Done.{Done as DoneTold}
use Rattle.site_core.specs.declared.state.Core.{Core}
use Rattle.site_core.proofs.LinkRoom.{quiet_links}
use Rattle.site_core.proofs.StepDesks.{TellsDesks, none_on, apart_in, left_is, saved_is}

-- what holds of each page's id holds of the id of a page that is there
given_of : (G : ℕ → Type 0) (j : ℕ) (f : Forest Body) → AllPages (λ id slug body. G id) f →
    has_page j f ≡ true → G j
given_of G j bare all is = absurd (cc)
given_of G j (grown i s slug body kids rest) all is =
    by (nat_eq i j) refl (has_page j kids) (has_page j rest) (given_of G j kids all.1)
    (given_of G j rest all.2) is
  where
    by : (t : Bool) → nat_eq i j ≡ t → (a b : Bool) → (a ≡ true → G j) → (b ≡ true → G j) →
        (t || (a || b)) ≡ true → G j
    by true same a b kids_give rest_gives is =
        let here : i ≡ j = id_found i j same in subst G here all.0
    by false other true b kids_give rest_gives is = kids_give refl
    by false other false true kids_give rest_gives is = rest_gives refl
    by false other false false kids_give rest_gives is = absurd (cc)

-- no desk on other pages is the user's on this one
none_own : (page user : ℕ) (desks : List Desk) →
    AllByRecursion (λ (pair : DeskPair). pair.page ≡ page → ⊥) (map pair_of desks) →
    find (λ (desk : Desk). nat_eq desk.page page && nat_eq desk.user user) desks ≡ None
none_own page user [] all = refl
none_own page user (desk ∷ desks) all =
    by (nat_eq desk.page page) refl (none_own page user desks all.1)
  where
    by : (t : Bool) → nat_eq desk.page page ≡ t →
        find (λ (desk : Desk). nat_eq desk.page page && nat_eq desk.user user) desks ≡ None →
        cond (t && nat_eq desk.user user) (Some desk)
        (find (λ (desk : Desk). nat_eq desk.page page && nat_eq desk.user user) desks) ≡ None
    by true same more = absurd (all.0 (id_found desk.page page same))
    by false other more = more

-- the text of a user's own desk on a page, as it is kept, where the pages rise
text_kept : (page user : ℕ) (desks : List Desk) → KeysRise desk_key (map pair_of desks) →
    kept_laws.own_text user (option_map row_of (desk_on page desks)) ≡ text_at desks page user
text_kept page user [] rise = refl
text_kept page user (desk ∷ desks) rise =
    by (nat_eq desk.page page) refl (text_kept page user desks rise.1)
  where
    by : (t : Bool) → nat_eq desk.page page ≡ t →
        kept_laws.own_text user (option_map row_of (desk_on page desks)) ≡ text_at desks page user →
        kept_laws.own_text user (option_map row_of (cond t (Some desk) (desk_on page desks)))
        ≡ option_map (λ (one : Desk). one.text)
        (cond (t && nat_eq desk.user user) (Some desk)
        (find (λ (one : Desk). nat_eq one.page page && nat_eq one.user user) desks))
    by true same more =
        inner (nat_eq desk.user user)
        (none_own page user desks
        (subst (λ n. AllByRecursion (λ (pair : DeskPair). pair.page ≡ n → ⊥) (map pair_of desks))
        (id_found desk.page page same) (apart_in (pair_of desk) (map pair_of desks) rise.0)))
      where
        inner : (u : Bool) →
            find (λ (one : Desk). nat_eq one.page page && nat_eq one.user user) desks ≡ None →
            cond u (Some desk.text) None
            ≡ option_map (λ (one : Desk). one.text) (cond u (Some desk)
            (find (λ (one : Desk). nat_eq one.page page && nat_eq one.user user) desks))
        inner true none = refl
        inner false none = rw none refl
    by false other more = more

-- a command that saves no desk is a step of the tree part
saves_nothing : (world : World) (now caller : ℕ) (command : Command) → saving command ≡ None →
    step_at world now caller command
    ≡ with_desks world.desks
    (step_by world.part (own_text world.desks caller (desk_page command)) now caller command)
unfolding step_at
saves_nothing world now caller command none = rw none refl

-- whether a refusal comes of a text that is there
saves_text : (world : World) (now caller page : ℕ) (content : ContentValue) →
    is_some (text_at world.desks page caller) ≡ true →
    step_at world now caller (commands.SaveDesk page content)
    ≡ Ok (record world { desks = saved page caller content world.desks }, Done)
unfolding step_at saving
saves_text world now caller page content there = rw there refl

-- a text that is not there is not saved
saves_none : (world : World) (now caller page : ℕ) (content : ContentValue) →
    text_at world.desks page caller ≡ None →
    step_at world now caller (commands.SaveDesk page content) ≡ Err NoDesk
unfolding step_at saving
saves_none world now caller page content none = rw none refl

module _ (core : Core) (world : World) (ready : IsReady core world) where
  -- the part is ready
  pub part_ready : parts_stand.IsReady core.tree world.part
  part_ready = record {
    stands = ready.stands.tree;
    reached = record { sound = ready.reached.sound.part };
  }

  -- the pages of the open desks rise
  desks_rise : KeysRise desk_key (map pair_of world.desks)
  desks_rise =
      subst (KeysRise desk_key) (sym ready.reached.sound.desks_match)
      ready.reached.sound.part.desks.desks_rise

  -- the text of a desk is that of the world
  pub text_is : (caller page : ℕ) →
      kept_laws.own_text caller (kept_on page core.desks.lists) ≡ text_at world.desks page caller
  text_is caller page =
      ap (kept_laws.own_text caller) (ready.stands.desks page)
      ∙ text_kept page caller world.desks desks_rise

  -- so is the text that a command looks at
  pub own_is : (caller : ℕ) (page : Option ℕ) →
      kept_text core.desks caller page ≡ own_text world.desks caller page
  own_is caller None = refl
  own_is caller (Some page) = text_is caller page

  -- it is as the laws of the tree part ask
  pub own_fits : (caller : ℕ) (page : Option ℕ) →
      FitsDesk world.part caller page (kept_text core.desks caller page)
  own_fits caller page =
      subst (FitsDesk world.part caller page) (sym (own_is caller page))
      (own_text_fits world caller page ready.reached.sound)

  -- the pages of open desks are numbers of pages
  page_ids : AllByRecursion (λ (pair : DeskPair). IsPageId pair.page) world.part.desk_pairs
  page_ids =
      let pages = ready.reached.sound.part.pages in
      all_weaker (λ (pair : DeskPair). IsRegular world.part.tree pair.page)
      (λ (pair : DeskPair). IsPageId pair.page) world.part.desk_pairs
      (λ pair regular.
      let given = given_of (IsGiven world.part.next_page) pair.page world.part.tree pages.page_ids
      regular.1 in
      let first = given.0 in
      let below = given.1 in
      let last = pages.next_page.1 in
      (first, omega (arith, below, last)))
      ready.reached.sound.part.desks.desks_regular

  module _ (after : Core) (now caller : ℕ) (command : Command) (none : saving command ≡ None)
      (same : IsSame core after) where
    -- the site with other room stands for the world
    ready_after : IsReady after world
    ready_after = record {
      stands = record {
        tree = (same_ready core.tree after.tree world.part same.tree part_ready).stands;
        desks = λ page. ap (kept_on page) same.desks ∙ ready.stands.desks page;
      };
      reached = ready.reached;
    }

    module _ (plan : Plan)
        (has : parts.HasPlan after.tree world.part
        (own_text world.desks caller (desk_page command)) now caller command plan)
        (room : HasDeskRoom after.desks plan.opened)
        (stays : CanStayInStep after.tree (lists_of world.part) plan.change)
        (links : CanPutLinks after.tree plan) where
      -- a desk is opened on a page without one
      free : (opened : Option Desk) →
          DeskFits (option_map desk_of opened) world.part.desk_pairs →
          IfSome opened (λ (desk : Desk).
          list_any (λ (pair : DeskPair). nat_eq pair.page desk.page) (map pair_of world.desks) ≡ false)
      free None fits = tt
      free (Some desk) fits =
          subst (λ pairs. list_any (λ (pair : DeskPair). nat_eq pair.page desk.page) pairs ≡ false)
          (sym ready.reached.sound.desks_match) fits

      -- what the effect tells of the desks
      tells : TellsDesks has.effect world.desks
      tells = record {
        test = is_lost world.part has.after caller command;
        rise = desks_rise;
        ended =
            (ended_are world.part has.after has.effect
            (own_text world.desks caller (desk_page command)) now caller command
            ready.reached.sound.part has.can.right.step).ended
            ∙ ap (filter (is_lost world.part has.after caller command))
            (sym ready.reached.sound.desks_match);
        free = free has.effect.opened
            (subst (λ opened. DeskFits opened world.part.desk_pairs) has.can.right.opened
            has.can.right.fits.opened);
      }

      -- a desk that is opened can be
      opens : (opened : Option (ℕ × ℕ × ContentValue)) → DeskFits opened world.part.desk_pairs →
          HasDeskRoom after.desks opened → OpensWell after.desks opened
      opens None fits there = tt
      opens (Some desk) fits there =
          record {
            free = ready_after.stands.desks desk.0
                ∙ ap (option_map row_of) (none_on desk.0 world.desks
                (subst (λ pairs. list_any (λ (pair : DeskPair). nat_eq pair.page desk.0) pairs ≡ false)
                (sym ready.reached.sound.desks_match) fits));
            room = there;
          }

      -- the pages of the desks that end are numbers of pages
      ids_of : (pairs : List DeskPair) →
          AllByRecursion (λ (pair : DeskPair). IsPageId pair.page) pairs →
          AllByRecursion IsPageId (pages_of pairs)
      ids_of [] all = tt
      ids_of (pair ∷ pairs) all = (all.0, ids_of pairs all.1)

      shut_ids : AllByRecursion IsPageId plan.shut
      shut_ids =
          subst (AllByRecursion IsPageId) (sym has.can.right.shut)
          (ids_of has.effect.ended
          (subst (AllByRecursion (λ (pair : DeskPair). IsPageId pair.page))
          (sym (ended_are world.part has.after has.effect
          (own_text world.desks caller (desk_page command)) now caller command
          ready.reached.sound.part has.can.right.step).ended)
          (all_filter (λ (pair : DeskPair). IsPageId pair.page)
          (is_lost world.part has.after caller command) world.part.desk_pairs page_ids)))

      -- what is left of the desk on a page is that of the step
      desk_is : (page : ℕ) →
          desk_left plan.opened plan.saved plan.shut page (kept_on page after.desks.lists)
          ≡ option_map row_of (desk_on page (desks_after has.effect world.desks))
      desk_is page =
          let kept = kept_on page after.desks.lists in
          ap (λ opened. desk_left opened plan.saved plan.shut page kept) has.can.right.opened
          ∙ (ap (λ text. desk_left (option_map desk_of has.effect.opened) text plan.shut page kept)
          has.can.right.no_text
          ∙ (ap (λ shut. desk_left (option_map desk_of has.effect.opened) None shut page kept)
          has.can.right.shut
          ∙ left_is has.effect world.desks tells page kept (ready_after.stands.desks page)))

      -- a plan of the tree part is one of the site
      has_plan : HasPlan after world now caller command plan
      has_plan = record {
        after = record { part = has.after; desks = desks_after has.effect world.desks };
        reply = has.effect.reply;
        step = saves_nothing world now caller command none
            ∙ ap (with_desks world.desks) has.can.right.step;
        ready = ready_after;
        reply_is = has.can.right.reply;
        fits = has.can.right.fits;
        pages = shut_ids;
        room = has.can.room;
        in_step = stays;
        links = links;
        leads = has.can.right.leads;
        opens = opens plan.opened has.can.right.fits.opened room;
        desks_are = desk_is;
      }

    -- what is told of the tree part is told of the site
    pub prepares : (result : Result Plan Fault) →
        IfOk result (λ plan. HasDeskRoom after.desks plan.opened) →
        IfOk result (λ plan. CanStayInStep after.tree (lists_of world.part) plan.change) →
        IfOk result (CanPutLinks after.tree) →
        parts.Prepares world.part (kept_text core.desks caller (desk_page command)) now caller
        command after.tree result →
        Prepares world now caller command after result
    prepares result room stays links told =
        by result room stays links
        (subst (λ text. parts.Prepares world.part text now caller command after.tree result)
        (own_is caller (desk_page command)) told)
      where
        by : (result : Result Plan Fault) →
            IfOk result (λ plan. HasDeskRoom after.desks plan.opened) →
            IfOk result (λ plan. CanStayInStep after.tree (lists_of world.part) plan.change) →
            IfOk result (CanPutLinks after.tree) →
            parts.Prepares world.part (own_text world.desks caller (desk_page command)) now caller
            command after.tree result →
            Prepares world now caller command after result
        by (Ok plan) room stays links has = has_plan plan has room stays links
        by (Err (Refused refusal)) room stays links is =
            saves_nothing world now caller command none ∙ ap (with_desks world.desks) is
        by (Err Memory) room stays links is = tt

  module _ (now caller page : ℕ) (content : ContentValue) where
    -- the plan of a text that is saved
    abbrev plan : Plan
    plan = saving_plan core.tree page caller content

    -- it leaves the lists as they are
    leads : left_by plan (lists_of world.part) ≡ lists_of world.part
    leads =
        lists_are (left_by plan (lists_of world.part)) (lists_of world.part) refl
        (quiet_revisions world.part.revisions) (quiet_people (lists_of world.part).people) refl refl
        (none_out (λ (pair : DeskPair). pair.page) world.part.desk_pairs)
        ready.stands.tree.time ready.stands.tree.next_page ready.stands.tree.next_revision

    -- it can be committed
    has_saving : is_some (kept_text core.desks caller (Some page)) ≡ true →
        HasPlan core world now caller (commands.SaveDesk page content) plan
    has_saving there = record {
      after = record world { desks = saved page caller content world.desks };
      reply = Done;
      step = saves_text world now caller page content
          (ap is_some (sym (text_is caller page)) ∙ there);
      ready = ready;
      reply_is = refl;
      fits = record {
        change = record {
          tree = tt;
          bodies = tt;
          gone = tt;
          revisions = tt;
          people = tt;
          flows = tt;
        };
        opened = tt;
      };
      pages = tt;
      room = record {
        rows = omega arith;
        revisions = omega arith;
        people = omega arith;
        flows = omega arith;
        desks = omega arith;
      };
      in_step = record {
        room = record {
          expiries = omega arith;
          go_lives = omega arith;
          aliases = omega arith;
        };
        stays = nothing_stays (lists_of world.part) core.tree.time core.tree.next_page
            core.tree.next_revision;
      };
      links = quiet_links core.tree (saving_plan core.tree page caller content) refl refl;
      leads = leads;
      opens = tt;
      desks_are = λ at.
          ap (option_map (rewritten page caller content)) (ready.stands.desks at)
          ∙ saved_is page caller content world.desks at;
    }

    -- what is told of a text is told of the command that saves it
    pub prepares_saving : (result : Result Plan Fault) →
        PlansSaving core.tree core.desks page caller content result →
        Prepares world now caller (commands.SaveDesk page content) core result
    prepares_saving (Ok one) told =
        subst (HasPlan core world now caller (commands.SaveDesk page content)) (sym told.1)
        (has_saving told.0)
    prepares_saving (Err (Refused refusal)) told =
        saves_none world now caller page content (sym (text_is caller page) ∙ told.0)
        ∙ ap Err (sym told.1)
    prepares_saving (Err Memory) told = tt

-- what is told of the desks is what the plan has
pub left_told : (plan : Plan) (done : DoneTold) → TellsPlan plan done → (page : ℕ)
    (kept : Option DeskRow) →
    desk_left done.opened done.saved done.shut page kept
    ≡ desk_left plan.opened plan.saved plan.shut page kept
left_told plan done tells page kept =
    ap (λ opened. desk_left opened done.saved done.shut page kept) tells.opened
    ∙ (ap (λ text. desk_left plan.opened text done.shut page kept) tells.saved
    ∙ ap (λ shut. desk_left plan.opened plan.saved shut page kept) tells.shut)
