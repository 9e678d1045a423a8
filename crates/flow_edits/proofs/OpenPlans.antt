-- Opening and shutting desks: what is refused, and what is planned.
use Rattle.std.proofs.Common.{◌≡◌, ◌&&◌, ◌||◌, ◌≤◌, ◌<◌, ℕ, Bool, true, false, not, cond, nat_eq, nat_le, find, List, [], ◌∷◌, length, Option, Some, None, Ok, Err, refl, sym, ap, subst, ◌∙◌, arith}
use Rattle.std.specs.Prelude.{filter}
use Rattle.std.specs.List.{AllByRecursion, list_any}
use Rattle.std.specs.Option.{option_map}
use Rattle.std.proofs.lemmas.Bool.Decides.{nat_tests}
use Rattle.page_tree.specs.Rows.{comes_before}
use Rattle.site_types.specs.Content.{ContentValue}
use Rattle.site_types.specs.declared.command.Command.TheVariants as commands
use Rattle.site_types.specs.declared.refusal.Refusal.TheVariants.{NoDesk, DeskTaken, ContentFull}
use Rattle.site_types.specs.declared.reply.Reply.TheVariants.{Done}
use Rattle.site_model.specs.World as worlds
use Rattle.site_model.specs.Bodies.{latest_content}
use Rattle.site_model.specs.Desks.{desk_key, desk_page, desk_user, open_rules, shut_desk, settled, is_ended, no_desk}
use Rattle.site_model.specs.Laws.{IsAtDesk, FitsDesk}
use Rattle.site_model.specs.Limits.{MAX_DESKS}
use Rattle.site_model.specs.Losing.{suspects_of, shuts}
use Rattle.site_model.specs.Sound.{KeysRise}
use Rattle.site_model.specs.Step.{rules, step_by}
use Rattle.site_model.specs.Step as steps
use Rattle.site_model.specs.Users.{put_in}
use Rattle.site_model.proofs.LosingEnds.{ends_none, ends_own}
use Rattle.flat_model.specs.Flat.{people_of, lists_of}
use Rattle.flat_model.specs.Single.{tree_change}
use Rattle.flat_model.specs.declared.change.TreeChange.TheVariants.{Nothing}
use Rattle.flat_model.proofs.ListLemmas.{lists_are, quiet_revisions, quiet_people}
use Rattle.site_part.specs.Plans.{Prepares, HasPlan, left_by, pages_of}
use Rattle.site_part.specs.Standing.{IsReady}
use Rattle.site_part.specs.declared.fault.Fault.{Fault}
use Rattle.site_part.specs.declared.fault.Fault.TheVariants.{Refused, Memory}
use Rattle.site_part.specs.declared.part.TreePart.{TreePart}
use Rattle.site_part.proofs.StepLemmas.{own_refuses, passed_step, pairs_agree}
use Rattle.moderating.specs.Asked.{IsAsked}
use Rattle.moderating.specs.Plans.{Tells, ending_plan}
use Rattle.flow_edits.specs.Plans.{opening_plan}
use Rattle.moderating.proofs.Planned.{planned}
use Rattle.moderating.proofs.Steps.{part_left, ends_step}

-- a desk is open on the page
pub open_taken : (part : worlds.TreePart) (page user : ℕ) →
    Some user ≡ desk_user part.desk_pairs page →
    open_rules part page ≡ Some (DeskTaken user)
open_taken part page user is = rw (← is) refl

-- no desk is, and there are as many as may be
pub open_full : (part : worlds.TreePart) (page : ℕ) → None ≡ desk_user part.desk_pairs page →
    MAX_DESKS ≤ length part.desk_pairs → open_rules part page ≡ Some ContentFull
open_full part page none full =
    let test : nat_le MAX_DESKS (length part.desk_pairs) ≡ true =
    reached MAX_DESKS (length part.desk_pairs) full in
    rw (← none, test) refl
  where
    reached : (limit n : ℕ) → limit ≤ n → nat_le limit n ≡ true
    reached limit n most = grind (arith, nat_tests)

-- no desk is, and there are fewer
pub open_clear : (part : worlds.TreePart) (page : ℕ) → None ≡ desk_user part.desk_pairs page →
    length part.desk_pairs < MAX_DESKS → open_rules part page ≡ None
open_clear part page none few =
    let test : nat_le MAX_DESKS (length part.desk_pairs) ≡ false =
    within MAX_DESKS (length part.desk_pairs) few in
    rw (← none, test) refl
  where
    within : (limit n : ℕ) → n < limit → nat_le limit n ≡ false
    within limit n less = grind (arith, nat_tests)

-- where nobody has a desk on the page none is open there
none_open : (page : ℕ) (pairs : List worlds.DeskPair) → desk_user pairs page ≡ None →
    list_any (λ (pair : worlds.DeskPair). nat_eq pair.page page) pairs ≡ false
none_open page [] none = refl
none_open page (pair ∷ pairs) none =
    by (nat_eq pair.page page) none (none_open page pairs)
  where
    by : (t : Bool) →
        option_map (λ (one : worlds.DeskPair). one.user) (cond t (Some pair)
        (find (λ (one : worlds.DeskPair). nat_eq one.page page) pairs)) ≡ None →
        (desk_user pairs page ≡ None →
        list_any (λ (one : worlds.DeskPair). nat_eq one.page page) pairs ≡ false) →
        (t || list_any (λ (one : worlds.DeskPair). nat_eq one.page page) pairs) ≡ false
    by true is later = absurd (cc)
    by false is later = later is

-- where opening is not refused nobody has a desk on the page
free_page : (part : worlds.TreePart) (page : ℕ) → open_rules part page ≡ None →
    desk_user part.desk_pairs page ≡ None
free_page part page clear = by (desk_user part.desk_pairs page) refl
  where
    by : (o : Option ℕ) → desk_user part.desk_pairs page ≡ o → o ≡ None
    by None e = refl
    by (Some user) e =
        let taken = open_taken part page user (sym e) in absurd (cc)

module _ (kept room : TreePart) (part : worlds.TreePart) (desk : Option ContentValue)
    (now caller page : ℕ) (asked : IsAsked kept part desk caller (commands.OpenDesk page)) where
  -- the command's own rules
  open_own : rules part desk now caller (commands.OpenDesk page) ≡ open_rules part page
  unfolding rules
  open_own = refl

  -- what is told of a desk that is not opened
  pub open_refused : {Told : Type 0} (IsRight : Told → Type 0) (fault : Fault) →
      Tells (open_rules part page) IsRight (Err fault) →
      Prepares part desk now caller (commands.OpenDesk page) room (Err fault)
  open_refused IsRight (Refused refusal) is =
      own_refuses part desk now caller (commands.OpenDesk page) refusal asked.front
      (open_own ∙ is)
  open_refused IsRight Memory is = tt

  module _ (text : ContentValue) (latest : latest_content part page ≡ Some text)
      (clear : open_rules part page ≡ None) where
    -- what opening the desk does
    opened : worlds.Deed
    opened =
        record {
          part = record part { time = worlds.time_at part now };
          reply = Done;
          opened = Some text;
          shut = false;
        }

    -- the desk
    own : worlds.Desk
    own = record { page = page; user = caller; text = text }

    -- the part and the effect where these desks end
    done : List worlds.DeskPair → worlds.TreePart × worlds.Effect
    done ended = (
      record part {
        time = worlds.time_at part now;
        desk_pairs = filter (λ pair. not (is_ended ended pair))
            (put_in desk_key (record { page = page; user = caller }) part.desk_pairs);
      },
      record { reply = Done; opened = Some own; ended = ended },
    )

    -- so the step opens it, and no desk ends
    open_step : step_by part desk now caller (commands.OpenDesk page) ≡ Ok (done [])
    unfolding steps.effect desk_page suspects_of shuts opened own done
    open_step =
        let made = settled caller (Some page) opened in
        let whole : step_by part desk now caller (commands.OpenDesk page) ≡ Ok made =
        passed_step part desk now caller (commands.OpenDesk page) asked.front (open_own ∙ clear)
        ∙ ap (λ (o : Option ContentValue). Ok (settled caller (Some page) (record {
          part = record part { time = worlds.time_at part now };
          reply = Done;
          opened = o;
          shut = false;
        }))) latest in
        whole
        ∙ ap (λ (ended : List worlds.DeskPair). Ok (done ended))
        (ends_none part made.0 made.1 desk now caller (commands.OpenDesk page)
        asked.given.ready.reached.sound refl refl whole)

    -- its plan
    pub open_planned : IsReady room part → 1 ≤ room.desk_pairs.spare → (time : ℕ) →
        time ≡ worlds.time_at part now →
        HasPlan room part desk now caller (commands.OpenDesk page)
        (opening_plan page caller text time kept.next_page kept.next_revision)
    unfolding own done
    open_planned ready spare time time_is =
        record {
          after = (done []).0;
          effect = (done []).1;
          can = record {
            ready = ready;
            right = record {
              step = open_step;
              reply = refl;
              opened = refl;
              shut = refl;
              no_text = refl;
              fits = record {
                change = record {
                  tree = tt;
                  bodies = tt;
                  gone = tt;
                  revisions = tt;
                  people = tt;
                  flows = tt;
                };
                opened = none_open page part.desk_pairs (free_page part page clear);
              };
              leads = lists_are
                  (left_by (opening_plan page caller text time kept.next_page kept.next_revision)
                  (lists_of part)) (lists_of (done []).0) refl (quiet_revisions part.revisions)
                  (quiet_people (people_of part)) refl refl refl time_is
                  asked.given.ready.stands.next_page asked.given.ready.stands.next_revision;
            };
            room = record {
              rows = omega arith;
              revisions = omega arith;
              people = omega arith;
              flows = omega arith;
              desks = spare;
            };
          };
        }

-- whether this is the caller's desk on the page
abbrev pub is_callers : ℕ → ℕ → worlds.DeskPair → Bool
is_callers page caller pair = nat_eq pair.page page && nat_eq pair.user caller

-- pages that differ
apart : (one other : ℕ) → comes_before (one ∷ []) (other ∷ []) ≡ true → nat_eq other one ≡ false
apart one other before = grind (arith, nat_tests)

-- behind a desk on the page there is none
none_behind : (page caller : ℕ) (pair : worlds.DeskPair) (pairs : List worlds.DeskPair) →
    AllByRecursion (λ (later : worlds.DeskPair).
    comes_before (desk_key pair) (desk_key later) ≡ true) pairs → pair.page ≡ page →
    filter (is_callers page caller) pairs ≡ []
none_behind page caller pair [] all same = refl
none_behind page caller pair (later ∷ pairs) all same =
    let other : nat_eq later.page page ≡ false =
    subst (λ (p : ℕ). nat_eq later.page p ≡ false) same (apart pair.page later.page all.0) in
    rw (other, none_behind page caller pair pairs all.1 same) refl

-- the caller's desk on the page is one
pub callers_page : (page caller : ℕ) (pairs : List worlds.DeskPair) → KeysRise desk_key pairs →
    list_any (is_callers page caller) pairs ≡ true →
    pages_of (filter (is_callers page caller) pairs) ≡ page ∷ []
callers_page page caller [] rise there = absurd (cc)
callers_page page caller (pair ∷ pairs) rise there =
    by (nat_eq pair.page page) (nat_eq pair.user caller) refl there
    (callers_page page caller pairs rise.1)
  where
    same : nat_eq pair.page page ≡ true → pair.page ≡ page
    same is = grind (arith, nat_tests)

    by : (paged used : Bool) → nat_eq pair.page page ≡ paged →
        ((paged && used) || list_any (is_callers page caller) pairs) ≡ true →
        (list_any (is_callers page caller) pairs ≡ true →
        pages_of (filter (is_callers page caller) pairs) ≡ page ∷ []) →
        pages_of (cond (paged && used) (pair ∷ filter (is_callers page caller) pairs)
        (filter (is_callers page caller) pairs)) ≡ page ∷ []
    by true true e is later =
        rw (none_behind page caller pair pairs rise.0 (same e), same e) refl
    by true false e is later = later is
    by false used e is later = later is

module _ (kept : TreePart) (part : worlds.TreePart) (desk : Option ContentValue)
    (now caller page : ℕ) (asked : IsAsked kept part desk caller (commands.ShutDesk page)) where
  -- the command's own rule, and what it does
  shut_own : rules part desk now caller (commands.ShutDesk page) ≡ no_desk desk
  unfolding rules
  shut_own = refl

  shut_done : steps.effect part desk now caller (commands.ShutDesk page) ≡ shut_desk part now
  unfolding steps.effect
  shut_done = refl

  -- the caller has no desk there
  pub shut_none : desk ≡ None → step_by part desk now caller (commands.ShutDesk page) ≡ Err NoDesk
  shut_none none =
      own_refuses part desk now caller (commands.ShutDesk page) NoDesk asked.front
      (shut_own ∙ ap no_desk none)

  -- the caller's own desk ends
  shut_ends : (left : worlds.TreePart) (told : worlds.Effect) →
      step_by part desk now caller (commands.ShutDesk page) ≡ Ok (left, told) →
      told.ended ≡ filter (is_callers page caller) part.desk_pairs
  unfolding suspects_of shuts desk_page
  shut_ends left told is =
      ends_own part left told desk now caller (commands.ShutDesk page)
      asked.given.ready.reached.sound refl is

  -- it is open
  shut_there : (text : ContentValue) → desk ≡ Some text →
      list_any (is_callers page caller) part.desk_pairs ≡ true
  unfolding desk_page
  shut_there text some =
      let seat : IsAtDesk part caller page text =
      subst (λ (o : Option ContentValue). FitsDesk part caller (Some page) o) some
      asked.given.at_desk in
      seat.opened

  -- its plan
  pub shut_planned : (text : ContentValue) → desk ≡ Some text → (time : ℕ) →
      time ≡ worlds.time_at part now →
      HasPlan kept part desk now caller (commands.ShutDesk page)
      (ending_plan Done (page ∷ []) (tree_change Nothing time kept.next_page kept.next_revision))
  shut_planned text some time time_is =
      let ready = asked.given.ready in
      let ended = filter (is_callers page caller) part.desk_pairs in
      let change = tree_change Nothing time kept.next_page kept.next_revision in
      let after : worlds.TreePart = record part { time = worlds.time_at part now } in
      let rise = ready.reached.sound.desks.desks_rise in
      subst (λ (pages : List ℕ). HasPlan kept part desk now caller (commands.ShutDesk page)
      (ending_plan Done pages change))
      (callers_page page caller part.desk_pairs rise (shut_there text some))
      (planned (commands.ShutDesk page) kept part after desk now caller Done ended change ready
      (ends_step part desk now caller (commands.ShutDesk page) after Done true asked.front
      (shut_own ∙ ap no_desk some) shut_done refl ended shut_ends
      (pairs_agree (is_callers page caller) part.desk_pairs rise))
      (record { tree = tt; bodies = tt; gone = tt; revisions = tt; people = tt; flows = tt })
      (lists_are (left_by (ending_plan Done (pages_of ended) change) (lists_of part))
      (lists_of (part_left after part.desk_pairs ended)) refl (quiet_revisions part.revisions)
      (quiet_people (people_of part)) refl refl refl time_is ready.stands.next_page
      ready.stands.next_revision) (omega arith) (omega arith) (omega arith) (omega arith))
