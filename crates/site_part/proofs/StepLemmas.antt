-- What the step comes to: a refusal by its first rules or by a rule of its own; or what the command
-- does, with the desks that it opens and ends.
use Rattle.std.proofs.Common.{◌≡◌, ℕ, Bool, false, not, ◌||◌, ◌&&◌, List, [], ◌∷◌, filter, Option, Some, None, Result, Ok, Err, refl, sym, ap, ◌∙◌}
use Rattle.site_types.specs.Content.{ContentValue}
use Rattle.site_types.specs.declared.command.Command.{Command}
use Rattle.site_types.specs.declared.refusal.Refusal.{Refusal}
use Rattle.site_types.specs.declared.reply.Reply.{Reply}
use Rattle.site_model.specs.World.{DeskPair, Desk, TreePart, Deed, Effect}
use Rattle.site_model.specs.Create.{plain_deed}
use Rattle.site_model.specs.Desks.{desk_key, desk_page, desk_opened, is_shut, is_ended, stays, settled, with_pair}
use Rattle.site_model.specs.Front.{front_rules}
use Rattle.site_model.specs.Losing.{Suspects, NoDesk, suspects_of, is_suspect, shuts, is_lost, lost_desks, LosesFew}
use Rattle.site_model.specs.Sound.{IsSoundPart}
use Rattle.site_model.specs.Step.{rules, step_by}
use Rattle.site_model.specs.Step as steps
use Rattle.site_model.specs.Users.{put_in}
use Rattle.site_model.proofs.LosingSteps.{each_few, ended_are}
use Rattle.site_part.specs.Plans.{pages_of, pairs_left}
pub use Rattle.site_part.proofs.LeftLemmas.{pairs_agree, pairs_left_is}

-- the effect of a command that opens and ends no desk
abbrev pub plain : Reply → Effect
plain reply = record { reply = reply; opened = None; ended = [] }

module _ (part : TreePart) (desk : Option ContentValue) (now caller : ℕ) (command : Command) where
  -- a command that its first rules refuse
  pub front_refuses : (refusal : Refusal) → front_rules part caller command ≡ Some refusal →
      step_by part desk now caller command ≡ Err refusal
  unfolding step_by
  front_refuses refusal is = rw is refl

  -- a command that a rule of its own refuses
  pub own_refuses : (refusal : Refusal) → front_rules part caller command ≡ None →
      rules part desk now caller command ≡ Some refusal →
      step_by part desk now caller command ≡ Err refusal
  unfolding step_by
  own_refuses refusal front is = rw (front, is) refl

  -- a command that no rule refuses
  pub passed_step : front_rules part caller command ≡ None →
      rules part desk now caller command ≡ None →
      step_by part desk now caller command
      ≡ Ok (settled caller (desk_page command) (steps.effect part desk now caller command))
  unfolding step_by
  passed_step front none = rw (front, none) refl

-- a command that opens no desk opens none on any page
none_opened : (caller : ℕ) (page : Option ℕ) (text : Option ContentValue) → text ≡ None →
    desk_opened caller page text ≡ None
none_opened caller None text is = refl
none_opened caller (Some page) None is = refl
none_opened caller (Some page) (Some text) is = absurd (cc)

-- tests that agree on each desk keep the same
kept_alike : (one other : DeskPair → Bool) → ((pair : DeskPair) → one pair ≡ other pair) →
    (pairs : List DeskPair) → filter one pairs ≡ filter other pairs
kept_alike one other same [] = refl
kept_alike one other same (pair ∷ pairs) = rw (same pair, kept_alike one other same pairs) refl

-- a command that shuts no desk shuts none on any page
none_shut : (shut : Bool) (caller : ℕ) (page : Option ℕ) (pair : DeskPair) → shut ≡ false →
    is_shut shut caller page pair ≡ false
none_shut shut caller None pair is = refl
none_shut shut caller (Some page) pair is = rw is refl

-- a test that none passes keeps none
none_kept : (pairs : List DeskPair) → filter (λ pair. false) pairs ≡ []
none_kept [] = refl
none_kept (pair ∷ pairs) = none_kept pairs

-- where no desk ends all are left
all_left : (pairs : List DeskPair) → pairs_left [] pairs ≡ pairs
all_left [] = refl
all_left (pair ∷ pairs) =
    ap (λ (more : List DeskPair). pair ∷ more) (all_left pairs)

-- so too by page and user
none_ended : (pairs : List DeskPair) → filter (λ pair. not (is_ended [] pair)) pairs ≡ pairs
none_ended [] = refl
none_ended (pair ∷ pairs) =
    ap (λ (more : List DeskPair). pair ∷ more) (none_ended pairs)

-- The desks that a command ends which shuts none: its suspects that do not stay.
abbrev pub ended_by : TreePart → TreePart → Command → List DeskPair
ended_by before after command =
    filter (λ pair. is_suspect before (suspects_of command) pair && not (stays after pair))
    before.desk_pairs

-- what is told of a step: the part, with its open desks, the reply, and the desks that it opens and ends
abbrev told_by : TreePart → Reply → List DeskPair → Option Desk → List DeskPair →
    Result (TreePart × Effect) Refusal
told_by after reply pairs opened ended =
    Ok (record after { desk_pairs = pairs }, record { reply = reply; opened = opened; ended = ended })

module _ (part : TreePart) (desk : Option ContentValue) (now caller : ℕ) (command : Command)
    (sound : IsSoundPart part) (front : front_rules part caller command ≡ None)
    (none : rules part desk now caller command ≡ None) where
  -- the desks that a command ends are those that it may end and that are lost
  losing : (deed : Deed) → steps.effect part desk now caller command ≡ deed →
      LosesFew part (settled caller (desk_page command) deed).0
      (settled caller (desk_page command) deed).1 caller command
  losing deed is =
      ended_are part (settled caller (desk_page command) deed).0
      (settled caller (desk_page command) deed).1 desk now caller command sound
      (passed_step part desk now caller command front none
      ∙ ap (λ (one : Deed). Ok (settled caller (desk_page command) one)) is)

  -- the desks that it ends go, and it opens none
  settled_with : (deed : Deed) → steps.effect part desk now caller command ≡ deed →
      deed.opened ≡ None →
      step_by part desk now caller command
      ≡ Ok (
        record deed.part {
          desk_pairs = pairs_left (pages_of (lost_desks part deed.part caller command))
              part.desk_pairs;
        },
        record {
          reply = deed.reply;
          opened = None;
          ended = lost_desks part deed.part caller command;
        },
      )
  settled_with deed is opened =
      let page = desk_page command in
      let made = settled caller page deed in
      let few = losing deed is in
      let lost = lost_desks part deed.part caller command in
      let opens_none : made.1.opened ≡ None = none_opened caller page deed.opened opened in
      let ended : made.1.ended ≡ lost = few.ended in
      let left : made.0.desk_pairs ≡ pairs_left (pages_of lost) part.desk_pairs =
      few.left
      ∙ (ap (λ (one : Option Desk).
      filter (λ pair. not (is_ended made.1.ended pair)) (with_pair one part.desk_pairs)) opens_none
      ∙ (ap (λ (gone : List DeskPair). filter (λ pair. not (is_ended gone pair)) part.desk_pairs)
      ended
      ∙ pairs_agree (is_lost part deed.part caller command) part.desk_pairs
      sound.desks.desks_rise)) in
      passed_step part desk now caller command front none
      ∙ (ap (λ (one : Deed). Ok (settled caller page one)) is
      ∙ (ap (λ (pairs : List DeskPair). told_by deed.part deed.reply pairs made.1.opened made.1.ended)
      left
      ∙ (ap (λ (one : Option Desk).
      told_by deed.part deed.reply (pairs_left (pages_of lost) part.desk_pairs) one made.1.ended)
      opens_none
      ∙ ap (told_by deed.part deed.reply (pairs_left (pages_of lost) part.desk_pairs) None) ended)))

  -- the desks that a command ends which shuts none
  ended_is : (after : TreePart) (reply : Reply) →
      steps.effect part desk now caller command ≡ plain_deed after reply →
      lost_desks part after caller command ≡ ended_by part after command
  ended_is after reply is =
      let few = each_few part desk now caller command sound front none in
      let unshut : shuts command ≡ false =
      sym (ap (λ (deed : Deed). deed.shut) (sym is) ∙ few.shut) in
      kept_alike (is_lost part after caller command)
      (λ pair. is_suspect part (suspects_of command) pair && not (stays after pair))
      (λ pair. ap (λ t. t || (is_suspect part (suspects_of command) pair && not (stays after pair)))
      (none_shut (shuts command) caller (desk_page command) pair unshut)) part.desk_pairs

  -- where it shuts none its suspects go that do not stay
  ending_with : (after : TreePart) (reply : Reply) →
      steps.effect part desk now caller command ≡ plain_deed after reply →
      step_by part desk now caller command
      ≡ Ok (
        record after {
          desk_pairs = pairs_left (pages_of (ended_by part after command)) part.desk_pairs;
        },
        record { reply = reply; opened = None; ended = ended_by part after command },
      )
  ending_with after reply is =
      settled_with (plain_deed after reply) is refl
      ∙ ap (λ (ended : List DeskPair).
      told_by after reply (pairs_left (pages_of ended) part.desk_pairs) None ended)
      (ended_is after reply is)

  -- where it can end none all stay
  quiet_with : (after : TreePart) (reply : Reply) →
      steps.effect part desk now caller command ≡ plain_deed after reply →
      after.desk_pairs ≡ part.desk_pairs → suspects_of command ≡ NoDesk →
      step_by part desk now caller command ≡ Ok (after, plain reply)
  quiet_with after reply is pairs harmless =
      let none_ends : ended_by part after command ≡ [] =
      ap (λ (suspects : Suspects).
      filter (λ pair. is_suspect part suspects pair && not (stays after pair)) part.desk_pairs) harmless
      ∙ none_kept part.desk_pairs in
      ending_with after reply is
      ∙ (ap (λ (ended : List DeskPair).
      told_by after reply (pairs_left (pages_of ended) part.desk_pairs) None ended) none_ends
      ∙ ap (λ (left : List DeskPair). told_by after reply left None [])
      (all_left part.desk_pairs ∙ sym pairs))

  -- and where it opens a desk besides, that one comes
  opening_with : (after : TreePart) (reply : Reply) (page : ℕ) (text : ContentValue) →
      steps.effect part desk now caller command
      ≡ record { part = after; reply = reply; opened = Some text; shut = false } →
      desk_page command ≡ Some page → suspects_of command ≡ NoDesk →
      step_by part desk now caller command
      ≡ Ok (
        record after {
          desk_pairs = put_in desk_key (record { page = page; user = caller }) part.desk_pairs;
        },
        record {
          reply = reply;
          opened = Some (record { page = page; user = caller; text = text });
          ended = [];
        },
      )
  opening_with after reply page text is at harmless =
      let deed : Deed = record { part = after; reply = reply; opened = Some text; shut = false } in
      let made = settled caller (desk_page command) deed in
      let few = losing deed is in
      let opens : made.1.opened ≡ Some (record { page = page; user = caller; text = text }) =
      ap (λ (one : Option ℕ). desk_opened caller one (Some text)) at in
      let unshut : shuts command ≡ false =
      sym (ap (λ (one : Deed). one.shut) (sym is)
      ∙ (each_few part desk now caller command sound front none).shut) in
      let ended : made.1.ended ≡ [] =
      few.ended
      ∙ (kept_alike (is_lost part after caller command)
      (λ pair. is_suspect part (suspects_of command) pair && not (stays after pair))
      (λ pair. ap (λ t. t || (is_suspect part (suspects_of command) pair && not (stays after pair)))
      (none_shut (shuts command) caller (desk_page command) pair unshut)) part.desk_pairs
      ∙ (ap (λ (suspects : Suspects).
      filter (λ pair. is_suspect part suspects pair && not (stays after pair)) part.desk_pairs) harmless
      ∙ none_kept part.desk_pairs)) in
      let pairs : made.0.desk_pairs
      ≡ put_in desk_key (record { page = page; user = caller }) part.desk_pairs =
      few.left
      ∙ (ap (λ (one : Option Desk).
      filter (λ pair. not (is_ended made.1.ended pair)) (with_pair one part.desk_pairs)) opens
      ∙ (ap (λ (gone : List DeskPair). filter (λ pair. not (is_ended gone pair))
      (put_in desk_key (record { page = page; user = caller }) part.desk_pairs)) ended
      ∙ none_ended (put_in desk_key (record { page = page; user = caller }) part.desk_pairs))) in
      passed_step part desk now caller command front none
      ∙ (ap (λ (one : Deed). Ok (settled caller (desk_page command) one)) is
      ∙ (ap (λ (left : List DeskPair). told_by after reply left made.1.opened made.1.ended) pairs
      ∙ (ap (λ (one : Option Desk). told_by after reply
      (put_in desk_key (record { page = page; user = caller }) part.desk_pairs) one made.1.ended) opens
      ∙ ap (told_by after reply
      (put_in desk_key (record { page = page; user = caller }) part.desk_pairs)
      (Some (record { page = page; user = caller; text = text }))) ended)))

module _ (part : TreePart) (desk : Option ContentValue) (now caller : ℕ) (command : Command) where
  -- A command that no rule refuses and that opens no desk: the desks that it ends go.
  pub settled_step : (deed : Deed) → IsSoundPart part → front_rules part caller command ≡ None →
      rules part desk now caller command ≡ None →
      steps.effect part desk now caller command ≡ deed → deed.opened ≡ None →
      step_by part desk now caller command
      ≡ Ok (
        record deed.part {
          desk_pairs = pairs_left (pages_of (lost_desks part deed.part caller command))
              part.desk_pairs;
        },
        record {
          reply = deed.reply;
          opened = None;
          ended = lost_desks part deed.part caller command;
        },
      )
  settled_step deed sound front none is opened =
      settled_with part desk now caller command sound front none deed is opened

  -- A command that no rule refuses, and that opens and shuts no desk: its suspects go that do not
  -- stay.
  pub ending_step : (after : TreePart) (reply : Reply) → IsSoundPart part →
      front_rules part caller command ≡ None →
      rules part desk now caller command ≡ None →
      steps.effect part desk now caller command ≡ plain_deed after reply →
      after.desk_pairs ≡ part.desk_pairs →
      step_by part desk now caller command
      ≡ Ok (
        record after {
          desk_pairs = pairs_left (pages_of (ended_by part after command)) part.desk_pairs;
        },
        record { reply = reply; opened = None; ended = ended_by part after command },
      )
  ending_step after reply sound front none is pairs =
      ending_with part desk now caller command sound front none after reply is

  -- A command that no rule refuses, and that can end no desk.
  pub quiet_step : (after : TreePart) (reply : Reply) → IsSoundPart part →
      front_rules part caller command ≡ None →
      rules part desk now caller command ≡ None →
      steps.effect part desk now caller command ≡ plain_deed after reply →
      after.desk_pairs ≡ part.desk_pairs → suspects_of command ≡ NoDesk →
      shuts command ≡ false →
      step_by part desk now caller command ≡ Ok (after, plain reply)
  quiet_step after reply sound front none is pairs harmless unshut =
      quiet_with part desk now caller command sound front none after reply is pairs harmless

  -- A command that no rule refuses, and that opens a desk and can end none.
  pub opening_step : (after : TreePart) (reply : Reply) (page : ℕ) (text : ContentValue) →
      IsSoundPart part → front_rules part caller command ≡ None →
      rules part desk now caller command ≡ None →
      steps.effect part desk now caller command
      ≡ record { part = after; reply = reply; opened = Some text; shut = false } →
      desk_page command ≡ Some page → suspects_of command ≡ NoDesk →
      step_by part desk now caller command
      ≡ Ok (
        record after {
          desk_pairs = put_in desk_key (record { page = page; user = caller }) part.desk_pairs;
        },
        record {
          reply = reply;
          opened = Some (record { page = page; user = caller; text = text });
          ended = [];
        },
      )
  opening_step after reply page text sound front none is at harmless =
      opening_with part desk now caller command sound front none after reply page text is at
      harmless
