-- What a command that looks at no desk leaves of the open desks: those are left that it does not end.
use Rattle.std.proofs.Common.{◌≡◌, ℕ, false, not, List, [], filter, Option, None, Result, Ok, ap, ◌∙◌}
use Rattle.site_types.specs.Content.{ContentValue}
use Rattle.site_types.specs.declared.command.Command.{Command}
use Rattle.site_types.specs.declared.refusal.Refusal.{Refusal}
use Rattle.site_types.specs.declared.reply.Reply.{Reply}
use Rattle.site_model.specs.World.{DeskPair, TreePart, Deed, Effect}
use Rattle.site_model.specs.Create.{plain_deed}
use Rattle.site_model.specs.Desks.{desk_page, stays, is_ended, settled}
use Rattle.site_model.specs.Front.{front_rules}
use Rattle.site_model.specs.Laws.{FitsDesk}
use Rattle.site_model.specs.Losing.{NoDesk, suspects_of, shuts}
use Rattle.site_model.specs.Sound.{IsSoundPart}
use Rattle.site_model.specs.Step.{rules, step_by}
use Rattle.site_model.specs.Step as steps
use Rattle.site_model.proofs.LosingEnds.{ends_none}
use Rattle.site_part.specs.Plans.{pages_of, pairs_left}
use Rattle.site_part.proofs.LeftLemmas.{pairs_agree}
use Rattle.site_part.proofs.StepLemmas.{passed_step}

-- the effect of a command that opens no desk and ends these
abbrev pub ending : Reply → List DeskPair → Effect
ending reply ended = record { reply = reply; opened = None; ended = ended }

-- a world with those of some desks that do not end
abbrev pub left_open : TreePart → List DeskPair → List DeskPair → TreePart
left_open after ended pairs = record after { desk_pairs = pairs_left (pages_of ended) pairs }

-- what an accepted step gives
abbrev accepts : TreePart × Effect → Result (TreePart × Effect) Refusal
accepts made = Ok made

-- a command that looks at no desk has no text to fit
pub no_desk_fits : (part : TreePart) (desk : Option ContentValue) (caller : ℕ)
    (command : Command) → desk_page command ≡ None →
    FitsDesk part caller (desk_page command) desk
no_desk_fits part desk caller command own = rw own tt

module _ (part : TreePart) (desk : Option ContentValue) (now caller : ℕ) (command : Command)
    (after : TreePart) (reply : Reply) (sound : IsSoundPart part)
    (front : front_rules part caller command ≡ None)
    (none : rules part desk now caller command ≡ None) (own : desk_page command ≡ None)
    (done : steps.effect part desk now caller command ≡ plain_deed after reply)
    (kept : after.desk_pairs ≡ part.desk_pairs) where
  -- the desks that do not stay, of these
  abbrev lost : List DeskPair → List DeskPair
  lost pairs = filter (λ pair. not (stays after pair)) pairs

  -- what the step gives where these are the open desks
  abbrev given : List DeskPair → TreePart × Effect
  given pairs = (
    record after { desk_pairs = filter (λ pair. not (is_ended (lost pairs) pair)) pairs },
    ending reply (lost pairs),
  )

  -- the step ends the desks that do not stay
  lost_step : step_by part desk now caller command
      ≡ Ok (left_open after (lost part.desk_pairs) part.desk_pairs, ending reply (lost part.desk_pairs))
  lost_step =
      passed_step part desk now caller command front none
      ∙ (ap (λ page. accepts (settled caller page (steps.effect part desk now caller command))) own
      ∙ (ap (λ (deed : Deed). accepts (settled caller None deed)) done
      ∙ (ap (λ pairs. accepts (given pairs)) kept
      ∙ ap (λ (pairs : List DeskPair). accepts (
        record after { desk_pairs = pairs },
        ending reply (lost part.desk_pairs),
      ))
      (pairs_agree (λ pair. not (stays after pair)) part.desk_pairs sound.desks.desks_rise))))

  -- so it ends those that every accepted step of the command ends
  pub ends_step : (ended : List DeskPair) →
      ((left : TreePart) (told : Effect) →
      step_by part desk now caller command ≡ Ok (left, told) → told.ended ≡ ended) →
      step_by part desk now caller command
      ≡ Ok (left_open after ended part.desk_pairs, ending reply ended)
  ends_step ended law =
      lost_step
      ∙ ap (λ (pairs : List DeskPair). accepts (
        left_open after pairs part.desk_pairs,
        ending reply pairs,
      )) (law _ _ lost_step)

  -- and none where it can end none
  pub quiet_step : suspects_of command ≡ NoDesk → shuts command ≡ false →
      step_by part desk now caller command
      ≡ Ok (left_open after [] part.desk_pairs, ending reply [])
  quiet_step suspects shut =
      ends_step []
      (λ left told is. ends_none part left told desk now caller command sound suspects shut is)
