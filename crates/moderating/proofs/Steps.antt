-- What the step comes to, of commands that no rule refuses and that open no desk.
use Rattle.std.proofs.Common.{◌≡◌, ℕ, Bool, not, List, [], Option, Some, None, Ok, refl, ap, ◌∙◌}
use Rattle.std.specs.Prelude.{filter}
use Rattle.site_types.specs.Content.{ContentValue}
use Rattle.site_types.specs.declared.command.Command.{Command}
use Rattle.site_types.specs.declared.reply.Reply.{Reply}
use Rattle.site_model.specs.World.{TreePart, DeskPair, Deed, Effect}
use Rattle.site_model.specs.Desks.{desk_page, settled, is_ended}
use Rattle.site_model.specs.Front.{front_rules}
use Rattle.site_model.specs.Step.{rules, step_by}
use Rattle.site_model.specs.Step as steps
use Rattle.site_part.specs.Plans.{pairs_left, pages_of}
use Rattle.site_part.proofs.StepLemmas.{passed_step}

-- what a command does of itself that opens no desk
abbrev pub deed_of : TreePart → Reply → Bool → Deed
deed_of after reply shut = record { part = after; reply = reply; opened = None; shut = shut }

-- the part after a command that ends these of the open desks
abbrev pub part_left : TreePart → List DeskPair → List DeskPair → TreePart
part_left after pairs ended = record after { desk_pairs = pairs_left (pages_of ended) pairs }

-- the effect of a command that opens no desk and ends these
abbrev pub ending : Reply → List DeskPair → Effect
ending reply ended = record { reply = reply; opened = None; ended = ended }

-- the desks that are left are the same by their pages
abbrev pub Agree : List DeskPair → List DeskPair → Type 0
Agree ended pairs =
    filter (λ pair. not (is_ended ended pair)) pairs ≡ pairs_left (pages_of ended) pairs

-- where no desk ends they are
pub none_end : (pairs : List DeskPair) → Agree [] pairs
none_end pairs = refl

-- a part and an effect, by the desks that are left and those that end
abbrev done : TreePart → Reply → List DeskPair → List DeskPair → TreePart × Effect
done after reply left ended = (record after { desk_pairs = left }, ending reply ended)

-- what is left where these desks end
done_as : (after : TreePart) (reply : Reply) (pairs some ended : List DeskPair) →
    after.desk_pairs ≡ pairs → some ≡ ended → Agree ended pairs →
    done after reply (filter (λ pair. not (is_ended some pair)) after.desk_pairs) some
    ≡ done after reply (pairs_left (pages_of ended) pairs) ended
done_as after reply pairs some ended kept is agree =
    ap (λ (e : List DeskPair).
    done after reply (filter (λ pair. not (is_ended e pair)) after.desk_pairs) e) is
    ∙ ap (λ (left : List DeskPair). done after reply left ended)
    (ap (λ (all : List DeskPair). filter (λ pair. not (is_ended ended pair)) all) kept ∙ agree)

-- a command that opens no desk leaves those that do not end
settled_ends : (caller : ℕ) (page : Option ℕ) (after : TreePart) (reply : Reply) (shut : Bool)
    (pairs ended : List DeskPair) → after.desk_pairs ≡ pairs →
    (settled caller page (deed_of after reply shut)).1.ended ≡ ended → Agree ended pairs →
    settled caller page (deed_of after reply shut) ≡ (part_left after pairs ended, ending reply ended)
settled_ends caller None after reply shut pairs ended kept is agree =
    done_as after reply pairs _ ended kept is agree
settled_ends caller (Some page) after reply shut pairs ended kept is agree =
    done_as after reply pairs _ ended kept is agree

module _ (part : TreePart) (desk : Option ContentValue) (now caller : ℕ) (command : Command)
    (after : TreePart) (reply : Reply) (shut : Bool) where
  -- the step of a command that no rule refuses, where these desks end
  pub ends_step : front_rules part caller command ≡ None →
      rules part desk now caller command ≡ None →
      steps.effect part desk now caller command ≡ deed_of after reply shut →
      after.desk_pairs ≡ part.desk_pairs → (ended : List DeskPair) →
      ((left : TreePart) (told : Effect) →
      step_by part desk now caller command ≡ Ok (left, told) → told.ended ≡ ended) →
      Agree ended part.desk_pairs →
      step_by part desk now caller command
      ≡ Ok (part_left after part.desk_pairs ended, ending reply ended)
  ends_step front own effect_is kept ended law agree =
      let made = settled caller (desk_page command) (deed_of after reply shut) in
      let whole : step_by part desk now caller command ≡ Ok made =
      passed_step part desk now caller command front own
      ∙ ap (λ (deed : Deed). Ok (settled caller (desk_page command) deed)) effect_is in
      whole
      ∙ ap (λ (one : TreePart × Effect). Ok one)
      (settled_ends caller (desk_page command) after reply shut part.desk_pairs ended kept
      (law made.0 made.1 whole) agree)
