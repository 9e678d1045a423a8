-- Desks, filing, publishing, locks and purges at worked values: their own rules and effects.
use Rattle.std.proofs.Common.{◌≡◌, ℕ, true, false, List, [], ◌∷◌, refl, codes, Option, Some, None, Ok, Err}
use Rattle.site_types.specs.Content.{ContentValue}
use Rattle.site_types.specs.declared.command.Command.{Command}
use Rattle.site_types.specs.declared.command.Command.TheVariants as commands
use Rattle.site_types.specs.declared.moderation.ModerationStatus.TheVariants.{Approved, Cancelled}
use Rattle.site_types.specs.declared.permission.Permission.TheVariants.{Change}
use Rattle.site_types.specs.declared.refusal.Refusal.TheVariants.{NoDesk, DeskTaken, NothingNew, NotLive, AlreadyExpired}
use Rattle.site_types.specs.declared.reply.Reply.TheVariants.{Done, Id, Published, Removed}
use Rattle.site_model.specs.World.{DeskPair, World, TreePart, Effect}
use Rattle.site_model.specs.Needs.{needs_of}
use Rattle.site_model.specs.Front.{row_of, front_rules}
use Rattle.site_model.specs.Desks.{desk_page, settled}
use Rattle.site_model.specs.Moderations.{WasSubmitted, WasApproved, WasRejected, WasPublished, WasFiled, begun, moderated}
use Rattle.site_model.specs.Step.{rules, effect, step_by, save}
use Rattle.site_model.proofs.Sites.{titled, with_pages}

-- what a command does that no rule refuses
abbrev done : TreePart → Option ContentValue → ℕ → Command → TreePart × Effect
done part desk caller command =
    settled caller (desk_page command) (effect part desk 100 caller command)

-- the part after it
abbrev part_after : TreePart → Option ContentValue → ℕ → Command → TreePart
part_after part desk caller command = (done part desk caller command).0

-- what else it does
abbrev told : TreePart → Option ContentValue → ℕ → Command → Effect
told part desk caller command = (done part desk caller command).1

-- a desk without its text
abbrev pair : ℕ → ℕ → DeskPair
pair page user = record { page = page; user = user }

-- page 2, a, with a desk of user 2
abbrev with_desk : TreePart
with_desk = part_after with_pages None 2 (commands.OpenDesk 2)

-- a desk is opened for the caller, with the latest content
desk_is_opened : told with_pages None 2 (commands.OpenDesk 2) ≡ record {
  reply = Done;
  opened = Some (record { page = 2; user = 2; text = titled (codes "a") });
  ended = [];
}
unfolding needs_of front_rules row_of rules effect step_by desk_page
desk_is_opened = refl

-- and is open then
desk_is_open : with_desk.desk_pairs ≡ pair 2 2 ∷ []
unfolding needs_of front_rules row_of rules effect step_by desk_page
desk_is_open = refl

-- nobody opens a second one there
desk_is_taken : rules with_desk None 100 1 (commands.OpenDesk 2) ≡ Some (DeskTaken 2)
unfolding needs_of front_rules row_of rules effect step_by desk_page
desk_is_taken = refl

-- desks rise by page
desks_rise : (part_after (part_after with_pages None 1 (commands.OpenDesk 4)) None 2
    (commands.OpenDesk 3)).desk_pairs ≡ pair 3 2 ∷ pair 4 1 ∷ []
unfolding needs_of front_rules row_of rules effect step_by desk_page
desks_rise = refl

-- a desk ends when it is shut
shut_desk_ends : (told with_desk (Some (titled (codes "a"))) 2 (commands.ShutDesk 2)).ended ≡
    pair 2 2 ∷ []
unfolding needs_of front_rules row_of rules effect step_by desk_page
shut_desk_ends = refl

-- and when its user loses the right
lost_desk_ends : (told with_desk None 1 (commands.Grant 1 1 Change false)).ended ≡ pair 2 2 ∷ []
unfolding needs_of front_rules row_of rules effect step_by desk_page
lost_desk_ends = refl

-- or leaves the group
left_desk_ends : (part_after with_desk None 1 (commands.Member 2 1 false)).desk_pairs ≡ []
unfolding needs_of front_rules row_of rules effect step_by desk_page
left_desk_ends = refl

-- when another locks the page
locked_desk_ends : (told with_desk None 1 (commands.Lock 2)).ended ≡ pair 2 2 ∷ []
unfolding needs_of front_rules row_of rules effect step_by desk_page
locked_desk_ends = refl

-- when the page goes
gone_desk_ends : (told with_desk None 1 (commands.Delete 2)).ended ≡ pair 2 2 ∷ []
unfolding needs_of front_rules row_of rules effect step_by desk_page
gone_desk_ends = refl

-- but not when another page does
other_desk_stays : (told with_desk None 1 (commands.Delete 3)).ended ≡ []
unfolding needs_of front_rules row_of rules effect step_by desk_page
other_desk_stays = refl

-- nobody files without a desk
no_desk_to_file : rules with_pages None 100 2 (commands.File 2 None None) ≡ Some NoDesk
unfolding needs_of front_rules row_of rules effect step_by desk_page
no_desk_to_file = refl

-- what is as the latest revision is nothing new
nothing_to_file : rules with_desk (Some (titled (codes "a"))) 100 2 (commands.File 2 None None) ≡
    Some NothingNew
unfolding needs_of front_rules row_of rules effect step_by desk_page
nothing_to_file = refl

-- with another moment it is
moment_to_file :
    rules with_desk (Some (titled (codes "a"))) 100 2 (commands.File 2 (Some 200) None) ≡ None
unfolding needs_of front_rules row_of rules effect step_by desk_page
moment_to_file = refl

-- page 2 with a second revision, whose title is z, at a moment to go live and one to end
abbrev filed : Option ℕ → Option ℕ → TreePart
filed go_live expire =
    part_after with_desk (Some (titled (codes "z"))) 2 (commands.File 2 go_live expire)

-- filing gives the next id and ends the desk
filing_ends_desk :
    told with_desk (Some (titled (codes "z"))) 2 (commands.File 2 None None) ≡ record {
      reply = Id 4;
      opened = None;
      ended = pair 2 2 ∷ [];
    }
unfolding needs_of front_rules row_of rules effect step_by desk_page
filing_ends_desk = refl

-- to publish it at once makes the page live
published_at_once : (told (filed None None) None 1 (commands.Publish 2)).reply ≡ Published false
unfolding needs_of front_rules row_of rules effect step_by desk_page
published_at_once = refl

-- and again is nothing new
published_again :
    rules (part_after (filed None None) None 1 (commands.Publish 2)) None 100 1 (commands.Publish 2)
    ≡ Some NothingNew
unfolding needs_of front_rules row_of rules effect step_by desk_page
published_again = refl

-- a go-live after now schedules it
published_later : (told (filed (Some 101) None) None 1 (commands.Publish 2)).reply ≡ Published true
unfolding needs_of front_rules row_of rules effect step_by desk_page
published_later = refl

-- which again is nothing new
scheduled_again :
    rules (part_after (filed (Some 101) None) None 1 (commands.Publish 2)) None 100 1
    (commands.Publish 2) ≡ Some NothingNew
unfolding needs_of front_rules row_of rules effect step_by desk_page
scheduled_again = refl

-- a go-live of now does not
published_now : (told (filed (Some 100) None) None 1 (commands.Publish 2)).reply ≡ Published false
unfolding needs_of front_rules row_of rules effect step_by desk_page
published_now = refl

-- an expiry of now is too late
expired_now : rules (filed None (Some 100)) None 100 1 (commands.Publish 2) ≡ Some AlreadyExpired
unfolding needs_of front_rules row_of rules effect step_by desk_page
expired_now = refl

-- and so is one of the go-live
expires_first : rules (filed (Some 200) (Some 200)) None 100 1 (commands.Publish 2) ≡
    Some AlreadyExpired
unfolding needs_of front_rules row_of rules effect step_by desk_page
expires_first = refl

-- what is not live is not unpublished
not_live : rules with_pages None 100 1 (commands.Unpublish 2) ≡ Some NotLive
unfolding needs_of front_rules row_of rules effect step_by desk_page
not_live = refl

-- the scheduler locks nothing
scheduler_locks_nothing : rules with_pages None 100 0 (commands.Lock 2) ≡ Some NothingNew
unfolding needs_of front_rules row_of rules effect step_by desk_page
scheduler_locks_nothing = refl

-- what is not locked is not unlocked
not_locked : rules with_pages None 100 1 (commands.Unlock 2) ≡ Some NothingNew
unfolding needs_of front_rules row_of rules effect step_by desk_page
not_locked = refl

-- a page's first revision is shown, so that nothing goes
nothing_to_purge : rules (filed None None) None 100 1 (commands.Purge 2) ≡ Some NothingNew
unfolding needs_of front_rules row_of rules effect step_by desk_page
nothing_to_purge = refl

-- once the second is published the first goes
one_is_purged :
    (told (part_after (filed None None) None 1 (commands.Publish 2)) None 1
    (commands.Purge 2)).reply
    ≡ Removed 1
unfolding needs_of front_rules row_of rules effect step_by desk_page
one_is_purged = refl

-- a world with the desk of user 2
abbrev desk_world : World
desk_world = record {
  part = with_desk;
  desks = record { page = 2; user = 2; text = titled (codes "a") } ∷ [];
}

-- its user saves another text, and nothing else changes
desk_is_saved : save desk_world 2 2 (titled (codes "y")) ≡ Ok (
  record {
    part = with_desk;
    desks = record { page = 2; user = 2; text = titled (codes "y") } ∷ [];
  },
  Done,
)
unfolding needs_of front_rules row_of rules effect step_by desk_page
desk_is_saved = refl

-- nobody else does
no_desk_to_save : save desk_world 1 2 (titled (codes "y")) ≡ Err NoDesk
unfolding needs_of front_rules row_of rules effect step_by desk_page
no_desk_to_save = refl

-- two tasks, and a workflow of both
abbrev two_tasks : List (List ℕ)
two_tasks = (1 ∷ 2 ∷ []) ∷ []

-- a moderation begins at the first task
submitted_begins : moderated two_tasks (WasSubmitted 1 7 3) None ≡ Some (begun 1 7 3)
submitted_begins = refl

-- goes on to the next task
approved_goes_on : moderated two_tasks WasApproved (Some (begun 1 7 3)) ≡
    Some (record (begun 1 7 3) { task = 2 })
approved_goes_on = refl

-- is approved at the last
approved_at_last : moderated two_tasks WasApproved (Some (record (begun 1 7 3) { task = 2 })) ≡
    Some (record (begun 1 7 3) { task = 2; status = Approved })
approved_at_last = refl

-- goes on where it was rejected
resubmitted : moderated two_tasks (WasSubmitted 1 8 4)
    (moderated two_tasks WasRejected (Some (record (begun 1 7 3) { task = 2 }))) ≡
    Some (record (begun 1 8 4) { task = 2 })
resubmitted = refl

-- nothing is rejected that is over
rejected_when_over :
    moderated two_tasks WasRejected (Some (record (begun 1 7 3) { status = Cancelled })) ≡ None
rejected_when_over = refl

-- publishing gives it up
published_gives_up : moderated two_tasks WasPublished (Some (begun 1 7 3)) ≡
    Some (record (begun 1 7 3) { status = Cancelled })
published_gives_up = refl

-- a revision that is filed is the moderated one
filed_is_moderated : moderated two_tasks (WasFiled 9) (Some (begun 1 7 3)) ≡ Some (begun 1 9 3)
filed_is_moderated = refl
