-- Which open desks a command may end: the rest stay open without a look at them.
use Rattle.std.specs.Prelude.{◌≡◌, ℕ, Bool, true, false, not, ◌==◌, ◌&&◌, ◌||◌, List, filter, if◌then◌else◌}
use Rattle.std.specs.List.{list_any}
use Rattle.site_types.specs.declared.command.Command.{Command}
use Rattle.site_types.specs.declared.command.Command.TheVariants as commands
use Rattle.page_tree.specs.Tree.{Forest}
use Rattle.site_types.specs.declared.body.Body.{Body}
use Rattle.site_model.specs.World.{DeskPair, TreePart, Effect}
use Rattle.site_model.specs.Rights.{above_of}
use Rattle.site_model.specs.Users.{is_membership}
use Rattle.site_model.specs.Desks.{desk_page, stays, is_shut, with_pair, is_ended}

-- Which open desks a command may end, beside the caller's own that it shuts.
pub data Suspects : Type 0 where
  -- none
  NoDesk : Suspects
  -- the one on a page
  DeskOn : (page : ℕ) → Suspects
  -- those of a user
  DesksOf : (user : ℕ) → Suspects
  -- those of a group's members on a page and below it
  DesksBelow : (page group : ℕ) → Suspects
  -- those on a page and below it
  DesksIn : (page : ℕ) → Suspects

-- none where a right is given, and these where it is taken away
abbrev pub unless_on : Bool → Suspects → Suspects
unless_on on suspects = if on then NoDesk else suspects

-- the desks that a command may end
unfoldable pub suspects_of : Command → Suspects
suspects_of (commands.Create parent slug content) = NoDesk
suspects_of (commands.Move page target position) = DesksIn page
suspects_of (commands.Delete page) = DesksIn page
suspects_of (commands.SetSlug page slug) = NoDesk
suspects_of (commands.Alias source parent slug) = NoDesk
suspects_of (commands.Detach page) = NoDesk
suspects_of (commands.Copy page parent slug deep) = NoDesk
suspects_of (commands.OpenDesk page) = NoDesk
suspects_of (commands.SaveDesk page content) = NoDesk
suspects_of (commands.ShutDesk page) = NoDesk
suspects_of (commands.File page go_live expire) = NoDesk
suspects_of (commands.Publish page) = DeskOn page
suspects_of (commands.Unpublish page) = NoDesk
suspects_of (commands.Unschedule page) = NoDesk
suspects_of (commands.Lock page) = DeskOn page
suspects_of (commands.Unlock page) = NoDesk
suspects_of (commands.Purge page) = NoDesk
suspects_of (commands.DefineTask groups) = NoDesk
suspects_of (commands.DefineWorkflow tasks) = NoDesk
suspects_of (commands.Assign page workflow) = NoDesk
suspects_of (commands.Submit page) = DeskOn page
suspects_of (commands.Approve page) = DeskOn page
suspects_of (commands.Reject page) = DeskOn page
suspects_of (commands.Cancel page) = DeskOn page
suspects_of (commands.DefineUser superuser digest) = NoDesk
suspects_of commands.DefineGroup = NoDesk
suspects_of (commands.Member user group on) = unless_on on (DesksOf user)
suspects_of (commands.Grant group page permission on) = unless_on on (DesksBelow page group)
suspects_of commands.Tick = NoDesk

-- whether a page is this one, or lies below it
abbrev pub is_within : Forest Body → ℕ → ℕ → Bool
is_within tree page inner = list_any (λ one. one == page) (above_of tree inner)

-- whether an open desk is one of those, in the world before the command
abbrev pub is_suspect : TreePart → Suspects → DeskPair → Bool
is_suspect part NoDesk pair = false
is_suspect part (DeskOn page) pair = pair.page == page
is_suspect part (DesksOf user) pair = pair.user == user
is_suspect part (DesksBelow page group) pair =
    is_within part.tree page pair.page
    && list_any (is_membership pair.user group) part.members
is_suspect part (DesksIn page) pair = is_within part.tree page pair.page

-- whether a command shuts the caller's own desk
unfoldable pub shuts : Command → Bool
shuts (commands.Create parent slug content) = false
shuts (commands.Move page target position) = false
shuts (commands.Delete page) = false
shuts (commands.SetSlug page slug) = false
shuts (commands.Alias source parent slug) = false
shuts (commands.Detach page) = false
shuts (commands.Copy page parent slug deep) = false
shuts (commands.OpenDesk page) = false
shuts (commands.SaveDesk page content) = false
shuts (commands.ShutDesk page) = true
shuts (commands.File page go_live expire) = true
shuts (commands.Publish page) = false
shuts (commands.Unpublish page) = false
shuts (commands.Unschedule page) = false
shuts (commands.Lock page) = false
shuts (commands.Unlock page) = false
shuts (commands.Purge page) = false
shuts (commands.DefineTask groups) = false
shuts (commands.DefineWorkflow tasks) = false
shuts (commands.Assign page workflow) = false
shuts (commands.Submit page) = false
shuts (commands.Approve page) = false
shuts (commands.Reject page) = false
shuts (commands.Cancel page) = false
shuts (commands.DefineUser superuser digest) = false
shuts commands.DefineGroup = false
shuts (commands.Member user group on) = false
shuts (commands.Grant group page permission on) = false
shuts commands.Tick = false

-- whether a command of the caller ends a desk: it shuts it, or may end it and does so
abbrev pub is_lost : TreePart → TreePart → ℕ → Command → DeskPair → Bool
is_lost before after caller command pair =
    is_shut (shuts command) caller (desk_page command) pair
    || (is_suspect before (suspects_of command) pair && not (stays after pair))

-- the desks that a command of the caller ends, in their order
abbrev pub lost_desks : TreePart → TreePart → ℕ → Command → List DeskPair
lost_desks before after caller command =
    filter (is_lost before after caller command) before.desk_pairs

-- What becomes of the open desks by a command of the caller: those end that it may end and that do
-- not stay, and all others are open after it, with the one that it opens.
pub record LosesFew (before after : TreePart) (told : Effect) (caller : ℕ) (command : Command) :
    Type 0 where
  pub ended : told.ended ≡ lost_desks before after caller command
  pub left :
      after.desk_pairs
      ≡ filter (λ pair. not (is_ended told.ended pair)) (with_pair told.opened before.desk_pairs)
