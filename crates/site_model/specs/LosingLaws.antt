-- The laws of the open desks that commands end, each proved in src/laws.rt.
use Rattle.std.specs.Prelude.{◌≡◌, ℕ, Bool, true, false, ◌==◌, ◌&&◌, ◌||◌, not, filter, List, [], ◌∷◌, ◌++◌, Option, Some, Ok, if◌then◌else◌}
use Rattle.std.specs.List.{AllByRecursion, list_any}
use Rattle.std.specs.Option.{option_map}
use Rattle.page_tree.specs.Tree.{Forest}
use Rattle.site_types.specs.Content.{ContentValue}
use Rattle.site_types.specs.declared.body.Body.{Body}
use Rattle.site_types.specs.declared.command.Command.{Command}
use Rattle.site_types.specs.declared.command.Command.TheVariants as commands
use Rattle.site_types.specs.declared.moderation.Moderation.{Moderation}
use Rattle.site_types.specs.declared.permission.Permission.{Permission}
use Rattle.site_types.specs.declared.permission.Permission.TheVariants.{Add, Change}
use Rattle.site_types.specs.declared.position.Position.{Position}
use Rattle.site_types.specs.declared.revision.Revision.{Revision}
use Rattle.tree_model.specs.Places.{parent_at}
use Rattle.site_model.specs.World.{DeskPair, TreePart, Effect}
use Rattle.site_model.specs.Rights.{rights_of, permits, above_of, has}
use Rattle.site_model.specs.Views.{View, stage_of, view_of, meets, moderates}
use Rattle.site_model.specs.Users.{members_after, grants_after}
use Rattle.site_model.specs.Desks.{desk_page, keeps_desk, stays, is_shut}
use Rattle.site_model.specs.Bodies.{latest_of}
use Rattle.site_model.specs.Moderations.{WasApproved, WasRejected, WasCancelled, after_publishing}
use Rattle.site_model.specs.Moderating.{moderation_of, after_event, submission}
use Rattle.site_model.specs.Step.{step_by}
use Rattle.site_model.specs.Sound.{IsSoundPart}
use Rattle.site_model.specs.Losing.{NoDesk, DesksBelow, suspects_of, is_within, is_suspect, shuts, LosesFew}

-- After every command that is accepted in a sound world, the desks that end are the caller's own
-- where the command shuts it, and those of its suspects that do not stay; all others stay open.
abbrev pub EndedAre : Type 0
EndedAre =
    (before after : TreePart) (told : Effect) (desk : Option ContentValue) (now caller : ℕ)
    (command : Command) → IsSoundPart before →
    step_by before desk now caller command ≡ Ok (after, told) →
    LosesFew before after told caller command

-- An accepted command that has no suspects ends the caller's own desk, where it shuts it, and no
-- other.
abbrev pub EndsOwn : Type 0
EndsOwn =
    (before after : TreePart) (told : Effect) (desk : Option ContentValue) (now caller : ℕ)
    (command : Command) → IsSoundPart before → suspects_of command ≡ NoDesk →
    step_by before desk now caller command ≡ Ok (after, told) →
    told.ended ≡ filter (is_shut (shuts command) caller (desk_page command)) before.desk_pairs

-- An accepted command that has no suspects and shuts no desk ends none.
abbrev pub EndsNone : Type 0
EndsNone =
    (before after : TreePart) (told : Effect) (desk : Option ContentValue) (now caller : ℕ)
    (command : Command) → IsSoundPart before → suspects_of command ≡ NoDesk →
    shuts command ≡ false → step_by before desk now caller command ≡ Ok (after, told) →
    told.ended ≡ []

-- the desks on a page and below it
abbrev pub desks_within : TreePart → ℕ → List DeskPair
desks_within part page = filter (λ pair. is_within part.tree page pair.page) part.desk_pairs

-- An accepted deletion ends each desk on the page and below it, and no other.
abbrev pub DeletionEndsAll : Type 0
DeletionEndsAll =
    (before after : TreePart) (told : Effect) (desk : Option ContentValue)
    (now caller page : ℕ) → IsSoundPart before →
    step_by before desk now caller (commands.Delete page) ≡ Ok (after, told) →
    ((pair : DeskPair) → is_within before.tree page pair.page ≡ true → stays after pair ≡ false)
    × (told.ended ≡ desks_within before page)

-- the desk of another on a page
abbrev pub desks_of_others : TreePart → ℕ → ℕ → List DeskPair
desks_of_others part caller page =
    filter (λ pair. (pair.page == page) && not (caller == pair.user)) part.desk_pairs

-- An accepted lock ends the desk on the page where it is another's than the caller's, and no other.
abbrev pub LockEndsOthers : Type 0
LockEndsOthers =
    (before after : TreePart) (told : Effect) (desk : Option ContentValue)
    (now caller page : ℕ) → IsSoundPart before →
    step_by before desk now caller (commands.Lock page) ≡ Ok (after, told) →
    told.ended ≡ desks_of_others before caller page

-- what is seen of a page where its moderation is this one
abbrev pub seen_with : TreePart → Option Moderation → View → View
seen_with part moderation view = record view { stage = stage_of part moderation }

-- Whether an open desk stays where the moderation of its page is this one: by the rights, and by
-- all else that is seen of the page before.
abbrev pub stays_with : TreePart → Option Moderation → DeskPair → Bool
stays_with part moderation pair =
    keeps_desk (rights_of part pair.user)
    (option_map (seen_with part moderation) (view_of part pair.page))

-- the desk on a page, where it does not stay with this moderation
abbrev pub desks_lost_with : TreePart → ℕ → Option Moderation → List DeskPair
desks_lost_with part page moderation =
    filter (λ pair. (pair.page == page) && not (stays_with part moderation pair)) part.desk_pairs

-- An accepted submission ends the desk on the page where it does not stay with the moderation that
-- is left, and no other.
abbrev pub SubmitEnds : Type 0
SubmitEnds =
    (before after : TreePart) (told : Effect) (desk : Option ContentValue)
    (now caller page : ℕ) (left : Moderation) → IsSoundPart before →
    after_event before (submission before caller page) page ≡ Some left →
    step_by before desk now caller (commands.Submit page) ≡ Ok (after, told) →
    told.ended ≡ desks_lost_with before page (Some left)

-- So does an approval.
abbrev pub ApproveEnds : Type 0
ApproveEnds =
    (before after : TreePart) (told : Effect) (desk : Option ContentValue)
    (now caller page : ℕ) (left : Moderation) → IsSoundPart before →
    after_event before WasApproved page ≡ Some left →
    step_by before desk now caller (commands.Approve page) ≡ Ok (after, told) →
    told.ended ≡ desks_lost_with before page (Some left)

-- So does a rejection.
abbrev pub RejectEnds : Type 0
RejectEnds =
    (before after : TreePart) (told : Effect) (desk : Option ContentValue)
    (now caller page : ℕ) (left : Moderation) → IsSoundPart before →
    after_event before WasRejected page ≡ Some left →
    step_by before desk now caller (commands.Reject page) ≡ Ok (after, told) →
    told.ended ≡ desks_lost_with before page (Some left)

-- So does a moderation that is given up.
abbrev pub CancelEnds : Type 0
CancelEnds =
    (before after : TreePart) (told : Effect) (desk : Option ContentValue)
    (now caller page : ℕ) (left : Moderation) → IsSoundPart before →
    after_event before WasCancelled page ≡ Some left →
    step_by before desk now caller (commands.Cancel page) ≡ Ok (after, told) →
    told.ended ≡ desks_lost_with before page (Some left)

-- To publish a page ends the desk on it where it does not stay once the moderation is given up.
abbrev pub PublishEnds : Type 0
PublishEnds =
    (before after : TreePart) (told : Effect) (desk : Option ContentValue)
    (now caller page : ℕ) (revision : Revision) → IsSoundPart before →
    latest_of before page ≡ Some revision →
    step_by before desk now caller (commands.Publish page) ≡ Ok (after, told) →
    told.ended ≡ desks_lost_with before page (after_publishing (moderation_of before page))

-- After a membership began or ended, a desk stays by the memberships alone.
abbrev pub StaysByMembers : Type 0
StaysByMembers =
    (before after : TreePart) (told : Effect) (desk : Option ContentValue)
    (now caller user group : ℕ) (on : Bool) (pair : DeskPair) →
    step_by before desk now caller (commands.Member user group on) ≡ Ok (after, told) →
    stays after pair
    ≡ stays (record before { members = members_after before.members user group on }) pair

-- A membership that ends ends those desks of its user that do not stay without it.
abbrev pub MemberEnds : Type 0
MemberEnds =
    (before after : TreePart) (told : Effect) (desk : Option ContentValue)
    (now caller user group : ℕ) → IsSoundPart before →
    step_by before desk now caller (commands.Member user group false) ≡ Ok (after, told) →
    told.ended
    ≡ filter
    (λ pair. (pair.user == user)
    && not (stays (record before { members = members_after before.members user group false }) pair))
    before.desk_pairs

-- After a grant was given or withdrawn, a desk stays by the grants alone.
abbrev pub StaysByGrants : Type 0
StaysByGrants =
    (before after : TreePart) (told : Effect) (desk : Option ContentValue)
    (now caller group page : ℕ) (permission : Permission) (on : Bool) (pair : DeskPair) →
    step_by before desk now caller (commands.Grant group page permission on) ≡ Ok (after, told) →
    stays after pair
    ≡ stays
    (record before { grants = grants_after before.grants group page permission on }) pair

-- A grant that is withdrawn ends those desks of its group's members on its page and below it that
-- do not stay without it.
abbrev pub GrantEnds : Type 0
GrantEnds =
    (before after : TreePart) (told : Effect) (desk : Option ContentValue)
    (now caller group page : ℕ) (permission : Permission) → IsSoundPart before →
    step_by before desk now caller (commands.Grant group page permission false)
    ≡ Ok (after, told) →
    told.ended
    ≡ filter
    (λ pair. is_suspect before (DesksBelow page group) pair
    && not
    (stays
    (record before { grants = grants_after before.grants group page permission false }) pair))
    before.desk_pairs

-- these pages from that one on
abbrev pub from_page : ℕ → List ℕ → List ℕ
from_page page [] = []
from_page page (one ∷ more) = if one == page then one ∷ more else from_page page more

-- the pages from one above another down to that other one
abbrev pub between : Forest Body → ℕ → ℕ → List ℕ
between tree page inner = from_page page (above_of tree inner)

-- After an accepted move, the pages on the walk to one that was moved are those on the walk to the
-- new parent, and then those from the moved page down to it.
abbrev pub MovedAbove : Type 0
MovedAbove =
    (before after : TreePart) (told : Effect) (desk : Option ContentValue)
    (now caller page target : ℕ) (position : Position) (inner : ℕ) → IsSoundPart before →
    step_by before desk now caller (commands.Move page target position) ≡ Ok (after, told) →
    is_within before.tree page inner ≡ true →
    above_of after.tree inner
    ≡ above_of before.tree (parent_at before.tree target position)
    ++ between before.tree page inner

-- whether a user holds the permission at the parent, or was granted it at one of these pages
abbrev pub holds_below : TreePart → ℕ → Permission → ℕ → List ℕ → Bool
holds_below part user permission parent pages =
    has part user permission parent
    || list_any (λ page. list_any (permits permission page) (rights_of part user).granted) pages

-- Whether a user may edit a page that comes below the parent with these pages down to it: by change
-- there, by add there on an own page, or as one whom its moderation asks.
abbrev pub edits_below : TreePart → ℕ → ℕ → List ℕ → View → Bool
edits_below part user parent pages view =
    holds_below part user Change parent pages
    || ((holds_below part user Add parent pages && (view.owner == user))
    || moderates (rights_of part user) view.stage)

-- After an accepted move, an open desk on the page that was moved or below it stays where its user
-- may edit there by what is held at the new parent and granted from the moved page on.
abbrev pub MovedStay : Type 0
MovedStay =
    (before after : TreePart) (told : Effect) (desk : Option ContentValue)
    (now caller page target : ℕ) (position : Position) → IsSoundPart before →
    step_by before desk now caller (commands.Move page target position) ≡ Ok (after, told) →
    AllByRecursion
    (λ (pair : DeskPair). is_within before.tree page pair.page ≡ true →
    stays after pair
    ≡ meets
    (edits_below before pair.user (parent_at before.tree target position)
    (between before.tree page pair.page))
    (view_of before pair.page)) before.desk_pairs

-- whether a desk would be lost where its page were moved with this one below the parent
abbrev pub is_lost_below : TreePart → ℕ → ℕ → DeskPair → Bool
is_lost_below part page parent pair =
    is_within part.tree page pair.page
    && not
    (meets (edits_below part pair.user parent (between part.tree page pair.page))
    (view_of part pair.page))

-- An accepted move ends those desks, on the page and below it, whose users may not edit there below
-- the new parent.
abbrev pub MoveEnds : Type 0
MoveEnds =
    (before after : TreePart) (told : Effect) (desk : Option ContentValue)
    (now caller page target : ℕ) (position : Position) → IsSoundPart before →
    step_by before desk now caller (commands.Move page target position) ≡ Ok (after, told) →
    told.ended
    ≡ filter (is_lost_below before page (parent_at before.tree target position))
    before.desk_pairs
