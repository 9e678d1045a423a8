-- Which desks end, by the world before the command alone.
use Rattle.std.proofs.Common.{◌≡◌, ℕ, Bool, true, false, not, ◌||◌, ◌&&◌, nat_eq, [], filter, Option, Some, None, Ok, refl, ap, ◌∙◌}
use Rattle.site_types.specs.Content.{ContentValue}
use Rattle.site_types.specs.declared.command.Command.{Command}
use Rattle.site_types.specs.declared.command.Command.TheVariants.{Move, Member, Grant}
use Rattle.site_types.specs.declared.permission.Permission.{Permission}
use Rattle.site_types.specs.declared.position.Position.{Position}
use Rattle.tree_model.specs.Places.{parent_at}
use Rattle.tree_model.proofs.PageLemmas.{all_weaker}
use Rattle.site_model.specs.World.{DeskPair, TreePart, Effect}
use Rattle.site_model.specs.Views.{view_of, meets}
use Rattle.site_model.specs.Users.{members_after, grants_after}
use Rattle.site_model.specs.Desks.{desk_page, stays, is_shut}
use Rattle.site_model.specs.Step.{step_by}
use Rattle.site_model.specs.Sound.{IsSoundPart}
use Rattle.site_model.specs.Losing.{Suspects, NoDesk, DesksBelow, suspects_of, is_within, is_suspect, shuts, is_lost}
use Rattle.site_model.specs.LosingLaws.{between, edits_below, is_lost_below}
use Rattle.site_model.proofs.LosingLemmas.{filter_alike}
use Rattle.site_model.proofs.LosingSteps.{ended_are}
use Rattle.site_model.proofs.LosingFacts.{each_of, filter_none, stays_by_members, stays_by_grants}
use Rattle.site_model.proofs.LosingMoved.{moved_stay}

-- of no suspects only what is shut is lost
own_lost : (before after : TreePart) (caller : ℕ) (command : Command) (pair : DeskPair) →
    suspects_of command ≡ NoDesk →
    is_lost before after caller command pair
    ≡ is_shut (shuts command) caller (desk_page command) pair
own_lost before after caller command pair none =
    ap (λ (suspects : Suspects). is_shut (shuts command) caller (desk_page command) pair
    || (is_suspect before suspects pair && not (stays after pair))) none
    ∙ alone (is_shut (shuts command) caller (desk_page command) pair)
  where
    alone : (t : Bool) → (t || false) ≡ t
    alone true = refl
    alone false = refl

-- A command without suspects ends the caller's own desk, where it shuts it.
pub ends_own : (before after : TreePart) (told : Effect) (desk : Option ContentValue)
    (now caller : ℕ) (command : Command) → IsSoundPart before → suspects_of command ≡ NoDesk →
    step_by before desk now caller command ≡ Ok (after, told) →
    told.ended ≡ filter (is_shut (shuts command) caller (desk_page command)) before.desk_pairs
ends_own before after told desk now caller command sound none is =
    (ended_are before after told desk now caller command sound is).ended
    ∙ filter_alike (is_lost before after caller command)
    (is_shut (shuts command) caller (desk_page command)) before.desk_pairs
    (each_of (λ (pair : DeskPair). is_lost before after caller command pair
    ≡ is_shut (shuts command) caller (desk_page command) pair) before.desk_pairs
    (λ pair. own_lost before after caller command pair none))

-- A command without suspects that shuts no desk ends none.
pub ends_none : (before after : TreePart) (told : Effect) (desk : Option ContentValue)
    (now caller : ℕ) (command : Command) → IsSoundPart before → suspects_of command ≡ NoDesk →
    shuts command ≡ false → step_by before desk now caller command ≡ Ok (after, told) →
    told.ended ≡ []
ends_none before after told desk now caller command sound none quiet is =
    ends_own before after told desk now caller command sound none is
    ∙ filter_none (is_shut (shuts command) caller (desk_page command)) before.desk_pairs
    (each_of (λ (pair : DeskPair).
    is_shut (shuts command) caller (desk_page command) pair ≡ false) before.desk_pairs
    (λ pair.
    ap (λ (shut : Bool). is_shut shut caller (desk_page command) pair) quiet
    ∙ unshut pair (desk_page command)))
  where
    unshut : (pair : DeskPair) (page : Option ℕ) → is_shut false caller page pair ≡ false
    unshut pair None = refl
    unshut pair (Some page) = refl

-- a suspect is lost by whether it stays
by_stay : (suspect stay other : Bool) → stay ≡ other → (suspect && not stay) ≡ (suspect && not other)
by_stay suspect stay other same = ap (λ (t : Bool). suspect && not t) same

-- A membership that ends ends those desks of its user that do not stay without it.
pub member_ends : (before after : TreePart) (told : Effect) (desk : Option ContentValue)
    (now caller user group : ℕ) → IsSoundPart before →
    step_by before desk now caller (Member user group false) ≡ Ok (after, told) →
    told.ended
    ≡ filter
    (λ (pair : DeskPair). nat_eq pair.user user
    && not (stays (record before { members = members_after before.members user group false }) pair))
    before.desk_pairs
unfolding desk_page suspects_of shuts
member_ends before after told desk now caller user group sound is =
    let part = record before { members = members_after before.members user group false } in
    (ended_are before after told desk now caller (Member user group false) sound is).ended
    ∙ filter_alike (is_lost before after caller (Member user group false))
    (λ (pair : DeskPair). nat_eq pair.user user && not (stays part pair)) before.desk_pairs
    (each_of (λ (pair : DeskPair). is_lost before after caller (Member user group false) pair
    ≡ (nat_eq pair.user user && not (stays part pair))) before.desk_pairs
    (λ pair. by_stay (nat_eq pair.user user) (stays after pair) (stays part pair)
    (stays_by_members before after told desk now caller user group false pair is)))

-- A grant that is withdrawn ends those desks of its group's members on its page and below it that do
-- not stay without it.
pub grant_ends : (before after : TreePart) (told : Effect) (desk : Option ContentValue)
    (now caller group page : ℕ) (permission : Permission) → IsSoundPart before →
    step_by before desk now caller (Grant group page permission false) ≡ Ok (after, told) →
    told.ended
    ≡ filter
    (λ (pair : DeskPair). is_suspect before (DesksBelow page group) pair
    && not
    (stays
    (record before { grants = grants_after before.grants group page permission false }) pair))
    before.desk_pairs
unfolding desk_page suspects_of shuts
grant_ends before after told desk now caller group page permission sound is =
    let part = record before { grants = grants_after before.grants group page permission false } in
    let command = Grant group page permission false in
    (ended_are before after told desk now caller command sound is).ended
    ∙ filter_alike (is_lost before after caller command)
    (λ (pair : DeskPair). is_suspect before (DesksBelow page group) pair && not (stays part pair))
    before.desk_pairs
    (each_of (λ (pair : DeskPair). is_lost before after caller command pair
    ≡ (is_suspect before (DesksBelow page group) pair && not (stays part pair))) before.desk_pairs
    (λ pair. by_stay (is_suspect before (DesksBelow page group) pair) (stays after pair)
    (stays part pair)
    (stays_by_grants before after told desk now caller group page permission false pair is)))

-- A move ends those desks on the page and below it whose users may not edit there below the new
-- parent.
pub move_ends : (before after : TreePart) (told : Effect) (desk : Option ContentValue)
    (now caller page target : ℕ) (position : Position) → IsSoundPart before →
    step_by before desk now caller (Move page target position) ≡ Ok (after, told) →
    told.ended
    ≡ filter (is_lost_below before page (parent_at before.tree target position))
    before.desk_pairs
unfolding desk_page suspects_of shuts
move_ends before after told desk now caller page target position sound is =
    let command = Move page target position in
    let parent = parent_at before.tree target position in
    (ended_are before after told desk now caller command sound is).ended
    ∙ filter_alike (is_lost before after caller command) (is_lost_below before page parent)
    before.desk_pairs
    (all_weaker (λ (pair : DeskPair). is_within before.tree page pair.page ≡ true →
    stays after pair
    ≡ meets (edits_below before pair.user parent (between before.tree page pair.page))
    (view_of before pair.page))
    (λ (pair : DeskPair).
    is_lost before after caller command pair ≡ is_lost_below before page parent pair)
    before.desk_pairs
    (λ pair told. where_within (is_within before.tree page pair.page) (stays after pair)
    (meets (edits_below before pair.user parent (between before.tree page pair.page))
    (view_of before pair.page)) told)
    (moved_stay before after told desk now caller page target position sound is))
  where
    where_within : (within stay other : Bool) → (within ≡ true → stay ≡ other) →
        (within && not stay) ≡ (within && not other)
    where_within true stay other told = ap (λ (t : Bool). not t) (told refl)
    where_within false stay other told = refl
