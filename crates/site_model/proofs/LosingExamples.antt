-- Which desks commands end, at worked values.
use Rattle.std.proofs.Common.{◌≡◌, ℕ, true, false, List, [], ◌∷◌, refl, codes, None}
use Rattle.site_types.specs.declared.command.Command.{Command}
use Rattle.site_types.specs.declared.command.Command.TheVariants as commands
use Rattle.site_types.specs.declared.permission.Permission.TheVariants.{Change}
use Rattle.site_types.specs.declared.position.Position.TheVariants.{LastChild}
use Rattle.site_model.specs.World.{DeskPair, TreePart, Effect}
use Rattle.site_model.specs.Needs.{needs_of}
use Rattle.site_model.specs.Front.{row_of, front_rules}
use Rattle.site_model.specs.Desks.{desk_page, settled}
use Rattle.site_model.specs.Step.{rules, effect, step_by}
use Rattle.site_model.specs.Losing.{DesksBelow, suspects_of, is_within, is_suspect, shuts, lost_desks}
use Rattle.site_model.specs.LosingLaws.{between, is_lost_below}
use Rattle.site_model.proofs.Sites.{after, joined, page_below}

-- what a command does that no rule refuses
abbrev done : TreePart → ℕ → Command → TreePart × Effect
done part caller command = settled caller (desk_page command) (effect part None 100 caller command)

-- a desk without its text
abbrev pair : ℕ → ℕ → DeskPair
pair page user = record { page = page; user = user }

-- pages 2 and 3, a and b, and page 4, c, below a; the members of group 1 may change a
abbrev changing_a : TreePart
changing_a =
    after
    (after (after (after joined 1 (page_below 1 (codes "a"))) 1 (page_below 1 (codes "b"))) 1
    (page_below 2 (codes "c"))) 1 (commands.Grant 1 2 Change true)

-- with desks of user 2, who is one, on a and on c, and one of user 1 on b
abbrev with_desks : TreePart
with_desks =
    (done (done (done changing_a 2 (commands.OpenDesk 2)).0 2 (commands.OpenDesk 4)).0 1
    (commands.OpenDesk 3)).0

-- all three are open
all_open : with_desks.desk_pairs ≡ pair 2 2 ∷ pair 3 1 ∷ pair 4 2 ∷ []
unfolding needs_of front_rules row_of rules effect step_by desk_page
all_open = refl

-- what the definitions say that a command ends
abbrev lost : Command → List DeskPair
lost command = lost_desks with_desks (done with_desks 1 command).0 1 command

-- and what the step ends
abbrev ended : Command → List DeskPair
ended command = (done with_desks 1 command).1.ended

-- c is within a, and a is not within c
c_within_a : is_within with_desks.tree 2 4 ≡ true
unfolding needs_of front_rules row_of rules effect step_by desk_page
c_within_a = refl

-- page a is not within page c
a_outside_c : is_within with_desks.tree 4 2 ≡ false
unfolding needs_of front_rules row_of rules effect step_by desk_page
a_outside_c = refl

-- from a one walks over a to c
from_a_to_c : between with_desks.tree 2 4 ≡ 2 ∷ 4 ∷ []
unfolding needs_of front_rules row_of rules effect step_by desk_page
from_a_to_c = refl

-- c moved below b ends the desk on it, since b may not be changed
move_loses : lost (commands.Move 4 3 LastChild) ≡ pair 4 2 ∷ []
unfolding needs_of front_rules row_of rules effect step_by desk_page suspects_of shuts
move_loses = refl

-- as the step does
move_ends : ended (commands.Move 4 3 LastChild) ≡ pair 4 2 ∷ []
unfolding needs_of front_rules row_of rules effect step_by desk_page
move_ends = refl

-- a moved below b ends none, since it may be changed wherever it is
move_keeps : ended (commands.Move 2 3 LastChild) ≡ []
unfolding needs_of front_rules row_of rules effect step_by desk_page
move_keeps = refl

-- this is told before a page is moved
c_lost_below_b : is_lost_below with_desks 4 3 (pair 4 2) ≡ true
unfolding needs_of front_rules row_of rules effect step_by desk_page
c_lost_below_b = refl

-- the desk on page a stays when b moves
a_kept_below_b : is_lost_below with_desks 2 3 (pair 2 2) ≡ false
unfolding needs_of front_rules row_of rules effect step_by desk_page
a_kept_below_b = refl

-- a deleted ends the desks on it and below it
delete_loses : lost (commands.Delete 2) ≡ pair 2 2 ∷ pair 4 2 ∷ []
unfolding needs_of front_rules row_of rules effect step_by desk_page suspects_of shuts
delete_loses = refl

-- a locked by user 1 ends the desk of user 2 on it
lock_loses : lost (commands.Lock 2) ≡ pair 2 2 ∷ []
unfolding needs_of front_rules row_of rules effect step_by desk_page suspects_of shuts
lock_loses = refl

-- b locked by user 1 ends none
lock_keeps : lost (commands.Lock 3) ≡ []
unfolding needs_of front_rules row_of rules effect step_by desk_page suspects_of shuts
lock_keeps = refl

-- a grant that is withdrawn ends what it allowed
grant_loses : lost (commands.Grant 1 2 Change false) ≡ pair 2 2 ∷ pair 4 2 ∷ []
unfolding needs_of front_rules row_of rules effect step_by desk_page suspects_of shuts
grant_loses = refl

-- a desk on another page, or of another user, is no suspect
b_no_suspect : is_suspect with_desks (DesksBelow 2 1) (pair 3 2) ≡ false
unfolding needs_of front_rules row_of rules effect step_by desk_page
b_no_suspect = refl

-- a desk of one who is no member is no suspect
other_no_suspect : is_suspect with_desks (DesksBelow 2 1) (pair 4 1) ≡ false
unfolding needs_of front_rules row_of rules effect step_by desk_page
other_no_suspect = refl

-- user 2 leaves the group, and loses both desks
member_loses : lost (commands.Member 2 1 false) ≡ pair 2 2 ∷ pair 4 2 ∷ []
unfolding needs_of front_rules row_of rules effect step_by desk_page suspects_of shuts
member_loses = refl
