-- The parts of a world that change by themselves: part 0 is the tree part, and each further one is
-- a stripe of the open desks, with their texts. What an entry touches, and that it depends on no
-- more.
use Rattle.std.specs.Prelude.{ℕ, zero, suc, ◌%◌, Bool, true, false, not, ◌==◌, ◌||◌, List, [], filter, Option, Some, None, Result, Ok, Err}
use Rattle.std.specs.List.{list_any}
use Rattle.std.specs.Option.{is_some}
use Rattle.site_types.specs.declared.entry.Entry.{Entry}
use Rattle.site_types.specs.declared.refusal.Refusal.{Refusal}
use Rattle.site_model.specs.World.{DeskPair, Desk, TreePart, World, Effect}
use Rattle.site_model.specs.Desks.{desk_page, own_text}
use Rattle.site_model.specs.Step.{saving, step_by}

-- how many stripes there are
abbrev pub STRIPES : ℕ
STRIPES = 16

-- the stripe of a page's desk, counted from 0
abbrev pub stripe_of : ℕ → ℕ
stripe_of page = page % STRIPES

-- the desks of a stripe
abbrev pub stripe : ℕ → List Desk → List Desk
stripe number desks = filter (λ desk. stripe_of desk.page == number) desks

-- What a part of a world is.
pub data PartValue : Type 0 where
  TreeValue : (part : TreePart) → PartValue
  StripeValue : (desks : List Desk) → PartValue

-- a part of a world: part 0 is the tree part, and the next ones are the stripes
abbrev pub part_of : World → ℕ → PartValue
part_of world zero = TreeValue world.part
part_of world (suc number) = StripeValue (stripe number world.desks)

-- the desks that a step of the tree part ends
abbrev pub ended_in : Result (TreePart × Effect) Refusal → List DeskPair
ended_in (Ok done) = done.1.ended
ended_in (Err refusal) = []

-- the desks that an entry ends; saving one ends none
abbrev pub ended_by : World → Entry → List DeskPair
ended_by world entry = unless_saved (is_some (saving entry.command))
  where
    unless_saved : Bool → List DeskPair
    unless_saved true = []
    unless_saved false =
        ended_in
        (step_by world.part (own_text world.desks entry.caller (desk_page entry.command))
        entry.moment entry.caller entry.command)

-- whether a page is there, and its desk is in the stripe
abbrev pub is_in_stripe : ℕ → Option ℕ → Bool
is_in_stripe number None = false
is_in_stripe number (Some page) = stripe_of page == number

-- Whether an entry touches a part: the tree part, unless it saves a desk; the stripe of its own
-- desk; and the stripes of the desks that it ends.
abbrev pub touches : World → Entry → ℕ → Bool
touches world entry zero = not (is_some (saving entry.command))
touches world entry (suc number) =
    is_in_stripe number (desk_page entry.command)
    || list_any (λ pair. stripe_of pair.page == number) (ended_by world entry)
