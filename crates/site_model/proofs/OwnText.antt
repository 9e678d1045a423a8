-- In a sound world the text of the caller's own desk is as a step asks for it.
use Rattle.std.proofs.Common.{◌≡◌, ℕ, Bool, true, false, cond, ◌||◌, ◌&&◌, nat_eq, List, [], ◌∷◌, map, find, Option, Some, None, refl}
use Rattle.std.specs.Prelude.{IfSome}
use Rattle.std.specs.List.{AllByRecursion, list_any}
use Rattle.std.specs.Option.{option_map}
use Rattle.site_types.specs.Content.{ContentValue, FitsLimits}
use Rattle.site_model.specs.World.{DeskPair, Desk, World, pair_of}
use Rattle.site_model.specs.Desks.{text_at, own_text}
use Rattle.site_model.specs.Sound.{IsSound}
use Rattle.site_model.specs.Laws.{IsAtDesk, FitsDesk}

-- a text that is found at a desk is within its limits, and the desk is open
text_found : (page user : ℕ) (desks : List Desk) →
    AllByRecursion (λ (desk : Desk). FitsLimits desk.text) desks →
    IfSome (text_at desks page user) (λ text. FitsLimits text
    × (list_any (λ (pair : DeskPair). nat_eq pair.page page && nat_eq pair.user user)
    (map pair_of desks) ≡ true))
text_found page user [] texts = tt
text_found page user (desk ∷ desks) texts =
    choice (nat_eq desk.page page && nat_eq desk.user user) (text_found page user desks texts.1)
  where
    Open : Bool → ContentValue → Type 0
    Open t text = FitsLimits text
        × ((t || list_any (λ (pair : DeskPair). nat_eq pair.page page && nat_eq pair.user user)
        (map pair_of desks)) ≡ true)

    choice : (t : Bool) → IfSome (text_at desks page user) (Open false) →
        IfSome (option_map (λ (one : Desk). one.text) (cond t (Some desk)
        (find (λ (one : Desk). nat_eq one.page page && nat_eq one.user user) desks))) (Open t)
    choice true more = (texts.0, refl)
    choice false more = more

-- In a sound world the text of the caller's own desk is as a step asks for it.
pub own_text_fits : (world : World) (caller : ℕ) (page : Option ℕ) → IsSound world →
    FitsDesk world.part caller page (own_text world.desks caller page)
own_text_fits world caller None sound = tt
own_text_fits world caller (Some page) sound =
    choice (text_at world.desks page caller) (text_found page caller world.desks sound.texts)
  where
    choice : (found : Option ContentValue) →
        IfSome found (λ text. FitsLimits text
        × (list_any (λ (pair : DeskPair). nat_eq pair.page page && nat_eq pair.user caller)
        (map pair_of world.desks) ≡ true)) →
        IfSome found (λ text. IsAtDesk world.part caller page text)
    choice None is = tt
    choice (Some text) is = record { fits = is.0; opened = rw sound.desks_match at is.1 }
