-- The kids that a card tells are live kids of its page, and all of them if they are few.
use Rattle.std.proofs.Common.{◌≡◌, ◌&&◌, ◌<◌, ◌≤◌, ℕ, min, Bool, true, false, cond, List, [], ◌∷◌, length, map, take, filter, All, Option, Some, None, refl, sym, ap, subst, ◌∙◌, arith}
use Rattle.std.specs.List.{AllByRecursion, Contains}
use Rattle.std.proofs.lemmas.Bool.Decides.{nat_tests}
use Rattle.std.proofs.lemmas.List.{length-map, length-take, take_all}
use Rattle.std.proofs.lemmas.List.Elements.{All-from_recursion, recursion_from_All, All-contains_itself, All-map, All-take}
use Rattle.page_tree.specs.Rows.{Row, rows_of, is_parent}
use Rattle.site_types.specs.declared.body.Body.{Body}
use Rattle.public_view.specs.declared.card.Card.{Card}
use Rattle.public_view.specs.declared.kid.TheConstants.{MAX_KIDS}
use Rattle.site_model.specs.World.{World}
use Rattle.site_model.specs.Views.{is_live}
use Rattle.sight_model.specs.Cards.{kid_from, live_kids, kids_shown, card_of}
use Rattle.sight_model.specs.Laws.{IsLiveKid, TellsLiveKid}
use Rattle.sight_model.proofs.FindLemmas.{first_holds, second_holds, all_weaker, first_stands, later_stands, of_standing}
use Rattle.sight_model.proofs.CardLemmas.{card_made_of}

module _ {A : Type 0} where
  -- what a filter keeps passes its test, and is what it was
  kept_passes : (test : A → Bool) (P : A → Type 0) (xs : List A) → AllByRecursion P xs →
      AllByRecursion (λ x. P x × (test x ≡ true)) (filter test xs)
  kept_passes test P [] all = tt
  kept_passes test P (x ∷ xs) all = by (test x) refl (kept_passes test P xs all.1)
    where
      by : (v : Bool) → test x ≡ v →
          AllByRecursion (λ y. P y × (test y ≡ true)) (filter test xs) →
          AllByRecursion (λ y. P y × (test y ≡ true)) (cond v (x ∷ filter test xs) (filter test xs))
      by true passes later = ((all.0, passes), later)
      by false fails later = later

  -- a filter keeps what passes its test
  passing_is_kept : (test : A → Bool) (xs : List A) →
      AllByRecursion (λ x. test x ≡ true → Contains (filter test xs) x) xs
  passing_is_kept test [] = tt
  passing_is_kept test (y ∷ xs) = (
    λ passes. rw passes (first_stands y (filter test xs)),
    all_weaker (λ x. test x ≡ true → Contains (filter test xs) x)
        (λ x. test x ≡ true → Contains (cond (test y) (y ∷ filter test xs) (filter test xs)) x)
        (λ x kept passes. by (test y) x (kept passes)) xs (passing_is_kept test xs),
  )
    where
      by : (v : Bool) (x : A) → Contains (filter test xs) x →
          Contains (cond v (y ∷ filter test xs) (filter test xs)) x
      by true x there = later_stands y x (filter test xs) there
      by false x there = there

  -- what is made of an element stands where that of each does
  each_is_made : {B : Type 0} (make : A → B) (xs : List A) →
      AllByRecursion (λ x. Contains (map make xs) (make x)) xs
  each_is_made make [] = tt
  each_is_made make (y ∷ xs) = (
    first_stands (make y) (map make xs),
    all_weaker (λ x. Contains (map make xs) (make x))
        (λ x. Contains (make y ∷ map make xs) (make x))
        (λ x there. later_stands (make y) (make x) (map make xs) there) xs (each_is_made make xs),
  )

-- whether a row is that of a live kid of the page
abbrev is_live_kid : World → ℕ → Row Body → Bool
is_live_kid world page row = is_parent page row.parent && is_live world.part.tree row.body

-- the parent of a row is what the test finds
parent_is : (page : ℕ) (parent : Option ℕ) → is_parent page parent ≡ true → parent ≡ Some page
parent_is page None is = absurd (cc)
parent_is page (Some p) is = let same : p ≡ page = grind (arith, nat_tests) in ap Some same

-- the test finds the parent of a row
is_parent_of : (page : ℕ) (parent : Option ℕ) → parent ≡ Some page → is_parent page parent ≡ true
is_parent_of page None is = absurd (cc)
is_parent_of page (Some p) is = let same : p ≡ page = cc in grind (arith, nat_tests)

-- a row that passes the test is that of a live kid
kid_by_test : (world : World) (page : ℕ) (row : Row Body) → Contains (rows_of world.part.tree) row →
    is_live_kid world page row ≡ true → IsLiveKid world page row
kid_by_test world page row there passes = record {
  there = there;
  below =
      parent_is page row.parent
      (first_holds _ (is_live world.part.tree row.body) passes);
  live = second_holds (is_parent page row.parent) _ passes;
}

-- each row of the live kids is that of one
live_kids_live : (world : World) (page : ℕ) →
    AllByRecursion (IsLiveKid world page) (live_kids world page)
live_kids_live world page =
    let rows = rows_of world.part.tree in
    all_weaker (λ row. Contains rows row × (is_live_kid world page row ≡ true))
    (IsLiveKid world page) (λ row kept. kid_by_test world page row kept.0 kept.1)
    (live_kids world page)
    (kept_passes (is_live_kid world page) (Contains rows) rows
    (recursion_from_All (Contains rows) rows (All-contains_itself rows)))

-- each kid that is shown is a live kid of the page
shown_live : (world : World) (page : ℕ) → All (TellsLiveKid world page) (kids_shown world page)
shown_live world page =
    let kids = live_kids world page in
    let make = kid_from world.part.tree world.part.revisions in
    let told : AllByRecursion (λ row. TellsLiveKid world page (make row)) kids =
    all_weaker (IsLiveKid world page) (λ row. TellsLiveKid world page (make row))
    (λ row is. (row, is, refl)) kids (live_kids_live world page) in
    All-map (TellsLiveKid world page) make (take MAX_KIDS kids)
    (All-take (λ row. TellsLiveKid world page (make row)) MAX_KIDS kids
    (All-from_recursion (λ row. TellsLiveKid world page (make row)) kids told))

-- each kid that a card tells is a live kid of the card's page
pub kids_are_live : (world : World) (id : ℕ) (card : Card) → card_of world id ≡ Some card →
    All (TellsLiveKid world id) card.kids
kids_are_live world id card is =
    let from = card_made_of world id card is in
    let kids : card.kids ≡ kids_shown world id =
    ap (λ (c : Card). c.kids) from.made ∙ ap (kids_shown world) from.same_id in
    subst (All (TellsLiveKid world id)) (sym kids) (shown_live world id)

-- the number of kids that are shown is that of the live kids, or `MAX_KIDS` if there are more
shown_count : (world : World) (page : ℕ) →
    length (kids_shown world page) ≡ min MAX_KIDS (length (live_kids world page))
shown_count world page =
    length-map (take MAX_KIDS (live_kids world page))
    (kid_from world.part.tree world.part.revisions)
    ∙ length-take MAX_KIDS (live_kids world page)

-- no card tells more than `MAX_KIDS` kids
pub kids_are_few : (world : World) (id : ℕ) (card : Card) → card_of world id ≡ Some card →
    length card.kids ≤ MAX_KIDS
kids_are_few world id card is =
    let from = card_made_of world id card is in
    let kids : length card.kids ≡ length (kids_shown world from.row.id) =
    ap (λ (c : Card). length c.kids) from.made in
    omega (arith, kids, shown_count world from.row.id)

-- if fewer than `MAX_KIDS` kids are shown, each live kid is
shown_if_few : (world : World) (page : ℕ) (row : Row Body) →
    length (kids_shown world page) < MAX_KIDS → IsLiveKid world page row →
    Contains (kids_shown world page) (kid_from world.part.tree world.part.revisions row)
shown_if_few world page row few kid =
    let rows = rows_of world.part.tree in
    let kids = live_kids world page in
    let make = kid_from world.part.tree world.part.revisions in
    let all : take MAX_KIDS kids ≡ kids =
    take_all MAX_KIDS kids (omega (arith, few, shown_count world page)) in
    let below = is_parent_of page row.parent kid.below in
    let passes : is_live_kid world page row ≡ true = rw (below, kid.live) refl in
    let there : Contains kids row =
    of_standing (λ one. is_live_kid world page one ≡ true → Contains kids one) rows row
    (passing_is_kept (is_live_kid world page) rows) kid.there passes in
    subst (λ some. Contains (map make some) (make row)) (sym all)
    (of_standing (λ one. Contains (map make kids) (make one)) kids row (each_is_made make kids)
    there)

-- a card that tells fewer than `MAX_KIDS` kids tells every live kid of its page
pub no_kid_is_left_out : (world : World) (id : ℕ) (card : Card) (row : Row Body) →
    card_of world id ≡ Some card → length card.kids < MAX_KIDS → IsLiveKid world id row →
    Contains card.kids (kid_from world.part.tree world.part.revisions row)
no_kid_is_left_out world id card row is few kid =
    let from = card_made_of world id card is in
    let kids : card.kids ≡ kids_shown world id =
    ap (λ (c : Card). c.kids) from.made ∙ ap (kids_shown world) from.same_id in
    let few_shown : length (kids_shown world id) < MAX_KIDS =
    subst (λ some. length some < MAX_KIDS) kids few in
    subst (λ some. Contains some (kid_from world.part.tree world.part.revisions row)) (sym kids)
    (shown_if_few world id row few_shown kid)
