-- The card of a page is made of the page's row.
use Rattle.std.proofs.Common.{◌≡◌, ℕ, Option, Some, None, refl, sym, ap, ◌∙◌}
use Rattle.std.specs.Option.{option_map}
use Rattle.page_tree.specs.Rows.{Row, rows_of, row_with}
use Rattle.site_types.specs.declared.body.Body.{Body}
use Rattle.public_view.specs.declared.card.Card.{Card}
use Rattle.site_model.specs.World.{World}
use Rattle.sight_model.specs.Cards.{card_from, card_of}
use Rattle.sight_model.proofs.FindLemmas.{row_found}

-- The row of which a card is made.
pub record MadeOf (world : World) (id : ℕ) (card : Card) : Type 0 where
  pub row : Row Body
  pub found : row_with id (rows_of world.part.tree) ≡ Some row
  pub same_id : row.id ≡ id
  pub made : card ≡ card_from world row

-- the card of a row that is found is made of it
made_of_found : (world : World) (id : ℕ) (card : Card) (found : Option (Row Body)) →
    row_with id (rows_of world.part.tree) ≡ found →
    option_map (card_from world) found ≡ Some card → MadeOf world id card
made_of_found world id card None there is = absurd (cc)
made_of_found world id card (Some row) there is =
    let one : card_from world row ≡ card = cc in
    record {
      row = row;
      found = there;
      same_id = row_found id (rows_of world.part.tree) row there;
      made = sym one;
    }

-- the card of a page is made of a row with the page's id
pub card_made_of : (world : World) (id : ℕ) (card : Card) → card_of world id ≡ Some card →
    MadeOf world id card
card_made_of world id card is =
    made_of_found world id card (row_with id (rows_of world.part.tree)) refl is

-- the card of a page has the page's id
pub card_page : (world : World) (id : ℕ) (card : Card) → card_of world id ≡ Some card → card.id ≡ id
card_page world id card is =
    let from = card_made_of world id card is in
    ap (λ (c : Card). c.id) from.made ∙ from.same_id
