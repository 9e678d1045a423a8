-- What everybody is answered at a URL is the card of a live page there.
use Rattle.std.proofs.Common.{◌≡◌, ◌==◌, ◌&&◌, ℕ, nat_eq, Bool, true, List, [], ◌∷◌, ◌++◌, map, bytes_eq, find, Option, Some, None, IsSome, refl, sym, ap, subst, ◌∙◌, arith}
use Rattle.std.specs.Option.{option_map, option_and_then}
use Rattle.std.specs.List.{IsDistinct, Contains}
use Rattle.std.proofs.lemmas.List.{map-append}
use Rattle.std.proofs.lemmas.Bool.Decides.{nat_tests}
use Rattle.std.proofs.lemmas.Slice.Eq.{bytes_eq-Decides}
use Rattle.page_tree.specs.Tree.{Forest, bare, grown, ids_of, HasDistinctIds}
use Rattle.page_tree.specs.Rows.{Row, rows_below, rows_of, row_with, child_url}
use Rattle.site_types.specs.declared.body.Body.{Body}
use Rattle.public_view.specs.declared.card.Card.{Card}
use Rattle.site_model.specs.World.{World}
use Rattle.site_model.specs.Views.{is_live}
use Rattle.sight_model.specs.Cards.{card_from, card_of, answer_of}
use Rattle.sight_model.specs.Laws.{IsLiveAt}
use Rattle.sight_model.proofs.FindLemmas.{first_holds, second_holds, found_passes, found_stands, standing_is_found, found_by_id}

-- whether a row is that of a live page with this URL
abbrev is_asked : World → List ℕ → Row Body → Bool
is_asked world url row = bytes_eq row.url url && is_live world.part.tree row.body

-- the ids of the rows are those of the tree
row_ids : (parent : Option ℕ) (path front : List ℕ) (forest : Forest Body) →
    map (λ (row : Row Body). row.id) (rows_below parent path front forest) ≡ ids_of forest
row_ids parent path front bare = refl
row_ids parent path front (grown i step slug body kids rest) =
    let below = row_ids (Some i) (path ++ step ∷ []) (child_url front slug) kids in
    let later = row_ids parent path front rest in
    ap (λ ids. i ∷ ids)
    (map-append (λ (row : Row Body). row.id)
    (rows_below (Some i) (path ++ step ∷ []) (child_url front slug) kids)
    (rows_below parent path front rest)
    ∙ (λ k. below k ++ later k))

-- where no two pages have one id, the card of the id of a row that is found is made of the row
made_of_same : (world : World) (test : Row Body → Bool) (row : Row Body) (card : Card) →
    HasDistinctIds world.part.tree → find test (rows_of world.part.tree) ≡ Some row →
    card_of world row.id ≡ Some card → card ≡ card_from world row
made_of_same world test row card apart there is =
    let rows = rows_of world.part.tree in
    let ids = row_ids None [] [] world.part.tree in
    let again : row_with row.id rows ≡ Some row =
    found_by_id test rows row (subst (IsDistinct nat_eq) (sym ids) apart) there in
    let made : option_map (card_from world) (Some row) ≡ Some card =
    ap (option_map (card_from world)) (sym again) ∙ is in
    cc

-- the row that is found at a URL is the one of which everybody's answer is made
only_live : (world : World) (url : List ℕ) (card : Card) (found : Option (Row Body)) →
    HasDistinctIds world.part.tree →
    find (is_asked world url) (rows_of world.part.tree) ≡ found →
    option_and_then (card_of world) (option_map (λ (row : Row Body). row.id) found) ≡ Some card →
    (row : Row Body) × IsLiveAt world url row × (card.id ≡ row.id) × (card.url ≡ url)
    × (card.body ≡ record row.body { live = true })
only_live world url card None apart there is = absurd (cc)
only_live world url card (Some row) apart there is =
    let rows = rows_of world.part.tree in
    let passes = found_passes (is_asked world url) rows row there in
    let here : row.url ≡ url =
    (bytes_eq-Decides row.url url).0 (first_holds _ (is_live world.part.tree row.body) passes) in
    let here_live : is_live world.part.tree row.body ≡ true =
    second_holds (bytes_eq row.url url) _ passes in
    let made = made_of_same world (is_asked world url) row card apart there is in (
      row,
      record {
        there = found_stands (is_asked world url) rows row there;
        here = here;
        live = here_live;
      },
      ap (λ (c : Card). c.id) made,
      ap (λ (c : Card). c.url) made ∙ here,
      ap (λ (c : Card). c.body) made ∙ ap (λ live. record row.body { live = live }) here_live,
    )

-- where no two pages have one id, everybody is answered the card of a live page with the URL
pub only_live_pages_are_public : (world : World) (url : List ℕ) (card : Card) →
    HasDistinctIds world.part.tree → answer_of world url ≡ Some card →
    (row : Row Body) × IsLiveAt world url row × (card.id ≡ row.id) × (card.url ≡ url)
    × (card.body ≡ record row.body { live = true })
only_live_pages_are_public world url card apart is =
    only_live world url card (find (is_asked world url) (rows_of world.part.tree)) apart refl is

-- the card of a row that stands among the rows is there
standing_has_card : (world : World) (row : Row Body) → Contains (rows_of world.part.tree) row →
    IsSome (card_of world row.id)
standing_has_card world row there =
    let own : (row.id == row.id) ≡ true = grind (arith, nat_tests) in
    mapped (row_with row.id (rows_of world.part.tree))
    (standing_is_found (λ (one : Row Body). one.id == row.id) (rows_of world.part.tree) row there own)
  where
    mapped : (found : Option (Row Body)) → IsSome found →
        IsSome (option_map (card_from world) found)
    mapped (Some one) some = refl
    mapped None some = some

-- if a live page has a URL, everybody is answered a card there
pub live_pages_are_public : (world : World) (url : List ℕ) (row : Row Body) →
    IsLiveAt world url row → IsSome (answer_of world url)
live_pages_are_public world url row at =
    let rows = rows_of world.part.tree in
    let same : bytes_eq row.url url ≡ true = (bytes_eq-Decides row.url url).1 at.here in
    let asked : is_asked world url row ≡ true = rw (same, at.live) refl in
    answered (find (is_asked world url) rows) refl
    (standing_is_found (is_asked world url) rows row at.there asked)
  where
    answered : (found : Option (Row Body)) →
        find (is_asked world url) (rows_of world.part.tree) ≡ found → IsSome found →
        IsSome (option_and_then (card_of world) (option_map (λ (one : Row Body). one.id) found))
    answered (Some one) there some =
        standing_has_card world one
        (found_stands (is_asked world url) (rows_of world.part.tree) one there)
    answered None there some = some
