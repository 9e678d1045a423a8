-- The laws of what readers see, each proved in src/laws.rt.
use Rattle.std.specs.Prelude.{◌≡◌, ◌<◌, ◌≤◌, ℕ, true, List, length, All, Contains, Some, None, IsSome}
use Rattle.page_tree.specs.Tree.{HasDistinctIds}
use Rattle.page_tree.specs.Rows.{Row, rows_of}
use Rattle.site_types.specs.declared.body.Body.{Body}
use Rattle.public_view.specs.declared.card.Card.{Card}
use Rattle.public_view.specs.declared.kid.LiveKid.{LiveKid}
use Rattle.public_view.specs.declared.kid.TheConstants.{MAX_KIDS}
use Rattle.site_model.specs.World.{World}
use Rattle.site_model.specs.Views.{is_live}
use Rattle.sight_model.specs.Cards.{kid_from, card_of, answer_of}

-- The row is that of a live page with this URL.
pub record IsLiveAt (world : World) (url : List ℕ) (row : Row Body) : Type 0 where
  pub there : Contains (rows_of world.part.tree) row
  pub here : row.url ≡ url
  pub live : is_live world.part.tree row.body ≡ true

-- The row is that of a live kid of the page.
pub record IsLiveKid (world : World) (page : ℕ) (row : Row Body) : Type 0 where
  pub there : Contains (rows_of world.part.tree) row
  pub below : row.parent ≡ Some page
  pub live : is_live world.part.tree row.body ≡ true

-- what a card says of a kid is said of some live kid of the page
abbrev pub TellsLiveKid : World → ℕ → LiveKid → Type 0
TellsLiveKid world page kid =
    (row : Row Body) × IsLiveKid world page row
    × (kid ≡ kid_from world.part.tree world.part.revisions row)

-- the page of a card is the one that the card was asked of
abbrev pub CardsKeepTheirPage : Type 0
CardsKeepTheirPage =
    (world : World) (id : ℕ) (card : Card) → card_of world id ≡ Some card → card.id ≡ id

-- where no two pages have one id, what everybody is answered at a URL is the card of a page that is
-- live, says so, and has this URL
abbrev pub OnlyLivePagesArePublic : Type 0
OnlyLivePagesArePublic =
    (world : World) (url : List ℕ) (card : Card) → HasDistinctIds world.part.tree →
    answer_of world url ≡ Some card →
    (row : Row Body) × IsLiveAt world url row × (card.id ≡ row.id) × (card.url ≡ url)
    × (card.body ≡ record row.body { live = true })

-- if a live page has a URL, everybody is answered a card there
abbrev pub LivePagesArePublic : Type 0
LivePagesArePublic =
    (world : World) (url : List ℕ) (row : Row Body) → IsLiveAt world url row →
    IsSome (answer_of world url)

-- each kid that a card tells is a live kid of the card's page
abbrev pub KidsAreLive : Type 0
KidsAreLive =
    (world : World) (id : ℕ) (card : Card) → card_of world id ≡ Some card →
    All (TellsLiveKid world id) card.kids

-- no card tells more than `MAX_KIDS` kids
abbrev pub KidsAreFew : Type 0
KidsAreFew =
    (world : World) (id : ℕ) (card : Card) → card_of world id ≡ Some card →
    length card.kids ≤ MAX_KIDS

-- a card that tells fewer than `MAX_KIDS` kids tells every live kid of its page
abbrev pub NoKidIsLeftOut : Type 0
NoKidIsLeftOut =
    (world : World) (id : ℕ) (card : Card) (row : Row Body) → card_of world id ≡ Some card →
    length card.kids < MAX_KIDS → IsLiveKid world id row →
    Contains card.kids (kid_from world.part.tree world.part.revisions row)

-- The card of an alias shows what the card of its source does, and has no moment of its own.
pub record ShowsSource (own source : Card) : Type 0 where
  pub live : own.body.live ≡ source.body.live
  pub title : own.title ≡ source.title
  pub blocks : own.blocks ≡ source.blocks
  pub no_expiry : own.expire_at ≡ None

-- an alias of a regular page shows what its source shows, and is live where that is
abbrev pub AliasesShowTheirSource : Type 0
AliasesShowTheirSource =
    (world : World) (id page : ℕ) (own source : Card) → card_of world id ≡ Some own →
    own.body.source ≡ Some page → card_of world page ≡ Some source → source.body.source ≡ None →
    ShowsSource own source
