-- Which forest a grove of the program is, and what its rows are.
use Rattle.std.specs.Prelude.{ℕ, ◌+◌, ◌^◌, ◌<◌}
use Rattle.page_tree.specs.declared.grove.Grove.{Grove, Bare, Grown'}
use Rattle.page_tree.specs.declared.grove.Spot.{Spot}
use Rattle.page_tree.specs.declared.grove.Spot.TheVariants.{AtFirst, BeforePage, AtEnd}
use Rattle.page_tree.specs.Tree.{Forest, bare, grown, Place, First, Before, End}

-- the forest that a grove is
abbrev pub forest_of : Grove → Forest ℕ
forest_of Bare = bare
forest_of (Grown' page p kids q rest) =
    grown page.id page.step page.slug.items page.body (forest_of kids) (forest_of rest)

-- the place that a spot names
abbrev pub place_of : Spot → Place
place_of AtFirst = First
place_of (BeforePage id) = Before id
place_of AtEnd = End

-- each step has one after it within 32 bits
abbrev pub HasRoom : Forest ℕ → Type 0
HasRoom bare = Unit {0}
HasRoom (grown id step slug body kids rest) = (step + 1 < 2 ^ 32) × HasRoom kids × HasRoom rest
