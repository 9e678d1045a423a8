-- The ordered tree of pages: each page has a step among its siblings, which rises from one sibling
-- to the next
-- (django-treebeard 4.7, MP_Node). What a cut and a graft do to the steps of siblings is this
-- project's own.
use Rattle.std.specs.Prelude.{ℕ, Bool, false, ◌==◌, nat_eq, ◌||◌, List, [], ◌∷◌, ◌++◌, ◌+◌, ◌<◌, if◌then◌else◌}
use Rattle.std.specs.Prelude.{Option, Some, None}
use Rattle.std.specs.List.{IsDistinct}
use Rattle.std.specs.Str.{bytes_eq}

-- Pages side by side: none, or a first one with its children and the siblings after it.
-- A page has an id, its step, its slug, and the rest of what is kept of it, which is of the type
-- Body.
pub data Forest (Body : Type 0) : Type 0 where
  bare : Forest Body
  grown : (id step : ℕ) (slug : List ℕ) (body : Body) (kids rest : Forest Body) → Forest Body

-- Where a page goes among its new siblings.
pub data Place : Type 0 where
  First : Place
  Before : (sibling : ℕ) → Place
  End : Place

module _ {Body : Type 0} where
  -- whether a page has the id
  abbrev pub has_page : ℕ → Forest Body → Bool
  has_page id bare = false
  has_page id (grown i step slug body kids rest) =
      (i == id) || (has_page id kids || has_page id rest)

  -- the first of these, or the second where the first is bare
  abbrev pub or_else : Forest Body → Forest Body → Forest Body
  or_else bare others = others
  or_else (grown i step slug body kids rest) others = grown i step slug body kids rest

  -- the page with the id and all below it, standing alone; bare where there is none
  abbrev pub node_of : ℕ → Forest Body → Forest Body
  node_of id bare = bare
  node_of id (grown i step slug body kids rest) =
      if i == id then grown i step slug body kids bare else or_else (node_of id kids)
      (node_of id rest)

  -- the pages without the page with the id and all below it; the steps of the others stay, so that
  -- a hole is left
  abbrev pub without : ℕ → Forest Body → Forest Body
  without id bare = bare
  without id (grown i step slug body kids rest) =
      if i == id then rest else grown i step slug body (without id kids) (without id rest)

  -- the children of the page with the id
  abbrev pub kids_of : ℕ → Forest Body → Forest Body
  kids_of id bare = bare
  kids_of id (grown i step slug body kids rest) =
      if i == id then kids else or_else (kids_of id kids) (kids_of id rest)

  -- the step of the last of these siblings, or the given one where there is none
  abbrev pub last_step : ℕ → Forest Body → ℕ
  last_step before bare = before
  last_step before (grown i step slug body kids rest) = last_step step rest

  -- these siblings, each one step later
  abbrev pub raised : Forest Body → Forest Body
  raised bare = bare
  raised (grown i step slug body kids rest) = grown i (step + 1) slug body kids (raised rest)

  -- a page that stands alone, at this step and with these siblings after it
  abbrev pub placed : Forest Body → ℕ → Forest Body → Forest Body
  placed bare at rest = rest
  placed (grown i step slug body kids others) at rest = grown i at slug body kids rest

  -- at the end: the step after the last sibling's, or 1; before is the step of the sibling before
  -- these, or 0
  abbrev pub put_last : ℕ → Forest Body → Forest Body → Forest Body
  put_last before node bare = placed node (before + 1) bare
  put_last before node (grown i step slug body kids rest) =
      grown i step slug body kids (put_last step node rest)

  -- before a sibling: its step, and that sibling and each later one go up by one
  abbrev pub put_before : ℕ → Forest Body → Forest Body → Forest Body
  put_before sibling node bare = bare
  put_before sibling node (grown i step slug body kids rest) =
      if i == sibling
      then placed node step (raised (grown i step slug body kids rest))
      else grown i step slug body kids (put_before sibling node rest)

  -- a page among its new siblings: at the first place its step is 1, and each sibling goes up by
  -- one
  abbrev pub put : Place → Forest Body → Forest Body → Forest Body
  put First node kids = placed node 1 (raised kids)
  put (Before sibling) node kids = put_before sibling node kids
  put End node kids = put_last 0 node kids

  -- the greatest step that a graft needs among the siblings
  abbrev pub step_needed : Place → Forest Body → ℕ
  step_needed First kids = last_step 0 kids + 1
  step_needed (Before sibling) kids = last_step 0 kids + 1
  step_needed End kids = last_step 0 kids + 1

  -- a page grafted in below its parent; the graft is meant only where `step_needed` is a step
  abbrev pub graft : ℕ → Place → Forest Body → Forest Body → Forest Body
  graft parent place node bare = bare
  graft parent place node (grown i step slug body kids rest) =
      if i == parent
      then grown i step slug body (put place node kids) rest
      else grown i step slug body (graft parent place node kids) (graft parent place node rest)

  -- a move: the page is cut out with all below it, and then takes its place among the siblings that
  -- remain
  abbrev pub moved : ℕ → ℕ → Place → Forest Body → Forest Body
  moved page parent place tree = graft parent place (node_of page tree) (without page tree)

  -- the steps of siblings rise, from above the given one on, here and below each of them
  abbrev pub AreRising : ℕ → Forest Body → Type 0
  AreRising before bare = Unit {0}
  AreRising before (grown i step slug body kids rest) =
      (before < step) × AreRising 0 kids × AreRising step rest

  -- each id has P
  abbrev pub AllIds : (ℕ → Type 0) → Forest Body → Type 0
  AllIds P bare = Unit {0}
  AllIds P (grown i step slug body kids rest) = P i × AllIds P kids × AllIds P rest

  -- the ids, depth first
  abbrev pub ids_of : Forest Body → List ℕ
  ids_of bare = []
  ids_of (grown i step slug body kids rest) = i ∷ (ids_of kids ++ ids_of rest)

  -- no two pages have the same id
  abbrev pub HasDistinctIds : Forest Body → Type 0
  HasDistinctIds tree = IsDistinct nat_eq (ids_of tree)

  -- a slug among siblings: the id of the first of them that has it
  abbrev pub kid_with_slug : List ℕ → Forest Body → Option ℕ
  kid_with_slug slug bare = None
  kid_with_slug slug (grown i step s body kids rest) =
      if bytes_eq s slug then Some i else kid_with_slug slug rest
