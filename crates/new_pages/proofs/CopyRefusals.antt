-- The rules of a copy: those on its place, then the ids, then the contents.
use Rattle.std.proofs.Common.{◌≡◌, ◌<◌, ◌≤◌, ◌+◌, ℕ, Bool, true, false, ◌||◌, nat_lt, List, [], ◌∷◌, length, Option, Some, None, Err, refl, sym, ap, ◌∙◌, arith, length-append}
use Rattle.std.proofs.lemmas.Bool.Decides.{nat_tests}
use Rattle.page_tree.specs.Tree.{Forest, node_of, ids_of}
use Rattle.site_ids.specs.declared.ids.TheConstants.{LAST_PAGE_ID, LAST_REVISION_ID}
use Rattle.site_types.specs.declared.body.Body.{Body}
use Rattle.site_types.specs.declared.refusal.Refusal.{Refusal}
use Rattle.site_types.specs.declared.refusal.Refusal.TheVariants.{ContentFull, IdsFull, IntoItself}
use Rattle.site_types.specs.declared.revision.Revision.{Revision}
use Rattle.page_store.specs.Pages.{Page}
use Rattle.tree_rows.proofs.Lists.{length-window}
use Rattle.site_model.specs.World as worlds
use Rattle.site_model.specs.Copies.{size_of, to_copy, copy_revisions, with_copy, into_copy, copy_ids_full, copy_rules}
use Rattle.site_model.specs.Limits.{MAX_CONTENTS, contents_length}
use Rattle.site_model.specs.Rules.{first_of, refused_if, content_full}
use Rattle.site_model.proofs.ClearLemmas.{neither}
use Rattle.site_model.proofs.ContentLemmas.{contents_length-append, within_room, past_room}
use Rattle.site_part.specs.declared.fault.Fault.{Fault}
use Rattle.site_part.specs.declared.fault.Fault.TheVariants.{Refused, Memory}
use Rattle.page_copies.proofs.CopiedRows.{rows_count}
use Rattle.new_pages.specs.Copying.{AreLeft, IsSource, IsCopyPlace, IsNewCopy, copy_place_rules}
use Rattle.new_pages.specs.Plans.{PlansBy}
use Rattle.new_pages.specs.declared.source.Source.{Source}
use Rattle.new_pages.proofs.RuleLemmas.{front_refused, front_passed}

-- as many rows are copied below the page as pages are
pub rest_is : (pages : List Page) (tree : Forest Body) (page : ℕ) (deep : Bool) (source : Source)
    (is : IsSource pages tree page deep source) → source.rest ≡ size_of is.kids
rest_is pages tree page deep source is =
    let window = length-window pages source.start source.rest is.within in
    let same = ap length is.rows_are in
    let count = rows_count (Some page) is.top.path is.top.url is.kids in
    omega (arith, window, same, count)

-- so that many pages and one more are copied
pub size_is : (pages : List Page) (tree : Forest Body) (page : ℕ) (deep : Bool) (source : Source) →
    IsSource pages tree page deep source →
    size_of (to_copy deep (node_of page tree)) ≡ source.rest + 1
size_is pages tree page deep source is =
    let ids = length-append (ids_of is.kids) [] in
    let rest = rest_is pages tree page deep source is in
    ap size_of is.copied ∙ omega (arith, ids, rest)

-- an id is past the last where the next one would be past the one behind it
one_less : (last next rest size : ℕ) → size ≡ rest + 1 →
    nat_lt (last + 1) (next + size) ≡ nat_lt last (next + rest)
one_less last next rest size is =
    by (nat_lt (last + 1) (next + size)) (nat_lt last (next + rest)) refl refl
  where
    by : (s t : Bool) → nat_lt (last + 1) (next + size) ≡ s → nat_lt last (next + rest) ≡ t → s ≡ t
    by true true e f = refl
    by false false e f = refl
    by true false e f =
        let over : last + 1 < next + size = grind (arith, nat_tests) in
        let most : next + rest ≤ last = grind (arith, nat_tests) in
        absurd (omega (arith, is, over, most))
    by false true e f =
        let over : last < next + rest = grind (arith, nat_tests) in
        let most : next + size ≤ last + 1 = grind (arith, nat_tests) in
        absurd (omega (arith, is, over, most))

-- a test that fails is not past a limit
not_over : (limit n : ℕ) → nat_lt limit n ≡ false → n ≤ limit
not_over limit n fails = grind (arith, nat_tests)

-- whether fewer ids are left than a page and so many more need
abbrev pub lacks : worlds.TreePart → ℕ → Bool
lacks part rest =
    nat_lt LAST_PAGE_ID (part.next_page + rest) || nat_lt LAST_REVISION_ID (part.next_revision + rest)

-- what is tested of the ids of a part in memory is what the world lacks
pub lacks_are : (part : worlds.TreePart) (rest next_page next_revision : ℕ) (lacking : Bool) →
    next_page ≡ part.next_page → next_revision ≡ part.next_revision →
    lacking ≡ (nat_lt LAST_PAGE_ID (next_page + rest)
    || nat_lt LAST_REVISION_ID (next_revision + rest)) →
    lacks part rest ≡ lacking
lacks_are part rest next_page next_revision lacking page_is revision_is is =
    sym (is
    ∙ (ap (λ n. nat_lt LAST_PAGE_ID (n + rest) || nat_lt LAST_REVISION_ID (next_revision + rest))
    page_is
    ∙ ap (λ n. nat_lt LAST_PAGE_ID (part.next_page + rest) || nat_lt LAST_REVISION_ID (n + rest))
    revision_is))

-- enough are left
pub copy_ids_left : (part : worlds.TreePart) (rest : ℕ) → lacks part rest ≡ false → AreLeft part rest
copy_ids_left part rest free =
    let both = neither (nat_lt LAST_PAGE_ID (part.next_page + rest))
    (nat_lt LAST_REVISION_ID (part.next_revision + rest)) free in
    record { pages = not_over _ _ both.0; revisions = not_over _ _ both.1 }

module _ (part : worlds.TreePart) (now caller page parent : ℕ) (slug : List ℕ) (deep : Bool) where
  -- the world with the copy, and the revisions that come
  abbrev after : worlds.TreePart
  after = with_copy part now caller page parent slug deep

  abbrev ones : List Revision
  ones = copy_revisions part caller (worlds.time_at part now) 0 (to_copy deep (node_of page part.tree))

  -- the rules on the place, and the others
  abbrev place_rules : List (Option Refusal)
  place_rules = copy_place_rules part caller page parent slug deep

  abbrev other_rules : List (Option Refusal)
  other_rules = copy_ids_full part after ∷ content_full after.revisions ∷ []

  -- a deep copy into what it copies
  pub into_refuses : into_copy part page parent deep ≡ Some IntoItself →
      copy_rules part now caller page parent slug deep ≡ Some IntoItself
  into_refuses is = rw is refl

  -- a place that is refused
  pub copy_place_refuses : (pages : List Page) (source : Source) (fault : Fault) →
      PlansBy (first_of place_rules) (IsCopyPlace part pages parent slug source) (Err fault) →
      PlansBy (copy_rules part now caller page parent slug deep)
      (IsNewCopy part pages (worlds.time_at part now) caller page parent slug deep) (Err fault)
  copy_place_refuses pages source (Refused refusal) is =
      front_refused place_rules other_rules refusal is
  copy_place_refuses pages source Memory is = tt

  module _ (pages : List Page) (source : Source)
      (is : IsSource pages part.tree page deep source) (placed : first_of place_rules ≡ None) where
    -- the rule on the ids, by what is left
    ids_are : copy_ids_full part after ≡ refused_if (lacks part source.rest) IdsFull
    ids_are =
        let size = size_is pages part.tree page deep source is in
        rw (
          one_less LAST_PAGE_ID part.next_page source.rest
              (size_of (to_copy deep (node_of page part.tree))) size,
          one_less LAST_REVISION_ID part.next_revision source.rest
              (size_of (to_copy deep (node_of page part.tree))) size,
        ) refl

    -- too few ids are left
    pub copy_ids_refuse : lacks part source.rest ≡ true →
        copy_rules part now caller page parent slug deep ≡ Some IdsFull
    copy_ids_refuse full =
        front_passed place_rules other_rules placed ∙ rw (ids_are, full) refl

    module _ (free : lacks part source.rest ≡ false) (room : ℕ)
        (room_is : room + contents_length part.revisions ≡ MAX_CONTENTS) where
      -- the length of all contents then
      longer : contents_length after.revisions
          ≡ contents_length part.revisions + contents_length ones
      longer = contents_length-append part.revisions ones

      -- the contents have no room
      pub copy_full : nat_lt room (contents_length ones) ≡ true →
          copy_rules part now caller page parent slug deep ≡ Some ContentFull
      copy_full over =
          let sum = longer in
          let more : room < contents_length ones = grind (arith, nat_tests) in
          let past : MAX_CONTENTS < contents_length after.revisions =
          omega (arith, sum, more, room_is) in
          front_passed place_rules other_rules placed
          ∙ rw (ids_are, free, past_room after.revisions past) refl

      -- nothing is in the way
      pub copy_clear : nat_lt room (contents_length ones) ≡ false →
          copy_rules part now caller page parent slug deep ≡ None
      copy_clear fits =
          let sum = longer in
          let less : contents_length ones ≤ room = not_over _ _ fits in
          let within : contents_length after.revisions ≤ MAX_CONTENTS =
          omega (arith, sum, less, room_is) in
          front_passed place_rules other_rules placed
          ∙ rw (ids_are, free, within_room after.revisions within) refl
