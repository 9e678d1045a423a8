-- The rules on the place of a copy: those on its own path and URL, and on those of the copies
-- below.
use Rattle.std.proofs.Common.{◌≡◌, ◌+◌, ℕ, Bool, true, false, ◌||◌, List, [], ◌∷◌, ◌++◌, map, Option, Some, None, refl, sym, ap, subst, ◌∙◌}
use Rattle.std.specs.List.{AllByRecursion, list_any}
use Rattle.std.proofs.lemmas.List.{append-nil}
use Rattle.page_tree.specs.Tree.{Forest, bare, grown, End, AreRising, kids_of, put_last, graft, placed, step_needed}
use Rattle.page_tree.specs.Walk.{kid_count, path_of}
use Rattle.page_tree.specs.Rows.{row_with, rows_below, rows_of, child_url}
use Rattle.step_path.specs.Path.{relabelled}
use Rattle.site_types.specs.declared.body.Body.{Body}
use Rattle.page_store.specs.Pages.{Page}
use Rattle.tree_rows.specs.Cuts.{relabel_row}
use Rattle.tree_rows.proofs.Apart.{AreApart}
use Rattle.tree_rows.proofs.Block.{Block}
use Rattle.tree_rows.proofs.Lists.{all_parts}
use Rattle.path_moves.proofs.GraftLemmas.{rows_below-put_last, rows_below-relabelled}
use Rattle.path_moves.proofs.LawLemmas.{block_in}
use Rattle.site_model.specs.World.{TreePart}
use Rattle.site_model.specs.Create.{fresh_body}
use Rattle.site_model.specs.Copies.{size_of, copies}
use Rattle.site_model.proofs.ClearLemmas.{neither}
use Rattle.site_model.proofs.RowLemmas.{any_append}

-- a test of what a row's path and URL are
abbrev pub tests : (List ℕ → List ℕ → Bool) → Page → Bool
tests test row = test row.path row.url

-- a test of rows that were changed
pub any_map : {X Y : Type 0} (test : Y → Bool) (f : X → Y) (xs : List X) →
    list_any test (map f xs) ≡ list_any (λ x. test (f x)) xs
any_map test f [] = refl
any_map test f (x ∷ xs) = ap (λ t. test (f x) || t) (any_map test f xs)

-- tests that agree
pub any_same : {X : Type 0} (one other : X → Bool) → ((x : X) → one x ≡ other x) → (xs : List X) →
    list_any one xs ≡ list_any other xs
any_same one other same [] = refl
any_same one other same (x ∷ xs) = rw (same x, any_same one other same xs) refl

-- a test, or one that never holds
pub or_never : (t : Bool) → (t || false) ≡ t
or_never true = refl
or_never false = refl

-- copies stand where the pages would
any_copies : (test : List ℕ → List ℕ → Bool) (part : TreePart) (caller number : ℕ)
    (parent other : Option ℕ) (path url : List ℕ) (f : Forest Body) →
    list_any (tests test) (rows_below parent path url (copies part caller number f))
    ≡ list_any (tests test) (rows_below other path url f)
any_copies test part caller number parent other path url bare = refl
any_copies test part caller number parent other path url (grown i s slug body kids rest) =
    let own = path ++ s ∷ [] in
    let own_url = child_url url slug in
    let id = part.next_page + number in
    let below = any_copies test part caller (number + 1) (Some id) (Some i) own own_url kids in
    let after = any_copies test part caller (number + 1 + size_of kids) parent other path url rest in
    ap (λ t. test own own_url || t)
    (any_append (tests test)
    (rows_below (Some id) own own_url (copies part caller (number + 1) kids))
    (rows_below parent path url (copies part caller (number + 1 + size_of kids) rest))
    ∙ (ap (λ t. t || list_any (tests test)
    (rows_below parent path url (copies part caller (number + 1 + size_of kids) rest))) below
    ∙ (ap (λ t. list_any (tests test) (rows_below (Some i) own own_url kids) || t) after
    ∙ sym (any_append (tests test) (rows_below (Some i) own own_url kids)
    (rows_below other path url rest)))))

-- the rows below a page that goes to another path and gets another URL
pub below_moved : (page : ℕ) (old new old_url new_url : List ℕ) (f : Forest Body) →
    rows_below (Some page) new new_url f
    ≡ map (relabel_row old new old_url new_url) (rows_below (Some page) old old_url f)
below_moved page old new old_url new_url f =
    rw (append-nil old, append-nil new, append-nil old_url, append-nil new_url) at
    (rows_below-relabelled (Some page) old new [] old_url new_url [] f)

module _ (part : TreePart) (caller parent page step : ℕ) (slug : List ℕ) (body : Body)
    (kids : Forest Body) (top above : Page) (rising : AreRising 0 part.tree)
    (apart : AreApart part.tree) (found : row_with parent (rows_of part.tree) ≡ Some above) where
  -- the copy, and the tree with it
  abbrev node : Forest Body
  node = grown (part.next_page + 0) step slug (fresh_body caller (part.next_revision + 0))
      (copies part caller (0 + 1) kids) bare

  abbrev after : Forest Body
  after = graft parent End node part.tree

  -- the path and the URL of the copy
  abbrev own : List ℕ
  own = above.path ++ step_needed End (kids_of parent part.tree) ∷ []

  abbrev own_url : List ℕ
  own_url = child_url above.url slug

  -- the block of the parent
  block : (b : Block parent 0 None [] [] part.tree) × (above ≡ b.top)
  block = block_in part.tree parent above rising apart found

  abbrev b : Block parent 0 None [] [] part.tree
  b = block.0

  -- the walk to the parent is its path
  pub path_above : path_of parent part.tree ≡ above.path
  path_above = b.walk_is ∙ (sym b.path_is ∙ ap (λ (r : Page). r.path) (sym block.1))

  -- what holds of all rows of the tree with the copy holds of the copy's
  pub row_among : (P : Page → Type 0) → AllByRecursion P (rows_of after) →
      P (record {
        id = part.next_page + 0;
        parent = Some parent;
        path = own;
        url = own_url;
        slug = slug;
        numchild = kid_count (copies part caller (0 + 1) kids);
        body = fresh_body caller (part.next_revision + 0);
      })
  row_among P all =
      let kin = kids_of parent part.tree in
      let whole = subst (AllByRecursion P) (b.graft_is End node) all in
      let behind = (all_parts P b.front _ whole).1.1 in
      let below = (all_parts P
      (rows_below (Some parent) b.top.path b.top.url (put_last 0 node kin)) b.behind behind).0 in
      let split = subst (AllByRecursion P)
      (rows_below-put_last (Some parent) b.top.path b.top.url 0 node kin) below in
      let new = (all_parts P (rows_below (Some parent) b.top.path b.top.url kin) _ split).1 in
      subst (λ (row : Page). P (record {
        id = part.next_page + 0;
        parent = Some parent;
        path = row.path ++ step_needed End kin ∷ [];
        url = child_url row.url slug;
        slug = slug;
        numchild = kid_count (copies part caller (0 + 1) kids);
        body = fresh_body caller (part.next_revision + 0);
      })) (sym block.1) new.0

  module _ (test : List ℕ → List ℕ → Bool)
      (none : list_any (tests test) (rows_of part.tree) ≡ false) where
    abbrev inner : List Page
    inner = rows_below (Some parent) b.top.path b.top.url (kids_of parent part.tree)

    -- the rows that come
    abbrev new : Page → List Page
    new row = rows_below (Some parent) row.path row.url
        (placed node (step_needed End (kids_of parent part.tree)) bare)

    -- no old row passes the test
    old_fail : (list_any (tests test) b.front ≡ false)
        × ((tests test b.top ≡ false)
        × ((list_any (tests test) inner ≡ false) × (list_any (tests test) b.behind ≡ false)))
    old_fail =
        let all : list_any (tests test) (b.front ++ (b.top ∷ (inner ++ b.behind))) ≡ false =
        ap (list_any (tests test)) (sym b.rows_are) ∙ none in
        let first = neither (list_any (tests test) b.front)
        (list_any (tests test) (b.top ∷ (inner ++ b.behind)))
        (sym (any_append (tests test) b.front (b.top ∷ (inner ++ b.behind))) ∙ all) in
        let second = neither (tests test b.top) (list_any (tests test) (inner ++ b.behind)) first.1 in
        let third = neither (list_any (tests test) inner) (list_any (tests test) b.behind)
        (sym (any_append (tests test) inner b.behind) ∙ second.1) in
        (first.0, (second.0, third))

    -- so a row of the tree with the copy does exactly if one that comes does
    new_alone : list_any (tests test) (rows_of after) ≡ list_any (tests test) (new b.top)
    new_alone =
        ap (list_any (tests test)) (b.graft_is End node)
        ∙ (any_append (tests test) b.front _
        ∙ rw (
          old_fail.0,
          old_fail.1.0,
          any_append (tests test)
              (rows_below (Some parent) b.top.path b.top.url
              (put_last 0 node (kids_of parent part.tree)))
              b.behind,
          rows_below-put_last (Some parent) b.top.path b.top.url 0 node (kids_of parent part.tree),
          any_append (tests test) inner (new b.top),
          old_fail.1.1.0,
          old_fail.1.1.1,
        ) (or_never (list_any (tests test) (new b.top))))

    -- and that is the copy's, or one of those below it
    pub any_after : list_any (tests test) (rows_of after)
        ≡ (test own own_url
        || list_any (λ (row : Page). test (relabelled top.path own row.path)
        (relabelled top.url own_url row.url)) (rows_below (Some page) top.path top.url kids))
    any_after =
        new_alone
        ∙ (ap (λ (row : Page). list_any (tests test) (new row)) (sym block.1)
        ∙ ap (λ t. test own own_url || t)
        (ap (list_any (tests test))
        (append-nil (rows_below (Some (part.next_page + 0)) own own_url
        (copies part caller (0 + 1) kids)))
        ∙ (any_copies test part caller (0 + 1) (Some (part.next_page + 0)) (Some page) own own_url kids
        ∙ (ap (list_any (tests test)) (below_moved page top.path own top.url own_url kids)
        ∙ any_map (tests test) (relabel_row top.path own top.url own_url)
        (rows_below (Some page) top.path top.url kids)))))
