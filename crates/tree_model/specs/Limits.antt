-- The limits of a tree: the last step, the most steps of a path, and the most bytes of a URL.
use Rattle.std.specs.Prelude.{ℕ, Bool, nat_lt, max, suc, length}
use Rattle.std.specs.List.{list_any}
use Rattle.page_tree.specs.Tree.{Forest, bare, grown, Place, kids_of, step_needed}
use Rattle.page_tree.specs.Rows.{rows_of}
use Rattle.step_path.specs.declared.step.TheConstants.{LAST_STEP}
use Rattle.step_path.specs.declared.path.TheConstants.{MAX_DEPTH}

-- the most bytes that a page's URL may have
abbrev pub MAX_URL : ℕ
MAX_URL = 8192

module _ {Body : Type 0} where
  -- the greatest depth below these pages, where theirs is one
  abbrev pub height : Forest Body → ℕ
  height bare = 0
  height (grown i step slug body kids rest) = max (suc (height kids)) (height rest)

  -- whether a page that takes this place below the parent would need a step past the last
  abbrev pub is_full : Forest Body → ℕ → Place → Bool
  is_full tree parent place = nat_lt LAST_STEP (step_needed place (kids_of parent tree))

  -- whether a page of the tree has more steps than a path may have
  abbrev pub is_too_deep : Forest Body → Bool
  is_too_deep tree = nat_lt MAX_DEPTH (height tree)

  -- whether a page of the tree has a longer URL than a page may have
  abbrev pub has_long_url : Forest Body → Bool
  has_long_url tree = list_any (λ row. nat_lt MAX_URL (length row.url)) (rows_of tree)
