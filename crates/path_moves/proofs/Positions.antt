-- Where positions lead: the new parent and the place among its kids, by the rows.
use Rattle.std.proofs.Common.{◌≡◌, ℕ, ◌-◌, ◌<◌, ◌≤◌, Bool, true, false, cond, nat_eq, List, [], ◌∷◌, ◌++◌, Option, Some, None, IsSome, is_some, find, length, drop, unwrap_or, refl, ap, sym, ◌∙◌, subst, arith, append_assoc, rules}
use Rattle.std.specs.Option.{option_map, option_and_then}
use Rattle.std.specs.Str.{bytes_eq}
use Rattle.std.proofs.lemmas.Bool.Decides.{nat_tests}
use Rattle.std.proofs.lemmas.List.{take-append-drop, length-take-le}
use Rattle.page_tree.specs.Tree.{Forest, has_page, kids_of, without}
use Rattle.page_tree.specs.Rows.{row_with, rows_of}
use Rattle.page_tree.proofs.RowLemmas.{has_page-rows}
use Rattle.step_path.specs.Path.{BeginsWith, IsPath}
use Rattle.site_types.specs.Ids.{IsPageId}
use Rattle.site_types.specs.declared.body.Body.{Body}
use Rattle.site_types.specs.declared.position.Position.{Position}
use Rattle.site_types.specs.declared.position.Position.TheVariants.{FirstChild, LastChild, FirstSibling, Left, Right, LastSibling}
use Rattle.tree_model.specs.Places.{is_beside, parent_in, parent_at, place_at, place_behind}
use Rattle.tree_model.proofs.CountLemmas.{once, has_counts, cut_counts}
use Rattle.tree_model.proofs.PlaceLemmas.{has_kid, IsAmong}
use Rattle.tree_model.proofs.ParentLemmas.{ParentIs-without, parent_found, kid_found}
use Rattle.tree_model.proofs.MoveLemmas.{behind_among}
use Rattle.page_store.specs.PageRows.{parent_id, above}
use Rattle.page_store.specs.Pages.{Page, StartsAtRoot, ArePages}
use Rattle.page_store.specs.Search.{begins}
use Rattle.page_store.proofs.ParentLemmas.{find_passes, HasParent, has_parent}
use Rattle.page_store.proofs.PathOrder.{begins-BeginsWith, BeginsWith-begins}
use Rattle.page_store.proofs.InsertLemmas.{same_bytes}
use Rattle.page_store.proofs.SeenLemmas.{found_by_own_id, All-find}
use Rattle.tree_rows.specs.Cuts.{lower_row}
use Rattle.path_moves.proofs.LawLemmas.{cut_is}
use Rattle.path_moves.proofs.MoveLaws.{is_tree}
use Rattle.path_moves.proofs.Remaining.{lower_keeps, row_with-cut}

-- a path that begins another begins each that goes on from that one
pub begins-further : (path own whole : List ℕ) → begins path own ≡ true → BeginsWith own whole →
    begins path whole ≡ true
begins-further path own whole on further =
    let first = BeginsWith-begins path own on in
    begins-BeginsWith path whole (
      first.0 ++ further.0,
      sym (append_assoc path first.0 further.0)
          ∙ (ap (λ xs. xs ++ further.0) first.1 ∙ further.1),
    )

-- so a path that does not begin the whole does not begin the first part
pub begins-not : (path own whole : List ℕ) → begins path whole ≡ false → BeginsWith own whole →
    begins path own ≡ false
begins-not path own whole out further = by (begins path own) refl
  where
    by : (t : Bool) → begins path own ≡ t → begins path own ≡ false
    by false e = e
    by true e = let never = begins-further path own whole e further in absurd cc

-- The new parent of a page that is moved, and the place among its kids that remain.
pub record NewPlace (tree : Forest Body) (page target : ℕ) (position : Position)
    (top goal : Page) : Type 0 where
  pub above : Page
  pub found : row_with (parent_at tree target position) (rows_of tree) ≡ Some above
  pub stays : begins top.path above.path ≡ false
  pub among : IsAmong (place_at (without page tree) target position)
      (kids_of (parent_at tree target position) (without page tree))
  pub right : is_beside position ≡ true →
      (parent_in (without page tree) target ≡ parent_at tree target position)
      × (has_kid target (kids_of (parent_at tree target position) (without page tree)) ≡ true)
      × BeginsWith above.path goal.path × (length above.path < length goal.path)

module _ (tree : Forest Body) (page target : ℕ) (top goal : Page) (are : ArePages (rows_of tree))
    (found : row_with page (rows_of tree) ≡ Some top)
    (goal_found : row_with target (rows_of tree) ≡ Some goal)
    (outside : begins top.path goal.path ≡ false) where
  -- the target is left after the cut
  target_left : row_with target (rows_of (without page tree)) ≡ Some (lower_row top.parent goal)
  target_left =
      ap (row_with target) (cut_is page tree top (is_tree tree are) found)
      ∙ row_with-cut target top.parent (λ (row : Page). begins top.path row.path) (rows_of tree)
      goal goal_found outside

  -- its parent there is its own
  parent_left : (has : HasParent (rows_of tree) goal) →
      parent_in (without page tree) target ≡ has.parent
  parent_left has =
      ap (λ (o : Option Page). unwrap_or (option_and_then (λ (row : Page). row.parent) o) 0)
      target_left
      ∙ ap (λ (o : Option ℕ). unwrap_or o 0)
      ((lower_keeps top.parent goal).3 ∙ has.parent_is)

  -- it is a kid of that parent there
  kid_left : (has : HasParent (rows_of tree) goal) →
      has_kid target (kids_of has.parent (without page tree)) ≡ true
  kid_left has =
      let each = once tree (is_tree tree are).distinct in
      let there : has_page target (without page tree) ≡ true =
      has_page-rows target None [] [] (without page tree) ∙ ap is_some target_left in
      let told = ap (λ (o : Option Page). unwrap_or (option_and_then (λ (row : Page). row.parent)
      o) 0) goal_found ∙ ap (λ (o : Option ℕ). unwrap_or o 0) has.parent_is in
      let under = ParentIs-without target has.parent 0 page tree
      (parent_found target has.parent None [] [] tree (each target) told) in
      let sum = cut_counts page has.parent tree (each page) in
      let most = each has.parent in
      let some = has.some in
      kid_found target has.parent 0 (without page tree) (λ zero. absurd (omega arith))
      (omega (arith, sum, most)) under (has_counts target (without page tree) there)

  -- Each position leads to a place.
  pub new_place : (position : Position) → (is_beside position ≡ true → target ≡ 1 → ⊥) →
      NewPlace tree page target position top goal
  new_place position below_root = by position below_root
    where
      -- a place beside the target
      beside : (has : HasParent (rows_of tree) goal) →
          parent_in tree target ≡ has.parent
      beside has =
          ap (λ (o : Option Page). unwrap_or (option_and_then (λ (row : Page). row.parent) o) 0)
          goal_found ∙ ap (λ (o : Option ℕ). unwrap_or o 0) has.parent_is

      at : (position : Position) → is_beside position ≡ true →
          parent_at tree target position ≡ parent_in tree target →
          (has : HasParent (rows_of tree) goal) →
          ((parent : ℕ) → parent ≡ has.parent →
          IsAmong (place_at (without page tree) target position)
          (kids_of parent (without page tree))) →
          NewPlace tree page target position top goal
      at position is_so parent_is has among =
          let same = parent_is ∙ beside has in
          record {
            above = has.above;
            found = ap (λ id. row_with id (rows_of tree)) same ∙ has.found;
            stays = begins-not top.path has.above.path goal.path outside has.begins;
            among = among (parent_at tree target position) same;
            right = λ on. (
              parent_left has ∙ sym same,
              ap (λ id. has_kid target (kids_of id (without page tree))) same ∙ kid_left has,
              has.begins,
              has.shorter,
            );
          }

      parent : (target ≡ 1 → ⊥) → HasParent (rows_of tree) goal
      parent other = has_parent (rows_of tree) target goal are goal_found other

      by : (position : Position) → (is_beside position ≡ true → target ≡ 1 → ⊥) →
          NewPlace tree page target position top goal
      by FirstChild below = record {
        above = goal;
        found = goal_found;
        stays = outside;
        among = tt;
        right = λ on. absurd cc;
      }
      by LastChild below = record {
        above = goal;
        found = goal_found;
        stays = outside;
        among = tt;
        right = λ on. absurd cc;
      }
      by FirstSibling below = at FirstSibling refl refl (parent (below refl)) (λ q same. tt)
      by LastSibling below = at LastSibling refl refl (parent (below refl)) (λ q same. tt)
      by Left below =
          let has = parent (below refl) in
          at Left refl refl has (λ q same.
          ap (λ id. has_kid target (kids_of id (without page tree))) same ∙ kid_left has)
      by Right below =
          let has = parent (below refl) in
          at Right refl refl has (λ q same.
          subst (λ r. IsAmong (place_behind target (kids_of r (without page tree)))
          (kids_of q (without page tree))) (same ∙ sym (parent_left has))
          (behind_among target (kids_of q (without page tree))))
