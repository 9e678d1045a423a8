-- The plan of a move, or why there is none, by what the program finds in the rows.
use Rattle.std.proofs.Common.{◌≡◌, ℕ, ◌+◌, Bool, true, false, cond, not, nat_eq, nat_lt, ◌||◌, ◌&&◌, List, [], ◌∷◌, Option, Some, None, IsSome, is_some, Err, find, filter, unwrap_or, refl, ap, sym, ◌∙◌, subst, rules}
use Rattle.std.specs.Prelude.{◌↔◌, IsTrue}
use Rattle.std.specs.Option.{option_map, option_and_then}
use Rattle.page_tree.specs.Tree.{Forest, Place, First, Before, End, has_page, kids_of, last_step}
use Rattle.page_tree.specs.Rows.{row_with, rows_below, rows_of}
use Rattle.page_tree.proofs.RowLemmas.{has_page-rows}
use Rattle.step_path.specs.declared.step.TheConstants.{LAST_STEP}
use Rattle.step_path.specs.Path.{BeginsWith}
use Rattle.site_types.specs.declared.body.Body.{Body}
use Rattle.site_types.specs.declared.position.Position.{Position}
use Rattle.tree_model.specs.Places.{is_beside, stays_put, parent_at, leads_into_itself}
use Rattle.tree_model.specs.Limits.{is_full}
use Rattle.page_store.specs.Pages.{Page, ArePages}
use Rattle.page_store.specs.Search.{begins}
use Rattle.page_store.proofs.SeenLemmas.{found_by_own_id, All-find}
use Rattle.path_moves.specs.declared.fault.PathFault.TheVariants.{IntoItself}
use Rattle.path_moves.specs.declared.standing.Standing.{Standing}
use Rattle.tree_rows.specs.Subtree.{subtree_rows}
use Rattle.path_moves.specs.Plans.{planned_move}
use Rattle.path_moves.specs.Spots.{IsStanding}
use Rattle.tree_rows.proofs.SubtreeLemmas.{found_block, block_rows}
use Rattle.path_moves.proofs.RelabelLemmas.{test_is}
use Rattle.path_moves.proofs.Remaining.{All-kept, All-passes, found_id}
use Rattle.path_moves.proofs.Landing.{Grounds}
use Rattle.path_moves.proofs.Positions.{NewPlace, new_place}

-- what is found among those that are kept, and that is kept itself
find-kept : (test keep : Page → Bool) (rows : List Page) (row : Page) →
    find test rows ≡ Some row → keep row ≡ true → find test (filter keep rows) ≡ Some row
find-kept test keep [] row found stays = absurd cc
find-kept test keep (one ∷ rows) row found stays =
    by (test one) refl (keep one) refl found (find-kept test keep rows row)
  where
    by : (t : Bool) → test one ≡ t → (k : Bool) → keep one ≡ k →
        cond t (Some one) (find test rows) ≡ Some row →
        (find test rows ≡ Some row → keep row ≡ true →
        find test (filter keep rows) ≡ Some row) →
        find test (cond k (one ∷ filter keep rows) (filter keep rows)) ≡ Some row
    by true e true k found more = rw e found
    by true e false k found more =
        let same : one ≡ row = cc in
        let never : keep row ≡ false = ap keep (sym same) ∙ k in absurd cc
    by false e true k found more = rw e (more found stays)
    by false e false k found more = more found stays

-- The target is the page or lies below it just where its path begins with the page's.
inside_is : (tree : Forest Body) (page target : ℕ) (top goal : Page) → ArePages (rows_of tree) →
    row_with page (rows_of tree) ≡ Some top → row_with target (rows_of tree) ≡ Some goal →
    nat_eq page target || has_page target (kids_of page tree) ≡ begins top.path goal.path
inside_is tree page target top goal are found goal_found =
    let block = found_block tree page top are found in
    let b = block.0 in
    let inner = rows_below (Some page) b.top.path b.top.url (kids_of page tree) in
    let rows : subtree_rows top.path (rows_of tree) ≡ b.top ∷ inner =
    ap (λ (r : Page). subtree_rows r.path (rows_of tree)) block.1
    ∙ block_rows page 0 None [] [] tree b in
    let told : is_some (row_with target (subtree_rows top.path (rows_of tree)))
    ≡ begins top.path goal.path = by (begins top.path goal.path) refl in
    let below = has_page-rows target (Some page) b.top.path b.top.url (kids_of page tree) in
    either (nat_eq page target) (has_page target (kids_of page tree)) b.top
    (row_with target inner) below
    (ap (λ i. nat_eq i target) (sym b.id_is))
    ∙ (ap (λ rows. is_some (row_with target rows)) (sym rows) ∙ told)
  where
    either : (here inside : Bool) (row : Page) (o : Option Page) → inside ≡ is_some o →
        here ≡ nat_eq row.id target →
        here || inside ≡ is_some (cond (nat_eq row.id target) (Some row) o)
    either here inside row o is own = rw (is, own) (choice (nat_eq row.id target))
      where
        choice : (t : Bool) → t || is_some o ≡ is_some (cond t (Some row) o)
        choice true = refl
        choice false = refl

    test : Page → Bool
    test row = begins top.path row.path

    by : (t : Bool) → begins top.path goal.path ≡ t →
        is_some (row_with target (subtree_rows top.path (rows_of tree))) ≡ t
    by true e =
        ap is_some (find-kept (λ (row : Page). nat_eq row.id target)
        (λ (row : Page). begins top.path row.path) (rows_of tree) goal goal_found e)
    by false e = none (row_with target (subtree_rows top.path (rows_of tree))) refl
      where
        none : (o : Option Page) →
            row_with target (subtree_rows top.path (rows_of tree)) ≡ o → is_some o ≡ false
        none None is = refl
        none (Some row) is =
            let own = All-find (λ (r : Page). row_with r.id (rows_of tree) ≡ Some r)
            (λ (r : Page). nat_eq r.id target) (subtree_rows top.path (rows_of tree)) row
            (All-kept (λ (r : Page). row_with r.id (rows_of tree) ≡ Some r)
            (λ (r : Page). begins top.path r.path) (rows_of tree)
            (found_by_own_id (rows_of tree) are.own_ids)) is in
            let passes = All-find (λ (r : Page). begins top.path r.path ≡ true)
            (λ (r : Page). nat_eq r.id target) (subtree_rows top.path (rows_of tree)) row
            (All-passes (λ (r : Page). begins top.path r.path) (rows_of tree)) is in
            let id_is = found_id target (subtree_rows top.path (rows_of tree)) row is in
            let both : Some row ≡ Some goal =
            sym own ∙ (ap (λ i. row_with i (rows_of tree)) id_is ∙ goal_found) in
            let same : row ≡ goal = cc in
            let on : begins top.path goal.path ≡ true =
            ap (λ (r : Page). begins top.path r.path) (sym same) ∙ passes in absurd cc

-- So the move leads into the page itself.
pub into_is : (tree : Forest Body) (page target : ℕ) (position : Position) (top goal : Page) →
    ArePages (rows_of tree) → row_with page (rows_of tree) ≡ Some top →
    row_with target (rows_of tree) ≡ Some goal → stays_put page target position ≡ false →
    leads_into_itself tree page target position ≡ begins top.path goal.path
into_is tree page target position top goal are found goal_found moves =
    by (has_page target (kids_of page tree)) (nat_eq page target) (is_beside position) moves
    ∙ inside_is tree page target top goal are found goal_found
  where
    by : (inside same beside : Bool) → same && beside ≡ false →
        inside || (same && not beside) ≡ same || inside
    by true true true moves = refl
    by true true false moves = refl
    by true false beside moves = refl
    by false true true moves = absurd cc
    by false true false moves = refl
    by false false beside moves = refl

-- the same, of paths that are looked up
pub into_told : (pages : List Page) (tree : Forest Body) (page target : ℕ) (position : Position) (own
    goal : List ℕ) (r : Bool) → pages ≡ rows_of tree → ArePages pages →
    Some own ≡ option_map (λ (row : Page). row.path) (row_with page pages) →
    Some goal ≡ option_map (λ (row : Page). row.path) (row_with target pages) →
    stays_put page target position ≡ false → (IsTrue r ↔ BeginsWith own goal) →
    r ≡ leads_into_itself tree page target position
into_told pages tree page target position own goal r same are found goal_found moves begun =
    by (row_with page pages) (row_with target pages) refl refl found goal_found
  where
    by : (o p : Option Page) → row_with page pages ≡ o → row_with target pages ≡ p →
        Some own ≡ option_map (λ (row : Page). row.path) o →
        Some goal ≡ option_map (λ (row : Page). row.path) p →
        r ≡ leads_into_itself tree page target position
    by None p e f own_is goal_is = absurd cc
    by (Some top) None e f own_is goal_is = absurd cc
    by (Some top) (Some beside) e f own_is goal_is =
        let own_path : own ≡ top.path = cc in
        let goal_path : goal ≡ beside.path = cc in
        sym (test_is own goal r r begun refl)
        ∙ ap (λ path. begins path goal) own_path ∙ ap (begins top.path) goal_path
        ∙ sym (into_is tree page target position top beside (subst ArePages same are) (ap (row_with page)
        (sym same) ∙ e) (ap (row_with target) (sym same) ∙ f) moves)

-- What the program is asked: the two pages are there, and how they stand.
pub record Asked (tree : Forest Body) (page target : ℕ) (position : Position)
    (own goal : Standing) : Type 0 where
  pub top : Page
  pub beside : Page
  pub are : ArePages (rows_of tree)
  pub found : row_with page (rows_of tree) ≡ Some top
  pub beside_found : row_with target (rows_of tree) ≡ Some beside
  pub own_is : IsStanding (rows_of tree) top own
  pub goal_is : IsStanding (rows_of tree) beside goal
  pub moves : stays_put page target position ≡ false
  pub below_root : is_beside position ≡ true → target ≡ 1 → ⊥

-- the row of a page that is there
there_row : (id : ℕ) (pages : List Page) → IsSome (row_with id pages) →
    (row : Page) × (row_with id pages ≡ Some row)
there_row id pages there = by (row_with id pages) refl there
  where
    by : (o : Option Page) → row_with id pages ≡ o → IsSome o →
        (row : Page) × (row_with id pages ≡ Some row)
    by None e there = absurd (search rules)
    by (Some row) e there = (row, e)

-- what is asked, by the calls
pub asked : (pages : List Page) (tree : Forest Body) (page target : ℕ) (position : Position)
    (own goal : Standing) → pages ≡ rows_of tree → ArePages pages →
    IsSome (row_with page pages) → IsSome (row_with target pages) →
    ((row : Page) → row_with page pages ≡ Some row → IsStanding pages row own) →
    ((row : Page) → row_with target pages ≡ Some row → IsStanding pages row goal) →
    (is_beside position ≡ true → (page ≡ 1 → ⊥) × (target ≡ 1 → ⊥)) →
    stays_put page target position ≡ false → Asked tree page target position own goal
asked pages tree page target position own goal same are there goal_there stands goal_stands below
    moves =
    let one = there_row page pages there in
    let other = there_row target pages goal_there in
    record {
      top = one.0;
      beside = other.0;
      are = subst ArePages same are;
      found = ap (row_with page) (sym same) ∙ one.1;
      beside_found = ap (row_with target) (sym same) ∙ other.1;
      own_is = subst (λ rows. IsStanding rows one.0 own) same (stands one.0 one.1);
      goal_is = subst (λ rows. IsStanding rows other.0 goal) same (goal_stands other.0 other.1);
      moves = moves;
      below_root = λ on is. (below on).1 is;
    }

-- the answer where the move leads into the page itself
pub into_itself : (tree : Forest Body) (page target : ℕ) (position : Position)
    (own goal : Standing) → Asked tree page target position own goal →
    begins own.path goal.path ≡ true → planned_move tree page target position ≡ Err IntoItself
into_itself tree page target position own goal asks on =
    let leads = into_is tree page target position asks.top asks.beside asks.are asks.found
    asks.beside_found asks.moves
    ∙ (ap (λ path. begins path asks.beside.path) (sym asks.own_is.path_is)
    ∙ (ap (begins own.path) (sym asks.goal_is.path_is) ∙ on)) in
    rw leads refl

-- What stands where the move does not lead into the page itself: the new parent and how it stands.
pub record Leads (tree : Forest Body) (page target : ℕ) (position : Position)
    (own goal above : Standing) : Type 0 where
  pub asks : Asked tree page target position own goal
  pub outside : begins asks.top.path asks.beside.path ≡ false
  pub outer : Page
  pub outer_is : IsStanding (rows_of tree) outer above
  pub at : Grounds tree page (parent_at tree target position) asks.top outer own.place own.count
      above.place above.count
  pub new : NewPlace tree page target position asks.top asks.beside
  pub same : new.above ≡ outer
  pub not_into : leads_into_itself tree page target position ≡ false

-- that the new parent is the tree's
pub parent_told : (pages : List Page) (tree : Forest Body) (target parent : ℕ) (position : Position) →
    pages ≡ rows_of tree →
    parent ≡ cond (is_beside position)
    (unwrap_or (option_and_then (λ (row : Page). row.parent) (row_with target pages)) 0) target →
    parent ≡ parent_at tree target position
parent_told pages tree target parent position same is =
    is ∙ ap (λ rows. cond (is_beside position)
    (unwrap_or (option_and_then (λ (row : Page). row.parent) (row_with target rows)) 0) target) same

-- what stands, by the calls
pub leads : (pages : List Page) (tree : Forest Body) (page target : ℕ) (position : Position)
    (own goal : Standing) (parent : ℕ) (above : Standing) →
    Asked tree page target position own goal → pages ≡ rows_of tree →
    begins own.path goal.path ≡ false →
    parent ≡ cond (is_beside position)
    (unwrap_or (option_and_then (λ (row : Page). row.parent) (row_with target pages)) 0) target →
    ((row : Page) → row_with parent pages ≡ Some row → IsStanding pages row above) →
    Leads tree page target position own goal above
leads pages tree page target position own goal parent above asks same out is stands =
    let outside : begins asks.top.path asks.beside.path ≡ false =
    ap (λ path. begins path asks.beside.path) (sym asks.own_is.path_is)
    ∙ (ap (begins own.path) (sym asks.goal_is.path_is) ∙ out) in
    let parent_is = parent_told pages tree target parent position same is in
    let new = new_place tree page target asks.top asks.beside asks.are asks.found
    asks.beside_found outside position asks.below_root in
    let found : row_with parent (rows_of tree) ≡ Some new.above =
    ap (λ id. row_with id (rows_of tree)) parent_is ∙ new.found in
    let outer_is = subst (λ rows. IsStanding rows new.above above) same
    (stands new.above (ap (row_with parent) same ∙ found)) in
    record {
      asks = asks;
      outside = outside;
      outer = new.above;
      outer_is = outer_is;
      at = record {
        are = asks.are;
        found = asks.found;
        range = asks.own_is.range;
        above_found = new.found;
        above_range = outer_is.range;
        stays = new.stays;
      };
      new = new;
      same = refl;
      not_into = into_is tree page target position asks.top asks.beside asks.are asks.found
          asks.beside_found asks.moves ∙ outside;
    }
