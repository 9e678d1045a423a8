-- The plan of a move and the URLs that change with it are those of the tree.
use Rattle.std.proofs.Common.{◌≡◌, inl, inr, ℕ, ◌+◌, ◌≤◌, Bool, true, false, ◌&&◌, List, Option, Some, None, is_some, IsSome, IfSome, Result, Ok, Err, nat_eq, refl, sym, ap, subst, ◌∙◌, arith, rules}
use Rattle.std.specs.Borrow.{Bor}
use Rattle.std.specs.Option.{option_copied, option_map}
use Rattle.site_types.specs.declared.page_row.PageRow.{PageRow}
use Rattle.page_store.specs.PageRows.{page_row}
use Rattle.page_tree.specs.Tree.{Forest, Place, bare, grown, has_page, node_of, without, kids_of, kid_with_slug, graft}
use Rattle.page_tree.specs.Rows.{Row, rows_of, row_with}
use Rattle.site_types.specs.declared.body.Body.{Body}
use Rattle.site_types.specs.declared.position.Position.{Position}
use Rattle.tree_model.specs.Changes.{changed_urls}
use Rattle.tree_model.specs.Limits.{is_full, is_too_deep, has_long_url}
use Rattle.tree_model.specs.Places.{is_beside, stays_put, parent_at, place_at, slug_in, moved_to, leads_into_itself}
use Rattle.tree_model.proofs.CountLemmas.{count, once, has_counts, counts_has, cut_counts, node_found, told_apart}
use Rattle.tree_model.proofs.MoveLemmas.{Lands, lands}
use Rattle.tree_model.proofs.SiblingLemmas.{AreRising-without, AreWithin-without, AreWithin-node_of}
use Rattle.tree_model.specs.Shape.{AreWithin}
use Rattle.step_path.specs.declared.step.TheConstants.{LAST_STEP}
use Rattle.tree_model.proofs.PlaceLemmas.{IsAmong, AtParent-kids, graft_counts}
use Rattle.page_store.specs.declared.plan.MovePlan.{MovePlan}
use Rattle.page_store.specs.Pages.{ArePages}
use Rattle.page_store.specs.Search.{begins}
use Rattle.path_moves.specs.declared.fault.PathFault.{PathFault}
use Rattle.path_moves.specs.declared.fault.PathFault.TheVariants as paths
use Rattle.path_moves.specs.Applying.{IsMovable}
use Rattle.path_moves.specs.Plans as moves
use Rattle.path_moves.proofs.Planned.{into_is}
use Rattle.path_moves.proofs.Positions.{new_place}
use Rattle.slug_urls.specs.declared.fault.UrlFault.{UrlFault}
use Rattle.slug_urls.specs.declared.fault.UrlFault.TheVariants as urls
use Rattle.slug_urls.specs.Plans as plans
use Rattle.slug_urls.proofs.LawLemmas.{move_is, long_is_new}
use Rattle.site_types.specs.declared.refusal.Refusal.TheVariants.{IntoItself, NothingNew, SlugTaken}
use Rattle.site_model.specs.World.{TreePart}
use Rattle.site_model.specs.Moves.{effect_refusal}
use Rattle.site_model.specs.Rules.{first_of}
use Rattle.new_pages.specs.Plans.{PlansBy, IsSoundTree}
use Rattle.site_model.proofs.MoveSound.{no_zero}
use Rattle.site_model.proofs.RowLemmas.{rows_too_deep}
use Rattle.site_part.specs.declared.fault.Fault.TheVariants.{Refused}
use Rattle.new_pages.specs.Faults.{both_of}
use Rattle.new_pages.specs.Moving.{there_rules, taken_by, IsNamed, IsAway, IsMovePlan}
use Rattle.new_pages.proofs.LookUpLemmas.{row_there}
use Rattle.new_pages.proofs.StepRows.{any_past, graft_past}
use Rattle.new_pages.proofs.MoveRefusals.{refused_stays, refused_late, refused_itself, planned_both, none_long}

-- What a move that is asked for finds in the tree.
pub record Found (tree : Forest Body) (page target : ℕ) (position : Position) : Type 0 where
  pub here : has_page page tree ≡ true
  pub there : has_page target tree ≡ true
  pub each : (j : ℕ) → count j tree ≤ 1
  pub landed : Lands (without page tree) (parent_at tree target position)
      (place_at (without page tree) target position)
  pub counts : (j : ℕ) → count j (moved_to tree page target position) ≡ count j tree

-- a page that is cut out and put in again stands as often as before
moved_counts : (tree : Forest Body) (page parent : ℕ) (place : Place) →
    ((j : ℕ) → count j tree ≤ 1) → 1 ≤ count page tree → Lands (without page tree) parent place →
    (j : ℕ) → count j (graft parent place (node_of page tree) (without page tree)) ≡ count j tree
moved_counts tree page parent place each here landed j =
    let left = without page tree in
    let node = node_found page tree here in
    let one = landed.one_parent in
    let most : count parent left ≤ 1 = omega (arith, one) in
    let sum = graft_counts j parent place page node.step node.slug node.body node.kids left
    landed.one_parent (AtParent-kids parent (IsAmong place) left most landed.among) in
    let cut = subst (λ f. count j tree ≡ count j f + count j left) node.is
    (cut_counts page j tree (each page)) in
    subst (λ f. count j (graft parent place f left) ≡ count j tree) (sym node.is) (sum ∙ sym cut)

-- what is found where the page can be moved
pub found_of : (part : TreePart) (page target : ℕ) (position : Position) → IsSoundTree part →
    IsMovable part.tree page target position →
    leads_into_itself part.tree page target position ≡ false →
    Found part.tree page target position
found_of part page target position sound movable outside =
    let each = once part.tree sound.distinct in
    let landed = lands part.tree page target position sound.whole
    (no_zero part.next_page part.tree sound.page_ids) each movable.page_there movable.target_there
    (no_root_beside (is_beside position) refl) outside movable.moves in
    record {
      here = movable.page_there;
      there = movable.target_there;
      each = each;
      landed = landed;
      counts = moved_counts part.tree page (parent_at part.tree target position)
          (place_at (without page part.tree) target position) each
          (has_counts page part.tree movable.page_there) landed;
    }
  where
    no_root_beside : (beside : Bool) → is_beside position ≡ beside →
        (nat_eq target 1 && beside) ≡ false
    no_root_beside true e = ap (λ t. t && true) (told_apart target 1 (movable.below_root e))
    no_root_beside false e = none (nat_eq target 1)
      where
        none : (t : Bool) → (t && false) ≡ false
        none true = refl
        none false = refl

-- a page that is to be moved elsewhere, and that is there, can be moved
pub movable_is : (pages : List (Row Body)) (part : TreePart) (page target : ℕ)
    (position : Position) → IsNamed pages part page target position →
    stays_put page target position ≡ false → IsMovable part.tree page target position
movable_is pages part page target position asked moves =
    record {
      page_there = asked.named.0;
      target_there = asked.named.1;
      below_root = asked.named.3;
      moves = moves;
    }

-- the URLs that change are those that are planned
pub urls_change : (tree : Forest Body) (page target : ℕ) (position : Position) →
    Rattle.page_tree.specs.Tree.HasDistinctIds tree → Found tree page target position →
    changed_urls (rows_of tree) (rows_of (moved_to tree page target position))
    ≡ plans.new_urls tree page (parent_at tree target position) (slug_in tree page)
urls_change tree page target position distinct found =
    let parent = parent_at tree target position in
    let one = found.landed.one_parent in
    let same = found.counts page in
    let some = has_counts page tree found.here in
    move_is tree distinct page parent (place_at (without page tree) target position) found.here
    (counts_has parent (without page tree) (omega (arith, one)))
    (counts_has page (moved_to tree page target position) (omega (arith, same, some)))

-- a move goes elsewhere where its page does not stay, and does not lead into the page itself
pub away_is : (pages : List (Row Body)) (part : TreePart) (page target : ℕ)
    (position : Position) → IsNamed pages part page target position →
    stays_put page target position ≡ false → (leads : Bool) →
    (stays_put page target position ≡ false →
    leads ≡ leads_into_itself part.tree page target position) →
    leads ≡ false → IsAway pages part page target position
away_is pages part page target position named moves leads is none =
    record { named = named; moves = moves; outside = sym (is moves) ∙ none }

-- The new parent is there, and its row does not begin with the page's path.
pub record IsOutside (rows : List (Row Body)) (page parent : ℕ) : Type 0 where
  pub there : IsSome (row_with parent rows)
  pub outside : IfSome (row_with page rows) (λ row. IfSome (row_with parent rows)
      (λ top. begins row.path top.path ≡ false))

-- so it is where the move does not lead into the page itself
pub outside_in : (tree : Forest Body) (page target : ℕ) (position : Position) →
    ArePages (rows_of tree) → IsMovable tree page target position →
    leads_into_itself tree page target position ≡ false →
    IsOutside (rows_of tree) page (parent_at tree target position)
outside_in tree page target position are movable out =
    by (row_with page (rows_of tree)) refl (row_with target (rows_of tree)) refl
    (row_there page tree (rows_of tree) refl ∙ movable.page_there)
    (row_there target tree (rows_of tree) refl ∙ movable.target_there)
  where
    by : (a : Option (Row Body)) → row_with page (rows_of tree) ≡ a →
        (b : Option (Row Body)) → row_with target (rows_of tree) ≡ b →
        is_some (row_with page (rows_of tree)) ≡ true →
        is_some (row_with target (rows_of tree)) ≡ true →
        IsOutside (rows_of tree) page (parent_at tree target position)
    by None e b f x y = absurd (cc)
    by (Some top) e None f x y = absurd (cc)
    by (Some top) e (Some goal) f x y =
        let begin = sym (into_is tree page target position top goal are e f movable.moves) ∙ out
        in
        let new = new_place tree page target top goal are e f begin position movable.below_root in
        record {
          there = rw new.found refl;
          outside = rw (e, new.found) new.stays;
        }

-- so it is in the rows of a store
pub outside_is : (pages : List (Row Body)) (part : TreePart) (page target parent : ℕ)
    (position : Position) → ArePages pages → IsAway pages part page target position →
    parent ≡ parent_at part.tree target position →
    IfSome (row_with page pages) (λ row. IfSome (row_with parent pages)
    (λ top. begins row.path top.path ≡ false))
outside_is pages part page target parent position are asked is =
    let place = outside_in part.tree page target position (subst ArePages asked.named.stands are)
    (movable_is pages part page target position asked.named asked.moves) asked.outside in
    rw (asked.named.stands, is) place.outside

module _ (part : TreePart) (page target : ℕ) (position : Position)
    (pages : List (Row Body)) (asked : IsAway pages part page target position) where
  -- the new parent
  abbrev parent : ℕ
  parent = parent_at part.tree target position

  -- the tree behind the move
  abbrev after : Forest Body
  after = moved_to part.tree page target position

  -- the URLs that are planned
  abbrev news : List (ℕ × List ℕ)
  news = plans.new_urls part.tree page parent (slug_in part.tree page)

  -- the plan and the URLs, where memory did not run out
  both_planned :
      PlansBy (effect_refusal part.tree page target position)
      (IsMovePlan part.tree page target position)
      (both_of (moves.planned_move part.tree page target position)
      (plans.planned_urls part.tree page parent (slug_in part.tree page)))
  both_planned =
      let tree = part.tree in
      let found = found_of part page target position asked.named.sound
      (movable_is pages part page target position asked.named asked.moves) asked.outside in
      let change = urls_change tree page target position asked.named.sound.distinct found in
      let long : has_long_url after ≡ plans.is_one_long news =
      long_is_new tree after (none_long (rows_of tree) asked.named.sound.urls)
      ∙ ap plans.is_one_long change in
      let node = node_found page tree (has_counts page tree found.here) in
      let left = without page tree in
      let place = place_at left target position in
      let inside = subst (λ f. AreWithin LAST_STEP f) node.is
      (AreWithin-node_of LAST_STEP page tree asked.named.sound.steps) in
      let full : any_past (rows_of after) ≡ is_full left parent place =
      subst (λ f. any_past (rows_of (graft parent place f left)) ≡ is_full left parent place)
      (sym node.is)
      (graft_past parent page node.step node.slug node.body node.kids place left
      found.landed.one_parent found.landed.among
      (AreRising-without page 0 tree asked.named.sound.rising)
      (AreWithin-without LAST_STEP page tree asked.named.sound.steps) inside.1) in
      rw (full, rows_too_deep after, long, asked.outside) (planned_both
      (kid_with_slug (slug_in tree page) (kids_of parent (without page tree)))
      (is_full (without page tree) parent (place_at (without page tree) target position))
      (is_too_deep after) (moves.plan_of tree page target position) news
      (plans.is_one_long news) refl (IsMovePlan tree page target position)
      (λ roomy shallow. record {
        plan = rw (asked.outside, roomy, shallow) refl;
        urls = sym change;
      }))

  -- where memory ran out for the plan, and the slug is free, nothing is told
  no_memory : (urls : Result (List (ℕ × List ℕ)) UrlFault) → taken_by urls ≡ None →
      PlansBy (first_of (there_rules part.tree page target position))
      (IsMovePlan part.tree page target position) (both_of (Err paths.Memory) urls)
  no_memory (Ok urls) free = tt
  no_memory (Err (urls.Taken other)) free = absurd (cc)
  no_memory (Err urls.TooLong) free = tt
  no_memory (Err urls.Memory) free = tt

  -- so are a plan and URLs, where the slug is free
  pub late_planned : (plan : Result MovePlan PathFault)
      (urls : Result (List (ℕ × List ℕ)) UrlFault) → taken_by urls ≡ None →
      moves.UnlessMemory (moves.planned_move part.tree page target position) plan →
      plans.UnlessMemory (plans.planned_urls part.tree page parent (slug_in part.tree page)) urls →
      PlansBy (first_of (there_rules part.tree page target position))
      (IsMovePlan part.tree page target position) (both_of plan urls)
  late_planned plan urls free (inl out) other = rw out (no_memory urls free)
  late_planned plan urls free (inr is) (inl out) = rw out tt
  late_planned plan urls free (inr is) (inr are) =
      rw (
        is,
        are,
        refused_late part.tree page target position asked.moves asked.outside,
      ) both_planned

  -- a slug that is taken refuses the move, whatever its path would be
  taken_refuses : (other : ℕ) (urls : Result (List (ℕ × List ℕ)) UrlFault) →
      taken_by urls ≡ Some other → (plan : Result MovePlan PathFault) →
      both_of plan urls ≡ Err (Refused (SlugTaken other))
  taken_refuses other (Ok urls) is plan = absurd (cc)
  taken_refuses other (Err (urls.Taken kid)) is plan =
      let same : kid ≡ other = cc in ap (λ id. Err (Refused (SlugTaken id))) same
  taken_refuses other (Err urls.TooLong) is plan = absurd (cc)
  taken_refuses other (Err urls.Memory) is plan = absurd (cc)

  -- so the rules refuse it
  pub taken_told : (other : ℕ) (urls : Result (List (ℕ × List ℕ)) UrlFault) →
      taken_by urls ≡ Some other →
      plans.UnlessMemory (plans.planned_urls part.tree page parent (slug_in part.tree page)) urls →
      first_of (there_rules part.tree page target position) ≡ Some (SlugTaken other)
  taken_told other urls is (inl out) = let none = ap taken_by out in absurd (cc)
  taken_told other urls is (inr are) =
      refused_late part.tree page target position asked.moves asked.outside
      ∙ subst (PlansBy (effect_refusal part.tree page target position)
      (IsMovePlan part.tree page target position))
      (taken_refuses other (plans.planned_urls part.tree page parent (slug_in part.tree page))
      (ap taken_by (sym are) ∙ is) (moves.planned_move part.tree page target position))
      both_planned

-- a move that leads into the page itself is refused
pub itself_refused : (part : TreePart) (page target : ℕ) (position : Position) →
    leads_into_itself part.tree page target position ≡ true →
    first_of (there_rules part.tree page target position) ≡ Some IntoItself
itself_refused part page target position inside =
    refused_itself part.tree page target position inside

-- a move of a page that stays where it is
pub stays_refused : (pages : List (Row Body)) (part : TreePart) (page target : ℕ)
    (position : Position) → IsNamed pages part page target position →
    stays_put page target position ≡ true →
    first_of (there_rules part.tree page target position) ≡ Some NothingNew
stays_refused pages part page target position asked stays =
    refused_stays part.tree page target position asked.sound.distinct asked.named.0 stays

-- the rows of the pages that a move names
pub rows_named : (pages : List (Row Body)) (part : TreePart) (page target : ℕ)
    (position : Position) → IsNamed pages part page target position →
    IsSome (row_with page pages) × IsSome (row_with target pages)
rows_named pages part page target position asked = (
  row_there page part.tree pages asked.stands ∙ asked.named.0,
  row_there target part.tree pages asked.stands ∙ asked.named.1,
)

-- a row that is there is found
pub no_row_missing : (pages : List (Row Body)) (page : ℕ) (found : Option (Bor PageRow)) →
    IsSome (row_with page pages) →
    option_copied found ≡ option_map page_row (row_with page pages) → found ≡ None → ⊥
no_row_missing pages page found there is none =
    by (row_with page pages) there (ap option_copied (sym none) ∙ is)
  where
    by : (o : Option (Row Body)) → IsSome o → None ≡ option_map page_row o → ⊥
    by None some is = absurd (search (rules, some))
    by (Some row) some is = absurd (cc)
