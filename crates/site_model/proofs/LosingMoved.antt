-- Which open desks stay after a move.
use Rattle.std.proofs.Common.{◌≡◌, ◌≤◌, ℕ, Bool, true, false, cond, not, ◌||◌, ◌&&◌, nat_eq, List, [], ◌∷◌, ◌++◌, Option, Some, None, Ok, is_some, refl, sym, ap, subst, ◌∙◌, arith}
use Rattle.std.specs.List.{AllByRecursion, list_any}
use Rattle.page_tree.specs.Tree.{Forest, node_of, without, graft}
use Rattle.site_types.specs.Content.{ContentValue}
use Rattle.site_types.specs.declared.body.Body.{Body}
use Rattle.site_types.specs.declared.command.Command.TheVariants.{Move}
use Rattle.site_types.specs.declared.permission.Permission.{Permission}
use Rattle.site_types.specs.declared.permission.Permission.TheVariants.{Add, Change}
use Rattle.site_types.specs.declared.position.Position.{Position}
use Rattle.site_types.specs.declared.refusal.Refusal.TheVariants.{IsRoot, IntoItself, NothingNew}
use Rattle.tree_model.specs.Places.{is_beside, parent_at, place_at, stays_put, moved_to, leads_into_itself}
use Rattle.tree_model.proofs.CountLemmas.{count, once, has_counts, cut_counts, node_found}
use Rattle.tree_model.proofs.MoveLemmas.{Lands, lands}
use Rattle.tree_model.proofs.PageLemmas.{all_weaker}
use Rattle.tree_model.proofs.PlaceLemmas.{IsAmong, AtParent-kids}
use Rattle.site_model.specs.World.{DeskPair, TreePart, Effect}
use Rattle.site_model.specs.Rights.{Rights, rights_of, permits, holds, above_of}
use Rattle.site_model.specs.Rules.{are_root}
use Rattle.site_model.specs.Views.{View, view_of, meets, moderates, may_edit}
use Rattle.site_model.specs.Needs.{needs_of, move_needs}
use Rattle.site_model.specs.Front.{StopsOthers, locked, in_moderation, row_of, on_move, front_rules}
use Rattle.site_model.specs.Moves.{effect_refusal, into_itself}
use Rattle.site_model.specs.Desks.{desk_page, stays}
use Rattle.site_model.specs.Step.{rules, step_by}
use Rattle.site_model.specs.Step as steps
use Rattle.site_model.specs.Sound.{IsSoundPart}
use Rattle.site_model.specs.Losing.{is_within}
use Rattle.site_model.specs.LosingLaws.{from_page, between, edits_below}
use Rattle.site_model.proofs.AcceptLemmas.{accepted, front_parts, page_found}
use Rattle.site_model.proofs.ClearLemmas.{first_clear, test_clear, then_clear, neither}
use Rattle.site_model.proofs.MoveSound.{no_zero}
use Rattle.site_model.proofs.ViewLemmas.{seen}
use Rattle.site_model.proofs.LosingTrees.{way_to, ids_on, passes, walked_ids, way-missing, way-without, cut_within}
use Rattle.site_model.proofs.LosingRights.{viewed_at, view_at, stays_at, stays_by_way, both_hold}
use Rattle.site_model.proofs.LosingMoves.{joined, cut_way, way-node, way-grafted}
use Rattle.site_model.proofs.LosingPages.{is_passed}
use Rattle.site_model.proofs.LosingFacts.{settled_as}

-- a target beside which a page comes is not the root
beside_root : (page target : ℕ) (beside : Bool) →
    are_root (cond beside (page ∷ target ∷ []) (page ∷ [])) ≡ None →
    (nat_eq target 1 && beside) ≡ false
beside_root page target true none =
    let tests = neither (nat_eq page 1) (nat_eq target 1 || false) (test_clear _ IsRoot none) in
    let last = neither (nat_eq target 1) false tests.1 in rw (last.0) refl
beside_root page target false none = no_sibling (nat_eq target 1)
  where
    no_sibling : (t : Bool) → (t && false) ≡ false
    no_sibling true = refl
    no_sibling false = refl

-- Where a move that no rule refuses lands.
pub record IsLanded (tree : Forest Body) (page target : ℕ) (position : Position) : Type 0 where
  pub found : 1 ≤ count page tree
  pub each : (id : ℕ) → count id tree ≤ 1
  pub landed :
      Lands (without page tree) (parent_at tree target position)
      (place_at (without page tree) target position)

-- by the rules
pub landed_by : (part : TreePart) (desk : Option ContentValue) (now caller page target : ℕ)
    (position : Position) → IsSoundPart part →
    front_rules part caller (Move page target position) ≡ None →
    rules part desk now caller (Move page target position) ≡ None →
    IsLanded part.tree page target position
unfolding front_rules row_of needs_of rules
landed_by part desk now caller page target position sound front own =
    let tree = part.tree in
    let parts = front_parts part caller (on_move page target position)
    (move_needs part caller page target position) front in
    let found = page_found tree page (target ∷ []) parts.pages in
    let there = page_found tree target [] found.1 in
    let below = beside_root page target (is_beside position) parts.below in
    let itself = first_clear (into_itself tree page target position) _ own in
    let last = first_clear _ [] itself.1 in
    let each = once tree sound.pages.distinct in
    record {
      found = has_counts page tree found.0;
      each = each;
      landed = lands tree page target position sound.pages.whole
          (no_zero part.next_page tree sound.pages.page_ids) each found.0 there.0 below
          (test_clear (leads_into_itself tree page target position) IntoItself itself.0)
          (then_clear (stays_put page target position) NothingNew
          (effect_refusal tree page target position) last.0);
    }

-- The ways to a moved page and to its new parent.
pub record HasWays (tree after : Forest Body) (page parent inner : ℕ) : Type 0 where
  pub top : List ℕ × Body
  pub way : List ℕ × Body
  pub to_parent : way_to parent tree ≡ Some top
  pub to_page : way_to inner tree ≡ Some way
  pub led_to : way_to inner after ≡ Some (top.0 ++ from_page page way.0, way.1)

-- a way that leads over a page is there
some_way : (tree : Forest Body) (page inner : ℕ) (way : Option (List ℕ × Body)) →
    way_to inner tree ≡ way → passes page way ≡ true →
    (found : List ℕ × Body) × (way_to inner tree ≡ Some found)
some_way tree page inner None is over = absurd (cc)
some_way tree page inner (Some way) is over = (way, is)

-- the parent to which a page is moved does not lie below that page
parent_apart : (tree : Forest Body) (page parent : ℕ) → ((id : ℕ) → count id tree ≤ 1) →
    count parent (without page tree) ≡ 1 → passes page (way_to parent tree) ≡ false
parent_apart tree page parent each left = choice (passes page (way_to parent tree)) refl
  where
    choice : (t : Bool) → passes page (way_to parent tree) ≡ t →
        passes page (way_to parent tree) ≡ false
    choice false is = is
    choice true is =
        let inside = cut_within parent page tree (each page) is in
        let cut = cut_counts page parent tree (each page) in
        let most = each parent in
        let never : ⊥ = omega (arith, inside, cut, most, left) in absurd never

-- The ways after a move: a page that was moved is reached by the new parent, and then as before.
pub moved_ways : (part : TreePart) (page target inner : ℕ) (position : Position) →
    IsLanded part.tree page target position → is_within part.tree page inner ≡ true →
    HasWays part.tree (moved_to part.tree page target position) page
    (parent_at part.tree target position) inner
moved_ways part page target inner position landed within =
    let tree = part.tree in
    let left = without page tree in
    let parent = parent_at tree target position in
    let place = place_at left target position in
    let over = is_passed part page inner within in
    let node = node_found page tree landed.found in
    let old = some_way tree page inner (way_to inner tree) refl over in
    let gone = cut_within inner page tree (landed.each page) over in
    let cut = cut_counts page inner tree (landed.each page) in
    let most = landed.each inner in
    let absent : count inner left ≡ 0 = omega (arith, gone, cut, most) in
    let above = way-without parent page tree
    (parent_apart tree page parent landed.each landed.landed.one_parent) in
    let once_there : count parent left ≤ 1 = omega (arith, landed.landed.one_parent) in
    let top = is_there left parent (way_to parent left) refl (landed.landed.one_parent) in
    let inside =
    way-node inner page tree (landed.each page) over
    ∙ ap (λ (way : Option (List ℕ × Body)). cut_way page way) old.1 in
    let more : List ℕ × Body = (from_page page old.0.0, old.0.1) in
    let into =
    subst (λ (f : Forest Body). way_to inner f ≡ Some more →
    way_to inner (graft parent place f left) ≡ joined (way_to parent left) (way_to inner f))
    (sym node.is)
    (λ alone. way-grafted inner parent place page node.step node.slug node.body node.kids left more
    landed.landed.one_parent
    (AtParent-kids parent (IsAmong place) left once_there landed.landed.among) absent alone) inside
    in
    record {
      top = top.0;
      way = old.0;
      to_parent = sym above ∙ top.1;
      to_page = old.1;
      led_to = into
          ∙ ap (λ (way : Option (List ℕ × Body)). joined way (way_to inner (node_of page tree)))
          top.1
          ∙ ap (λ (way : Option (List ℕ × Body)). joined (Some top.0) way) inside;
    }
  where
    is_there : (f : Forest Body) (id : ℕ) (way : Option (List ℕ × Body)) → way_to id f ≡ way →
        count id f ≡ 1 → (found : List ℕ × Body) × (way_to id f ≡ Some found)
    is_there f id None is some =
        let none = way-missing id f is in
        let never : ⊥ = omega (arith, none, some) in absurd never
    is_there f id (Some way) is some = (way, is)

-- The pages on the walk to a page that was moved.
pub moved_above : (before after : TreePart) (told : Effect) (desk : Option ContentValue)
    (now caller page target : ℕ) (position : Position) (inner : ℕ) → IsSoundPart before →
    step_by before desk now caller (Move page target position) ≡ Ok (after, told) →
    is_within before.tree page inner ≡ true →
    above_of after.tree inner
    ≡ above_of before.tree (parent_at before.tree target position)
    ++ between before.tree page inner
unfolding steps.effect
moved_above before after told desk now caller page target position inner sound is within =
    let one = accepted before after told desk now caller (Move page target position) is in
    let parent = parent_at before.tree target position in
    let ways = moved_ways before page target inner position
    (landed_by before desk now caller page target position sound one.front one.own) within in
    subst (λ (made : TreePart × Effect). above_of made.0.tree inner
    ≡ above_of before.tree parent ++ between before.tree page inner) one.done
    (walked_ids inner (moved_to before.tree page target position)
    ∙ ap (λ (way : Option (List ℕ × Body)). ids_on way) ways.led_to
    ∙ sym (ap (λ (ids : List ℕ). ids ++ between before.tree page inner)
    (walked_ids parent before.tree
    ∙ ap (λ (way : Option (List ℕ × Body)). ids_on way) ways.to_parent)
    ∙ ap (λ (ids : List ℕ). ways.top.0 ++ from_page page ids)
    (walked_ids inner before.tree
    ∙ ap (λ (way : Option (List ℕ × Body)). ids_on way) ways.to_page)))

-- one of two lists has what one of both together has
any_append : (p : ℕ → Bool) (xs ys : List ℕ) →
    list_any p (xs ++ ys) ≡ (list_any p xs || list_any p ys)
any_append p [] ys = refl
any_append p (x ∷ xs) ys = choice (p x) (any_append p xs ys)
  where
    choice : (t : Bool) → list_any p (xs ++ ys) ≡ (list_any p xs || list_any p ys) →
        (t || list_any p (xs ++ ys)) ≡ ((t || list_any p xs) || list_any p ys)
    choice true more = refl
    choice false more = more

-- whether one holds the permission above, or was granted it at one of these pages
abbrev holds_on : Rights → Permission → List ℕ → List ℕ → Bool
holds_on rights permission above pages =
    holds rights permission above
    || list_any (λ page. list_any (permits permission page) rights.granted) pages

-- what is held along both
holds_append : (rights : Rights) (permission : Permission) (above pages : List ℕ) →
    holds rights permission (above ++ pages) ≡ holds_on rights permission above pages
holds_append rights permission above pages =
    let p = λ (page : ℕ). list_any (permits permission page) rights.granted in
    ap (λ (t : Bool). rights.super || t) (any_append p above pages)
    ∙ grouped rights.super (list_any p above) (list_any p pages)
  where
    grouped : (a b c : Bool) → (a || (b || c)) ≡ ((a || b) || c)
    grouped true b c = refl
    grouped false b c = refl

-- whether one may edit a page that is reached along both
abbrev edits_on : Rights → List ℕ → List ℕ → View → Bool
edits_on rights above pages view =
    holds_on rights Change above pages
    || ((holds_on rights Add above pages && nat_eq view.owner rights.user)
    || moderates rights view.stage)

-- a desk that stays before its page is moved stays where its user may edit there
joined_stays : (part : TreePart) (rights : Rights) (above pages : List ℕ) (way : List ℕ × Body) →
    stays_at part rights (Some way) ≡ true →
    stays_at part rights (Some (above ++ pages, way.1))
    ≡ edits_on rights above pages (seen part way.0 way.1)
joined_stays part rights above pages way is =
    let view = seen part way.0 way.1 in
    let lock = not (is_some (locked StopsOthers rights.user view.locked_by)) in
    let free = not (is_some (in_moderation StopsOthers rights view.stage)) in
    let first = both_hold (may_edit rights view) (lock && free) is in
    let second = both_hold lock free first.1 in
    unstopped (may_edit rights (seen part (above ++ pages) way.1)) lock free second.0 second.1
    ∙ rw (holds_append rights Change above pages, holds_append rights Add above pages) refl
  where
    unstopped : (t lock free : Bool) → lock ≡ true → free ≡ true → (t && (lock && free)) ≡ t
    unstopped true true true a b = refl
    unstopped false true true a b = refl
    unstopped t true false a b = absurd (cc)
    unstopped t false free a b = absurd (cc)

-- the same, by the ways before and after the move
pub stays_by_ways : (part : TreePart) (after : Forest Body) (page parent : ℕ) (pair : DeskPair) →
    HasWays part.tree after page parent pair.page → stays part pair ≡ true →
    stays_at part (rights_of part pair.user) (way_to pair.page after)
    ≡ meets (edits_below part pair.user parent (between part.tree page pair.page))
    (view_of part pair.page)
stays_by_ways part after page parent pair ways stay =
    let rights = rights_of part pair.user in
    let above =
    walked_ids parent part.tree
    ∙ ap (λ (way : Option (List ℕ × Body)). ids_on way) ways.to_parent in
    let pages =
    ap (λ (ids : List ℕ). from_page page ids)
    (walked_ids pair.page part.tree
    ∙ ap (λ (way : Option (List ℕ × Body)). ids_on way) ways.to_page) in
    let view =
    view_at part pair.page
    ∙ ap (λ (way : Option (List ℕ × Body)). viewed_at part way) ways.to_page in
    let old =
    ap (λ (way : Option (List ℕ × Body)). stays_at part rights way) (sym ways.to_page)
    ∙ sym (stays_by_way part pair) ∙ stay in
    ap (λ (way : Option (List ℕ × Body)). stays_at part rights way) ways.led_to
    ∙ joined_stays part rights ways.top.0 (from_page page ways.way.0) ways.way old
    ∙ sym (ap (λ (found : Option View).
    meets (edits_below part pair.user parent (between part.tree page pair.page)) found) view
    ∙ ap (λ (ids : List ℕ). edits_on rights ids (between part.tree page pair.page)
    (seen part ways.way.0 ways.way.1)) above
    ∙ ap (λ (ids : List ℕ). edits_on rights ways.top.0 ids (seen part ways.way.0 ways.way.1))
    pages)

-- Which open desks on moved pages stay.
pub moved_stay : (before after : TreePart) (told : Effect) (desk : Option ContentValue)
    (now caller page target : ℕ) (position : Position) → IsSoundPart before →
    step_by before desk now caller (Move page target position) ≡ Ok (after, told) →
    AllByRecursion
    (λ (pair : DeskPair). is_within before.tree page pair.page ≡ true →
    stays after pair
    ≡ meets
    (edits_below before pair.user (parent_at before.tree target position)
    (between before.tree page pair.page))
    (view_of before pair.page)) before.desk_pairs
unfolding steps.effect desk_page
moved_stay before after told desk now caller page target position sound is =
    let one = accepted before after told desk now caller (Move page target position) is in
    let parent = parent_at before.tree target position in
    let made = steps.effect before desk now caller (Move page target position) in
    let landed = landed_by before desk now caller page target position sound one.front one.own in
    all_weaker (λ (pair : DeskPair). stays before pair ≡ true)
    (λ (pair : DeskPair). is_within before.tree page pair.page ≡ true →
    stays after pair
    ≡ meets (edits_below before pair.user parent (between before.tree page pair.page))
    (view_of before pair.page)) before.desk_pairs
    (λ pair stay within.
    settled_as after told caller None made pair one.done
    ∙ stays_by_way made.part pair
    ∙ stays_by_ways before (moved_to before.tree page target position) page parent pair
    (moved_ways before page target pair.page position landed within) stay)
    sound.desks.desks_stay
