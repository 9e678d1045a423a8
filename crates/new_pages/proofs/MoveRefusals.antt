-- Why a move is refused behind the rights: by its plan, and by its URLs.
use Rattle.std.proofs.Common.{◌≡◌, ℕ, ◌+◌, ◌≤◌, Bool, true, false, cond, ◌&&◌, List, [], ◌∷◌, length, Option, Some, None, Ok, Err, nat_eq, nat_lt, refl, sym, ap, ◌∙◌, arith}
use Rattle.std.specs.List.{AllByRecursion, list_any}
use Rattle.std.specs.Option.{option_map}
use Rattle.std.proofs.lemmas.Bool.Decides.{nat_tests}
use Rattle.page_tree.specs.Tree.{Forest, bare, grown, HasDistinctIds, has_page, kids_of}
use Rattle.page_tree.specs.Rows.{Row}
use Rattle.site_types.specs.declared.body.Body.{Body}
use Rattle.site_types.specs.declared.position.Position.{Position}
use Rattle.site_types.specs.declared.refusal.Refusal.{Refusal}
use Rattle.site_types.specs.declared.refusal.Refusal.TheVariants.{IntoItself, NothingNew, SlugTaken, StepsFull, TooDeep, UrlTooLong}
use Rattle.tree_model.specs.Limits.{MAX_URL}
use Rattle.tree_model.specs.Places.{is_beside, stays_put, leads_into_itself}
use Rattle.tree_model.proofs.CountLemmas.{count, once, id_found, has_counts, none_has, cut_counts, node_found, same_id}
use Rattle.tree_model.proofs.ParentLemmas.{kids_of-node}
use Rattle.page_store.specs.declared.plan.MovePlan.{MovePlan}
use Rattle.path_moves.specs.declared.fault.PathFault.TheVariants as paths
use Rattle.slug_urls.specs.Plans.{unless_taken, is_one_long}
use Rattle.site_model.specs.Moves.{into_itself, effect_refusal}
use Rattle.site_model.specs.Rules.{refused_if, first_of}
use Rattle.new_pages.specs.Faults.{both_of}
use Rattle.new_pages.specs.Plans.{PlansBy}
use Rattle.new_pages.specs.Moving.{there_rules}

-- no page lies below itself
not_below_itself : (tree : Forest Body) (page : ℕ) → HasDistinctIds tree →
    has_page page tree ≡ true → has_page page (kids_of page tree) ≡ false
not_below_itself tree page distinct there =
    let each = once tree distinct page in
    let here = has_counts page tree there in
    let node = node_found page tree here in
    let alone = grown page node.step node.slug node.body node.kids bare in
    let own : kids_of page alone ≡ node.kids = rw (same_id page) refl in
    let kids_are = kids_of-node page tree each
    ∙ (ap (λ (f : Forest Body). kids_of page f) node.is ∙ own) in
    let cut = cut_counts page page tree each in
    let counts = ap (λ (f : Forest Body). count page f) node.is in
    let first : count page alone ≡ 1 + count page node.kids =
    rw (same_id page) (omega arith) in
    let none : count page node.kids ≡ 0 = omega (arith, cut, each, counts, first) in
    none_has page (kids_of page tree) (ap (λ (f : Forest Body). count page f) kids_are ∙ none)

-- a page that stays put does not go into itself
stays_outside : (tree : Forest Body) (page target : ℕ) (position : Position) →
    HasDistinctIds tree → has_page page tree ≡ true → stays_put page target position ≡ true →
    into_itself tree page target position ≡ None
stays_outside tree page target position distinct there stays =
    by (nat_eq page target) refl (is_beside position) refl stays
  where
    by : (same : Bool) → nat_eq page target ≡ same → (beside : Bool) →
        is_beside position ≡ beside → (same && beside) ≡ true →
        into_itself tree page target position ≡ None
    by false e beside f is = absurd (cc)
    by true e false f is = absurd (cc)
    by true e true f is =
        let none : has_page target (kids_of page tree) ≡ false =
        ap (λ id. has_page id (kids_of page tree)) (sym (id_found page target e))
        ∙ not_below_itself tree page distinct there in
        rw (none, e, f) refl

-- what is left of the rules where a move does not lead into the page itself
module _ (tree : Forest Body) (page target : ℕ) (position : Position) where
  -- a rule alone
  alone : (o : Option Refusal) → first_of (o ∷ []) ≡ o
  alone None = refl
  alone (Some x) = refl

  -- a page that stays where it is
  pub refused_stays : HasDistinctIds tree → has_page page tree ≡ true →
      stays_put page target position ≡ true →
      first_of (there_rules tree page target position) ≡ Some NothingNew
  refused_stays distinct there stays =
      rw (stays_outside tree page target position distinct there stays, stays) refl

  -- a page that goes elsewhere: the rules of the plan and of the URLs are left
  pub refused_late : stays_put page target position ≡ false →
      leads_into_itself tree page target position ≡ false →
      first_of (there_rules tree page target position) ≡ effect_refusal tree page target position
  refused_late moves outside =
      rw (outside, moves) (alone (effect_refusal tree page target position))

  -- a move that leads into the page itself
  pub refused_itself : leads_into_itself tree page target position ≡ true →
      first_of (there_rules tree page target position) ≡ Some IntoItself
  refused_itself inside = rw inside refl

-- the plan and the URLs together, by what the rules test
pub planned_both : (taken : Option ℕ) (full deep : Bool) (made : MovePlan)
    (news : List (ℕ × List ℕ)) (long : Bool) → is_one_long news ≡ long →
    (IsRight : MovePlan × List (ℕ × List ℕ) → Type 0) →
    (full ≡ false → deep ≡ false → IsRight (made, news)) →
    PlansBy (first_of
    (option_map SlugTaken taken
    ∷ refused_if full StepsFull
    ∷ refused_if deep TooDeep
    ∷ refused_if long UrlTooLong
    ∷ []))
    IsRight (both_of (cond full (Err paths.StepsFull) (cond deep (Err paths.TooDeep) (Ok made)))
    (unless_taken taken news))
planned_both (Some other) full deep made news long is IsRight right = refl
planned_both None true deep made news true is IsRight right = rw is refl
planned_both None true deep made news false is IsRight right = rw is refl
planned_both None false true made news true is IsRight right = rw is refl
planned_both None false true made news false is IsRight right = rw is refl
planned_both None false false made news true is IsRight right = rw is refl
planned_both None false false made news false is IsRight right = rw is (refl, right refl refl)

-- where each URL is within the limit none is too long
pub none_long : (rows : List (Row Body)) →
    AllByRecursion (λ (row : Row Body). length row.url ≤ MAX_URL) rows →
    list_any (λ (row : Row Body). nat_lt MAX_URL (length row.url)) rows ≡ false
none_long [] all = refl
none_long (row ∷ rows) all =
    let fits = all.0 in
    let short : nat_lt MAX_URL (length row.url) ≡ false = grind (arith, nat_tests) in
    rw short (none_long rows all.1)
