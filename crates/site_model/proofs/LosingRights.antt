-- Who may do more stays where who may do less stays; and whether a desk stays, by the way to its
-- page.
use Rattle.std.proofs.Common.{◌≡◌, ℕ, Bool, true, false, not, ◌||◌, ◌&&◌, nat_eq, List, [], ◌∷◌, map, Option, Some, None, is_some, refl, sym, ap, subst, ◌∙◌}
use Rattle.std.specs.List.{list_any}
use Rattle.std.specs.Option.{option_map}
use Rattle.page_tree.specs.Walk.{Visit, walk}
use Rattle.site_types.specs.declared.body.Body.{Body}
use Rattle.site_types.specs.declared.permission.Permission.{Permission}
use Rattle.site_types.specs.declared.permission.Permission.TheVariants.{Add, Change}
use Rattle.site_types.specs.declared.refusal.Refusal.TheVariants.{InModeration}
use Rattle.site_model.specs.World.{DeskPair, TreePart}
use Rattle.site_model.specs.Rights.{Rights, rights_of, has_group, permits, holds}
use Rattle.site_model.specs.Views.{View, Stage, last_visit, view_of, viewed, is_asked, moderates, may_edit}
use Rattle.site_model.specs.Rules.{refused_if}
use Rattle.site_model.specs.Front.{StopsOthers, locked, in_moderation}
use Rattle.site_model.specs.Desks.{keeps_desk, stays}
use Rattle.site_model.proofs.ViewLemmas.{seen}
use Rattle.site_model.proofs.LosingTrees.{way_of, last_body, way_to, ids_on, walk_goes}
use Rattle.tree_model.proofs.CountLemmas.{same_id, id_found}

-- what is seen at the end of a way
abbrev pub viewed_at : TreePart → Option (List ℕ × Body) → Option View
viewed_at part None = None
viewed_at part (Some way) = Some (seen part way.0 way.1)

-- what is seen of the last page of a walk
last_seen : (part : TreePart) (above : List ℕ) (visit : Visit Body) (visits : List (Visit Body)) →
    option_map (λ (one : Visit Body). seen part above one.body) (last_visit (visit ∷ visits))
    ≡ Some (seen part above (last_body visit visits))
last_seen part above visit [] = refl
last_seen part above visit (next ∷ visits) = last_seen part above next visits

-- what is seen at the end of a walk is what is seen at the end of its way
viewed_is : (part : TreePart) (visits : List (Visit Body)) →
    viewed part visits ≡ viewed_at part (way_of visits)
viewed_is part [] = refl
viewed_is part (visit ∷ visits) =
    last_seen part (map (λ (one : Visit Body). one.id) (visit ∷ visits)) visit visits

-- what is seen of a page is what is seen at the end of the way to it
pub view_at : (part : TreePart) (page : ℕ) →
    view_of part page ≡ viewed_at part (way_to page part.tree)
view_at part page =
    viewed_is part (walk page part.tree)
    ∙ ap (λ (way : Option (List ℕ × Body)). viewed_at part way) (walk_goes page part.tree)

-- whether a desk of one with these rights stays at the end of this way
abbrev pub stays_at : TreePart → Rights → Option (List ℕ × Body) → Bool
stays_at part rights way = keeps_desk rights (viewed_at part way)

-- a desk stays where it stays at the end of the way to its page
pub stays_by_way : (part : TreePart) (pair : DeskPair) →
    stays part pair ≡ stays_at part (rights_of part pair.user) (way_to pair.page part.tree)
stays_by_way part pair =
    ap (λ (view : Option View). keeps_desk (rights_of part pair.user) view) (view_at part pair.page)

-- both of two tests hold
pub both_hold : (a b : Bool) → (a && b) ≡ true → (a ≡ true) × (b ≡ true)
both_hold true b is = (refl, is)
both_hold false b is = absurd (cc)

-- two tests that hold, hold together
pub hold_both : (a b : Bool) → a ≡ true → b ≡ true → (a && b) ≡ true
hold_both true b first second = second
hold_both false b first second = absurd (cc)

-- one of two tests, each weaker
pub weaker_or : (a b c d : Bool) → (a ≡ true → c ≡ true) → (b ≡ true → d ≡ true) →
    (a || b) ≡ true → (c || d) ≡ true
weaker_or a b true d first second is = refl
weaker_or true b false d first second is = let no = first refl in absurd (cc)
weaker_or false b false d first second is = second is

-- both of two tests, each weaker
pub weaker_and : (a b c d : Bool) → (a ≡ true → c ≡ true) → (b ≡ true → d ≡ true) →
    (a && b) ≡ true → (c && d) ≡ true
weaker_and a b c d first second is =
    let parts = both_hold a b is in hold_both c d (first parts.0) (second parts.1)

-- what one of these numbers passes, one of these passes too by a weaker test
pub any_weaker : (p q : ℕ → Bool) (xs : List ℕ) →
    ((x : ℕ) → list_any (λ (one : ℕ). nat_eq one x) xs ≡ true → p x ≡ true → q x ≡ true) →
    list_any p xs ≡ true → list_any q xs ≡ true
any_weaker p q [] follows is = absurd (cc)
any_weaker p q (x ∷ xs) follows is =
    weaker_or (p x) (list_any p xs) (q x) (list_any q xs)
    (λ here. follows x (rw (same_id x) refl) here)
    (λ later. any_weaker p q xs (λ y among. follows y (behind (nat_eq x y) _ among)) later) is
  where
    behind : (t u : Bool) → u ≡ true → (t || u) ≡ true
    behind true u h = refl
    behind false u h = h

-- a number among these that passes a test
pub one_passes : (p : ℕ → Bool) (x : ℕ) (xs : List ℕ) →
    list_any (λ (one : ℕ). nat_eq one x) xs ≡ true → p x ≡ true → list_any p xs ≡ true
one_passes p x [] among is = absurd (cc)
one_passes p x (y ∷ xs) among is =
    weaker_or (nat_eq y x) (list_any (λ (one : ℕ). nat_eq one x) xs) (p y) (list_any p xs)
    (λ same. rw (id_found y x same) is) (λ later. one_passes p x xs later is) among

-- what one of these numbers passes, one of more numbers passes
pub any_more : (p : ℕ → Bool) (xs ys : List ℕ) →
    ((x : ℕ) → has_group xs x ≡ true → has_group ys x ≡ true) →
    list_any p xs ≡ true → list_any p ys ≡ true
any_more p [] ys more is = absurd (cc)
any_more p (x ∷ xs) ys more is =
    choice (p x) refl
    (any_more p xs ys (λ y among. more y (behind (nat_eq x y) (has_group xs y) among))) is
  where
    behind : (t u : Bool) → u ≡ true → (t || u) ≡ true
    behind true u h = refl
    behind false u h = h

    choice : (t : Bool) → p x ≡ t → (list_any p xs ≡ true → list_any p ys ≡ true) →
        (t || list_any p xs) ≡ true → list_any p ys ≡ true
    choice true here later h = one_passes p x ys (more x (rw (same_id x) refl)) here
    choice false here later h = later h

-- Of two users' rights the second has all that the first has, on these pages.
pub record HasMore (above : List ℕ) (less more : Rights) : Type 0 where
  pub user : more.user ≡ less.user
  pub super : less.super ≡ true → more.super ≡ true
  pub groups : (group : ℕ) → has_group less.groups group ≡ true → has_group more.groups group ≡ true
  pub granted : (permission : Permission) (page : ℕ) →
      list_any (λ (one : ℕ). nat_eq one page) above ≡ true →
      list_any (permits permission page) less.granted ≡ true →
      list_any (permits permission page) more.granted ≡ true

-- it holds each permission that the first holds
holds_more : (above : List ℕ) (less more : Rights) (permission : Permission) →
    HasMore above less more → holds less permission above ≡ true →
    holds more permission above ≡ true
holds_more above less more permission has is =
    weaker_or less.super _ more.super _ has.super
    (λ granted. any_weaker (λ page. list_any (permits permission page) less.granted)
    (λ page. list_any (permits permission page) more.granted) above
    (λ page among permitted. has.granted permission page among permitted) granted) is

-- it moderates what the first moderates
moderates_more : (above : List ℕ) (less more : Rights) (stage : Option Stage) →
    HasMore above less more → moderates less stage ≡ true → moderates more stage ≡ true
moderates_more above less more None has is = absurd (cc)
moderates_more above less more (Some stage) has is =
    any_more (λ own. has_group stage.groups own) less.groups more.groups has.groups is

-- it edits what the first edits
edits_more : (less more : Rights) (view : View) → HasMore view.above less more →
    may_edit less view ≡ true → may_edit more view ≡ true
edits_more less more view has is =
    weaker_or (holds less Change view.above) _ (holds more Change view.above) _
    (λ change. holds_more view.above less more Change has change)
    (λ other. weaker_or (holds less Add view.above && nat_eq view.owner less.user) _
    (holds more Add view.above && nat_eq view.owner more.user) _
    (λ own. weaker_and (holds less Add view.above) (nat_eq view.owner less.user) _ _
    (λ add. holds_more view.above less more Add has add)
    (λ same. subst (λ (user : ℕ). nat_eq view.owner user ≡ true) (sym has.user) same) own)
    (λ asked. moderates_more view.above less more view.stage has asked) other) is

-- a moderation does not stop it where it does not stop the first
unstopped : (above : List ℕ) (less more : Rights) (stage : Option Stage) →
    HasMore above less more →
    not (is_some (in_moderation StopsOthers less stage)) ≡ true →
    not (is_some (in_moderation StopsOthers more stage)) ≡ true
unstopped above less more None has is = refl
unstopped above less more (Some stage) has is =
    passes (more.super || is_asked more stage)
    (weaker_or less.super (is_asked less stage) more.super (is_asked more stage) has.super
    (λ asked. moderates_more above less more (Some stage) has asked)
    (passed (less.super || is_asked less stage) is))
  where
    passed : (t : Bool) →
        not (is_some (refused_if (not t) (InModeration stage.task))) ≡ true → t ≡ true
    passed true h = refl
    passed false h = absurd (cc)

    passes : (t : Bool) → t ≡ true →
        not (is_some (refused_if (not t) (InModeration stage.task))) ≡ true
    passes true h = refl
    passes false h = absurd (cc)

-- A desk that one with fewer rights keeps stays where one has more.
pub keeps_more : (part : TreePart) (less more : Rights) (way : Option (List ℕ × Body)) →
    HasMore (ids_on way) less more → stays_at part less way ≡ true →
    stays_at part more way ≡ true
keeps_more part less more None has is = absurd (cc)
keeps_more part less more (Some way) has is =
    let view = seen part way.0 way.1 in
    weaker_and (may_edit less view) _ (may_edit more view) _
    (λ edits. edits_more less more view has edits)
    (λ free. weaker_and (not (is_some (locked StopsOthers less.user view.locked_by))) _
    (not (is_some (locked StopsOthers more.user view.locked_by))) _
    (λ lock. subst
    (λ (user : ℕ). not (is_some (locked StopsOthers user view.locked_by)) ≡ true)
    (sym has.user) lock)
    (λ stop. unstopped view.above less more view.stage has stop) free) is

-- A desk stays where its user has more and the same is seen of its page.
pub more_stays : (part other : TreePart) (pair : DeskPair) →
    viewed_at other (way_to pair.page other.tree) ≡ viewed_at part (way_to pair.page part.tree) →
    HasMore (ids_on (way_to pair.page part.tree)) (rights_of part pair.user)
    (rights_of other pair.user) → stays part pair ≡ true → stays other pair ≡ true
more_stays part other pair view has is =
    stays_by_way other pair
    ∙ ap (λ (found : Option View). keeps_desk (rights_of other pair.user) found) view
    ∙ keeps_more part (rights_of part pair.user) (rights_of other pair.user)
    (way_to pair.page part.tree) has (sym (stays_by_way part pair) ∙ is)
