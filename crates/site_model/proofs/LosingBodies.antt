-- Which desks stay where no right changes: where pages come, and where what is kept of one page
-- changes.
use Rattle.std.proofs.Common.{◌≡◌, ◌<◌, ◌≤◌, ◌+◌, ℕ, Bool, true, false, nat_eq, nat_lt, List, Option, Some, None, refl, sym, ap, ◌∙◌, arith}
use Rattle.std.proofs.lemmas.Bool.Decides.{nat_tests}
use Rattle.page_tree.specs.Tree.{Forest, bare, grown, Place, graft}
use Rattle.site_types.specs.declared.body.Body.{Body}
use Rattle.tree_model.specs.Shape.{AllPages}
use Rattle.tree_model.proofs.CountLemmas.{has_counts, told_apart}
use Rattle.site_model.specs.World.{DeskPair, TreePart}
use Rattle.site_model.specs.Rights.{Rights, rights_of}
use Rattle.site_model.specs.Views.{View}
use Rattle.site_model.specs.Bodies.{rebodied}
use Rattle.site_model.specs.Copies.{copies, with_first_slug, size_of}
use Rattle.site_model.specs.Desks.{keeps_desk, stays}
use Rattle.site_model.specs.Sound.{IsGiven}
use Rattle.site_model.proofs.ClearLemmas.{not_given}
use Rattle.site_model.proofs.DeskSound.{desk_has_page}
use Rattle.site_model.proofs.ViewLemmas.{seen}
use Rattle.site_model.proofs.LosingTrees.{way_to, way_changed, way_unchanged, way-graft, way-rebodied}
use Rattle.site_model.proofs.LosingRights.{viewed_at, stays_by_way}

-- a desk with the same rights and the same view stays as before
pub same_stays : (part other : TreePart) (pair : DeskPair) →
    rights_of other pair.user ≡ rights_of part pair.user →
    viewed_at other (way_to pair.page other.tree) ≡ viewed_at part (way_to pair.page part.tree) →
    stays other pair ≡ stays part pair
same_stays part other pair rights view =
    stays_by_way other pair
    ∙ ap (λ (own : Rights). keeps_desk own (viewed_at other (way_to pair.page other.tree))) rights
    ∙ ap (λ (found : Option View). keeps_desk (rights_of part pair.user) found) view
    ∙ sym (stays_by_way part pair)

-- a page with a desk that stays has an id that was given out
pub desk_page_given : (part : TreePart) (pair : DeskPair) →
    AllPages (λ id slug body. IsGiven part.next_page id) part.tree → stays part pair ≡ true →
    pair.page < part.next_page
desk_page_given part pair given stay = choice (nat_lt pair.page part.next_page) refl
  where
    choice : (t : Bool) → nat_lt pair.page part.next_page ≡ t → pair.page < part.next_page
    choice true is = grind (arith, nat_tests)
    choice false is =
        let above : part.next_page ≤ pair.page = grind (arith, nat_tests) in
        let some = has_counts pair.page part.tree (desk_has_page part pair stay) in
        let none = not_given part.next_page pair.page part.tree above given in
        let never : ⊥ = omega (arith, some, none) in absurd never

-- Where a page is grafted in to which no way leads, the desk stays as before.
pub graft_stays : (part : TreePart) (pair : DeskPair) (parent : ℕ) (place : Place)
    (node : Forest Body) → way_to pair.page node ≡ None →
    stays (record part { tree = graft parent place node part.tree }) pair ≡ stays part pair
graft_stays part pair parent place node none =
    same_stays part (record part { tree = graft parent place node part.tree }) pair refl
    (ap (λ (way : Option (List ℕ × Body)). viewed_at part way)
    (way-graft pair.page parent place node part.tree none))

-- no way leads from a new page alone to a page that was there
pub way_to_new : (page next : ℕ) (slug : List ℕ) (body : Body) → page < next →
    way_to page (grown next 1 slug body bare bare) ≡ None
way_to_new page next slug body lower =
    let differs : nat_eq next page ≡ false = grind (arith, nat_tests) in rw differs refl

-- nor from copies
pub way_to_copies : (page caller before : ℕ) (part : TreePart) (f : Forest Body) →
    page < part.next_page → way_to page (copies part caller before f) ≡ None
way_to_copies page caller before part bare lower = refl
way_to_copies page caller before part (grown i s slug body kids rest) lower =
    let differs = told_apart (part.next_page + before) page
    (λ same. let never : ⊥ = omega (arith, lower, same) in never) in
    rw (
      differs,
      way_to_copies page caller (before + 1) part kids lower,
      way_to_copies page caller (before + 1 + size_of kids) part rest lower,
    ) refl

-- another slug of the first page changes no way
pub way-first_slug : (page : ℕ) (new : List ℕ) (f : Forest Body) →
    way_to page (with_first_slug new f) ≡ way_to page f
way-first_slug page new bare = refl
way-first_slug page new (grown i s slug body kids rest) = refl

-- What of a page decides who may work there is the same.
pub record KeepsRights (before after : Body) : Type 0 where
  pub owner : after.owner ≡ before.owner
  pub locked_by : after.locked_by ≡ before.locked_by
  pub moderation : after.moderation ≡ before.moderation

-- then the same is seen
pub same_seen : (part : TreePart) (above : List ℕ) (before after : Body) → KeepsRights before after →
    seen part above after ≡ seen part above before
same_seen part above before after kept =
    rw (kept.owner, kept.locked_by, kept.moderation) refl

-- the same is seen at the end of a way
same_view : (part : TreePart) (own : Bool) (change : Body → Body)
    (way : Option (List ℕ × Body)) →
    ((above : List ℕ) (body : Body) → seen part above (change body) ≡ seen part above body) →
    viewed_at part (way_changed own change way) ≡ viewed_at part way
same_view part own change None same = refl
same_view part true change (Some way) same = ap (λ (view : View). Some view) (same way.0 way.1)
same_view part false change (Some way) same = refl

-- the part with another body of a page
abbrev pub body_changed : ℕ → (Body → Body) → TreePart → TreePart
body_changed page change part = record part { tree = rebodied page change part.tree }

-- Where the same is seen of a page, a desk stays as before.
pub unseen_stays : (part : TreePart) (page : ℕ) (change : Body → Body) (pair : DeskPair) →
    ((above : List ℕ) (body : Body) → seen part above (change body) ≡ seen part above body) →
    stays (body_changed page change part) pair ≡ stays part pair
unseen_stays part page change pair same =
    same_stays part (body_changed page change part) pair refl
    (ap (λ (way : Option (List ℕ × Body)). viewed_at part way)
    (way-rebodied pair.page page change part.tree)
    ∙ same_view part (nat_eq pair.page page) change (way_to pair.page part.tree) same)

-- So it does where the page's owner, lock and moderation are as before.
pub body_stays : (part : TreePart) (page : ℕ) (change : Body → Body) (pair : DeskPair) →
    ((body : Body) → KeepsRights body (change body)) →
    stays (body_changed page change part) pair ≡ stays part pair
body_stays part page change pair kept =
    unseen_stays part page change pair
    (λ above body. same_seen part above body (change body) (kept body))

-- A desk on another page stays as before.
pub other_stays : (part : TreePart) (page : ℕ) (change : Body → Body) (pair : DeskPair) →
    nat_eq pair.page page ≡ false →
    stays (body_changed page change part) pair ≡ stays part pair
other_stays part page change pair other =
    same_stays part (body_changed page change part) pair refl
    (ap (λ (way : Option (List ℕ × Body)). viewed_at part way)
    (way-rebodied pair.page page change part.tree
    ∙ rw other (way_unchanged change (way_to pair.page part.tree))))
