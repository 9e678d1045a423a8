-- What deletions, locks, publishing, memberships and grants do to open desks.
use Rattle.std.proofs.Common.{◌≡◌, ℕ, Bool, true, false, not, ◌&&◌, nat_eq, List, [], ◌∷◌, filter, Option, Some, None, Ok, is_some, refl, sym, ap, subst, ◌∙◌, arith}
use Rattle.std.specs.List.{AllByRecursion, list_any}
use Rattle.page_tree.specs.Tree.{HasDistinctIds, without}
use Rattle.site_types.specs.Content.{ContentValue}
use Rattle.site_types.specs.declared.body.Body.{Body}
use Rattle.site_types.specs.declared.command.Command.TheVariants.{Delete, Lock, Member, Grant}
use Rattle.site_types.specs.declared.permission.Permission.{Permission}
use Rattle.site_types.specs.declared.refusal.Refusal.TheVariants.{Locked}
use Rattle.tree_model.proofs.CountLemmas.{once, has_counts, cut_counts}
use Rattle.tree_model.proofs.PageLemmas.{all_weaker}
use Rattle.site_model.specs.World.{DeskPair, TreePart, Deed, Effect}
use Rattle.site_model.specs.Rights.{Rights, rights_of}
use Rattle.site_model.specs.Rules.{refused_if}
use Rattle.site_model.specs.Views.{may_edit}
use Rattle.site_model.specs.Users.{members_after, grants_after}
use Rattle.site_model.specs.Delete.{aliases_left, each_detached, without_page}
use Rattle.site_model.specs.Publishing.{publish}
use Rattle.site_model.specs.Front.{StopsOthers, locked, in_moderation}
use Rattle.site_model.specs.Desks.{desk_page, stays, settled}
use Rattle.site_model.specs.Step.{step_by}
use Rattle.site_model.specs.Step as steps
use Rattle.site_model.specs.Sound.{IsSoundPart}
use Rattle.site_model.specs.Losing.{suspects_of, is_within, shuts, is_lost}
use Rattle.site_model.specs.LosingLaws.{desks_within, desks_of_others}
use Rattle.site_model.proofs.AcceptLemmas.{accepted}
use Rattle.site_model.proofs.DeskSound.{desk_has_page}
use Rattle.site_model.proofs.EachDetached.{each_distinct, each_way}
use Rattle.site_model.proofs.ViewLemmas.{seen}
use Rattle.site_model.proofs.LosingTrees.{way_to, passes, way_changed, cut_within, way-rebodied}
use Rattle.site_model.proofs.LosingRights.{stays_at, stays_by_way, both_hold}
use Rattle.site_model.proofs.LosingLemmas.{filter_alike}
use Rattle.site_model.proofs.LosingBodies.{body_changed}
use Rattle.site_model.proofs.LosingPages.{is_passed}
use Rattle.site_model.proofs.LosingSteps.{ended_are}

-- what ends and what stays open decides nothing of whether a desk stays
pub settled_as : (after : TreePart) (told : Effect) (caller : ℕ) (page : Option ℕ) (deed : Deed)
    (pair : DeskPair) → settled caller page deed ≡ (after, told) →
    stays after pair ≡ stays deed.part pair
settled_as after told caller page deed pair is =
    subst (λ (made : TreePart × Effect). stays made.0 pair ≡ stays deed.part pair) is refl

-- what holds of each desk holds of these
pub each_of : (P : DeskPair → Type 0) (pairs : List DeskPair) → ((pair : DeskPair) → P pair) →
    AllByRecursion P pairs
each_of P [] each = tt
each_of P (pair ∷ pairs) each = (each pair, each_of P pairs each)

-- a test that no desk passes keeps none
pub filter_none : (test : DeskPair → Bool) (pairs : List DeskPair) →
    AllByRecursion (λ (pair : DeskPair). test pair ≡ false) pairs → filter test pairs ≡ []
filter_none test [] none = refl
filter_none test (pair ∷ pairs) none = rw (none.0, filter_none test pairs none.1) refl

-- a desk on a page that is deleted does not stay
pub gone_stays : (part : TreePart) (now page : ℕ) (pair : DeskPair) → HasDistinctIds part.tree →
    passes page (way_to pair.page part.tree) ≡ true →
    stays (without_page part now page) pair ≡ false
gone_stays part now page pair distinct within =
    choice (stays (without_page part now page) pair) refl
  where
    choice : (t : Bool) → stays (without_page part now page) pair ≡ t →
        stays (without_page part now page) pair ≡ false
    choice false is = is
    choice true is =
        let each = once part.tree distinct in
        let most = each pair.page in
        let left = has_counts pair.page (without page part.tree)
        (desk_has_page (without_page part now page) pair is) in
        let gone = cut_within pair.page page part.tree (each page) within in
        let cut = cut_counts page pair.page part.tree (each page) in
        let never : ⊥ = omega (arith, most, left, gone, cut) in absurd never

-- a deletion ends what does not stay
within_lost : (within stay : Bool) → (within ≡ true → stay ≡ false) →
    (within && not stay) ≡ within
within_lost true stay lost = rw (lost refl) refl
within_lost false stay lost = refl

-- An accepted deletion ends each desk on the page and below it, and no other.
pub deletion_ends_all : (before after : TreePart) (told : Effect) (desk : Option ContentValue)
    (now caller page : ℕ) → IsSoundPart before →
    step_by before desk now caller (Delete page) ≡ Ok (after, told) →
    ((pair : DeskPair) → is_within before.tree page pair.page ≡ true → stays after pair ≡ false)
    × (told.ended ≡ desks_within before page)
unfolding steps.effect desk_page suspects_of shuts
deletion_ends_all before after told desk now caller page sound is =
    let one = accepted before after told desk now caller (Delete page) is in
    let all = ended_are before after told desk now caller (Delete page) sound is in
    let aliases = aliases_left before page in
    let lost = λ (pair : DeskPair) (within : is_within before.tree page pair.page ≡ true).
    settled_as after told caller None (steps.effect before desk now caller (Delete page)) pair
    one.done
    ∙ gone_stays (each_detached now caller aliases before) now page pair
    (each_distinct now caller aliases before sound.pages.distinct)
    (ap (λ (ids : List ℕ). list_any (λ (id : ℕ). nat_eq id page) ids)
    (each_way now caller aliases before pair.page)
    ∙ is_passed before page pair.page within) in (
      lost,
      all.ended
          ∙ filter_alike (is_lost before after caller (Delete page))
          (λ (pair : DeskPair). is_within before.tree page pair.page) before.desk_pairs
          (each_of
          (λ (pair : DeskPair).
          is_lost before after caller (Delete page) pair ≡ is_within before.tree page pair.page)
          before.desk_pairs
          (λ pair. within_lost (is_within before.tree page pair.page) (stays after pair)
          (lost pair))),
    )

-- of a page that is locked the one who locked it keeps the desk
pub lock_keeps : (part : TreePart) (rights : Rights) (caller : ℕ) (way : Option (List ℕ × Body)) →
    stays_at part rights way ≡ true →
    stays_at part rights (way_changed true (λ body. record body { locked_by = Some caller }) way)
    ≡ nat_eq caller rights.user
lock_keeps part rights caller None is = absurd (cc)
lock_keeps part rights caller (Some way) is =
    let view = seen part way.0 way.1 in
    let first = both_hold (may_edit rights view)
    (not (is_some (locked StopsOthers rights.user view.locked_by))
    && not (is_some (in_moderation StopsOthers rights view.stage))) is in
    let second = both_hold (not (is_some (locked StopsOthers rights.user view.locked_by)))
    (not (is_some (in_moderation StopsOthers rights view.stage))) first.1 in
    both (may_edit rights view) (not (is_some (in_moderation StopsOthers rights view.stage)))
    (nat_eq caller rights.user) first.0 second.1
  where
    both : (edits free t : Bool) → edits ≡ true → free ≡ true →
        (edits && (not (is_some (refused_if (not t) (Locked caller))) && free)) ≡ t
    both true true true a b = refl
    both true true false a b = refl
    both true false t a b = absurd (cc)
    both false free t a b = absurd (cc)

-- A desk stays on a page that is locked exactly if it is that of the one who locked it.
pub lock_stays : (part : TreePart) (caller page : ℕ) (pair : DeskPair) →
    stays part pair ≡ true → nat_eq pair.page page ≡ true →
    stays (body_changed page (λ body. record body { locked_by = Some caller }) part) pair
    ≡ nat_eq caller pair.user
lock_stays part caller page pair stay same =
    let change = λ (body : Body). record body { locked_by = Some caller } in
    stays_by_way (body_changed page change part) pair
    ∙ ap (λ (way : Option (List ℕ × Body)). stays_at part (rights_of part pair.user) way)
    (way-rebodied pair.page page change part.tree)
    ∙ ap (λ (own : Bool). stays_at part (rights_of part pair.user)
    (way_changed own change (way_to pair.page part.tree))) same
    ∙ lock_keeps part (rights_of part pair.user) caller (way_to pair.page part.tree)
    (sym (stays_by_way part pair) ∙ stay)

-- An accepted lock ends the desk on the page where it is another's, and no other.
pub lock_ends_others : (before after : TreePart) (told : Effect) (desk : Option ContentValue)
    (now caller page : ℕ) → IsSoundPart before →
    step_by before desk now caller (Lock page) ≡ Ok (after, told) →
    told.ended ≡ desks_of_others before caller page
unfolding steps.effect desk_page suspects_of shuts
lock_ends_others before after told desk now caller page sound is =
    let one = accepted before after told desk now caller (Lock page) is in
    let all = ended_are before after told desk now caller (Lock page) sound is in
    all.ended
    ∙ filter_alike (is_lost before after caller (Lock page))
    (λ (pair : DeskPair). nat_eq pair.page page && not (nat_eq caller pair.user))
    before.desk_pairs (all_weaker (λ (pair : DeskPair). stays before pair ≡ true)
    (λ (pair : DeskPair). is_lost before after caller (Lock page) pair
    ≡ (nat_eq pair.page page && not (nat_eq caller pair.user))) before.desk_pairs
    (λ pair stay. where_same (nat_eq pair.page page) (stays after pair) (nat_eq caller pair.user)
    (λ same.
    settled_as after told caller None (steps.effect before desk now caller (Lock page)) pair
    one.done ∙ lock_stays before caller page pair stay same)) sound.desks.desks_stay)
  where
    where_same : (same stay own : Bool) → (same ≡ true → stay ≡ own) →
        (same && not stay) ≡ (same && not own)
    where_same true stay own told = rw (told refl) refl
    where_same false stay own told = refl

-- After a membership began or ended, a desk stays by the memberships alone.
pub stays_by_members : (before after : TreePart) (told : Effect) (desk : Option ContentValue)
    (now caller user group : ℕ) (on : Bool) (pair : DeskPair) →
    step_by before desk now caller (Member user group on) ≡ Ok (after, told) →
    stays after pair
    ≡ stays (record before { members = members_after before.members user group on }) pair
unfolding steps.effect desk_page
stays_by_members before after told desk now caller user group on pair is =
    let one = accepted before after told desk now caller (Member user group on) is in
    settled_as after told caller None
    (steps.effect before desk now caller (Member user group on)) pair one.done

-- After a grant was given or withdrawn, a desk stays by the grants alone.
pub stays_by_grants : (before after : TreePart) (told : Effect) (desk : Option ContentValue)
    (now caller group page : ℕ) (permission : Permission) (on : Bool) (pair : DeskPair) →
    step_by before desk now caller (Grant group page permission on) ≡ Ok (after, told) →
    stays after pair
    ≡ stays
    (record before { grants = grants_after before.grants group page permission on }) pair
unfolding steps.effect desk_page
stays_by_grants before after told desk now caller group page permission on pair is =
    let one = accepted before after told desk now caller (Grant group page permission on) is in
    settled_as after told caller None
    (steps.effect before desk now caller (Grant group page permission on)) pair one.done
