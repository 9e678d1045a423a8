-- To open a desk keeps a world sound.
use Rattle.std.proofs.Common.{◌≡◌, ◌<◌, ℕ, Bool, true, false, cond, nat_eq, nat_le, List, [], ◌∷◌, length, find, Option, Some, None, refl, arith}
use Rattle.std.specs.Prelude.{IfSome}
use Rattle.std.specs.List.{AllByRecursion}
use Rattle.std.specs.Option.{option_map, option_and_then}
use Rattle.std.proofs.lemmas.Bool.Decides.{nat_tests}
use Rattle.site_ids.specs.Moment.{IsMoment}
use Rattle.site_types.specs.Content.{ContentValue, FitsLimits}
use Rattle.site_types.specs.declared.refusal.Refusal.TheVariants.{DeskTaken, ContentFull}
use Rattle.site_types.specs.declared.revision.Revision.{Revision}
use Rattle.tree_model.proofs.CountLemmas.{apart_by_test}
use Rattle.site_model.specs.World.{DeskPair, TreePart, time_at}
use Rattle.site_model.specs.Limits.{MAX_DESKS}
use Rattle.site_model.specs.Rules.{refused_if}
use Rattle.site_model.specs.Views.{body_of}
use Rattle.site_model.specs.Bodies.{revision_with, latest_content}
use Rattle.site_model.specs.Desks.{desk_user, open_rules, open_desk, desk_opened}
use Rattle.site_model.specs.Sound.{IsRegular}
use Rattle.site_model.proofs.ClearLemmas.{first_clear, test_clear}
use Rattle.site_model.proofs.Deeds.{MayOpen, KeepsSound}
use Rattle.site_model.proofs.Groups.{AreGroups}
use Rattle.site_model.proofs.RegularLemmas.{same_regular}

-- a sound part at a later moment is sound
pub later_sound : (part : TreePart) (now : ℕ) → AreGroups part → IsMoment now →
    AreGroups (record part { time = time_at part now })
later_sound part now sound moment = record {
  time = omega (arith, sound.time, moment);
  pages = sound.pages;
  revisions = sound.revisions;
  bodies = sound.bodies;
  people = sound.people;
  tasks = sound.tasks;
  grants = sound.grants;
}

-- where nobody is found to have a desk on the page, no desk is on it
none_on_page : (page : ℕ) (pairs : List DeskPair) →
    option_map DeskTaken (desk_user pairs page) ≡ None →
    AllByRecursion (λ (pair : DeskPair). pair.page ≡ page → ⊥) pairs
none_on_page page [] none = tt
none_on_page page (pair ∷ pairs) none =
    choice (nat_eq pair.page page) refl (none_on_page page pairs) none
  where
    Free : List DeskPair → Type 0
    Free others = AllByRecursion (λ (one : DeskPair). one.page ≡ page → ⊥) others

    choice : (t : Bool) → nat_eq pair.page page ≡ t →
        (option_map DeskTaken (desk_user pairs page) ≡ None → Free pairs) →
        option_map DeskTaken (option_map (λ (one : DeskPair). one.user)
        (cond t (Some pair) (find (λ (one : DeskPair). nat_eq one.page page) pairs))) ≡ None →
        Free (pair ∷ pairs)
    choice true is more h = absurd (cc)
    choice false is more h = (apart_by_test pair.page page is, more h)

-- what is not at least as much is less
room_left : (limit n : ℕ) → nat_le limit n ≡ false → n < limit
room_left limit n is = grind (arith, nat_tests)

-- what holds of each element holds of one that is found
found_holds : {X : Type 0} (P : X → Type 0) (q : X → Bool) (xs : List X) → AllByRecursion P xs →
    IfSome (find q xs) P
found_holds P q [] all = tt
found_holds P q (x ∷ xs) all = choice (q x) (found_holds P q xs all.1)
  where
    choice : (t : Bool) → IfSome (find q xs) P → IfSome (cond t (Some x) (find q xs)) P
    choice true more = all.0
    choice false more = more

-- the latest content of a page is within its limits
latest_fits : (part : TreePart) (page : ℕ) → AreGroups part →
    IfSome (latest_content part page) FitsLimits
latest_fits part page sound =
    by_id (option_and_then (λ body. body.latest) (body_of part.tree page))
  where
    by_found : (found : Option Revision) →
        IfSome found (λ revision. FitsLimits revision.content) →
        IfSome (option_map (λ (revision : Revision). revision.content) found) FitsLimits
    by_found None is = tt
    by_found (Some revision) is = is

    by_id : (id : Option ℕ) →
        IfSome (option_map (λ (revision : Revision). revision.content)
        (option_and_then (λ one. revision_with one part.revisions) id)) FitsLimits
    by_id None = tt
    by_id (Some id) = by_found (revision_with id part.revisions)
        (found_holds (λ (revision : Revision). FitsLimits revision.content) _ part.revisions
        sound.revisions.contents)

-- to open a desk that no rule refuses keeps a world sound
pub opening_keeps_sound : (part : TreePart) (now caller page : ℕ) → AreGroups part →
    IsRegular part.tree page → IsMoment now → caller < part.next_user →
    open_rules part page ≡ None →
    KeepsSound part caller (Some page) (open_desk part now page)
opening_keeps_sound part now caller page sound regular moment user none =
    let free = first_clear (option_map DeskTaken (desk_user part.desk_pairs page)) _ none in
    let full = first_clear
    (refused_if (nat_le MAX_DESKS (length part.desk_pairs)) ContentFull) [] free.1 in
    record {
      sound = later_sound part now sound moment;
      regular = same_regular part.tree;
      opened = opened (latest_content part page) (latest_fits part page sound)
          (none_on_page page part.desk_pairs free.0)
          (room_left MAX_DESKS (length part.desk_pairs) (test_clear _ ContentFull full.0));
      pairs = refl;
      users = omega arith;
    }
  where
    opened : (text : Option ContentValue) → IfSome text FitsLimits →
        AllByRecursion (λ (pair : DeskPair). pair.page ≡ page → ⊥) part.desk_pairs →
        length part.desk_pairs < MAX_DESKS →
        IfSome (desk_opened caller (Some page) text) (MayOpen part)
    opened None fits free room = tt
    opened (Some text) fits free room =
        record { user = user; regular = regular; fits = fits; free = free; room = room }
