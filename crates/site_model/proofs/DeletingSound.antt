-- A deletion keeps a world sound: first the aliases become regular pages that it leaves without
-- their source, and then the page goes with all below it.
use Rattle.std.proofs.Common.{◌≡◌, ◌+◌, ◌<◌, ◌≤◌, ℕ, Bool, true, false, List, [], ◌∷◌, Option, Some, None, refl, arith}
use Rattle.std.specs.List.{AllByRecursion}
use Rattle.page_tree.specs.Tree.{Forest, has_page, node_of, without}
use Rattle.site_ids.specs.declared.ids.TheConstants.{LAST_REVISION_ID}
use Rattle.site_ids.specs.Moment.{IsMoment}
use Rattle.site_types.specs.Content.{ContentValue}
use Rattle.site_types.specs.declared.body.Body.{Body}
use Rattle.site_types.specs.declared.command.Command.TheVariants.{Delete}
use Rattle.site_types.specs.declared.refusal.Refusal.TheVariants.{IdsFull, ContentFull}
use Rattle.tree_model.specs.Shape.{AllPages}
use Rattle.tree_model.proofs.CountLemmas.{once, same_id, cut_counts, none_has}
use Rattle.tree_model.proofs.PageLemmas.{AllPages-without, AllPages-both, AllPages-counted}
use Rattle.site_model.specs.World.{TreePart, time_at}
use Rattle.site_model.specs.Rules.{content_full}
use Rattle.site_model.specs.Needs.{needs_of, delete_needs}
use Rattle.site_model.specs.Front.{StopsNobody, StopsOthers, row_of, on_page, front_rules}
use Rattle.site_model.specs.Aliases.{detached_body, with_detached}
use Rattle.site_model.specs.Delete.{is_source_gone, aliases_left, each_detached, with_deleted, revision_ids_full, delete_rules}
use Rattle.site_model.specs.Desks.{desk_page}
use Rattle.site_model.specs.Step.{rules}
use Rattle.site_model.specs.Step as steps
use Rattle.site_model.proofs.AcceptLemmas.{front_parts}
use Rattle.site_model.proofs.AliasesLeft.{times, Waits, all_wait, all_aliases, listed_once, none_listed, alias_stays, others_wait}
use Rattle.site_model.proofs.ClearLemmas.{first_clear, test_clear, limit_clear}
use Rattle.site_model.proofs.Deeds.{KeepsSound, below_root}
use Rattle.site_model.proofs.DeletionSound.{LosesNone, cut_keeps_sound, left_stay_regular}
use Rattle.site_model.proofs.DetachSound.{IsAliasPage, detaching_keeps_sound}
use Rattle.site_model.proofs.EachDetached.{each_distinct, each_outside, each_inside, each_regular, each_next, each_users, each_desks}
use Rattle.site_model.proofs.Groups.{AreGroups}
use Rattle.site_model.proofs.LooseGroups.{AreLoose, loosened, tightened}
use Rattle.site_model.proofs.NeedLemmas.{first_need}
use Rattle.site_model.proofs.RegularLemmas.{StayRegular}
use Rattle.site_model.proofs.StrangerLemmas.{remover_is_user}

-- What is asked of aliases that are to become regular pages, one after another: each is one now,
-- none stands twice, and each page waits for it that stays and shows a page that goes.
record AreToDetach (gone : Forest Body) (part : TreePart) (aliases : List ℕ) : Type 0 where
  are : AllByRecursion (IsAliasPage part.tree) aliases
  once_each : (id : ℕ) → times id aliases ≤ 1
  wait : AllPages (λ id slug body. Waits gone aliases id body) part.tree

-- What is left of it: a sound part, whatever its contents take together, where no page waits.
record AreDetached (gone : Forest Body) (part : TreePart) : Type 0 where
  sound : AreLoose part
  none_waits : AllPages (λ id slug body. Waits gone [] id body) part.tree

-- after the first of them became a regular page, it is asked of the others
others_to_detach : (gone : Forest Body) (part : TreePart) (now caller alias : ℕ)
    (aliases : List ℕ) → AreLoose part → AreToDetach gone part (alias ∷ aliases) →
    AreToDetach gone (with_detached part now caller alias) aliases
others_to_detach gone part now caller alias aliases sound all =
    let change = detached_body part.tree (time_at part now) part.next_revision in
    let first = rw (same_id alias) at (all.once_each alias) in
    record {
      are = both_all (λ (other : ℕ). other ≡ alias → ⊥) (IsAliasPage part.tree) _ aliases
          (λ other apart is. alias_stays alias change part.tree other sound.pages.distinct apart is)
          (none_listed alias aliases (omega (arith, first))) all.are.1;
      once_each = λ id. let most = all.once_each id in omega (arith, most);
      wait = others_wait gone alias aliases change part.tree sound.pages.distinct (λ body. refl)
          all.wait;
    }
  where
    both_all : (P Q R : ℕ → Type 0) (ids : List ℕ) → ((id : ℕ) → P id → Q id → R id) →
        AllByRecursion P ids → AllByRecursion Q ids → AllByRecursion R ids
    both_all P Q R [] both p q = tt
    both_all P Q R (id ∷ ids) both p q = (both id p.0 q.0, both_all P Q R ids both p.1 q.1)

-- each of them becomes a regular page
all_detached : (gone : Forest Body) (now caller : ℕ) (aliases : List ℕ) (part : TreePart) →
    AreLoose part → IsMoment now → caller < part.next_user →
    (each_detached now caller aliases part).next_revision ≤ LAST_REVISION_ID + 1 →
    AreToDetach gone part aliases → AreDetached gone (each_detached now caller aliases part)
all_detached gone now caller [] part sound moment user ids all =
    record { sound = sound; none_waits = all.wait }
all_detached gone now caller (alias ∷ aliases) part sound moment user ids all =
    let made = with_detached part now caller alias in
    let later = each_next now caller aliases made in
    let left : part.next_revision ≤ LAST_REVISION_ID = omega (arith, later, ids) in
    all_detached gone now caller aliases made
    (detaching_keeps_sound part now caller alias sound
    (record { alias = all.are.0; moment = moment; user = user; ids = left })) moment user ids
    (others_to_detach gone part now caller alias aliases sound all)

-- no page that stays shows then one that goes
loses_none : (part : TreePart) (now caller page : ℕ) → AreLoose part →
    AreDetached (node_of page part.tree)
    (each_detached now caller (aliases_left part page) part) →
    LosesNone (each_detached now caller (aliases_left part page) part) page
loses_none part now caller page sound made =
    let aliases = aliases_left part page in
    let after = each_detached now caller aliases part in
    let left = without page after.tree in
    let each = once after.tree (each_distinct now caller aliases part sound.pages.distinct) in
    AllPages-both (λ id slug body. Waits (node_of page part.tree) [] id body)
    (λ id slug body. has_page id (node_of page after.tree) ≡ false) _ left
    (λ id slug body wait out. stays body.source
    (wait (each_outside now caller aliases part page id out)))
    (AllPages-without _ page after.tree made.none_waits)
    (AllPages-counted (λ id. has_page id (node_of page after.tree) ≡ false) left (λ j some.
    let sum = cut_counts page j after.tree (each page) in
    let most = each j in
    none_has j (node_of page after.tree) (omega (arith, sum, most))))
  where
    stays : (source : Option ℕ) →
        (is_source_gone (node_of page part.tree) source ≡ true → false ≡ true) →
        is_source_gone
        (node_of page (each_detached now caller (aliases_left part page) part).tree) source
        ≡ false
    stays None free = refl
    stays (Some source) free =
        choice (has_page source
        (node_of page (each_detached now caller (aliases_left part page) part).tree)) refl
      where
        both_values : false ≡ true → ⊥
        both_values e = cc

        choice : (t : Bool) → has_page source
            (node_of page (each_detached now caller (aliases_left part page) part).tree) ≡ t →
            has_page source
            (node_of page (each_detached now caller (aliases_left part page) part).tree) ≡ false
        choice false is = is
        choice true is = absurd (both_values (free
            (each_inside now caller (aliases_left part page) part page source is)))

-- What no rule refused says of a deletion.
record IsClear (after : TreePart) : Type 0 where
  ids : after.next_revision ≤ LAST_REVISION_ID + 1
  contents : content_full after.revisions ≡ None

-- the rules, one by one
clear : (part : TreePart) (now caller page : ℕ) → delete_rules part now caller page ≡ None →
    IsClear (with_deleted part now caller page)
clear part now caller page none =
    let after = with_deleted part now caller page in
    let ids = first_clear (revision_ids_full after) _ none in
    let contents = first_clear (content_full after.revisions) [] ids.1 in
    record { ids = limit_clear _ _ (test_clear _ IdsFull ids.0); contents = contents.0 }

-- the world after a deletion that no rule refuses is sound
pub deletion_keeps_sound : (part : TreePart) (now caller page : ℕ) → AreGroups part →
    IsMoment now → (1 ≡ page → ⊥) → caller < part.next_user →
    delete_rules part now caller page ≡ None → AreGroups (with_deleted part now caller page)
deletion_keeps_sound part now caller page sound moment below user none =
    let gone = node_of page part.tree in
    let aliases = aliases_left part page in
    let after = each_detached now caller aliases part in
    let loose = loosened part sound in
    let left = clear part now caller page none in
    let distinct = sound.pages.distinct in
    let made = all_detached gone now caller aliases part loose moment user left.ids (record {
      are = all_aliases gone part.tree distinct;
      once_each = λ id. listed_once gone part.tree id distinct;
      wait = all_wait gone part.tree;
    }) in
    tightened (with_deleted part now caller page)
    (cut_keeps_sound after now page made.sound (loses_none part now caller page loose made) moment
    below)
    (limit_clear _ _ (test_clear _ ContentFull left.contents))

-- the regular pages that a deletion leaves are regular
pub deletion_stays_regular : (part : TreePart) (now caller page : ℕ) →
    StayRegular part.tree (with_deleted part now caller page).tree
deletion_stays_regular part now caller page one regular there =
    let aliases = aliases_left part page in
    left_stay_regular (each_detached now caller aliases part).tree page one
    (each_regular now caller aliases part one regular) there

-- a page is deleted
pub delete_sound : (part : TreePart) (desk : Option ContentValue) (now caller page : ℕ) →
    AreGroups part → IsMoment now → front_rules part caller (Delete page) ≡ None →
    rules part desk now caller (Delete page) ≡ None →
    KeepsSound part caller (desk_page (Delete page))
    (steps.effect part desk now caller (Delete page))
unfolding front_rules row_of needs_of rules steps.effect desk_page
delete_sound part desk now caller page sound moment front own =
    let parts = front_parts part caller (on_page page StopsOthers false StopsNobody)
    (delete_needs part caller page) front in
    let user = remover_is_user part caller page sound.people
    (first_need part caller _ _ parts.may) in
    let same = each_users now caller (aliases_left part page) part in
    record {
      sound = deletion_keeps_sound part now caller page sound moment (below_root page parts.below)
          user own;
      regular = deletion_stays_regular part now caller page;
      opened = tt;
      pairs = each_desks now caller (aliases_left part page) part;
      users = omega (arith, same);
    }
