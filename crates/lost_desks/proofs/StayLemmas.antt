-- Whether a desk stays, by what is held at its page and what is kept of it.
use Rattle.std.proofs.Common.{◌≡◌, ℕ, Bool, true, false, cond, not, ◌&&◌, ◌||◌, nat_eq, Option, Some, None, IsSome, is_some, refl, ap, ◌∙◌, rules}
use Rattle.std.specs.Option.{option_map}
use Rattle.site_types.specs.declared.body.Body.{Body}
use Rattle.site_types.specs.declared.moderation.Moderation.{Moderation}
use Rattle.site_types.specs.declared.page_row.PageRow.{PageRow}
use Rattle.site_types.specs.declared.refusal.Refusal.TheVariants.{Locked, InModeration}
use Rattle.page_store.specs.PageRows.{page_row}
use Rattle.page_store.specs.Pages.{Page}
use Rattle.site_model.specs.World.{TreePart}
use Rattle.site_model.specs.Rights as rights
use Rattle.site_model.specs.Rights.{Rights, rights_of, is_superuser}
use Rattle.site_model.specs.Rules.{refused_if}
use Rattle.site_model.specs.Front.{StopsOthers, locked, in_moderation}
use Rattle.site_model.specs.Views.{Stage, list_at, current_task, is_in_progress, stage_of, body_of, is_asked, moderates}
use Rattle.site_model.specs.Desks.{stays}
use Rattle.site_model.specs.LosingLaws.{stays_with}
use Rattle.site_model.proofs.ViewLemmas.{view_is}
use Rattle.desk_pairs.specs.Pairs.{pair_of}
use Rattle.grants.specs.declared.right.Held.{Held}
use Rattle.site_part.specs.declared.part.TreePart as memory
use Rattle.grants.specs.Granted.{seen_held}
use Rattle.site_part.specs.Standing.{IsReady}
use Rattle.lost_desks.specs.Staying.{HasDesksOf, is_open_to, is_underway, keeps}

-- a lock stops one exactly if it is another's
open_is : (by : Option ℕ) (user : ℕ) →
    is_open_to by user ≡ not (is_some (locked StopsOthers user by))
open_is None user = refl
open_is (Some other) user = choice (nat_eq other user)
  where
    choice : (t : Bool) → t ≡ not (is_some (refused_if (not t) (Locked other)))
    choice true = refl
    choice false = refl

-- three ways to edit, and two that may stop one
ways : (change add asked opened free : Bool) →
    ((change || add) || asked) && (opened && free)
    ≡ (change || (add || asked)) && (opened && free)
ways true add asked opened free = refl
ways false true asked opened free = refl
ways false false asked opened free = refl

-- three ways not to be stopped, one after the other
free_ways : (asked super under : Bool) →
    (asked || super) || not under ≡ not under || (super || asked)
free_ways true true true = refl
free_ways true true false = refl
free_ways true false true = refl
free_ways true false false = refl
free_ways false true true = refl
free_ways false true false = refl
free_ways false false true = refl
free_ways false false false = refl

-- a moderation stops one if it is in progress, and one is neither a superuser nor asked
free_is : (world : TreePart) (rights : Rights) (moderation : Option Moderation) →
    not (is_underway moderation) || (rights.super || moderates rights (stage_of world moderation))
    ≡ not (is_some (in_moderation StopsOthers rights (stage_of world moderation)))
free_is world rights None = refl
free_is world rights (Some moderation) = by (is_in_progress moderation.status)
  where
    stage : Stage
    stage = record {
      task = current_task world moderation;
      groups = list_at world.tasks (current_task world moderation);
    }

    asks : (t : Bool) → t ≡ not (is_some (refused_if (not t) (InModeration stage.task)))
    asks true = refl
    asks false = refl

    by : (t : Bool) →
        not t || (rights.super || moderates rights (cond t (Some stage) None))
        ≡ not (is_some (in_moderation StopsOthers rights (cond t (Some stage) None)))
    by true = asks (rights.super || is_asked rights stage)
    by false = refl

module _ (world : TreePart) (page user : ℕ) where
  -- on a page that is not there no desk stays
  pub gone_loses : body_of world.tree page ≡ None → false ≡ stays world (pair_of page user)
  gone_loses none = rw (view_is world page, none) refl

  -- with no moderation either
  pub gone_loses_with : (moderation : Option Moderation) → body_of world.tree page ≡ None →
      false ≡ stays_with world moderation (pair_of page user)
  gone_loses_with moderation none = rw (view_is world page, none) refl

  -- on a page that is there it stays by what is kept of it
  pub stays_by : (body : Body) → body_of world.tree page ≡ Some body →
      keeps world page user body ≡ stays world (pair_of page user)
  stays_by body kept = rw (view_is world page, kept) refl

  -- and with another moderation by that
  pub stays_by_with : (body : Body) (moderation : Option Moderation) →
      body_of world.tree page ≡ Some body →
      keeps world page user (record body { moderation = moderation })
      ≡ stays_with world moderation (pair_of page user)
  stays_by_with body moderation kept = rw (view_is world page, kept) refl

  -- A desk stays if its user may edit the page, no other user has locked it, and its moderation does not
  -- stop the user.
  pub keeps_if : (body : Body) (held : Held) (asked super : Bool) →
      seen_held held ≡ rights.held world user page →
      asked ≡ moderates (rights_of world user) (stage_of world body.moderation) →
      super ≡ is_superuser world.users user →
      ((held.change || (held.add && nat_eq body.owner user)) || asked)
      && (is_open_to body.locked_by user
      && ((asked || super) || not (is_underway body.moderation)))
      ≡ keeps world page user body
  keeps_if body held asked super is asked_is super_is =
      let change = ap (λ (h : rights.Held). h.change) is in
      let add = ap (λ (h : rights.Held). h.add) is in
      let free = free_is world (rights_of world user) body.moderation in
      ways held.change (held.add && nat_eq body.owner user) asked (is_open_to body.locked_by user)
      ((asked || super) || not (is_underway body.moderation))
      ∙ rw (
        free_ways asked super (is_underway body.moderation),
        open_is body.locked_by user,
        change,
        add,
        asked_is,
        super_is,
        free,
      ) refl

-- a page whose row is found has a row
pub row_is_there : (found : Option Page) (row : PageRow) → Some row ≡ option_map page_row found →
    IsSome found
row_is_there None row is = absurd cc
row_is_there (Some page) row is = search rules

-- what is in memory has the desks of the world that it stands for
pub has_desks : (kept : memory.TreePart) (world : TreePart) → IsReady kept world →
    HasDesksOf world kept
has_desks kept world ready = record {
  pages = ready.stands.pages;
  lists = ready.stands.lists;
  flows = ready.stands.flows;
  desks = ready.stands.desks;
}
