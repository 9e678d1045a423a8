-- Worlds that are sound, and some that are not, each by the one fact that it breaks.
use Rattle.std.proofs.Common.{◌≡◌, ℕ, true, List, [], ◌∷◌, refl, codes, Some, None, Ok, arith}
use Rattle.site_ids.specs.Slug.{IsSlug}
use Rattle.site_types.specs.Content.{FitsLimits}
use Rattle.site_types.specs.declared.body.Body.{Body}
use Rattle.site_types.specs.declared.command.Command.TheVariants.{Create, File, Publish}
use Rattle.site_model.specs.World.{TreePart, Effect}
use Rattle.site_model.specs.Start.{new_part}
use Rattle.site_model.specs.Needs.{needs_of}
use Rattle.site_model.specs.Front.{row_of, front_rules}
use Rattle.site_model.specs.Create.{created}
use Rattle.site_model.specs.Desks.{desk_page}
use Rattle.site_model.specs.Bodies.{rebodied}
use Rattle.site_model.specs.Step.{rules, effect, step_by}
use Rattle.site_model.specs.Sound.{IsSoundPart}
use Rattle.site_model.specs.Reached.{IsReachedPart}
use Rattle.site_model.proofs.ReachedSound.{step_by_keeps_reached}
use Rattle.site_model.proofs.Sites.{titled}
use Rattle.site_model.proofs.StartLemmas.{new_part_is_sound}

-- a digest of 32 bytes
abbrev digest : List ℕ
digest = codes "0123456789abcdef0123456789abcdef"

-- a new site with one page below the root, which user 1 made
abbrev with_home : TreePart
with_home = created (new_part digest) 100 1 1 (codes "home") (titled (codes "Home"))

-- the text `home` is a slug
home_is_slug : IsSlug (codes "home")
home_is_slug = record { not_empty = omega arith; fits = omega arith; allowed = refl }

-- the title alone is within the limits of contents
home_fits : FitsLimits (titled (codes "Home"))
home_fits = record {
  title_not_empty = omega arith;
  title_fits = omega arith;
  blocks_fit = omega arith;
  lists_fit = λ k d below. let no : ⊥ = omega (arith, below) in absurd no;
  form_fits = omega arith;
}

-- a site with one page is reached
with_home_is_reached : IsReachedPart with_home
unfolding step_by needs_of front_rules row_of rules effect desk_page
with_home_is_reached =
    step_by_keeps_reached (new_part digest) with_home _ None 100 1
    (Create 1 (codes "home") (titled (codes "Home")))
    (record { sound = new_part_is_sound digest refl })
    (omega arith) (home_is_slug, home_fits) tt refl

-- that page with another body
abbrev with_body : (Body → Body) → TreePart
with_body change = record with_home { tree = rebodied 2 change with_home.tree }

-- a page is not the root
not_root : ◌≡◌ {A = ℕ} 2 1 → ⊥
not_root same = omega (arith, same)

-- a page whose revision is gone has no own
no_revision : IsSoundPart (record with_home { revisions = [] }) → ⊥
no_revision sound =
    let own = sound.bodies.bodies.1.0.regular not_root refl in
    let shown = own.shown in absurd (cc)

-- a page's latest revision is none of another's
no_latest : IsSoundPart (with_body (λ body. record body { latest = Some 7 })) → ⊥
no_latest sound =
    let own = sound.bodies.bodies.1.0.regular not_root refl in
    let latest = own.latest in absurd (cc)

-- a revision without a moment to go live is not scheduled
no_go_live : IsSoundPart (with_body (λ body. record body { scheduled = Some 1 })) → ⊥
no_go_live sound =
    let own = sound.bodies.bodies.1.0.regular not_root refl in
    let waits = own.scheduled in absurd (cc)

-- an owner is a user
no_owner : IsSoundPart (with_body (λ body. record body { owner = 2 })) → ⊥
no_owner sound = let lower = sound.bodies.bodies.1.0.owner in omega (arith, lower)

-- so is who has locked a page
no_locker : IsSoundPart (with_body (λ body. record body { locked_by = Some 2 })) → ⊥
no_locker sound = let given = sound.bodies.bodies.1.0.lock in omega (arith, given.1)

-- and not user 0
no_lock_by_0 : IsSoundPart (with_body (λ body. record body { locked_by = Some 0 })) → ⊥
no_lock_by_0 sound = let given = sound.bodies.bodies.1.0.lock in omega (arith, given.0)

-- a workflow of a page is there
no_assignment : IsSoundPart (with_body (λ body. record body { workflow = Some 1 })) → ⊥
no_assignment sound = let given = sound.bodies.bodies.1.0.assigned in omega (arith, given.1)

-- an alias is not live itself
no_live_alias : IsSoundPart (with_body (λ body. record body { source = Some 1; live = true })) → ⊥
no_live_alias sound =
    let alias = sound.bodies.bodies.1.0.alias in
    let live = alias.live in absurd (cc)

-- and its source is not the root
no_root_source : IsSoundPart (with_body (λ body. record body { source = Some 1 })) → ⊥
no_root_source sound = sound.bodies.sources.1.0.0 refl

-- two siblings of one slug
two_homes : IsSoundPart (created with_home 100 1 1 (codes "home") (titled (codes "Home"))) → ⊥
two_homes sound = let taken = sound.pages.siblings.1.0 in absurd (cc)

-- a next id that stands already
no_next_id : IsSoundPart (record with_home { next_page = 2 }) → ⊥
no_next_id sound = let above = sound.pages.page_ids.1.0.1 in omega (arith, above)

-- a user too few
no_user : IsSoundPart (record with_home { next_user = 3 }) → ⊥
no_user sound = let numbered = sound.people.numbered in omega (arith, numbered)

-- a task without groups
no_groups : IsSoundPart (record with_home { tasks = [] ∷ []; next_task = 2 }) → ⊥
no_groups sound =
    let some = sound.tasks.task_groups.0.not_empty in omega (arith, some)

-- a desk on the root
no_desk_on_root :
    IsSoundPart (record with_home { desk_pairs = record { page = 1; user = 1 } ∷ [] }) → ⊥
no_desk_on_root sound = sound.desks.desks_regular.0.0 refl

-- a desk on a page that is not there
no_desk_on_nothing :
    IsSoundPart (record with_home { desk_pairs = record { page = 9; user = 1 } ∷ [] }) → ⊥
no_desk_on_nothing sound = let stay = sound.desks.desks_stay.0 in absurd (cc)

-- a desk of who may not work there
no_desk_of_stranger :
    IsSoundPart (record with_home { desk_pairs = record { page = 2; user = 5 } ∷ [] }) → ⊥
no_desk_of_stranger sound = let stay = sound.desks.desks_stay.0 in absurd (cc)

-- two desks on one page
no_second_desk :
    IsSoundPart (record with_home {
      desk_pairs = record { page = 2; user = 1 } ∷ record { page = 2; user = 1 } ∷ [];
    }) → ⊥
no_second_desk sound = let rise = sound.desks.desks_rise.0.0 in absurd (cc)

-- a text that is filed at no open desk leaves no sound part: so a step asks for the desk
no_desk_to_file :
    IsSoundPart (effect with_home (Some (titled (codes "z"))) 100 1 (File 9 None None)).part → ⊥
unfolding effect
no_desk_to_file sound = let there = sound.revisions.revisions_have_pages.1.0 in absurd (cc)

-- a site whose one page is published is reached
with_live_home_is_reached : (after : TreePart) (told : Effect) →
    step_by with_home None 100 1 (Publish 2) ≡ Ok (after, told) → IsReachedPart after
unfolding desk_page
with_live_home_is_reached after told is =
    step_by_keeps_reached with_home after told None 100 1 (Publish 2) with_home_is_reached
    (omega arith) tt tt is
