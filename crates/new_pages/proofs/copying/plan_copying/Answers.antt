-- The copy is tried, its rows are built, room is made, and the plan is built.
use Rattle.std.proofs.Common.{◌≡◌, ◌+◌, ℕ, ap, max, ◌∙◌, arith}
use Rattle.site_types.specs.declared.command.Command.TheVariants.{Copy}
use Rattle.site_model.specs.World as worlds
use Rattle.site_model.specs.Copies.{copy_rules}
use Rattle.new_pages.specs.Copying.{IsNewCopy}
use Rattle.new_pages.proofs.AskedLemmas.{own_refused}
use Rattle.new_pages.proofs.CommandLemmas.{copy_names, copy_own}
use Rattle.new_pages.proofs.CopyPlaces.{row_found}
use Rattle.new_pages.proofs.CopiedLemmas.{ids_left}
use Rattle.new_pages.proofs.CopyPlans.{copy_movable, own_place, copy_planned}
use Rattle.new_pages.proofs.copying.plan_copying.Goals as goal

pub coming_rows-requires : goal.coming_rows-requires
coming_rows-requires c =
    let world = c.requires.0 in
    let asked = c.requires.1 in
    let made = c.in-Ok.ensures world asked in (
      world,
      asked.ready,
      copy_movable c.args.part.now.rows.pages world.tree c.args.page c.args.deep
          c.in-Ok.made.source c.in-Ok.made.place made.1.source made.1.place.shallow,
      made.1.left,
    )

pub ids_at-page-requires : goal.ids_at-page-requires
ids_at-page-requires c =
    let world = c.requires.0 in
    let asked = c.requires.1 in
    let made = c.in-Ok.ensures world asked in
    let ids = ids_left c.args.part.now world asked.ready c.in-Ok.made.source.rest 0 made.1.left
    (omega arith) in
    record { page = ids.0; revision = ids.1 }

pub returns-in-Err-clause-plan : goal.returns-in-Err-clause-plan
returns-in-Err-clause-plan c = λ world desk asked.
    own_refused c.args.part.now c.args.part.now world desk c.args.now c.args.caller
    (Copy c.args.page c.args.parent c.args.slug.now c.args.deep) asked
    (copy_rules world c.args.now c.args.caller c.args.page c.args.parent c.args.slug.now c.args.deep)
    (copy_own world desk c.args.now c.args.caller c.args.page c.args.parent c.args.slug.now
    c.args.deep)
    (IsNewCopy world c.args.part.now.rows.pages (worlds.time_at world c.args.now) c.args.caller
    c.args.page c.args.parent c.args.slug.now c.args.deep) c.in-Err.fault
    (c.in-Err.ensures world asked)

pub returns-in-Ok-copying_plan-clause-plan : goal.returns-in-Ok-copying_plan-clause-plan
returns-in-Ok-copying_plan-clause-plan c = λ world desk asked.
    let made = c.in-Ok.ensures world asked in
    let names = copy_names world c.args.caller c.args.page c.args.parent c.args.slug.now c.args.deep
    asked.front in
    let above = row_found world.tree c.args.parent names.1 in
    let first : c.args.part.now.next_page + 0 ≡ c.args.part.now.next_page = omega arith in
    let own = own_place world asked.ready.reached.sound.pages c.args.parent c.args.slug.now above.0
    above.1 c.in-Ok.made.place made.1.place.place in
    copy_planned c.args.part.now world desk c.args.now c.args.caller c.args.page c.args.parent
    c.args.slug.now c.args.deep asked c.later-time.ensures.moment c.in-Ok.made made.0 made.1 above.0
    above.1 own.0 own.1 c.make_room.new.part _ c.later-time.result _ _ c.in-Ok-coming_rows.rows _
    c.in-Ok-copying_plan.plan c.make_room.ensures.same
    c.in-Ok-make_room.ensures.pages c.in-Ok-make_room.ensures.revisions
    (ap (λ (ids : ℕ × ℕ). ids.0) c.ids_at-page.ensures ∙ (first ∙ asked.ready.stands.next_page))
    (c.later-time.ensures.value ∙ ap (λ t. max t c.args.now) asked.ready.stands.time)
    (ap (λ n. n + (c.in-Ok.made.source.rest + 1)) asked.ready.stands.next_page)
    (ap (λ n. n + (c.in-Ok.made.source.rest + 1)) asked.ready.stands.next_revision)
    (c.in-Ok-coming_rows.ensures world asked.ready made.1.left) made.1.revisions
    c.in-Ok-copying_plan.ensures
