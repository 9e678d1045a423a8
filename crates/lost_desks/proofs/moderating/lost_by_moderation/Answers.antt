-- The desk on the page ends if it does not stay.
use Rattle.std.proofs.Common.{◌≡◌, not, List, ℕ, Some, None, ap, sym, subst, ◌∙◌}
use Rattle.std.specs.Prelude.{IfOk}
use Rattle.site_model.specs.World.{DeskPair}
use Rattle.site_model.specs.Desks.{desk_user}
use Rattle.site_model.specs.LosingLaws.{stays_with}
use Rattle.desk_pairs.specs.Pairs.{pair_of}
use Rattle.lost_desks.specs.Losses.{page_if}
use Rattle.lost_desks.proofs.LossLemmas.{desk_alone}
use Rattle.lost_desks.proofs.StayLemmas.{has_desks}
use Rattle.lost_desks.proofs.moderating.lost_by_moderation.Goals as goal

pub returns-in-Some : goal.returns-in-Some
returns-in-Some c world ready =
    let told = sym c.in-Some.is ∙ c.user_at.ensures in
    let there : Some c.in-Some.user ≡ desk_user world.desk_pairs c.args.page =
    told ∙ ap (λ (pairs : List DeskPair). desk_user pairs c.args.page) ready.stands.desks in
    let stays = c.stays_with.ensures world (has_desks c.args.part.now world ready) in
    subst (λ (list : List ℕ). IfOk c.page_if.result (λ ids. ids ≡ list))
    (ap (page_if (λ user. not (stays_with world c.args.moderation (pair_of c.args.page user)))
    c.args.page) there
    ∙ desk_alone c.args.page (λ (pair : DeskPair). not (stays_with world c.args.moderation pair))
    world.desk_pairs ready.reached.sound.desks.desks_rise)
    (rw (← stays) c.page_if.ensures)

pub returns-in-None : goal.returns-in-None
returns-in-None c world ready =
    let told = sym c.in-None.is ∙ c.user_at.ensures in
    let there : None ≡ desk_user world.desk_pairs c.args.page =
    told ∙ ap (λ (pairs : List DeskPair). desk_user pairs c.args.page) ready.stands.desks in
    c.no_page.ensures
    ∙ (ap (page_if (λ user. not (stays_with world c.args.moderation (pair_of c.args.page user)))
    c.args.page) there
    ∙ desk_alone c.args.page (λ (pair : DeskPair). not (stays_with world c.args.moderation pair))
    world.desk_pairs ready.reached.sound.desks.desks_rise)
