-- A need where the page stands, and else one where it comes.
use Rattle.std.proofs.Common.{[], ◌∷◌, ap, ◌∙◌}
use Rattle.site_types.specs.declared.permission.Permission.TheVariants.{Add}
use Rattle.site_model.specs.Needs as needs
use Rattle.site_part.proofs.NeedLemmas.{some_of, rest_of, parent_is}
use Rattle.site_part.proofs.need.move_need.Goals as goal

pub returns-in-Some : goal.returns-in-Some
returns-in-Some c world stands =
    some_of (needs.take_need world c.args.user c.args.page
    ∷ needs.live_need world c.args.user c.args.page c.args.page ∷ []) _ c.in-Some.number
    (c.in-Some.ensures world stands)

pub returns-in-None : goal.returns-in-None
returns-in-None c world stands =
    let at = parent_is world.tree c.args.part.now.rows.pages c.args.target c.new_parent.result
    c.args.position stands.pages c.new_parent.ensures.value in
    rest_of (needs.take_need world c.args.user c.args.page
    ∷ needs.live_need world c.args.user c.args.page c.args.page ∷ []) _ c.arrive_need.result
    (c.in-None.ensures world stands)
    (c.arrive_need.ensures world stands
    ∙ ap (λ parent. needs.first_unmet (needs.need_at world c.args.user Add parent
    ∷ needs.live_need world c.args.user c.args.page parent ∷ [])) at)
