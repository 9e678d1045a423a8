-- Whether the caller has a desk there, which then ends.
use Rattle.std.proofs.Common.{◌≡◌, ℕ, List, [], ◌∷◌, max, sym, ap, subst, ◌∙◌}
use Rattle.std.specs.Option.{option_copied}
use Rattle.site_types.specs.declared.command.Command.TheVariants as commands
use Rattle.site_types.specs.declared.reply.Reply.TheVariants.{Done}
use Rattle.flat_model.specs.Single.{tree_change}
use Rattle.flat_model.specs.declared.change.Change.{Change}
use Rattle.flat_model.specs.declared.change.TreeChange.TheVariants.{Nothing}
use Rattle.site_part.specs.Plans.{HasPlan}
use Rattle.site_part.specs.declared.plan.Plan.{Plan}
use Rattle.moderating.specs.Plans.{ending_plan}
use Rattle.flow_edits.proofs.OpenPlans.{shut_none, shut_planned}
use Rattle.flow_edits.proofs.opening.plan_shutting.Goals as goal

pub returns-in_default : goal.returns-in_default
returns-in_default c = λ world caller asked.
    shut_none c.args.part.now world (option_copied c.args.desk) c.args.now caller c.args.page asked
    (ap option_copied c.in_default.is)

pub returns : goal.returns
returns c = λ world caller asked.
    let kept = c.args.part.now in
    let change = tree_change Nothing c.later.result kept.next_page kept.next_revision in
    let same : c.ending.result ≡ ending_plan Done (c.args.page ∷ []) change =
    c.ending.ensures
    ∙ (ap (λ (one : Change). ending_plan Done c.in-Ok.shut one) c.of_tree-change.ensures
    ∙ ap (λ (pages : List ℕ). ending_plan Done pages change) c.in-Ok.ensures) in
    subst (λ (plan : Plan). HasPlan kept world (option_copied c.args.desk) c.args.now caller
    (commands.ShutDesk c.args.page) plan) (sym same)
    (shut_planned kept world (option_copied c.args.desk) c.args.now caller c.args.page asked
    c.in-Some._text.now (ap option_copied c.in-Some.is) c.later.result
    (c.later.ensures ∙ ap (λ t. max t c.args.now) asked.given.ready.stands.time))
