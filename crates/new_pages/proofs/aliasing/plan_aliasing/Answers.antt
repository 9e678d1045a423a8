-- A place and an id are found, room is made, and the plan is built.
use Rattle.std.proofs.Common.{refl, ap, ◌∙◌}
use Rattle.site_types.specs.declared.command.Command.TheVariants.{Alias}
use Rattle.site_model.specs.Aliases.{source_of, alias_body, alias_rules}
use Rattle.new_pages.specs.Aliasing.{IsNewAlias}
use Rattle.new_pages.proofs.AskedLemmas.{own_refused}
use Rattle.new_pages.proofs.AliasLemmas.{alias_planned}
use Rattle.new_pages.proofs.CommandLemmas.{alias_names, alias_own}
use Rattle.new_pages.proofs.aliasing.plan_aliasing.Goals as goal

pub place_alias-requires : goal.place_alias-requires
place_alias-requires c =
    let asked = c.requires.1 in (
      c.requires.0,
      asked.ready,
      (alias_names c.requires.0 c.args.caller c.args.source c.args.parent c.args.slug.now
          asked.front).1,
    )

pub returns-in-Err-clause-plan : goal.returns-in-Err-clause-plan
returns-in-Err-clause-plan c = λ world desk asked.
    own_refused c.args.part.now c.args.part.now world desk c.args.now c.args.caller
    (Alias c.args.source c.args.parent c.args.slug.now) asked
    (alias_rules world c.args.now c.args.caller c.args.source c.args.parent c.args.slug.now)
    (alias_own world desk c.args.now c.args.caller c.args.source c.args.parent c.args.slug.now)
    (IsNewAlias world c.args.parent c.args.slug.now) c.in-Err.fault
    (c.in-Err.ensures world (alias_body c.args.caller (source_of world c.args.source)) asked.ready
    (alias_names world c.args.caller c.args.source c.args.parent c.args.slug.now asked.front).1)

pub returns-in-Ok-newcomer_plan-clause-plan : goal.returns-in-Ok-newcomer_plan-clause-plan
returns-in-Ok-newcomer_plan-clause-plan c = λ world desk asked.
    let made = c.in-Ok.ensures world (alias_body c.args.caller (source_of world c.args.source))
    asked.ready
    (alias_names world c.args.caller c.args.source c.args.parent c.args.slug.now asked.front).1 in
    alias_planned c.args.part.now world desk c.args.now c.args.caller c.args.source c.args.parent
    c.args.slug.now asked c.later-time.ensures.moment c.len-len.ensures.pages c.in-Ok.made made.0
    made.1 _ _ _ _ _ c.in-Ok-newcomer_plan.plan c.make_room.ensures.same c.in-Ok-make_room.ensures.pages
    (c.alias_body.ensures
    ∙ ap (alias_body c.args.caller) (c.plan_alias-shown.ensures world asked.ready.stands.pages))
    c.later-time.ensures.value refl
    (c.from_vec-none.ensures ∙ c.new.ensures.items) c.in-Ok-newcomer_plan.ensures
