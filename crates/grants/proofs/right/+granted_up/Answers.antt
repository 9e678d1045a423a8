-- The page above is less deep, and what is granted here comes to what is granted on the way to it.
use Rattle.std.proofs.Common.{map, ◌∙◌, rules}
use Rattle.std.specs.List.{list_any}
use Rattle.site_types.specs.declared.world_rows.Member.{Member}
use Rattle.site_model.specs.Rights.{gives}
use Rattle.grants.proofs.UpLemmas.{parent_is_up, held_up, held_alone}
use Rattle.grants.proofs.right.+granted_up.Goals as goal

pub granted_up-requires : goal.granted_up-requires
granted_up-requires t c =
    let up = parent_is_up c.args.rows.now.pages c.len-len.ensures.pages c.args.page c.in-Some.parent
    c.in-Some.ensures in
    let there = up.there in
    let less = up.less_deep in
    search rules

pub returns-in-Some : goal.returns-in-Some
returns-in-Some t c tree same =
    c.either.ensures
    ∙ held_up c.args.rows.now.pages c.len-len.ensures.pages tree same c.args.page
    c.requires.there
    (λ p page. list_any (gives (map (λ (m : Member). m.group) c.args.members.now) p page)
    c.args.grants.now)
    c.in-Some.parent c.granted_up.result c.granted_at-here.result c.in-Some.ensures
    (c.granted_up.ensures tree same) c.granted_at-here.ensures

pub returns-in-None : goal.returns-in-None
returns-in-None t c tree same =
    held_alone c.args.rows.now.pages c.len-len.ensures.pages tree same c.args.page
    c.requires.there
    (λ p page. list_any (gives (map (λ (m : Member). m.group) c.args.members.now) p page)
    c.args.grants.now)
    c.granted_at-here.result c.in-None.ensures c.granted_at-here.ensures
