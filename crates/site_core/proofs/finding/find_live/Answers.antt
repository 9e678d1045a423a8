-- The page with the URL is looked for, and then asked.
use Rattle.std.proofs.Common.{Some, None, cond, sym, ap, ◌∙◌}
use Rattle.site_core.proofs.FindLemmas.{none_at, one_at}
use Rattle.site_core.proofs.finding.find_live.Goals as goal

pub returns-in_default : goal.returns-in_default
returns-in_default c = λ tree is slugs.
    sym (none_at c.args.rows.now.pages tree c.len-len.ensures.pages is slugs c.args.url.now
    (sym (c.walk.ensures tree is slugs) ∙ c.in_default.is))

pub returns-then-is_live : goal.returns-then-is_live
returns-then-is_live c = λ tree is slugs.
    sym (one_at c.args.rows.now.pages tree c.len-len.ensures.pages is slugs c.args.url.now
    c.in-Some.page (sym (c.walk.ensures tree is slugs) ∙ c.in-Some.is) c.is_live.result
    (λ row found. c.is_live.ensures tree row is found)
    ∙ ap (λ t. cond t (Some c.in-Some.page) None) c.if-is_live.true)

pub returns-else-is_live : goal.returns-else-is_live
returns-else-is_live c = λ tree is slugs.
    sym (one_at c.args.rows.now.pages tree c.len-len.ensures.pages is slugs c.args.url.now
    c.in-Some.page (sym (c.walk.ensures tree is slugs) ∙ c.in-Some.is) c.is_live.result
    (λ row found. c.is_live.ensures tree row is found)
    ∙ ap (λ t. cond t (Some c.in-Some.page) None) c.if-is_live.false)
