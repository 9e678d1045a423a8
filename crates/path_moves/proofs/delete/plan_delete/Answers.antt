-- The ids of the range are those of the page and of all below it.
use Rattle.std.proofs.Common.{◌∙◌, rules}
use Rattle.path_moves.proofs.CallLemmas.{deleted_is, none_deleted}
use Rattle.path_moves.proofs.delete.plan_delete.Goals as goal

pub returns-in_ok-ids-in-Some : goal.returns-in_ok-ids-in-Some
returns-in_ok-ids-in-Some c tree same =
    deleted_is c.args.rows.now.pages c.args.page c.in-Some.place c.in-Some.count _ tree
    c.len-len.ensures.pages (c.in-Some.ensures.there.0 (search rules)) c.in-Some.ensures.range
    (c.from_vec.ensures ∙ c.in_ok-ids-in-Some.ensures) same

pub returns-in-None : goal.returns-in-None
returns-in-None c tree same =
    none_deleted c.args.rows.now.pages c.args.page _ tree
    (λ there. let h = c.in-None.ensures.there.1 there in search rules)
    (c.from_vec-in-None.ensures ∙ c.new.ensures.items) same
