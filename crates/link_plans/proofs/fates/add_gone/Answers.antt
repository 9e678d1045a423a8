-- The pages of the range are those that go.
use Rattle.std.proofs.Common.{◌≡◌, ◌++◌, ℕ, List, IsSome, sym, subst, rules}
use Rattle.std.specs.Prelude.{OnOk}
use Rattle.std.proofs.lemmas.List.{append-nil}
use Rattle.page_tree.specs.Rows.{row_with}
use Rattle.link_plans.specs.Told.{gone_fates}
use Rattle.link_plans.proofs.GoingLemmas.{none_gone, range_gone, range_within}
use Rattle.link_plans.proofs.fates.add_gone.Goals as goal

pub add_range-requires : goal.add_range-requires
add_range-requires c =
    range_within c.args.page c.args.rows.now.pages c.in-Some.place c.in-Some.count
    (c.in-Some.ensures.there.0 (search rules)) c.in-Some.ensures.range

pub returns-in-Some : goal.returns-in-Some
returns-in-Some c =
    let there : IsSome (row_with c.args.page c.args.rows.now.pages) =
    c.in-Some.ensures.there.0 (search rules) in
    subst (λ (ids : List ℕ).
    OnOk c.add_range.result (c.add_range.new.fates.items ≡ c.args.fates.now.items ++ gone_fates ids))
    (range_gone c.args.page c.args.rows.now.pages c.in-Some.place c.in-Some.count there
    c.in-Some.ensures.range)
    c.add_range.ensures

pub returns-in-None : goal.returns-in-None
returns-in-None c =
    rw (none_gone c.args.page c.args.rows.now.pages c.in-None.ensures.there.1)
    (sym (append-nil c.args.fates.now.items))
