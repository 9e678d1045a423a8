-- The page above the target is there.
use Rattle.std.proofs.Common.{◌≡◌, sym, subst, IsSome}
use Rattle.page_tree.specs.Rows.{row_with}
use Rattle.page_store.proofs.ParentLemmas.{parent_there}
use Rattle.page_store.proofs.parent.new_parent.Goals as goal

pub unreachable-requires : goal.unreachable-requires
unreachable-requires c =
    let has = parent_there c.args.rows.now.pages c.args.target _ c.len-len.ensures.pages
    c.requires.target_there (c.requires.below_root (sym c.if-is_beside.ensures))
    c.in_default.ensures in
    let never = has.1 in cc

pub returns-in-Some-clause-there : goal.returns-in-Some-clause-there
returns-in-Some-clause-there c =
    let has = parent_there c.args.rows.now.pages c.args.target _ c.len-len.ensures.pages
    c.requires.target_there (c.requires.below_root (sym c.if-is_beside.ensures)) c.in-Some.ensures
    in
    let same : has.0 ≡ c.in-Some.parent = (let both = has.1 in cc) in
    subst (λ id. IsSome (row_with id c.args.rows.now.pages)) same has.2
