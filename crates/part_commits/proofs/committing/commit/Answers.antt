-- There is room for the links that were planned, and they are those after the change.
use Rattle.std.proofs.Common.{ℕ, ◌≤◌, List, sym, ap, subst, ◌∙◌}
use Rattle.flat_model.specs.Lists.{PartLists}
use Rattle.link_index.specs.Pairs.{PairList, has_pair}
use Rattle.link_plans.specs.Told.{links_told, total_links}
use Rattle.part_commits.proofs.LinkLemmas.{links_put}
use Rattle.part_commits.proofs.committing.commit.Goals as goal

pub put_links-requires : goal.put_links-requires
put_links-requires c = record {
  room = subst (λ (planned : List (ℕ × List ℕ)). total_links planned ≤ c.make.new.part.links.spare)
      (sym c.as_slice.ensures)
      (subst (λ (links : PairList). total_links c.args.plan.links ≤ links.spare)
      (sym c.make.ensures.links) c.requires.links.room);
}

pub returns-clause-linked : goal.returns-clause-linked
returns-clause-linked c =
    let before = c.args.part.now in
    let plan = c.args.plan in
    links_put before.rows.pages c.make.new.part.rows.pages before.shelf.revisions
    c.make.new.part.shelf.revisions plan.change plan.links before.links.pairs
    c.put_links.new.index.pairs c.requires.linked c.requires.links.after
    (ap (λ (lists : PartLists). lists.pages) c.make.ensures.made)
    (ap (λ (lists : PartLists). lists.revisions) c.make.ensures.made)
    (λ linked page.
    c.put_links.ensures.there linked page
    ∙ (ap (λ (planned : List (ℕ × List ℕ)).
    links_told planned page linked (has_pair linked page c.make.new.part.links.pairs))
    c.as_slice.ensures
    ∙ ap (λ (links : PairList). links_told plan.links page linked (has_pair linked page links.pairs))
    c.make.ensures.links))
