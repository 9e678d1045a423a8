-- One alias more, and all aliases.
use Rattle.std.proofs.Common.{◌≡◌, ◌∙◌, ℕ, List, Bool, nat_eq, cond, ap, sym}
use Rattle.std.proofs.lemmas.List.{drop_all}
use Rattle.std.specs.List.{list_any}
use Rattle.link_index.specs.Pairs.{seconds_of}
use Rattle.link_index.proofs.LawLemmas.{has_second}
use Rattle.link_plans.specs.PageLinks.{live_links}
use Rattle.link_plans.specs.Told.{finds_told, links_told}
use Rattle.link_plans.proofs.GatheredLemmas.{ones_told, ones_are, ones_step}
use Rattle.link_plans.proofs.gathered.add_aliases_of.Goals as goal

pub loop-number-preserved : goal.loop-number-preserved
loop-number-preserved c = λ page linked was.
    let finds = finds_told c.args.edit.now.rows.now.pages c.args.edit.now.shelf.now.revisions
    c.args.edit.now.new.now c.args.edit.now.fates.now in
    ones_step (live_links finds c.args.fate.now.body) c.as_slice-number-items.result.now
    c.loop-number.number-index _ c.loop-number-test.true c.page_of.ensures page linked was _
    c.loop-number.planned.items c.in_ok-ids.ids c.push.new.self.items c.in_ok-push.ensures.items
    c.in_ok-ids.ensures (c.loop-number.invariant page linked was)

pub returns : goal.returns
returns c = λ page linked was.
    let finds = finds_told c.args.edit.now.rows.now.pages c.args.edit.now.shelf.now.revisions
    c.args.edit.now.new.now c.args.edit.now.fates.now in
    let items = c.as_slice-number-items.result.now in
    let value = live_links finds c.args.fate.now.body linked in
    let before = links_told c.args.planned.now.items page linked was in
    let items_are : items ≡ seconds_of c.args.fate.now.page c.args.aliases.now.pairs =
    c.as_slice-number-items.ensures ∙ c.in_ok-pages.ensures.ok in
    ap (λ (left : List ℕ). ones_told value left page
    (links_told c.loop-number.planned.items page linked was))
    (sym (drop_all c.loop-number.number-index items c.loop-number-test.false))
    ∙ c.loop-number.invariant page linked was
    ∙ ones_are value items page before
    ∙ ap (λ (list : List ℕ). cond (list_any (nat_eq page) list) value before) items_are
    ∙ ap (λ (there : Bool). cond there value before)
    (has_second c.args.fate.now.page page c.args.aliases.now.pairs)
