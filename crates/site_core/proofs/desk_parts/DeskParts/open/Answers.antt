-- One part has a desk more.
use Rattle.std.proofs.Common.{sym, ap, ◌∙◌}
use Rattle.std.proofs.lemmas.List as lists
use Rattle.desks.specs.Desks.{with_desk, desk_of}
use Rattle.site_core.specs.Texts.{DeskLists, kept_on}
use Rattle.site_core.proofs.PartLemmas.{lists_set, stripes_set, seen_within, in_with_desk}
use Rattle.site_core.proofs.KeptLemmas.{kept_opened}
use Rattle.site_core.proofs.desk_parts.DeskParts.open.Goals as goal

pub invariant_of-self : goal.invariant_of-self
invariant_of-self c = (
  lists.length-set c.self.inside.parts.items c.stripe_of-at.result c.open.new.self ∙ c.self.invariant.0,
  stripes_set (λ part. part.desks) (with_desk (desk_of c.args.page c.args.user c.args.text))
      c.self.inside.parts.items c.args.self.now.lists
      c.args.page c.stripe_of-at.result c.index_mut.result.now c.open.new.self _
      c.stripe_of-at.ensures c.self.invariant.0
      (ap (λ (seen : DeskLists). seen.lists) (sym c.self.view_is)) c.index_mut.ensures.value
      c.open.ensures.desks
      c.self.invariant.1
      (λ list all. in_with_desk c.stripe_of-at.result
      (desk_of c.args.page c.args.user c.args.text) list (sym c.stripe_of-at.ensures) all),
)

pub returns-clause-lists : goal.returns-clause-lists
returns-clause-lists c =
    lists_set (λ part. part.desks) (with_desk (desk_of c.args.page c.args.user c.args.text))
    c.self.inside.parts.items c.args.self.now.lists
    c.args.page c.stripe_of-at.result c.index_mut.result.now c.open.new.self _
    c.stripe_of-at.ensures c.self.invariant.0
    (ap (λ (seen : DeskLists). seen.lists) (sym c.self.view_is)) c.index_mut.ensures.value
    c.open.ensures.desks

pub returns-clause-kept : goal.returns-clause-kept
returns-clause-kept c = λ page.
    ap (kept_on page)
    (lists_set (λ part. part.desks) (with_desk (desk_of c.args.page c.args.user c.args.text))
    c.self.inside.parts.items c.args.self.now.lists
    c.args.page c.stripe_of-at.result c.index_mut.result.now c.open.new.self _
    c.stripe_of-at.ensures c.self.invariant.0
    (ap (λ (seen : DeskLists). seen.lists) (sym c.self.view_is)) c.index_mut.ensures.value
    c.open.ensures.desks)
    ∙ kept_opened c.args.self.now.lists c.args.page
    (seen_within (λ part. part.desks) c.self.inside.parts.items c.args.self.now.lists c.args.page
    c.self.invariant.0 (ap (λ (seen : DeskLists). seen.lists) (sym c.self.view_is)))
    c.args.user c.args.text c.requires.free page
