-- One part has another text.
use Rattle.std.proofs.Common.{sym, ap, ◌∙◌}
use Rattle.std.proofs.lemmas.List as lists
use Rattle.desks.specs.Desks.{with_text}
use Rattle.site_core.specs.Texts.{DeskLists, kept_on}
use Rattle.site_core.proofs.PartLemmas.{lists_set, stripes_set, seen_within, in_with_text}
use Rattle.site_core.proofs.KeptLemmas.{kept_saved}
use Rattle.site_core.proofs.desk_parts.DeskParts.save.Goals as goal

pub invariant_of-self : goal.invariant_of-self
invariant_of-self c = (
  lists.length-set c.self.inside.parts.items c.stripe_of-at.result c.save.new.self ∙ c.self.invariant.0,
  stripes_set (λ part. part.desks) (with_text c.args.page c.args.user c.args.text)
      c.self.inside.parts.items c.args.self.now.lists
      c.args.page c.stripe_of-at.result c.index_mut.result.now c.save.new.self _
      c.stripe_of-at.ensures c.self.invariant.0
      (ap (λ (seen : DeskLists). seen.lists) (sym c.self.view_is)) c.index_mut.ensures.value
      c.save.ensures.desks
      c.self.invariant.1
      (λ list all. in_with_text c.stripe_of-at.result c.args.page c.args.user c.args.text list all),
)

pub returns-clause-lists : goal.returns-clause-lists
returns-clause-lists c =
    lists_set (λ part. part.desks) (with_text c.args.page c.args.user c.args.text)
    c.self.inside.parts.items c.args.self.now.lists
    c.args.page c.stripe_of-at.result c.index_mut.result.now c.save.new.self _
    c.stripe_of-at.ensures c.self.invariant.0
    (ap (λ (seen : DeskLists). seen.lists) (sym c.self.view_is)) c.index_mut.ensures.value
    c.save.ensures.desks

pub returns-clause-kept : goal.returns-clause-kept
returns-clause-kept c = λ page.
    ap (kept_on page)
    (lists_set (λ part. part.desks) (with_text c.args.page c.args.user c.args.text)
    c.self.inside.parts.items c.args.self.now.lists
    c.args.page c.stripe_of-at.result c.index_mut.result.now c.save.new.self _
    c.stripe_of-at.ensures c.self.invariant.0
    (ap (λ (seen : DeskLists). seen.lists) (sym c.self.view_is)) c.index_mut.ensures.value
    c.save.ensures.desks)
    ∙ kept_saved c.args.self.now.lists c.args.page
    (seen_within (λ part. part.desks) c.self.inside.parts.items c.args.self.now.lists c.args.page
    c.self.invariant.0 (ap (λ (seen : DeskLists). seen.lists) (sym c.self.view_is)))
    c.args.user c.args.text page
