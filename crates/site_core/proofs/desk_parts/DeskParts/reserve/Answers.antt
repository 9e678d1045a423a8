-- One part has more room.
use Rattle.std.proofs.Common.{◌≤◌, sym, ap, subst, ◌∙◌}
use Rattle.std.specs.Result.{OnOk}
use Rattle.std.proofs.lemmas.List as lists
use Rattle.std.proofs.Math.Seq.{map-set_same}
use Rattle.site_core.specs.Texts.{DeskLists, InStripes}
use Rattle.site_core.proofs.PartLemmas.{room_set}
use Rattle.site_core.proofs.desk_parts.DeskParts.reserve.Goals as goal

pub invariant_of-self : goal.invariant_of-self
invariant_of-self c = (
  lists.length-set c.self.inside.parts.items c.stripe_of-at.result c.reserve.new.self ∙ c.self.invariant.0,
  subst InStripes
      (sym (map-set_same (λ part. part.desks) c.self.inside.parts.items c.stripe_of-at.result
      c.reserve.new.self _ (c.reserve.ensures.desks ∙ ap (λ part. part.desks) c.index_mut.ensures.value)))
      c.self.invariant.1,
)

pub returns-clause-lists : goal.returns-clause-lists
returns-clause-lists c =
    map-set_same (λ part. part.desks) c.self.inside.parts.items c.stripe_of-at.result
    c.reserve.new.self _ (c.reserve.ensures.desks ∙ ap (λ part. part.desks) c.index_mut.ensures.value)
    ∙ ap (λ (seen : DeskLists). seen.lists) c.self.view_is

pub returns-clause-ok : goal.returns-clause-ok
returns-clause-ok c =
    subst (λ room. OnOk c.reserve.result (1 ≤ room))
    (sym (room_set (λ part. part.spare) c.self.inside.parts.items c.args.page
    c.stripe_of-at.result c.reserve.new.self c.stripe_of-at.ensures c.self.invariant.0))
    c.reserve.ensures.ok
