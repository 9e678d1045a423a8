-- A user's desk on a page is the one on the page.
use Rattle.std.proofs.Common.{sym, ap, ◌∙◌}
use Rattle.desks.specs.Desks.{desk_in}
use Rattle.desks.specs.Laws.{own_text}
use Rattle.desks.proofs.DeskLemmas.{own_is}
use Rattle.site_core.specs.Texts.{DeskLists}
use Rattle.site_core.proofs.PartLemmas.{list_seen}
use Rattle.site_core.proofs.desk_parts.DeskParts.text.Goals as goal

pub returns : goal.returns
returns c =
    c.text.ensures
    ∙ (own_is c.args.page c.args.user c.index-part.result.now.desks c.len-len.ensures.rises
    ∙ ap (λ desks. own_text c.args.user (desk_in c.args.page desks))
    (sym (list_seen (λ part. part.desks) c.self.inside.parts.items c.args.self.now.lists
    c.args.page c.stripe_of.result c.index-part.result.now _ c.stripe_of.ensures
    c.self.invariant.0 (ap (λ (seen : DeskLists). seen.lists) (sym c.self.view_is))
    c.index-part.ensures)))
