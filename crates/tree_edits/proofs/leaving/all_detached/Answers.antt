-- One alias more.
use Rattle.std.proofs.Common.{◌+◌, length, refl, ap, ◌∙◌}
use Rattle.std.proofs.lemmas.Option.{slice_get_read}
use Rattle.tree_edits.specs.Leaving.{IsAliasHere}
use Rattle.tree_edits.proofs.LeavingMade.{all_more, at_place}
use Rattle.tree_edits.proofs.leaving.all_detached.Goals as goal

pub detach_page-requires : goal.detach_page-requires
detach_page-requires c =
    let at = slice_get_read c.args.aliases.now (length c.args.aliases.now) c.loop-done.done
    c.index-aliases-done.result refl c.loop-done-test.true c.index-aliases-done.is in (
      c.requires.0,
      c.requires.1,
      at_place (IsAliasHere c.requires.0.tree) c.args.aliases.now c.loop-done.done
          c.index-aliases-done.result c.requires.2 at,
    )

pub loop-done-preserved : goal.loop-done-preserved
loop-done-preserved c = λ world ready here.
    let at = slice_get_read c.args.aliases.now (length c.args.aliases.now) c.loop-done.done
    c.index-aliases-done.result refl c.loop-done-test.true c.index-aliases-done.is in
    let made = c.in_ok-body.ensures world ready
    (at_place (IsAliasHere world.tree) c.args.aliases.now c.loop-done.done
    c.index-aliases-done.result here at) in
    all_more world c.args.time c.args.caller c.args.aliases.now c.loop-done.done
    c.index-aliases-done.result c.in-Some.id c.in_ok-body.field-0.body
    c.in_ok-body.field-0.revision
    c.loop-done.bodies.items _ c.loop-done.revisions.items _ c.loop-done-test.true at
    (c.in-Some.ensures.1 ∙ ap (λ n. n + c.loop-done.done) ready.stands.next_revision)
    (c.loop-done.invariant world ready here) made.body made.revision
    c.in_ok-push.ensures.items
    c.in_ok-push-2.ensures.items
