-- Each desk that ends is the next of those that do.
use Rattle.std.proofs.Common.{ℕ, Vec, Global, ap}
use Rattle.lost_desks.specs.Losses.{is_lost_by}
use Rattle.lost_desks.proofs.LossLemmas.{lost_more, kept_more}
use Rattle.lost_desks.proofs.loss.lost_desks.Goals as goal
use Rattle.lost_desks.proofs.loss.lost_desks.Goals.{in-Some+in_ok-push, in_default}

pub loop-place-preserved : goal.loop-place-preserved
loop-place-preserved c world has =
    elim c.match-lost_at.branch [
      | in-Some+in_ok-push w ↦
          let before = c.loop-place.invariant world has in
          let more = lost_more (is_lost_by world c.args.loss.now) world.desk_pairs c.loop-place.place
          w.in-Some.page (w.in-Some.ensures world has) in
          let pushed = w.in_ok-push.ensures.items in
          let value = w.get.ensures.value in
          let items = ap (λ (v : Vec ℕ Global). v.items) w.pages-is in
          cc
      | in_default w ↦
          let before = c.loop-place.invariant world has in
          let more = kept_more (is_lost_by world c.args.loss.now) world.desk_pairs c.loop-place.place
          (w.in_default.ensures world has) in
          let items = ap (λ (v : Vec ℕ Global). v.items) w.pages-is in
          cc
    ]
