-- The copy's own row, and those of the copies below so far.
use Rattle.std.proofs.Common.{◌≡◌, ◌+◌, ◌∷◌, map, take, drop}
use Rattle.site_model.specs.World as worlds
use Rattle.site_model.specs.Create.{fresh_body}
use Rattle.site_part.specs.Standing.{IsReady}
use Rattle.page_copies.specs.Copied.{copy_rows}
use Rattle.new_pages.specs.Copying.{AreLeft, moved_row}
use Rattle.new_pages.specs.Making.{row_at}
use Rattle.new_pages.proofs.copied_rows.coming_rows.Given as goal

abbrev pub invariant-loop-done : goal.invariant-loop-done
invariant-loop-done l =
    (world : worlds.TreePart) → IsReady l.part world → AreLeft world l.source.rest →
    l.rows.items
    ≡ (
      row_at (world.next_page + 0) l.place.path l.slug
          (fresh_body l.caller (world.next_revision + 0)),
      l.place.url,
    )
    ∷ copy_rows world l.caller 1
    (map (moved_row l.source l.place) (take l.done (drop l.source.start l.part.rows.pages)))
