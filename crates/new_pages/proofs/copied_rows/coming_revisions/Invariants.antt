-- The revisions so far with those that are left are all.
use Rattle.std.proofs.Common.{◌≡◌, ◌+◌, ◌++◌, length}
use Rattle.site_model.specs.World as worlds
use Rattle.site_part.specs.Standing.{IsReady}
use Rattle.page_copies.specs.Copied.{revisions_of}
use Rattle.new_pages.proofs.copied_rows.coming_revisions.Given as goal

abbrev pub invariant-loop-content : goal.invariant-loop-content
invariant-loop-content l =
    record {
      all : (world : worlds.TreePart) → IsReady l.part world →
          l.revisions.items
          ++ revisions_of world l.caller l.time l.done l.content-iterator.rest.items
          ≡ revisions_of world l.caller l.time 0 l.initial.content-iterator.rest.items;
      count : l.done + length l.content-iterator.rest.items
          ≡ length l.initial.content-iterator.rest.items;
    }
