-- What was written, with those that are left, is what is written at the end; the forms of those
-- that are left fit; and those that were written are right.
use Rattle.std.proofs.Common.{◌≡◌, ◌≤◌, ◌++◌, length, All, take, drop, IsUtf8}
use Rattle.site_types.specs.declared.limits.TheConstants.{MAX_CONTENT_BYTES}
use Rattle.site_types.specs.Content.{texts_form}
use Rattle.content_codec.proofs.writer.Writer.each_text.Given as goal

abbrev pub invariant-loop-text : goal.invariant-loop-text
invariant-loop-text l =
    (l.self ++ texts_form (drop l.text-index l.texts) ≡ l.fn.self ++ texts_form l.fn.texts)
    × (length (texts_form (drop l.text-index l.texts)) ≤ MAX_CONTENT_BYTES)
    × All IsUtf8 (take l.text-index l.texts)
