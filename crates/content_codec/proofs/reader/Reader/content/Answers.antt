-- A title and blocks that were read are a content exactly where they keep the limits.
use Rattle.std.proofs.Common.{refl}
use Rattle.site_types.specs.Content.{content_of}
use Rattle.content_codec.specs.Contents.{content_at}
use Rattle.content_codec.proofs.Limits.{content_is_kept, no_content_is_kept}
use Rattle.content_codec.proofs.reader.Reader.content.Goals as goal

pub returns-in-Some : goal.returns-in-Some
unfolding content_at
returns-in-Some c =
    content_is_kept _ (content_of c.in_ok-title.title c.in_ok-blocks.blocks) c.in-Some.content
    c.blocks-2.new.self (rw (c.in_ok-title.ensures, c.in_ok-blocks.ensures) refl)
    c.in-Some.ensures.0 c.in-Some.ensures.1

pub returns-in-None : goal.returns-in-None
unfolding content_at
returns-in-None c =
    no_content_is_kept _ (content_of c.in_ok-title.title c.in_ok-blocks.blocks)
    c.blocks-2.new.self (rw (c.in_ok-title.ensures, c.in_ok-blocks.ensures) refl) c.in-None.ensures
