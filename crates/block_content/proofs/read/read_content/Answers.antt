-- The parts of a content make it, where they keep the limits.
use Rattle.std.proofs.Common.{sym, ◌∙◌}
use Rattle.serde_json.specs.View.{view}
use Rattle.block_content.proofs.ReadLemmas.{content_is_read, nothing_is_read}
use Rattle.block_content.proofs.read.read_content.Goals as goal

pub returns-in-Some-clause-ok : goal.returns-in-Some-clause-ok
returns-in-Some-clause-ok c =
    content_is_read (view c.args.value.now) c.in_ok-title.title c.in_ok-blocks.blocks
    c.in-Some.content (sym c.has_exactly.ensures ∙ c.if-not-has_exactly.false)
    c.in_ok-title.ensures c.in_ok-blocks.ensures c.in-Some.ensures.0 c.in-Some.ensures.1

pub returns-in-None-clause-bad : goal.returns-in-None-clause-bad
returns-in-None-clause-bad c =
    λ is. nothing_is_read (view c.args.value.now) c.in_ok-title.title c.in_ok-blocks.blocks
    (sym c.has_exactly.ensures ∙ c.if-not-has_exactly.false)
    c.in_ok-title.ensures c.in_ok-blocks.ensures c.in-None.ensures
