-- The civil second at a moment exists, and its text is that of the moment.
use Rattle.std.proofs.Common.{ap, ◌∙◌}
use Rattle.civil_time.specs.Civil.{Civil, civil_text}
use Rattle.civil_time.specs.TimeText.{time_text}
use Rattle.time_table.specs.Parts.{civil_of}
use Rattle.time_table.proofs.WrittenLemmas.{civil_is_written}
use Rattle.time_table.proofs.text.print_time.Goals as goal

pub print_parts-requires : goal.print_parts-requires
print_parts-requires c = civil_is_written (civil_of c.civil_at.result) c.civil_at.ensures.exists

pub returns : goal.returns
unfolding time_text
returns c =
    c.print_parts.ensures ∙ ap (λ (civil : Civil). civil_text civil) c.civil_at.ensures.value
