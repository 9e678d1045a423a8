-- The row of a page keeps the text of its path.
use Rattle.std.proofs.Common.{sym, ap, ◌∙◌, Some}
use Rattle.path_moves.proofs.CallLemmas.{row_text}
use Rattle.path_moves.proofs.look.path_of.Goals as goal

pub unreachable-requires : goal.unreachable-requires
unreachable-requires c =
    c.in_default-read.ensures.path
    (row_text c.args.rows.now.pages c.args.page c.in-Some.row.now _ c.len-len.ensures.pages
    c.in-Some.ensures c.as_slice.ensures.value).0

pub returns-clause-value : goal.returns-clause-value
returns-clause-value c =
    ap Some c.in-Some-read.ensures.path.1
    ∙ sym (row_text c.args.rows.now.pages c.args.page c.in-Some.row.now _ c.len-len.ensures.pages
    c.in-Some.ensures c.as_slice.ensures.value).1
