-- The page has a row, and those below it follow.
use Rattle.std.proofs.Common.{arith}
use Rattle.path_moves.proofs.CallLemmas.{row_text}
use Rattle.new_pages.proofs.SourceLemmas.{path_read, url_read, rest_is}
use Rattle.new_pages.proofs.source.source_of.Goals as goal

pub unreachable-requires-in_default-read : goal.unreachable-requires-in_default-read
unreachable-requires-in_default-read c =
    c.in_default-read.ensures.path
    (row_text c.args.rows.now.pages c.args.page c.in-Some-row.row.now _ c.len-len.ensures.pages
    c.in-Some-row.ensures c.as_slice.ensures.value).0

pub returns : goal.returns
returns c = λ part rows.
    let copied = c.in-Some.ensures.copied part rows in
    let text = row_text c.args.rows.now.pages c.args.page c.in-Some-row.row.now _
    c.len-len.ensures.pages c.in-Some-row.ensures c.as_slice.ensures.value in
    let rest = rest_is c.args.rows.now.pages c.in-Some.place c.in-Some.count copied.top _
    copied.rows_are in
    let some = rest.0 in
    let within = copied.within in
    record {
      top = copied.top;
      step = copied.step;
      kids = copied.kids;
      found = copied.found;
      path = path_read c.args.rows.now.pages c.args.page copied.top _ _ copied.found text.1
          c.in-Some-read.ensures.path.1;
      url = url_read c.args.rows.now.pages c.args.page copied.top c.in-Some-url.url.now _
          copied.found c.in-Some-url.ensures c.len.ensures;
      within = omega (arith, some, within);
      rows_are = rest.1;
      copied = copied.copied;
    }
