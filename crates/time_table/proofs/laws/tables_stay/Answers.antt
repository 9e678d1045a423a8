-- The law holds of each table.
use Rattle.std.proofs.Common.{not}
use Rattle.time_table.specs.Table.{is_of}
use Rattle.time_table.proofs.TableLemmas.{table_with, table_kept}
use Rattle.time_table.proofs.laws.tables_stay.Goals as goal

pub returns : goal.returns
returns c = λ page moment entries table. (
  table_with page moment entries table,
  table_kept (λ entry. not (is_of page entry)) entries table,
)
