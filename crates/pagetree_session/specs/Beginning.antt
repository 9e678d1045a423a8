-- The history that a session starts with, by what is in the file of the journal.
use Rattle.std.specs.Prelude.{ℕ, ◌≡◌, List, []}
use Rattle.site_store.specs.Opening.{start, BeginsAt, BeginsWith}
use Rattle.site_store.specs.Recovery.{end_of}
use Rattle.wire_model.specs.Exchange.{Past, IsLegal}

-- A history that a session starts with, on a disk whose file 3 has these bytes: it has no items, its
-- log has no entries yet, and, if the disk is honest, it is where the file recovers to, with as many
-- bytes of the journal as the file has up to its first gate that is not open; a new site if the file is
-- empty, whose first user has the token `abc`.
pub record IsStart (honest : Type 0) (file : List ℕ) (past : Past) : Type 0 where
  pub legal : IsLegal past
  pub fresh : past.items ≡ []
  pub no_entries : past.start.log.entries ≡ 0
  pub no_bytes : past.start.log.bytes ≡ 0
  pub begins : honest → BeginsAt 1 start file (end_of past)
  pub journal : honest → BeginsWith 1 start.number file past.start.log.journal
