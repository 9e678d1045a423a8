-- How the page above a page is kept: as its number, or as 0 if there is none.
use Rattle.std.specs.Prelude.{ℕ, zero, suc, Option, Some, None}

-- the page with this number, if it is not 0
abbrev pub page_numbered : ℕ → Option ℕ
page_numbered zero = None
page_numbered (suc n) = Some (suc n)
