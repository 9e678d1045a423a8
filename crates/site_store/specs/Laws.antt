-- The law of a journal's file, proved in src/laws.rt.
use Rattle.std.specs.Prelude.{ℕ, List}
use Rattle.site_store.specs.Recovery.{Stage, Recovers}
use Rattle.site_store.specs.Opening.{IsBadAt}

-- a file that recovers is bad nowhere
abbrev pub RecoversSoundly : Type 0
RecoversSoundly =
    (k : ℕ) (from at : Stage) (bytes : List ℕ) (offset : ℕ) → Recovers k from at bytes
    → IsBadAt k from bytes offset → ⊥
