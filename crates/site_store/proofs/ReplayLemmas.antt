-- What reading entries and doing them leaves.
use Rattle.std.proofs.Common.{◌≡◌, inl, inr, ℕ, ◌<◌, List, [], ◌∷◌, ◌++◌, length, drop, Result, Ok, Err, IsErr, IsErrAnd, refl, sym, ◌∙◌, ap, subst, arith, take-append-drop, length-drop}
use Rattle.site_types.specs.declared.entry.Entry.{Entry}
use Rattle.site_types.specs.declared.refusal.Refusal.{Refusal}
use Rattle.site_model.specs.World.{World}
use Rattle.site_model.specs.Step.{step}
use Rattle.site_core.specs.declared.state.Core.{Core}
use Rattle.journal.specs.Form.{front}
use Rattle.journal.specs.declared.fault.ScanFault.{ScanFault}
use Rattle.journal.specs.declared.fault.ScanFault.TheVariants.{Bad, Failed, Memory}
use Rattle.entry_log.specs.declared.scan.EntryScan.{EntryScan}
use Rattle.entry_log.specs.Entries as entries_of
use Rattle.entry_log.specs.Scan.{HasReadEntries}
use Rattle.site_store.specs.Recovery.{Stage, Leads}
use Rattle.site_store.specs.Opening.{IsBadAt, HasReplayed, HasRecovered, TellsFault, ReplaysAll}

-- bytes that are there have a first one
first_of : (bytes : List ℕ) → 0 < length bytes
    → (byte : ℕ) × (rest : List ℕ) × (bytes ≡ byte ∷ rest)
first_of [] some = absurd (omega (arith, some))
first_of (byte ∷ rest) some = (byte, rest, refl)

-- an entry that was read and that its world refuses
pub refused_at : (from : Stage) (bytes : List ℕ) (old new : EntryScan) (offset : ℕ)
    (entries : List Entry) (world : World) (entry : Entry) (refusal : Refusal)
    → Leads from.world entries world → step world entry ≡ Err refusal
    → HasReadEntries old bytes from.number entries
    → HasReadEntries new bytes from.number (entries ++ entry ∷ []) → new.scan.k ≡ old.scan.k
    → offset ≡ old.scan.gate → IsBadAt old.scan.k from bytes offset
refused_at from bytes old new offset entries world entry refusal leads refused before after same_k
    offset_is =
    let forms = entries_of.forms (entries ++ entry ∷ []) in
    let (byte, rest, first) = first_of (drop new.scan.gate bytes)
    (omega (arith, length-drop new.scan.gate bytes, after.records.more, after.records.size)) in
    inr (inr (record {
      entries = entries;
      world = world;
      leads = leads;
      entry = entry;
      refusal = refusal;
      refused = refused;
      are = after.are;
      fit = after.records.fit;
      offset_is = offset_is ∙ before.records.gate;
      gate = byte;
      rest = rest;
      is = sym (take-append-drop new.scan.gate bytes)
          ∙ (ap (λ l. l ++ drop new.scan.gate bytes)
          (after.records.read ∙ ap (λ k. front k forms) same_k)
          ∙ ap (λ l. front old.scan.k forms ++ l) first);
    }))

-- what a fault of a scan tells
pub fault_tells : (sure : Type 0) (k : ℕ) (bytes : List ℕ) (from : Stage) (entries : List Entry)
    (world : World) (fault : ScanFault) → Leads from.world entries world
    → (sure → (offset : ℕ) → fault ≡ Bad offset
    → entries_of.IsBadAt k from.number entries bytes offset)
    → TellsFault sure k bytes from fault
fault_tells sure k bytes from entries world (Bad offset) leads bad = λ is.
    inr (inl (record {
      entries = entries;
      world = world;
      leads = leads;
      bad = bad is offset refl;
    }))
fault_tells sure k bytes from entries world Failed leads bad = tt
fault_tells sure k bytes from entries world Memory leads bad = tt

-- what was read and done is that with another premise
pub HasReplayed-under : (sure other : Type 0) (bytes others : List ℕ) (from : Stage)
    (scan : EntryScan) (core : Core) → (other → sure) → (other → bytes ≡ others)
    → HasReplayed sure bytes from scan core → HasReplayed other others from scan core
HasReplayed-under sure other bytes others from scan core under same replayed = record {
  world = replayed.world;
  entries = replayed.entries;
  ready = replayed.ready;
  leads = replayed.leads;
  read = λ is. subst (λ l. HasReadEntries scan l from.number replayed.entries) (same is)
      (replayed.read (under is));
}

-- so is what was read to its end
pub HasRecovered-under : (sure other : Type 0) (bytes others : List ℕ) (from : Stage)
    (scan : EntryScan) (core : Core) → (other → sure) → (other → bytes ≡ others)
    → HasRecovered sure bytes from scan core → HasRecovered other others from scan core
HasRecovered-under sure other bytes others from scan core under same recovered = record {
  world = recovered.world;
  entries = recovered.entries;
  ready = recovered.ready;
  leads = recovered.leads;
  ended = recovered.ended;
  are = λ is. subst (λ l. entries_of.RecoversTo scan.scan.k from.number recovered.entries l)
      (same is) (recovered.are (under is));
  gate = λ is. recovered.gate (under is);
  number = λ is. recovered.number (under is);
}

-- so is what a fault tells
pub TellsFault-under : (sure other : Type 0) (k : ℕ) (bytes others : List ℕ) (from : Stage)
    (fault : ScanFault) → (other → sure) → (other → bytes ≡ others)
    → TellsFault sure k bytes from fault → TellsFault other k others from fault
TellsFault-under sure other k bytes others from (Bad offset) under same tells = λ is.
    subst (λ l. IsBadAt k from l offset) (same is) (tells (under is))
TellsFault-under sure other k bytes others from Failed under same tells = tt
TellsFault-under sure other k bytes others from Memory under same tells = tt

-- a fault that is handed on
pub fault_handed_on : (sure : Type 0) (k : ℕ) (bytes : List ℕ) (from : Stage) (scan : EntryScan)
    (core : Core) (result : Result (Unit {0}) ScanFault) (fault : ScanFault)
    → IsErr result → IsErrAnd result (λ told. told ≡ fault) → TellsFault sure k bytes from fault
    → ReplaysAll sure k bytes from scan core result
fault_handed_on sure k bytes from scan core (Ok done) fault is gives tells = absurd (cc)
fault_handed_on sure k bytes from scan core (Err told) fault is gives tells =
    subst (TellsFault sure k bytes from) (sym gives) tells

module _ (sure honest : Type 0) (bytes others : List ℕ) (from : Stage) (scan : EntryScan)
    (core : Core) (was : HasReplayed sure bytes from scan core) (under : sure → honest)
    (same : sure → others ≡ bytes) where
  -- the premise of what is read next
  still : sure → honest × HasReadEntries scan others from.number was.entries
  still is = (
    under is,
    subst (λ l. HasReadEntries scan l from.number was.entries) (sym (same is))
        (was.read is),
  )

  -- one entry more
  pub replayed_on : (mid : EntryScan) (after : Core)
      → HasReplayed (honest × HasReadEntries scan others from.number was.entries) others from mid
      after → HasReplayed sure bytes from mid after
  replayed_on mid after replayed =
      HasReplayed-under _ sure others bytes from mid after still same replayed

  -- the end
  pub recovered_on : (mid : EntryScan) (after : Core)
      → HasRecovered (honest × HasReadEntries scan others from.number was.entries) others from mid
      after → HasRecovered sure bytes from mid after
  recovered_on mid after recovered =
      HasRecovered-under _ sure others bytes from mid after still same recovered

  -- a fault
  pub tells_on : (k other : ℕ) (fault : ScanFault) → k ≡ other
      → TellsFault (honest × HasReadEntries scan others from.number was.entries) k others from fault
      → TellsFault sure other bytes from fault
  tells_on k other fault same_k tells =
      subst (λ n. TellsFault sure n bytes from fault) same_k
      (TellsFault-under _ sure k others bytes from fault still same tells)
