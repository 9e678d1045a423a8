-- What a store is at once it is opened.
use Rattle.std.proofs.Common.{◌≡◌, inl, inr, ℕ, ◌+◌, ◌≤◌, zero, suc, List, [], ◌∷◌, length, None, Result, Ok, Err, IfOk, OnOk, OnErr, refl, sym, ◌∙◌, ap, subst, arith, false}
use Rattle.std.proofs.lemmas.Bool.{cases_eq}
use Rattle.std.proofs.lemmas.List.{length-append}
use Rattle.disk_model.specs.Past.{Past, seen, with_sync}
use Rattle.disk_model.specs.Images.{MayHold, EachHolds}
use Rattle.disk_model.specs.declared.fault.DiskFailed.{DiskFailed}
use Rattle.disk_model.proofs.PastLemmas.{seen-sync}
use Rattle.disk_model.proofs.OneFileLemmas.{KeepsOthers-sync, EachHolds-sync}
use Rattle.site_history.specs.Log.{Log}
use Rattle.site_model.specs.World.{World}
use Rattle.site_model.specs.Reached.{IsReached}
use Rattle.site_model.specs.Start.{new_world}
use Rattle.site_model.proofs.StartLemmas.{new_world_is_reached}
use Rattle.site_core.specs.Standing as cores
use Rattle.site_core.specs.declared.state.Core.{Core}
use Rattle.journal.specs.Form.{journal_file, front}
use Rattle.journal.specs.declared.fault.ScanFault.{ScanFault}
use Rattle.journal.specs.declared.fault.ScanFault.TheVariants.{Bad, Failed, Memory}
use Rattle.entry_log.specs.declared.log.EntryLog.{EntryLog}
use Rattle.entry_log.specs.declared.scan.EntryScan.{EntryScan}
use Rattle.entry_log.specs.Entries as entries_of
use Rattle.entry_log.specs.Log.{Keeps, log_in, fresh_log}
use Rattle.entry_log.specs.Scan.{HasReadEntries, log_of}
use Rattle.entry_log.proofs.EntryLemmas.{Keeps-recovered}
use Rattle.site_store.specs.declared.opening.TheConstants.{ABC_DIGEST}
use Rattle.site_store.specs.declared.fault.OpenFault.{OpenFault}
use Rattle.site_store.specs.declared.fault.OpenFault.TheVariants as opens
use Rattle.site_store.specs.Faults.{open_fault}
use Rattle.site_store.specs.History.{SiteHistory}
use Rattle.site_store.specs.Recovery.{Stage, Recovers, end_of, IsKept}
use Rattle.site_store.specs.Standing.{IsAt}
use Rattle.site_store.specs.Opening.{start, HasRecovered, BeginsAt, EndsAfter, BeginsWith, IsOpened, KeepsFiles, TellsFault, IsBadAt}
use Rattle.site_store.proofs.ReplayLemmas.{HasRecovered-under}

-- the world of a new site is reached
start_reached : IsReached start.world
unfolding start
start_reached = new_world_is_reached ABC_DIGEST refl

-- what stands for it is ready
pub start_ready : (core : Core) → cores.StandsFor core start.world → cores.IsReady core start.world
start_ready core stands = record { stands = stands; reached = start_reached }

-- no entry was before the start
pub start_number : start.number ≡ 0
unfolding start
start_number = refl

-- a history without items
abbrev pub history_at : World → ℕ → Log → SiteHistory
history_at world number log =
    record { start = record { world = world; number = number; log = log }; items = [] }

-- what is in memory is at it
at_history : (core : Core) (log : EntryLog) (sizes : ℕ → ℕ) (world : World)
    → cores.IsReady core world → log.journal.gate + 1 ≤ sizes (journal_file log.journal.k)
    → IsAt core log sizes (history_at world log.number (log_in log))
at_history core log sizes world ready reaches = record {
  legal = record { start = ready.reached.sound; items = tt };
  ready = ready;
  number = refl;
  written = refl;
  reaches = reaches;
}

-- a file that recovers is not empty
recovers_begins : (k : ℕ) (from at : Stage) (bytes : List ℕ) → Recovers k from at bytes
    → BeginsAt k from bytes at
recovers_begins k from at [] recovers =
    let payloads = recovers.are.payloads in
    absurd (omega (
      arith,
      ap length payloads.is,
      length-append (front k (entries_of.forms recovers.entries)) (payloads.gate ∷ payloads.rest),
    ))
recovers_begins k from at (byte ∷ bytes) recovers = recovers

-- a file that ends after some bytes is not empty
ends_begins : (k number : ℕ) (bytes : List ℕ) (size : ℕ) → EndsAfter k number bytes size
    → BeginsWith k number bytes size
ends_begins k number [] size ends =
    let payloads = ends.are.payloads in
    absurd (omega (
      arith,
      ap length payloads.is,
      length-append (front k (entries_of.forms ends.entries)) (payloads.gate ∷ payloads.rest),
    ))
ends_begins k number (byte ∷ bytes) size ends = ends

-- a journal that was created
pub created_opened : (honest : Type 0) (bytes : List ℕ) (core : Core) (log : EntryLog)
    (sizes : ℕ → ℕ) (past : Past) → (honest → bytes ≡ []) → cores.StandsFor core start.world
    → log ≡ fresh_log (record { k = 1; gate = 16; pending = false }) 0
    → (honest → Keeps log past 0 [] None) → sizes (journal_file 1) ≡ 17
    → IsOpened honest bytes core log sizes past
created_opened honest bytes core log sizes past empty stands is keeps size =
    let number : log.number ≡ start.number = ap (λ l. l.number) is ∙ sym start_number in
    let k : log.journal.k ≡ 1 = ap (λ l. l.journal.k) is in
    let gate : log.journal.gate ≡ 16 = ap (λ l. l.journal.gate) is in
    let same : sizes (journal_file log.journal.k) ≡ 17 =
    ap (λ n. sizes (journal_file n)) k ∙ size in
    record {
      history = history_at start.world log.number (log_in log);
      fresh = refl;
      no_entries = ap (λ l. l.entries) is;
      no_bytes = ap (λ l. l.bytes) is;
      k = k;
      at = at_history core log sizes start.world (start_ready core stands) (omega (arith, gate, same));
      begins = λ is_honest.
          subst
          (λ l. BeginsAt 1 start l (let s : Stage = record { world = start.world; number = log.number }
          in s)) (sym (empty is_honest))
          (ap (λ n. let s : Stage = record { world = start.world; number = n } in s) number);
      journal = λ is_honest.
          subst (λ l. BeginsWith 1 start.number l (log.journal.gate + 1)) (sym (empty is_honest))
          (omega (arith, gate));
      kept = λ is_honest. record {
        entries = [];
        keeps = subst (λ n. Keeps log past n [] None) (sym start_number) (keeps is_honest);
        leads = refl;
        next = tt;
      };
    }

-- a journal that was read to its end
pub recovered_opened : (honest : Type 0) (past new_past : Past) (scan : EntryScan) (core : Core)
    (sizes : ℕ → ℕ) → scan.scan.k ≡ 1
    → HasRecovered honest (seen past (journal_file scan.scan.k)) start scan core
    → (honest → new_past ≡ past) → scan.scan.gate + 1 ≤ sizes (journal_file scan.scan.k)
    → IsOpened (honest × EachHolds past (journal_file scan.scan.k)
    (λ held. held ≡ seen past (journal_file scan.scan.k))) (seen past (journal_file scan.scan.k)) core
    (log_of scan) sizes new_past
recovered_opened honest past new_past scan core sizes k recovered same reaches = record {
  history = history_at recovered.world scan.number (log_in (log_of scan));
  fresh = refl;
  no_entries = refl;
  no_bytes = refl;
  k = k;
  at = at_history core (log_of scan) sizes recovered.world recovered.ready reaches;
  begins = λ sure.
      recovers_begins 1 start
      (let s : Stage = record { world = recovered.world; number = scan.number } in s)
      (seen past (journal_file scan.scan.k)) (record {
        entries = recovered.entries;
        are = subst
            (λ n. entries_of.RecoversTo n start.number recovered.entries
            (seen past (journal_file scan.scan.k))) k (recovered.are sure.0);
        leads = recovered.leads;
        number = recovered.number sure.0;
      });
  journal = λ sure.
      ends_begins 1 start.number (seen past (journal_file scan.scan.k)) (scan.scan.gate + 1)
      (record {
        entries = recovered.entries;
        are = subst
            (λ n. entries_of.RecoversTo n start.number recovered.entries
            (seen past (journal_file scan.scan.k))) k (recovered.are sure.0);
        size_is = ap (λ n. n + 1) (recovered.gate sure.0
            ∙ ap (λ n. length (front n (entries_of.forms recovered.entries))) k);
      });
  kept = λ sure. subst
      (λ (p : Past). IsKept (log_of scan) p start
      (history_at recovered.world scan.number (log_in (log_of scan))) None) (sym (same sure.0))
      (record {
        entries = recovered.entries;
        keeps = Keeps-recovered (log_of scan) past start.number recovered.entries refl
            (recovered.gate sure.0) (recovered.number sure.0) (recovered.are sure.0) sure.1;
        leads = recovered.leads;
        next = tt;
      });
}

-- what was opened under a premise is so under another one
pub IsOpened-under : (sure other : Type 0) (bytes others : List ℕ) (core : Core) (log : EntryLog)
    (sizes : ℕ → ℕ) (past : Past) → (other → sure) → (other → bytes ≡ others)
    → IsOpened sure bytes core log sizes past → IsOpened other others core log sizes past
IsOpened-under sure other bytes others core log sizes past under same opened = record {
  history = opened.history;
  fresh = opened.fresh;
  no_entries = opened.no_entries;
  no_bytes = opened.no_bytes;
  k = opened.k;
  at = opened.at;
  begins = λ is. subst (λ l. BeginsAt 1 start l (end_of opened.history)) (same is)
      (opened.begins (under is));
  journal = λ is.
      subst (λ l. BeginsWith 1 start.number l opened.history.start.log.journal) (same is)
      (opened.journal (under is));
  kept = λ is. opened.kept (under is);
}

-- a sync leaves nothing new of any file
pub KeepsFiles-sync : {T : Type 0} (result : Result T DiskFailed) (old new : Past) (file : ℕ)
    → OnOk result (new ≡ with_sync old file) → OnErr result (new ≡ old) → KeepsFiles old new
KeepsFiles-sync result old new file done kept other = elim (cases_eq other file) [
  | inl same ↦ (
    seen_same result done kept,
    subst (λ n. EachHolds new n (MayHold old n)) (sym same)
        (EachHolds-sync result old new file (MayHold old file) done kept (λ held is. is)),
  )
  | inr differs ↦ KeepsOthers-sync result old new file done kept other differs
]
  where
    seen_same : {S : Type 0} (answer : Result S DiskFailed) → OnOk answer (new ≡ with_sync old file)
        → OnErr answer (new ≡ old) → seen new other ≡ seen old other
    seen_same (Ok _) is still = seen-sync old new file is other
    seen_same (Err _) is still = ap (λ (p : Past). seen p other) still

-- nothing was done
pub KeepsFiles-same : (old mid new : Past) → KeepsFiles old mid → new ≡ mid → KeepsFiles old new
KeepsFiles-same old mid new kept same = subst (KeepsFiles old) (sym same) kept

-- what is read from the first entry on is under the premise that the disk was honest before
from_first : (honest mid : Type 0) (past mid_past : Past) (scan : EntryScan) → scan.scan.k ≡ 1
    → (honest → HasReadEntries scan (seen past 3) 0 []) → (honest → mid)
    → (honest → mid_past ≡ past) → honest
    → mid × HasReadEntries scan (seen mid_past (journal_file scan.scan.k)) start.number []
from_first honest mid past mid_past scan k read still same is = (
  still is,
  subst (λ n. HasReadEntries scan (seen mid_past (journal_file scan.scan.k)) n []) (sym start_number)
      (subst (λ l. HasReadEntries scan l 0 []) (sym (ap (λ (p : Past). seen p (journal_file
      scan.scan.k)) (same is) ∙ ap (λ n. seen past (journal_file n)) k)) (read is)),
)

-- where a file is bad that was read from the first entry on
pub read_bad : (honest mid : Type 0) (past mid_past : Past) (scan : EntryScan) (core : Core)
    (fault : ScanFault) (offset : ℕ) → scan.scan.k ≡ 1
    → (honest → HasReadEntries scan (seen past 3) 0 []) → (honest → mid)
    → (honest → mid_past ≡ past) → fault ≡ Bad offset → honest
    → TellsFault (mid × HasReadEntries scan (seen mid_past (journal_file scan.scan.k)) start.number
    []) scan.scan.k (seen mid_past (journal_file scan.scan.k)) start fault
    → IsBadAt 1 start (seen past 3) offset
read_bad honest mid past mid_past scan core fault offset k read still same bad is tells =
    let told = subst (λ f. TellsFault (mid × HasReadEntries scan
    (seen mid_past (journal_file scan.scan.k)) start.number []) scan.scan.k
    (seen mid_past (journal_file scan.scan.k)) start f) bad tells in
    let place = told (from_first honest mid past mid_past scan k read still same is) in
    subst (λ n. IsBadAt n start (seen past (journal_file n)) offset) k
    (subst (λ (p : Past). IsBadAt scan.scan.k start (seen p (journal_file scan.scan.k)) offset)
    (same is) place)

-- what is opened that was read from the first entry to the last
pub read_opened : (honest mid : Type 0) (past mid_past new_past : Past) (scan last : EntryScan)
    (core : Core) (sizes : ℕ → ℕ) → scan.scan.k ≡ 1 → last.scan.k ≡ scan.scan.k
    → (honest → HasReadEntries scan (seen past 3) 0 []) → (honest → mid)
    → (honest → mid_past ≡ past) → (mid → new_past ≡ mid_past)
    → last.scan.gate + 1 ≤ sizes (journal_file last.scan.k)
    → HasRecovered (mid × HasReadEntries scan (seen mid_past (journal_file scan.scan.k)) start.number
    []) (seen mid_past (journal_file scan.scan.k)) start last core
    → IsOpened (honest × EachHolds past 3 (λ held. held ≡ seen past 3)) (seen past 3) core
    (log_of last) sizes new_past
read_opened honest mid past mid_past new_past scan last core sizes k same_k read still same later
    reaches recovered =
    let first_k : last.scan.k ≡ 1 = same_k ∙ k in
    let bytes_are : honest → seen mid_past (journal_file scan.scan.k)
    ≡ seen past (journal_file last.scan.k) = λ is.
    ap (λ (p : Past). seen p (journal_file scan.scan.k)) (same is)
    ∙ ap (λ n. seen past (journal_file n)) (sym same_k) in
    let under : HasRecovered honest (seen past (journal_file last.scan.k)) start last core =
    HasRecovered-under _ honest _ (seen past (journal_file last.scan.k)) start last core
    (from_first honest mid past mid_past scan k read still same) bytes_are recovered in
    subst (λ file. IsOpened (honest × EachHolds past file (λ held. held ≡ seen past file))
    (seen past file) core (log_of last) sizes new_past) (ap journal_file first_k)
    (recovered_opened honest past new_past last core sizes first_k under
    (λ is. later (still is) ∙ same is) reaches)

-- what is told of a bad file
pub told_bad : (fault : ScanFault) (file offset : ℕ) → open_fault fault ≡ opens.BadStore file offset
    → (file ≡ 3) × (fault ≡ Bad offset)
told_bad (Bad place) file offset is = (cc, cc)
told_bad Failed file offset is = absurd (cc)
told_bad Memory file offset is = absurd (cc)

-- what is told of a disk that failed
pub told_failed : (fault : ScanFault) → open_fault fault ≡ opens.Disk → fault ≡ Failed
told_failed (Bad place) is = absurd (cc)
told_failed Failed is = refl
told_failed Memory is = absurd (cc)

-- what was opened, if it was, under another premise
pub opened-under : (sure other : Type 0) (bytes others : List ℕ) (core : Core) (sizes : ℕ → ℕ)
    (past : Past) (result : Result EntryLog OpenFault) → (other → sure) → (other → bytes ≡ others)
    → IfOk result (λ log. IsOpened sure bytes core log sizes past)
    → IfOk result (λ log. IsOpened other others core log sizes past)
opened-under sure other bytes others core sizes past (Ok log) under same opened =
    IsOpened-under sure other bytes others core log sizes past under same opened
opened-under sure other bytes others core sizes past (Err fault) under same opened = tt

-- bytes without length are none
pub none_of : (bytes : List ℕ) → length bytes ≡ 0 → bytes ≡ []
none_of [] none = refl
none_of (byte ∷ bytes) none = absurd (omega (arith, none))

-- a new site whose first user has the token `abc` stands for the start
pub start_stands : (core : Core) (digest : List ℕ) → digest ≡ ABC_DIGEST
    → cores.StandsFor core (new_world digest) → cores.StandsFor core start.world
unfolding start
start_stands core digest is stands =
    subst (λ (d : List ℕ). cores.StandsFor core (new_world d)) is stands

-- a number that is not 0 is at least 1
pub some_if_not_none : (n : ℕ) → (n ≡ 0 → ⊥) → 1 ≤ n
some_if_not_none zero some = absurd (some refl)
some_if_not_none (suc n) some = omega arith
