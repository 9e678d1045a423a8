-- Lemmas about specs/Journal.antt: what the writes of a journal leave at any moment.
use Rattle.std.proofs.Common.{◌≡◌, inl, ℕ, ◌+◌, true, false, List, [], ◌∷◌, ◌++◌, length, take, Result, Ok, Err, OnOk, OnErr, refl, sym, ◌∙◌, ap, subst}
use Rattle.disk_model.specs.Past.{Past, seen, written}
use Rattle.disk_model.specs.Images.{EachHolds, LeavesOnly}
use Rattle.disk_model.specs.OneFile.{KeepsOthers, InFile, IsTornFrom}
use Rattle.disk_model.proofs.ImageLemmas.{seen_may_be_held}
use Rattle.disk_model.proofs.RunLemmas.{IsRun, IsRun-wider}
use Rattle.journal.specs.Form.{journal_file, header, record_of, front, Fits, Recovers, LeavesInDoubt, RecoversEither}
use Rattle.journal.specs.Journal.{JournalValue, Holds, HoldsInDoubt}
use Rattle.journal.specs.Scan.{ScanValue, HasRead, journal_of}
use Rattle.journal.proofs.FormLemmas.{Recovers-torn, in_doubt-written, in_doubt-torn, Recovers-opened, Recovers-closed, RecoversEither-in_doubt, front-nil, length-header, length-fresh, Recovers-fresh}
use Rattle.journal.proofs.ByteLemmas.{take-written_front}

-- a synced write is a run on its file, by whatever names file and offset go
pub run_of : (old new : Past) (file other at place count : ℕ) → file ≡ other → at ≡ place
    → KeepsOthers old new file → EachHolds new file (IsTornFrom old file at count)
    → LeavesOnly old new (InFile old file (IsTornFrom old file at count))
    → IsRun old new other (IsTornFrom old other place count)
run_of old new file other at place count same_file same_place others torn any_moment =
    let P : ℕ → Type 0 = λ f. IsRun old new f (IsTornFrom old f at count) in
    let Q : ℕ → Type 0 = λ a. IsRun old new other (IsTornFrom old other a count) in
    subst Q same_place
    (subst P same_file (record { others = others; each = torn; any_moment = any_moment }))

-- and so is what it leaves once it is done
pub durable_of : (old new : Past) (file other at place : ℕ) (bytes piece : List ℕ)
    → file ≡ other → at ≡ place → bytes ≡ piece
    → EachHolds new file (λ held. held ≡ written (seen old file) at bytes)
    → EachHolds new other (λ held. held ≡ written (seen old other) place piece)
durable_of old new file other at place bytes piece same_file same_place same_bytes each =
    let P : ℕ → Type 0 = λ f. EachHolds new f (λ held. held ≡ written (seen old f) at bytes) in
    let Q : ℕ → Type 0 = λ a. EachHolds new other (λ held. held ≡ written (seen old other) a
    bytes) in
    let R : List ℕ → Type 0 =
    λ b. EachHolds new other (λ held. held ≡ written (seen old other) place b) in
    subst R same_bytes (subst Q same_place (subst P same_file each))

module _ (k gate : ℕ) (payloads : List (List ℕ)) (payload : List ℕ)
    (gate_is : gate ≡ length (front k payloads)) (old mid new : Past) where
  -- while a record is written after the last gate
  pub stage_run : (count : ℕ) → EachHolds old (journal_file k) (Recovers k payloads)
      → IsRun old mid (journal_file k) (IsTornFrom old (journal_file k) (gate + 1) count)
      → IsRun old mid (journal_file k) (Recovers k payloads)
  stage_run count before run =
      IsRun-wider old mid (journal_file k) _ (Recovers k payloads)
      (λ held (was, is, torn). Recovers-torn k payloads gate gate_is count was held
      (before was is) torn) run

  -- once it is on the disk
  pub staged : Fits payload → EachHolds old (journal_file k) (Recovers k payloads)
      → EachHolds mid (journal_file k) (λ held. held
      ≡ written (seen old (journal_file k)) (gate + 1) (record_of payload ++ 0 ∷ []))
      → EachHolds mid (journal_file k) (LeavesInDoubt k payloads payload)
  staged fits before written_is held is =
      subst (LeavesInDoubt k payloads payload) (sym (written_is held is))
      (in_doubt-written k payloads gate gate_is payload (seen old (journal_file k)) fits
      (before (seen old (journal_file k)) (seen_may_be_held old (journal_file k))))

  -- while its gate is written
  pub gate_run : EachHolds mid (journal_file k) (LeavesInDoubt k payloads payload)
      → IsRun mid new (journal_file k) (IsTornFrom mid (journal_file k) gate 1)
      → IsRun mid new (journal_file k) (LeavesInDoubt k payloads payload)
  gate_run before run =
      IsRun-wider mid new (journal_file k) _ (LeavesInDoubt k payloads payload)
      (λ held (was, is, torn). in_doubt-torn k payloads gate gate_is payload was held
      (before was is) torn) run

  -- once its gate is open
  pub opened_gate : EachHolds mid (journal_file k) (LeavesInDoubt k payloads payload)
      → EachHolds new (journal_file k) (λ held. held
      ≡ written (seen mid (journal_file k)) gate (1 ∷ []))
      → EachHolds new (journal_file k) (Recovers k (payloads ++ payload ∷ []))
  opened_gate before written_is held is =
      subst (Recovers k (payloads ++ payload ∷ [])) (sym (written_is held is))
      (Recovers-opened k payloads gate gate_is payload (seen mid (journal_file k))
      (before (seen mid (journal_file k)) (seen_may_be_held mid (journal_file k))))

  -- once it is closed
  pub closed_gate : EachHolds mid (journal_file k) (LeavesInDoubt k payloads payload)
      → EachHolds new (journal_file k) (λ held. held
      ≡ written (seen mid (journal_file k)) gate (0 ∷ []))
      → EachHolds new (journal_file k) (Recovers k payloads)
  closed_gate before written_is held is =
      subst (Recovers k payloads) (sym (written_is held is))
      (Recovers-closed k payloads gate gate_is payload (seen mid (journal_file k))
      (before (seen mid (journal_file k)) (seen_may_be_held mid (journal_file k))))

  -- the record stands or not
  pub stage_either : IsRun old mid (journal_file k) (Recovers k payloads)
      → IsRun old mid (journal_file k) (RecoversEither k payloads payload)
  stage_either run =
      IsRun-wider old mid (journal_file k) (Recovers k payloads)
      (RecoversEither k payloads payload) (λ held is. inl is) run

  pub gate_either : IsRun mid new (journal_file k) (LeavesInDoubt k payloads payload)
      → IsRun mid new (journal_file k) (RecoversEither k payloads payload)
  gate_either run =
      IsRun-wider mid new (journal_file k) (LeavesInDoubt k payloads payload)
      (RecoversEither k payloads payload)
      (RecoversEither-in_doubt k payloads gate gate_is payload) run

-- a fact stands for each result
pub OnErr-any : {T E : Type 0} (result : Result T E) (P : Type 0) → P → OnErr result P
OnErr-any (Ok _) P fact = tt
OnErr-any (Err _) P fact = fact

-- a fact that holds anyway holds after success
pub OnOk-any : {T E : Type 0} (result : Result T E) (P : Type 0) → P → OnOk result P
OnOk-any (Ok _) P fact = fact
OnOk-any (Err _) P fact = tt

-- a journal that is known by its parts
pub Holds-by : (journal : JournalValue) (k gate : ℕ) (past : Past) (payloads : List (List ℕ))
    → journal.k ≡ k → journal.pending ≡ false → journal.gate ≡ gate
    → gate ≡ length (front k payloads) → EachHolds past (journal_file k) (Recovers k payloads)
    → Holds journal past payloads
Holds-by journal k gate past payloads k_is sure gate_now gate_is each =
    let P : ℕ → Type 0 = λ n. EachHolds past (journal_file n) (Recovers n payloads) in
    record {
      sure = sure;
      gate = gate_now ∙ gate_is ∙ ap (λ n. length (front n payloads)) (sym k_is);
      each = subst P (sym k_is) each;
    }

-- a journal whose last gate is in doubt, by its parts
pub HoldsInDoubt-by : (journal : JournalValue) (k gate : ℕ) (past : Past)
    (payloads : List (List ℕ)) (payload : List ℕ) → journal.k ≡ k → journal.pending ≡ true
    → journal.gate ≡ gate → gate ≡ length (front k payloads)
    → EachHolds past (journal_file k) (LeavesInDoubt k payloads payload)
    → HoldsInDoubt journal past payloads payload
HoldsInDoubt-by journal k gate past payloads payload k_is doubt gate_now gate_is each =
    let P : ℕ → Type 0 = λ n. EachHolds past (journal_file n) (LeavesInDoubt n payloads payload) in
    record {
      doubt = doubt;
      gate = gate_now ∙ gate_is ∙ ap (λ n. length (front n payloads)) (sym k_is);
      each = subst P (sym k_is) each;
    }

-- a run on a file, by whatever name it goes, of whose file nothing is said
pub run_named : (old new : Past) (file other : ℕ) (P : List ℕ → Type 0) → file ≡ other
    → IsRun old new file P → IsRun old new other (λ _. Unit {0})
run_named old new file other P same run =
    let Q : ℕ → Type 0 = λ f. IsRun old new f (λ _. Unit {0}) in
    subst Q same (IsRun-wider old new file P (λ _. Unit {0}) (λ held is. tt) run)

-- after a fresh header was written, and the rest cut off
pub fresh_of : (mid new : Past) (file other k : ℕ) (before bytes : List ℕ) → file ≡ other
    → bytes ≡ header k ++ 0 ∷ [] → seen mid file ≡ written before 0 bytes
    → EachHolds new file (λ held. held ≡ take 17 (seen mid file))
    → EachHolds new other (λ held. held ≡ header k ++ 0 ∷ [])
fresh_of mid new file other k before bytes same bytes_is wrote each =
    let P : ℕ → Type 0 = λ f. EachHolds new f (λ held. held ≡ header k ++ 0 ∷ []) in
    let size : length bytes ≡ 17 = ap length bytes_is ∙ length-fresh k in
    subst P same (λ held is. each held is ∙ ap (take 17) wrote
    ∙ take-written_front before bytes 17 size ∙ bytes_is)

-- a journal without records
pub Holds-fresh : (journal : JournalValue) (k : ℕ) (past : Past)
    → journal ≡ record { k = k; gate = 16; pending = false }
    → EachHolds past (journal_file k) (λ held. held ≡ header k ++ 0 ∷ [])
    → Holds journal past []
Holds-fresh journal k past is each =
    Holds-by journal k 16 past [] (ap (λ j. j.k) is) (ap (λ j. j.pending) is)
    (ap (λ j. j.gate) is) (sym (ap length (front-nil k) ∙ length-header k))
    (λ held held_is. Recovers-fresh k held (each held held_is))

-- a journal that was read to its end, of a file that is all on the disk
pub Holds-recovered : (scan : ScanValue) (past : Past) (payloads : List (List ℕ))
    → HasRead scan (seen past (journal_file scan.k)) payloads
    → Recovers scan.k payloads (seen past (journal_file scan.k))
    → EachHolds past (journal_file scan.k) (λ held. held ≡ seen past (journal_file scan.k))
    → Holds (journal_of scan) past payloads
Holds-recovered scan past payloads read recovers synced = record {
  sure = refl;
  gate = read.gate;
  each = λ held is. subst (Recovers scan.k payloads) (sym (synced held is)) recovers;
}
