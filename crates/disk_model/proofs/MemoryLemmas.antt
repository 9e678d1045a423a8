-- Lemmas about specs/Memory.antt: what a call of a disk in memory keeps.
use Rattle.std.proofs.Common.{◌≡◌, ◌↔◌, IsTrue, false, ◌≢◌, ℕ, ◌+◌, ◌<◌, ◌≤◌, max, inl, inr, List, [], length, get_or, set, take, replicate, refl, sym, ◌∙◌, ap, subst, arith, length-set, length-take}
use Rattle.std.proofs.lemmas.Bool.{false≢true, cases_eq, cases_lt}
use Rattle.std.proofs.lemmas.Bool.Decides.{nat_tests}
use Rattle.std.proofs.lemmas.List.{get_or-replicate, get_or_past, length-replicate, length-take-le, get_or-set_same, get_or-set_other}
use Rattle.disk_model.specs.Faults.{last_count}
use Rattle.disk_model.specs.CallCount.{CallCount, fresh_count, FailsNext, counted}
use Rattle.disk_model.specs.Files.{FileBytes, bytes_of}
use Rattle.disk_model.specs.Past.{Call, Deed, did_write, did_cut, seen_after, seen, written, with_call, with_write, with_cut, with_sync}
use Rattle.disk_model.specs.Story.{StoryValue, past_of}
use Rattle.disk_model.specs.Memory.{MemoryValue, memory_size, IsKept}
use Rattle.disk_model.proofs.PastLemmas.{seen-with_call, seen-with_call_other, seen-write, seen-cut, seen-sync}
use Rattle.disk_model.proofs.TornLemmas.{length-written}

-- a call that does not fail has a number below the greatest
pub turn_left : (calls : CallCount) → IsTrue false ↔ FailsNext calls → calls.made < calls.most
turn_left calls works = elim (cases_lt calls.made calls.most) [
  | inl below ↦ below
  | inr above ↦ absurd (false≢true (works.1 (inl above)))
]

-- one call more was made
made-counted : (calls : CallCount) → calls.most ≤ last_count → calls.made < calls.most
    → (counted calls).made ≡ calls.made + 1
made-counted calls last left = grind (arith, nat_tests)

-- the record of calls and its counts go on
pub record Goes (story now : StoryValue) (calls after : CallCount) : Type 0 where
  pub told : length now.told ≡ length story.told + 1
  pub written : length story.written ≤ length now.written
  pub same : (now.most ≡ story.most) × (now.room ≡ story.room)
  pub left : calls.made < calls.most
  pub after_is : after ≡ counted calls

module _ (files files_now : FileBytes) (story now : StoryValue) (calls after : CallCount)
    (kept : IsKept files story calls) (goes : Goes story now calls after) where
  turns_now : length now.told ≤ after.made
  turns_now =
      let made = ap (λ c. c.made) goes.after_is ∙ made-counted calls kept.last goes.left in
      omega (arith, kept.turns, goes.told)

  most_same : after.most ≡ calls.most
  most_same = ap (λ c. c.most) goes.after_is

  -- a file changed
  changes : (file : ℕ) (deed : Deed) (changed : List ℕ → List ℕ) → file < 4
      → files_now ≡ record files { files = set files.files file (changed (bytes_of files file)) }
      → past_of now ≡ with_call (past_of story) (record {
        file = file;
        deed = deed;
        after = changed (seen (past_of story) file);
      })
      → length (changed (bytes_of files file)) ≤ length now.written → IsKept files_now now after
  changes file deed changed fits files_is past_is short = record {
    same = same;
    four = ap (λ f. length f.files) files_is
        ∙ length-set files.files file (changed (bytes_of files file)) ∙ kept.four;
    within = within;
    room = ap (λ f. f.room) files_is ∙ kept.room ∙ sym goes.same.1;
    turns = turns_now;
    most = omega (arith, kept.most, goes.same.0, most_same);
    last = omega (arith, kept.last, most_same);
  }
    where
      own : bytes_of files_now file ≡ changed (bytes_of files file)
      own = ap (λ f. bytes_of f file) files_is ∙ get_or-set_same files.files file
          (changed (bytes_of files file)) [] (omega (arith, kept.four, fits))

      other_file : (f : ℕ) → f ≢ file → bytes_of files_now f ≡ bytes_of files f
      other_file f differs = ap (λ b. bytes_of b f) files_is ∙ get_or-set_other files.files file f
          (changed (bytes_of files file)) [] differs

      call : Call
      call = record { file = file; deed = deed; after = changed (seen (past_of story) file) }

      same : (f : ℕ) → seen (past_of now) f ≡ bytes_of files_now f
      same f = ap (λ p. seen p f) past_is ∙ elim (cases_eq f file) [
        | inl is ↦ ap (seen (with_call (past_of story) call)) is
            ∙ seen-with_call (past_of story) call ∙ ap changed (kept.same file)
            ∙ sym own ∙ ap (bytes_of files_now) (sym is)
        | inr differs ↦ seen-with_call_other (past_of story) call f differs
            ∙ kept.same f ∙ sym (other_file f differs)
      ]

      within : (f : ℕ) → length (bytes_of files_now f) ≤ length now.written
      within f = elim (cases_eq f file) [
        | inl is ↦ subst (λ g. length (bytes_of files_now g) ≤ length now.written) (sym is)
            (subst (λ l. length l ≤ length now.written) (sym own) short)
        | inr differs ↦ subst (λ l. length l ≤ length now.written) (sym (other_file f differs))
            (let old = kept.within f in omega (arith, goes.written))
      ]

  -- after a write
  pub IsKept-write : (file at : ℕ) (bytes : List ℕ) → file < 4
      → at ≤ length (bytes_of files file)
      → files_now ≡ record files {
        files = set files.files file (written (bytes_of files file) at bytes);
      }
      → past_of now ≡ with_write (past_of story) file at bytes
      → length now.written ≡ length story.written + length bytes → IsKept files_now now after
  IsKept-write file at bytes fits within files_is past_is more =
      let long = length-written (bytes_of files file) at bytes within in
      let short = kept.within file in
      changes file (did_write at (length bytes)) (λ old. written old at bytes) fits files_is past_is
      (omega arith)

  -- after a cut
  pub IsKept-cut : (file size : ℕ) → file < 4
      → files_now ≡ record files { files = set files.files file (take size (bytes_of files file)) }
      → past_of now ≡ with_cut (past_of story) file size → IsKept files_now now after
  IsKept-cut file size fits files_is past_is =
      let long = length-take size (bytes_of files file) in
      let short = kept.within file in
      changes file (did_cut size) (take size) fits files_is past_is (omega (arith, goes.written))

  -- after a sync
  pub IsKept-sync : (file : ℕ) → past_of now ≡ with_sync (past_of story) file → files_now ≡ files
      → IsKept files_now now after
  IsKept-sync file past_is files_is = record {
    same = λ f. seen-sync _ _ file past_is f ∙ kept.same f ∙ ap (λ b. bytes_of b f) (sym files_is);
    four = ap (λ f. length f.files) files_is ∙ kept.four;
    within = λ f. subst (λ b. length (bytes_of b f) ≤ length now.written) (sym files_is)
        (let old = kept.within f in omega (arith, goes.written));
    room = ap (λ f. f.room) files_is ∙ kept.room ∙ sym goes.same.1;
    turns = turns_now;
    most = omega (arith, kept.most, goes.same.0, most_same);
    last = omega (arith, kept.last, most_same);
  }

-- what a disk shows of its record and its calls
abbrev shown : StoryValue → CallCount → MemoryValue
shown story calls = record { story = story; calls = calls }

-- an offset within a file, as callers see it, is within its bytes
pub within_file : (files : FileBytes) (story : StoryValue) (calls : CallCount) (disk : MemoryValue)
    (file at : ℕ) → shown story calls ≡ disk → IsKept files story calls
    → at ≤ memory_size disk file → at ≤ length (bytes_of files file)
within_file files story calls disk file at is kept within =
    let size : memory_size disk file ≡ length (bytes_of files file) =
    ap (λ d. memory_size d file) (sym is) ∙ ap length (kept.same file) in
    omega (arith, size, within)

-- the length of a file after a write
pub size-write : (story now : StoryValue) (calls : CallCount) (disk : MemoryValue) (file at : ℕ)
    (bytes : List ℕ)
    → shown story calls ≡ disk → at ≤ memory_size disk file
    → past_of now ≡ with_write (past_of story) file at bytes
    → length (seen (past_of now) file) ≡ max (memory_size disk file) (at + length bytes)
size-write story now calls disk file at bytes is within past_is =
    let size : memory_size disk file ≡ length (seen (past_of story) file) =
    ap (λ d. memory_size d file) (sym is) in
    ap length (seen-write _ _ file at bytes past_is)
    ∙ length-written (seen (past_of story) file) at bytes (omega (arith, size, within))
    ∙ ap (λ n. max n (at + length bytes)) (sym size)

-- the length of a file after a cut
pub size-cut : (story now : StoryValue) (calls : CallCount) (disk : MemoryValue)
    (file size : ℕ)
    → shown story calls ≡ disk → size ≤ memory_size disk file
    → past_of now ≡ with_cut (past_of story) file size
    → length (seen (past_of now) file) ≡ size
size-cut story now calls disk file size is within past_is =
    let long : memory_size disk file ≡ length (seen (past_of story) file) =
    ap (λ d. memory_size d file) (sym is) in
    ap length (seen-cut _ _ file size past_is)
    ∙ length-take-le size (seen (past_of story) file) (omega (arith, long, within))

-- a disk that was told nothing
pub IsKept-fresh : (files : FileBytes) (story : StoryValue) (calls : CallCount) (bytes most : ℕ)
    (fails : List ℕ) → files ≡ record { files = replicate 4 []; room = bytes }
    → story ≡ record { told = []; written = []; most = most; room = bytes }
    → calls ≡ fresh_count fails most → most ≤ last_count → IsKept files story calls
unfolding seen_after
IsKept-fresh files story calls bytes most fails files_is story_is calls_is last =
    let P : FileBytes → Type 0 = λ f. IsKept f story calls in
    let Q : StoryValue → Type 0 = λ s. IsKept (record { files = replicate 4 []; room = bytes }) s
    calls in
    let R : CallCount → Type 0 = λ c. IsKept (record { files = replicate 4 []; room = bytes })
    (record { told = []; written = []; most = most; room = bytes }) c in
    subst P (sym files_is) (subst Q (sym story_is) (subst R (sym calls_is) (record {
      same = λ f. sym (empty f);
      four = refl;
      within = λ f. omega (arith, ap length (empty f));
      room = refl;
      turns = omega arith;
      most = omega arith;
      last = last;
    })))
  where
    none : List ℕ
    none = []

    empty : (f : ℕ) → get_or (replicate 4 none) f none ≡ none
    empty f = elim (cases_lt f 4) [
      | inl below ↦ get_or-replicate 4 f none none below
      | inr above ↦ get_or_past (replicate 4 none) f none (omega (arith, length-replicate 4 none))
    ]
