-- Lemmas about specs/Story.antt: one call more at the end of a record.
use Rattle.std.proofs.Common.{◌≡◌, ℕ, ◌+◌, ◌≤◌, List, [], ◌∷◌, ◌++◌, length, take, drop, Vec, vec_len, vec_capacity, refl, ◌∙◌, ap, arith, length-append, length-drop}
use Rattle.std.proofs.lemmas.List.{take_all, take-append-le, drop-append-le}
use Rattle.disk_model.specs.Past.{Past, with_write, with_cut, with_sync}
use Rattle.std.specs.declared.alloc.Global.{Global}
use Rattle.disk_model.specs.Story.{past_after, taken_by, IsStory}
use Rattle.disk_model.specs.declared.told.Told.{Told}
use Rattle.disk_model.specs.declared.told.Told.TheVariants.{Write, Cut, Sync}

-- a write more takes the bytes that are left
pub past_after-write : (past : Past) (written bytes : List ℕ) (told : List Told) (file at : ℕ)
    → taken_by told ≡ length written
    → past_after past (written ++ bytes) (told ++ Write file at (length bytes) ∷ [])
    ≡ with_write (past_after past written told) file at bytes
past_after-write past [] bytes [] file at taken =
    ap (with_write past file at) (take_all (length bytes) bytes (omega arith))
past_after-write past (b ∷ written) bytes [] file at taken = absurd (omega arith)
past_after-write past written bytes (Write f a n ∷ told) file at taken =
    let front : take n (written ++ bytes) ≡ take n written =
    take-append-le n written bytes (omega arith) in
    let back : drop n (written ++ bytes) ≡ drop n written ++ bytes =
    drop-append-le n written bytes (omega arith) in
    let long = length-drop n written in
    ap (λ l. past_after (with_write past f a l) (drop n (written ++ bytes))
    (told ++ Write file at (length bytes) ∷ [])) front
    ∙ ap (λ l. past_after (with_write past f a (take n written)) l
    (told ++ Write file at (length bytes) ∷ [])) back
    ∙ past_after-write (with_write past f a (take n written)) (drop n written) bytes told file at
    (omega arith)
past_after-write past written bytes (Cut f n ∷ told) file at taken =
    past_after-write (with_cut past f n) written bytes told file at taken
past_after-write past written bytes (Sync f ∷ told) file at taken =
    past_after-write (with_sync past f) written bytes told file at taken

-- a cut more
pub past_after-cut : (past : Past) (written : List ℕ) (told : List Told) (file size : ℕ)
    → past_after past written (told ++ Cut file size ∷ [])
    ≡ with_cut (past_after past written told) file size
past_after-cut past written [] file size = refl
past_after-cut past written (Write f a n ∷ told) file size =
    past_after-cut (with_write past f a (take n written)) (drop n written) told file size
past_after-cut past written (Cut f n ∷ told) file size =
    past_after-cut (with_cut past f n) written told file size
past_after-cut past written (Sync f ∷ told) file size =
    past_after-cut (with_sync past f) written told file size

-- a sync more
pub past_after-sync : (past : Past) (written : List ℕ) (told : List Told) (file : ℕ)
    → past_after past written (told ++ Sync file ∷ [])
    ≡ with_sync (past_after past written told) file
past_after-sync past written [] file = refl
past_after-sync past written (Write f a n ∷ told) file =
    past_after-sync (with_write past f a (take n written)) (drop n written) told file
past_after-sync past written (Cut f n ∷ told) file =
    past_after-sync (with_cut past f n) written told file
past_after-sync past written (Sync f ∷ told) file =
    past_after-sync (with_sync past f) written told file

-- the bytes that one call more takes
pub taken_by-append : (told more : List Told) → taken_by (told ++ more) ≡ taken_by told + taken_by
    more
taken_by-append [] more = omega arith
taken_by-append (Write f a n ∷ told) more = omega (arith, taken_by-append told more)
taken_by-append (Cut f n ∷ told) more = taken_by-append told more
taken_by-append (Sync f ∷ told) more = taken_by-append told more

-- a record with one more write
pub IsStory-write : (told told_now : Vec Told Global) (written written_now : Vec ℕ Global)
    (most room file at : ℕ) (bytes : List ℕ) → IsStory told written most room
    → vec_len written + length bytes ≤ room
    → written_now.items ≡ written.items ++ bytes
    → vec_len written_now ≡ vec_len written + length bytes
    → vec_capacity written ≤ vec_capacity written_now
    → told_now.items ≡ told.items ++ Write file at (length bytes) ∷ []
    → vec_capacity told ≤ vec_capacity told_now → IsStory told_now written_now most room
IsStory-write told told_now written written_now most room file at bytes before fits is long kept
    told_is told_kept =
    let taken_now : taken_by told_now.items ≡ taken_by told.items + (length bytes + 0) =
    ap taken_by told_is ∙ taken_by-append told.items (Write file at (length bytes) ∷ []) in
    let length_now : length written_now.items ≡ length written.items + length bytes =
    ap length is ∙ length-append written.items bytes in
    record {
      taken = omega (arith, before.taken);
      within = omega arith;
      bytes = omega (arith, before.bytes);
      calls = omega (arith, before.calls);
    }

-- a record with one more call that takes no bytes
pub IsStory-call : (told told_now : Vec Told Global) (written : Vec ℕ Global) (most room : ℕ)
    (call : Told) → IsStory told written most room → taken_by (call ∷ []) ≡ 0
    → told_now.items ≡ told.items ++ call ∷ [] → vec_capacity told ≤ vec_capacity told_now
    → IsStory told_now written most room
IsStory-call told told_now written most room call before none is kept =
    let taken_now : taken_by told_now.items ≡ taken_by told.items + taken_by (call ∷ []) =
    ap taken_by is ∙ taken_by-append told.items (call ∷ []) in
    record {
      taken = omega (arith, before.taken);
      within = before.within;
      bytes = before.bytes;
      calls = omega (arith, before.calls);
    }
