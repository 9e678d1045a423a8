-- Lemmas about specs/Past.antt: what a read gives after one call more.
use Rattle.std.proofs.Common.{◌≡◌, ◌≢◌, ℕ, inl, inr, List, length, take, sym, ◌∙◌, ap, arith}
use Rattle.std.proofs.lemmas.Bool.{cases_eq}
use Rattle.std.proofs.lemmas.Bool.Decides.{nat_tests}
use Rattle.disk_model.specs.Past.{Past, Call, did_write, did_cut, did_sync, seen_after, seen, written, with_call, with_write, with_cut, with_sync}

-- of its file a read gives what the call says
pub seen-with_call : (past : Past) (call : Call) → seen (with_call past call) call.file ≡ call.after
unfolding seen_after
seen-with_call past call = grind (arith, nat_tests)

-- the other files stay
pub seen-with_call_other : (past : Past) (call : Call) (file : ℕ) → file ≢ call.file
    → seen (with_call past call) file ≡ seen past file
unfolding seen_after
seen-with_call_other past call file other = grind (arith, nat_tests)

-- after a write a read of its file gives the bytes written over the old ones
pub seen-write : (old new : Past) (file at : ℕ) (bytes : List ℕ)
    → new ≡ with_write old file at bytes → seen new file ≡ written (seen old file) at bytes
seen-write old new file at bytes is =
    ap (λ p. seen p file) is ∙ seen-with_call old (record {
      file = file;
      deed = did_write at (length bytes);
      after = written (seen old file) at bytes;
    })

-- and of another file what it gave
pub seen-write_other : (old new : Past) (file at : ℕ) (bytes : List ℕ) (other : ℕ)
    → new ≡ with_write old file at bytes → other ≢ file → seen new other ≡ seen old other
seen-write_other old new file at bytes other is differs =
    ap (λ p. seen p other) is ∙ seen-with_call_other old (record {
      file = file;
      deed = did_write at (length bytes);
      after = written (seen old file) at bytes;
    }) other differs

-- after a cut a read of its file gives the front
pub seen-cut : (old new : Past) (file size : ℕ) → new ≡ with_cut old file size
    → seen new file ≡ take size (seen old file)
seen-cut old new file size is = ap (λ p. seen p file) is ∙ seen-with_call old
    (record { file = file; deed = did_cut size; after = take size (seen old file) })

-- and of another file what it gave
pub seen-cut_other : (old new : Past) (file size other : ℕ) → new ≡ with_cut old file size
    → other ≢ file → seen new other ≡ seen old other
seen-cut_other old new file size other is differs = ap (λ p. seen p other) is
    ∙ seen-with_call_other old
    (record { file = file; deed = did_cut size; after = take size (seen old file) }) other differs

-- a sync changes no read
pub seen-sync : (old new : Past) (file : ℕ) → new ≡ with_sync old file → (other : ℕ)
    → seen new other ≡ seen old other
seen-sync old new file is other = ap (λ p. seen p other) is ∙ elim (cases_eq other file) [
  | inl same ↦ ap (seen (with_sync old file)) same
      ∙ seen-with_call old (record { file = file; deed = did_sync; after = seen old file })
      ∙ ap (seen old) (sym same)
  | inr differs ↦ seen-with_call_other old
      (record { file = file; deed = did_sync; after = seen old file }) other differs
]
