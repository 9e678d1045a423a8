-- The digest of the bytes so far.
use Rattle.std.proofs.Common.{◌≡◌, take}
use Rattle.page_store.specs.KidIndex.{slug_digest}
use Rattle.page_store.proofs.kid_index.slug_digest.Given as goal

abbrev pub invariant-loop-byte : goal.invariant-loop-byte
invariant-loop-byte l = l.digest ≡ slug_digest (take l.byte-index l.bytes)
