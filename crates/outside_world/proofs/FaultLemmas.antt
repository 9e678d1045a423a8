-- Lemmas about specs/Faults.antt.
use Rattle.std.proofs.Common.{ℕ, ◌≤◌, arith}
use Rattle.std.proofs.lemmas.Bool.Decides.{nat_tests}
use Rattle.outside_world.specs.Faults.{Rose, raised, last_count}

-- a count that rose and did not fall afterwards rose
pub Rose-later : (before then after : ℕ) → Rose before then → then ≤ after → Rose before after
Rose-later before then after rose kept = grind (arith, rose, kept)

-- a count that did not fall and rose afterwards rose
pub later-Rose : (before then after : ℕ) → before ≤ then → Rose then after → Rose before after
later-Rose before then after kept rose = grind (arith, rose, kept)

-- one more is no fall
pub le-raised : (count : ℕ) → count ≤ raised count
le-raised count = grind (arith, nat_tests)

-- one more, or the same at the greatest count, is a rise
pub Rose-raised : (count : ℕ) → Rose count (raised count)
Rose-raised count = grind (arith, nat_tests)

-- a rise is no fall, as far as counts go
pub Rose-le : (before after : ℕ) → before ≤ last_count → Rose before after → before ≤ after
Rose-le before after fits rose = grind (arith, rose, fits)
