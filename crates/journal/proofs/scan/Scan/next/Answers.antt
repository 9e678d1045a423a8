use Rattle.std.proofs.Common.{◌≡◌, ◌≤◌, ◌+◌, ◌-◌, ◌∷◌, ◌++◌, [], drop, take, length, arith, ap, sym, ◌∙◌, subst}
use Rattle.disk_model.specs.Past.{seen}
use Rattle.journal.specs.Form.{journal_file}
use Rattle.journal.specs.Scan.{HasRead, IsPart}
use Rattle.journal.proofs.ScanLemmas.{IsPart-held, length-held, read-closed, read-short, read-open, HasRead-by, IsPart-along}
use Rattle.journal.proofs.scan.Scan.next.Goals as goal

pub returns-in-Closed-clause-none : goal.returns-in-Closed-clause-none
returns-in-Closed-clause-none g c = λ payloads honest was.
    let bytes = seen (g.D.Disk.past c.args.disk.now) (journal_file c.args.self.now.k) in
    let before = c.args.self.now in
    let first = c.reach.new.self in
    let reaches = c.in_ok-reach.ensures.reaches in
    let part = c.reach.ensures.part honest was.part in
    let same_gate : first.gate ≡ before.gate = ap (λ s. s.gate) c.reach.ensures.kept in
    let held_is = IsPart-held first.block first.at first.gate before.gate c.held.result.now bytes
    part
    same_gate c.held.ensures reaches.0 (omega (arith, reaches.1)) in
    let long = length-held first.block first.at first.gate before.gate c.held.result.now same_gate
    c.held.ensures in
    read-closed before bytes payloads was c.held.result.now held_is
    (omega (arith, c.left-left.ensures.some, c.min.ensures, reaches.1)) c.in-Closed.ensures

pub returns-in-Short-clause-bad : goal.returns-in-Short-clause-bad
returns-in-Short-clause-bad g c = λ payloads honest was offset is_bad.
    let bytes = seen (g.D.Disk.past c.args.disk.now) (journal_file c.args.self.now.k) in
    let before = c.args.self.now in
    let first = c.reach.new.self in
    let reaches = c.in_ok-reach.ensures.reaches in
    let part = c.reach.ensures.part honest was.part in
    let same_gate : first.gate ≡ before.gate = ap (λ s. s.gate) c.reach.ensures.kept in
    let held_is = IsPart-held first.block first.at first.gate before.gate c.held.result.now bytes
    part
    same_gate c.held.ensures reaches.0 (omega (arith, reaches.1)) in
    let long = length-held first.block first.at first.gate before.gate c.held.result.now same_gate
    c.held.ensures in
    read-short before bytes payloads was c.held.result.now held_is c.left-left.result
    c.left-left.ensures.left (omega (arith, c.min.ensures, reaches.1)) c.in-Short.ensures.0
    c.in-Short.ensures.1 offset (sym same_gate ∙ sym c.gate.ensures.gate ∙ cc is_bad)

pub returns-in_ok-payload-in-Open-clause-some : goal.returns-in_ok-payload-in-Open-clause-some
returns-in_ok-payload-in-Open-clause-some g c = λ payloads honest was.
    let bytes = seen (g.D.Disk.past c.args.disk.now) (journal_file c.args.self.now.k) in
    let before = c.args.self.now in
    let first = c.reach.new.self in
    let reaches = c.in_ok-reach.ensures.reaches in
    let part = c.reach.ensures.part honest was.part in
    let same_gate : first.gate ≡ before.gate = ap (λ s. s.gate) c.reach.ensures.kept in
    let held_is = IsPart-held first.block first.at first.gate before.gate c.held.result.now bytes
    part
    same_gate c.held.ensures reaches.0 (omega (arith, reaches.1)) in
    let long = length-held first.block first.at first.gate before.gate c.held.result.now same_gate
    c.held.ensures in
    let second = c.reach-in-Open.new.self in
    let count = c.in-Open.count in
    let reaches_2 = c.in_ok-reach-in-Open.ensures.reaches in
    let first_k : first.k ≡ before.k = ap (λ s. s.k) c.reach.ensures.kept in
    let seen_2 = seen (g.D.Disk.past c.reach.new.disk) (journal_file first.k) in
    let bytes_is : seen_2 ≡ bytes =
    ap (λ p. seen p (journal_file first.k)) (c.reach.ensures.same honest)
    ∙ ap (λ k. seen (g.D.Disk.past c.args.disk.now) (journal_file k)) first_k in
    let part_2 = IsPart-along second.block second.at seen_2 bytes bytes_is
    (c.reach-in-Open.ensures.part (c.reach.ensures.honest honest)
    (IsPart-along first.block first.at bytes seen_2 (sym bytes_is) part)) in
    let gate_2 : second.gate ≡ before.gate =
    ap (λ s. s.gate) c.reach-in-Open.ensures.kept ∙ same_gate in
    let far : before.gate + (count + 6) ≤ second.at + length second.block =
    omega (arith, reaches_2.1, same_gate, c.from.ensures) in
    let near : second.at ≤ before.gate = omega (arith, reaches_2.0, same_gate) in
    let held_2 = c.held-in-Open.result.now in
    let held_2_is = IsPart-held second.block second.at second.gate before.gate held_2 bytes part_2
    gate_2 c.held-in-Open.ensures near (omega (arith, far)) in
    let long_2 = length-held second.block second.at second.gate before.gate held_2 gate_2
    c.held-in-Open.ensures in
    let size : 5 + count - 5 ≡ count = omega arith in
    let payload_is : c.in_ok-payload-in-Open.payload ≡ take count (drop 5 held_2) =
    c.in_ok-payload-in-Open.ensures ∙ ap (λ n. take n (drop 5 held_2)) size in
    let head = c.in-Open.ensures in
    let read = read-open before bytes payloads was held_2 held_2_is c.held.result.now held_is
    (omega (arith, c.min.ensures, reaches.1, head.1)) count head.0
    (omega (arith, head.1, c.left-left.ensures.left)) head.2 (omega (arith, far, near))
    second.at second.block part_2 in
    let now = c.pass.new.self in
    subst (λ p. HasRead now bytes (payloads ++ p ∷ [])) (sym payload_is)
    (HasRead-by now _ bytes (payloads ++ take count (drop 5 held_2) ∷ [])
    (ap (λ s. s.k) c.pass.ensures ∙ ap (λ s. s.k) c.reach-in-Open.ensures.kept ∙ first_k)
    (omega (arith, ap (λ s. s.gate) c.pass.ensures, gate_2, c.from-in-Open.ensures))
    (ap (λ s. s.size) c.pass.ensures ∙ ap (λ s. s.size) c.reach-in-Open.ensures.kept
    ∙ ap (λ s. s.size) c.reach.ensures.kept)
    (subst (λ s. IsPart s.block s.at bytes) (sym c.pass.ensures) part_2) read)
