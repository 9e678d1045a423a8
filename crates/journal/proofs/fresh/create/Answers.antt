use Rattle.std.proofs.Common.{arith}
use Rattle.disk_model.proofs.PastLemmas.{seen-write}
use Rattle.disk_model.proofs.RunLemmas.{IsRun-write, IsRun-then}
use Rattle.journal.specs.Form.{journal_file}
use Rattle.journal.proofs.JournalLemmas.{run_named, fresh_of, Holds-fresh}
use Rattle.journal.proofs.fresh.create.Goals as goal

pub returns-in_err-write_at-clause-any_moment : goal.returns-in_err-write_at-clause-any_moment
returns-in_err-write_at-clause-any_moment g c = λ honest.
    let old = g.D.Disk.past c.args.disk.now in
    let mid = g.D.Disk.past c.write_at.new.self in
    let k = c.args.k in
    let file_is = c.journal_file-file.ensures in
    let first = run_named old mid _ (journal_file k) _ file_is
    (IsRun-write c.write_at.result old mid _ 0 _ (omega arith) (c.write_at.ensures.written honest)
    (c.write_at.ensures.torn honest)) in
    first.any_moment

pub returns-in_err-cut_synced-clause-any_moment : goal.returns-in_err-cut_synced-clause-any_moment
returns-in_err-cut_synced-clause-any_moment g c = λ honest.
    let old = g.D.Disk.past c.args.disk.now in
    let mid = g.D.Disk.past c.write_at.new.self in
    let k = c.args.k in
    let file_is = c.journal_file-file.ensures in
    let first = run_named old mid _ (journal_file k) _ file_is
    (IsRun-write c.write_at.result old mid _ 0 _ (omega arith) (c.write_at.ensures.written honest)
    (c.write_at.ensures.torn honest)) in
    let still = c.write_at.ensures.honest honest in
    let new = g.D.Disk.past c.cut_synced.new.disk in
    let cut = run_named mid new _ (journal_file k) _ file_is (record {
      others = c.cut_synced.ensures.others still;
      each = c.cut_synced.ensures.shortened still;
      any_moment = c.cut_synced.ensures.any_moment still;
    }) in
    let both = IsRun-then old mid new _ _ first cut in
    both.any_moment

pub returns-clause-any_moment : goal.returns-clause-any_moment
returns-clause-any_moment g c = λ honest.
    let old = g.D.Disk.past c.args.disk.now in
    let mid = g.D.Disk.past c.write_at.new.self in
    let k = c.args.k in
    let file_is = c.journal_file-file.ensures in
    let first = run_named old mid _ (journal_file k) _ file_is
    (IsRun-write c.write_at.result old mid _ 0 _ (omega arith) (c.write_at.ensures.written honest)
    (c.write_at.ensures.torn honest)) in
    let still = c.write_at.ensures.honest honest in
    let new = g.D.Disk.past c.cut_synced.new.disk in
    let cut = run_named mid new _ (journal_file k) _ file_is (record {
      others = c.cut_synced.ensures.others still;
      each = c.cut_synced.ensures.shortened still;
      any_moment = c.cut_synced.ensures.any_moment still;
    }) in
    let both = IsRun-then old mid new _ _ first cut in
    both.any_moment

pub returns-in_err-write_at-clause-others : goal.returns-in_err-write_at-clause-others
returns-in_err-write_at-clause-others g c = λ honest.
    let old = g.D.Disk.past c.args.disk.now in
    let mid = g.D.Disk.past c.write_at.new.self in
    let k = c.args.k in
    let file_is = c.journal_file-file.ensures in
    let first = run_named old mid _ (journal_file k) _ file_is
    (IsRun-write c.write_at.result old mid _ 0 _ (omega arith) (c.write_at.ensures.written honest)
    (c.write_at.ensures.torn honest)) in
    first.others

pub returns-in_err-cut_synced-clause-others : goal.returns-in_err-cut_synced-clause-others
returns-in_err-cut_synced-clause-others g c = λ honest.
    let old = g.D.Disk.past c.args.disk.now in
    let mid = g.D.Disk.past c.write_at.new.self in
    let k = c.args.k in
    let file_is = c.journal_file-file.ensures in
    let first = run_named old mid _ (journal_file k) _ file_is
    (IsRun-write c.write_at.result old mid _ 0 _ (omega arith) (c.write_at.ensures.written honest)
    (c.write_at.ensures.torn honest)) in
    let still = c.write_at.ensures.honest honest in
    let new = g.D.Disk.past c.cut_synced.new.disk in
    let cut = run_named mid new _ (journal_file k) _ file_is (record {
      others = c.cut_synced.ensures.others still;
      each = c.cut_synced.ensures.shortened still;
      any_moment = c.cut_synced.ensures.any_moment still;
    }) in
    let both = IsRun-then old mid new _ _ first cut in
    both.others

pub returns-clause-others : goal.returns-clause-others
returns-clause-others g c = λ honest.
    let old = g.D.Disk.past c.args.disk.now in
    let mid = g.D.Disk.past c.write_at.new.self in
    let k = c.args.k in
    let file_is = c.journal_file-file.ensures in
    let first = run_named old mid _ (journal_file k) _ file_is
    (IsRun-write c.write_at.result old mid _ 0 _ (omega arith) (c.write_at.ensures.written honest)
    (c.write_at.ensures.torn honest)) in
    let still = c.write_at.ensures.honest honest in
    let new = g.D.Disk.past c.cut_synced.new.disk in
    let cut = run_named mid new _ (journal_file k) _ file_is (record {
      others = c.cut_synced.ensures.others still;
      each = c.cut_synced.ensures.shortened still;
      any_moment = c.cut_synced.ensures.any_moment still;
    }) in
    let both = IsRun-then old mid new _ _ first cut in
    both.others

pub returns-clause-exact : goal.returns-clause-exact
returns-clause-exact g c = λ honest.
    let still = c.write_at.ensures.honest honest in
    let exact = fresh_of (g.D.Disk.past c.write_at.new.self) (g.D.Disk.past c.cut_synced.new.disk)
    _ _ c.args.k _ _ c.journal_file-file.ensures c.fresh_bytes.ensures
    (seen-write _ _ _ _ _ (c.in_ok-write_at.ensures.written honest))
    (c.in_ok-cut_synced.ensures.durable still) in
    exact

pub returns-clause-holds : goal.returns-clause-holds
returns-clause-holds g c = λ honest.
    let still = c.write_at.ensures.honest honest in
    let exact = fresh_of (g.D.Disk.past c.write_at.new.self) (g.D.Disk.past c.cut_synced.new.disk)
    _ _ c.args.k _ _ c.journal_file-file.ensures c.fresh_bytes.ensures
    (seen-write _ _ _ _ _ (c.in_ok-write_at.ensures.written honest))
    (c.in_ok-cut_synced.ensures.durable still) in
    Holds-fresh c.at.result c.args.k _ c.at.ensures exact
