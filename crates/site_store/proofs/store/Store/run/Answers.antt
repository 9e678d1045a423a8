-- What a command gets and leaves, by how far it came.
use Rattle.std.proofs.Common.{◌+◌, ◌≤◌, sym, subst}
use Rattle.journal.specs.Form.{journal_file}
use Rattle.site_store.proofs.RunLemmas.{any_moment_still, at_after, kept_after, any_moment_after}
use Rattle.site_store.proofs.store.Store.run.Goals as goal

pub returns-in-Err-clause-any_moment : goal.returns-in-Err-clause-any_moment
returns-in-Err-clause-any_moment g c = λ history from doubt honest at kept.
    any_moment_still c.args.self.now.core c.args.self.now.log _ history at _ from doubt _ kept

pub returns-in-Err-draft_next-clause-any_moment : goal.returns-in-Err-draft_next-clause-any_moment
returns-in-Err-draft_next-clause-any_moment g c = λ history from doubt honest at kept.
    any_moment_still c.args.self.now.core c.args.self.now.log _ history at _ from doubt _ kept

pub returns-in-Ok-draft_next-clause-at : goal.returns-in-Ok-draft_next-clause-at
returns-in-Ok-draft_next-clause-at g c = λ history at.
    let made = c.in-Ok.ensures.plan _ at.ready c.requires.fits in
    let drafted = c.in-Ok-draft_next.ensures.ok in
    let kept = c.keep.ensures in
    at_after c.args.self.now.core c.args.self.now.log _ history at c.args.caller c.args.now
    c.args.command c.requires.fits c.prepare.new.self c.in-Ok.plan made c.in-Ok-draft_next.draft
    drafted.0 drafted.1 c.keep.new.self.core c.keep.new.self.log _ c.keep.result kept.accepted
    (kept.stands _ _ _ _ made) kept.same kept.number kept.log kept.number_kept kept.log_kept
    (subst (λ n. c.keep.new.self.log.journal.gate + 1
    ≤ g.D.Disk.size c.keep.new.self.disk (journal_file n)) (sym kept.k) kept.reaches)

pub returns-in-Ok-draft_next-clause-kept : goal.returns-in-Ok-draft_next-clause-kept
returns-in-Ok-draft_next-clause-kept g c = λ history from doubt honest at is_kept.
    let made = c.in-Ok.ensures.plan _ at.ready c.requires.fits in
    let drafted = c.in-Ok-draft_next.ensures.ok in
    let kept = c.keep.ensures in
    kept_after c.args.self.now.core c.args.self.now.log _ history at c.args.caller c.args.now
    c.args.command c.requires.fits c.prepare.new.self c.in-Ok.plan made c.in-Ok-draft_next.draft
    drafted.0 drafted.1 c.keep.new.self.log _ _ from doubt is_kept c.keep.result _ _ kept.accepted
    kept.failed (kept.ok from.number is_kept.entries doubt honest is_kept.keeps)
    (kept.err from.number is_kept.entries doubt honest is_kept.keeps)

pub returns-in-Ok-draft_next-clause-any_moment : goal.returns-in-Ok-draft_next-clause-any_moment
returns-in-Ok-draft_next-clause-any_moment g c = λ history from doubt honest at is_kept.
    let made = c.in-Ok.ensures.plan _ at.ready c.requires.fits in
    let drafted = c.in-Ok-draft_next.ensures.ok in
    any_moment_after c.args.self.now.core c.args.self.now.log _ history at c.args.caller c.args.now
    c.args.command c.requires.fits c.prepare.new.self c.in-Ok.plan made c.in-Ok-draft_next.draft
    drafted.0 drafted.1 _ _ from doubt is_kept
    (c.keep.ensures.any_moment from.number is_kept.entries doubt honest is_kept.keeps)
