use Rattle.std.proofs.Common.{refl, ◌∙◌, ap}
use Rattle.disk_model.specs.Story.{past_of, past_after, fresh_past}
use Rattle.disk_model.specs.Past.{with_sync}
use Rattle.disk_model.proofs.StoryLemmas.{past_after-sync, IsStory-call}
use Rattle.disk_model.proofs.story.Story.sync.Goals as goal

pub invariant_of-self : goal.invariant_of-self
invariant_of-self c =
    IsStory-call c.self.inside.told _ _ _ _ _ c.self.invariant refl c.in-Ok.ensures.items
    c.in-Ok.ensures.capacity

pub returns-clause-past : goal.returns-clause-past
returns-clause-past c =
    ap (past_after fresh_past c.self.inside.written.items) c.in-Ok.ensures.items
    ∙ past_after-sync fresh_past c.self.inside.written.items c.self.inside.told.items _
    ∙ ap (λ s. with_sync (past_of s) c.args.file) c.self.view_is
