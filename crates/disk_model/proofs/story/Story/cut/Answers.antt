use Rattle.std.proofs.Common.{refl, ◌∙◌, ap}
use Rattle.disk_model.specs.Story.{past_of, past_after, fresh_past}
use Rattle.disk_model.specs.Past.{with_cut}
use Rattle.disk_model.proofs.StoryLemmas.{past_after-cut, IsStory-call}
use Rattle.disk_model.proofs.story.Story.cut.Goals as goal

pub invariant_of-self : goal.invariant_of-self
invariant_of-self c =
    IsStory-call c.self.inside.told _ _ _ _ _ c.self.invariant refl c.in-Ok.ensures.items
    c.in-Ok.ensures.capacity

pub returns-clause-past : goal.returns-clause-past
returns-clause-past c =
    ap (past_after fresh_past c.self.inside.written.items) c.in-Ok.ensures.items
    ∙ past_after-cut fresh_past c.self.inside.written.items c.self.inside.told.items _ _
    ∙ ap (λ s. with_cut (past_of s) c.args.file c.args.size) c.self.view_is
