use Rattle.std.proofs.Common.{◌++◌, [], ◌∷◌, length, ◌∙◌, ap, rules}
use Rattle.disk_model.specs.Story.{past_of, past_after, fresh_past}
use Rattle.disk_model.specs.Past.{with_write}
use Rattle.disk_model.specs.declared.told.Told.TheVariants.{Write}
use Rattle.disk_model.proofs.StoryLemmas.{past_after-write, IsStory-write}
use Rattle.disk_model.proofs.story.Story.write.Goals as goal

pub invariant_of-self : goal.invariant_of-self
invariant_of-self c =
    IsStory-write c.self.inside.told _ c.self.inside.written _ _ _ _ _ _ c.self.invariant
    (search rules) c.in-Ok.ensures.items c.in-Ok.ensures.len c.in-Ok.ensures.capacity
    c.in-Ok-push.ensures.items c.in-Ok-push.ensures.capacity

pub returns-clause-past : goal.returns-clause-past
returns-clause-past c =
    let more = Write c.args.file c.args.at (length c.args.bytes.now) ∷ [] in
    let before = c.self.inside in
    ap (past_after fresh_past c.extend_from_slice.new.self.items) c.in-Ok-push.ensures.items
    ∙ ap (λ l. past_after fresh_past l (before.told.items ++ more)) c.in-Ok.ensures.items
    ∙ past_after-write fresh_past before.written.items c.args.bytes.now before.told.items _ _
    c.self.invariant.taken
    ∙ ap (λ s. with_write (past_of s) c.args.file c.args.at c.args.bytes.now) c.self.view_is
