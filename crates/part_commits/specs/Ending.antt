-- What a commit answers.
use Rattle.std.specs.Prelude.{◌≡◌}
use Rattle.site_part.specs.declared.plan.Plan.{Plan}
use Rattle.part_commits.specs.declared.done.Done.{Done}

-- what is answered is what the plan tells
pub record TellsPlan (plan : Plan) (done : Done) : Type 0 where
  pub reply : done.reply ≡ plan.reply
  pub opened : done.opened ≡ plan.opened
  pub saved : done.saved ≡ plan.saved
  pub shut : done.shut ≡ plan.shut
