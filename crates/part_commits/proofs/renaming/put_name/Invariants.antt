-- The ledger of the steps is a new one.
use Rattle.part_commits.proofs.renaming.put_name.Given as goal

abbrev pub ghosts-put_slug : goal.ghosts-put_slug
ghosts-put_slug a = record { name = a.blank.name; parts = a.blank.parts }
