-- The root alone is in step without moments, aliases and links, and no desk is open.
use Rattle.std.proofs.Common.{refl, rules}
use Rattle.site_part.specs.Standing.{InStep, IsLinked}
use Rattle.site_part.specs.declared.part.TreePart.{TreePart}
use Rattle.site_core.proofs.StartStep.{start_in_step, start_linked}
use Rattle.site_core.proofs.state.Core.new.Goals as goal

pub returns : goal.returns
returns c =
    let part : TreePart = record {
      rows = c.in_ok-rows.rows;
      shelf = c.new-3.result;
      grants = c.define_user.new.self;
      flows = c.new-4.result;
      desk_pairs = c.new-5.result;
      time = c.in-Some.time;
      next_page = 2;
      next_revision = 1;
      times = c.new-6.result;
      aliases = c.new-7.result;
      links = c.new-8.result;
    } in
    let step : InStep part = start_in_step part c.in_ok-rows.ensures c.new-6.ensures.expiries
    c.new-6.ensures.go_lives c.new-7.ensures.pairs in
    let linked : IsLinked part = start_linked part c.in_ok-rows.ensures c.new-8.ensures.pairs in
    record {
      tree = record {
        pages = search rules;
        revisions = search rules;
        lists = search rules;
        flows = record {
          tasks = c.new-4.ensures.tasks;
          workflows = c.new-4.ensures.workflows;
        };
        desks = search rules;
        time = search rules;
        next_page = refl;
        next_revision = refl;
        in_step = step;
        linked = linked;
      };
      desks = search rules;
    }
