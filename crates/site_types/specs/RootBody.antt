-- What is kept of the root: it is the scheduler's, it is not live, and it has no revision.
use Rattle.std.specs.Prelude.{false, None}
use Rattle.site_types.specs.declared.body.Body.{Body}

-- the root's fields beside its place in the tree and its empty slug
abbrev pub root_body : Body
root_body =
    record {
      owner = 0;
      source = None;
      live = false;
      expired = false;
      shown = None;
      latest = None;
      scheduled = None;
      first_published = None;
      last_published = None;
      locked_by = None;
      workflow = None;
      moderation = None;
    }
