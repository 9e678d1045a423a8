-- The world of a new site is one that is reached.
use Rattle.std.proofs.Common.{◌≡◌, ℕ, List, length, refl, arith}
use Rattle.std.specs.List.{IsDistinct}
use Rattle.page_tree.specs.Tree.{HasDistinctIds}
use Rattle.site_ids.specs.declared.digest.TheConstants.{DIGEST_BYTES}
use Rattle.site_model.specs.Start.{root_alone, new_part, new_world}
use Rattle.site_model.specs.Sound.{IsSoundPart}
use Rattle.site_model.specs.Reached.{IsReached}

-- one page has no other's id
one_id : HasDistinctIds root_alone
unfolding IsDistinct
one_id = (tt, tt)

-- it is sound, as its root is alone
pub new_part_is_sound : (digest : List ℕ) → length digest ≡ DIGEST_BYTES →
    IsSoundPart (new_part digest)
new_part_is_sound digest fits = record {
  time = omega arith;
  pages = record {
    whole = record { own = _; kids = _; is = refl };
    distinct = one_id;
    next_page = (omega arith, omega arith);
    page_ids = ((omega arith, omega arith), tt, tt);
    rising = (omega arith, tt, tt);
    steps = (omega arith, tt, tt);
    depth = omega arith;
    urls = (omega arith, tt);
    slugs = ((λ other. absurd (other refl)), tt, tt);
    siblings = (refl, tt, tt);
  };
  revisions = record {
    next_revision = (omega arith, omega arith);
    revision_ids = tt;
    revisions_rise = tt;
    revisions_have_pages = tt;
    revisions_below_root = tt;
    authors = tt;
    moments = tt;
    contents = tt;
    contents_fit = omega arith;
  };
  bodies = record {
    bodies = (
      record {
        root = λ is. refl;
        regular = λ other. absurd (other refl);
        alias = tt;
        owner = omega arith;
        lock = tt;
        assigned = tt;
        moderation = tt;
        first_published = tt;
        last_published = tt;
      },
      tt,
      tt,
    );
    sources = (tt, tt, tt);
  };
  people = record {
    next_user = (omega arith, omega arith);
    next_group = (omega arith, omega arith);
    numbered = refl;
    digests_fit = (fits, tt);
    digests = (tt, tt);
    members_name = tt;
    members_rise = tt;
  };
  tasks = record {
    next_task = (omega arith, omega arith);
    next_workflow = (omega arith, omega arith);
    tasks_numbered = refl;
    workflows_numbered = refl;
    task_groups = tt;
    task_groups_rise = tt;
    workflow_tasks = tt;
  };
  grants = record {
    grants_name = tt;
    grants_have_pages = tt;
    grants_rise = tt;
    grants_fit = omega arith;
  };
  desks = record {
    desks_rise = tt;
    desks_fit = omega arith;
    desk_users = tt;
    desks_stay = tt;
    desks_regular = tt;
  };
}

-- The world of a new site is one that is reached.
pub new_world_is_reached : (digest : List ℕ) → length digest ≡ DIGEST_BYTES →
    IsReached (new_world digest)
new_world_is_reached digest fits = record {
  sound = record { part = new_part_is_sound digest fits; desks_match = refl; texts = tt };
}
