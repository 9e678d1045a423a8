-- What a tick makes of what is kept of a page.
use Rattle.std.specs.Prelude.{ℕ, Bool, false, nat_le, List, [], ◌∷◌, Option, Some, None, if◌then◌else◌}
use Rattle.std.specs.Option.{option_map_or}
use Rattle.site_types.specs.declared.body.Body.{Body}
use Rattle.site_types.specs.declared.revision.Revision.{Revision}
use Rattle.site_model.specs.Publishing.{published_body, has_expired}
use Rattle.page_store.specs.Pages.{Page}
use Rattle.publishing.specs.Bodies.{expired_body, unscheduled_body}
use Rattle.publishing.specs.Times.{body_in, named, expiry_of, go_live_of}

-- whether a moment is there and has come
abbrev pub has_come : ℕ → Option ℕ → Bool
has_come t None = false
has_come t (Some moment) = nat_le moment t

-- a page after its expiry, if that has come
abbrev pub after_expiry : List Revision → ℕ → Body → Body
after_expiry revisions t body =
    if has_come t (expiry_of revisions body) then expired_body body else body

-- a page whose scheduled revision goes live: it is dropped where it has expired, and else published
abbrev pub gone_live : ℕ → Option Revision → Body → Body
gone_live t None body = body
gone_live t (Some revision) body =
    if has_expired t revision then unscheduled_body body else published_body t revision body

-- a page after the go-live of its scheduled revision, if that has come
abbrev pub after_go_live : List Revision → ℕ → Body → Body
after_go_live revisions t body =
    if has_come t (go_live_of revisions body)
    then gone_live t (named revisions body.scheduled) body
    else body

-- a page after a tick
abbrev pub ticked_body : List Revision → ℕ → Body → Body
ticked_body revisions t body = after_go_live revisions t (after_expiry revisions t body)

-- these pages, each that is there with its fields after a change
abbrev pub changed_bodies : (Body → Body) → List Page → List ℕ → List (ℕ × Body)
changed_bodies change pages [] = []
changed_bodies change pages (page ∷ more) =
    option_map_or (λ body. (page, change body) ∷ changed_bodies change pages more)
    (body_in page pages) (changed_bodies change pages more)
