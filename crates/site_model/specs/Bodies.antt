-- What is kept of one page, and of its revisions: looking both up, and another body for a page.
use Rattle.std.specs.Prelude.{ℕ, Bool, true, false, ◌==◌, nat_lt, List, find, Option, Some, None, if◌then◌else◌}
use Rattle.std.specs.Option.{option_map, option_and_then}
use Rattle.page_tree.specs.Tree.{Forest, bare, grown}
use Rattle.site_types.specs.Content.{ContentValue}
use Rattle.site_types.specs.declared.body.Body.{Body}
use Rattle.site_types.specs.declared.reply.Reply.{Reply}
use Rattle.site_types.specs.declared.revision.Revision.{Revision}
use Rattle.site_model.specs.World.{TreePart, Deed, time_at}
use Rattle.site_model.specs.Views.{body_of}
use Rattle.site_model.specs.Create.{plain_deed}

-- the pages with another body for the page with the id
abbrev pub rebodied : {Kept : Type 0} → ℕ → (Kept → Kept) → Forest Kept → Forest Kept
rebodied id change bare = bare
rebodied id change (grown i step slug body kids rest) =
    if i == id
    then grown i step slug (change body) kids rest
    else grown i step slug body (rebodied id change kids) (rebodied id change rest)

-- the revision with the id
abbrev pub revision_with : ℕ → List Revision → Option Revision
revision_with id revisions = find (λ revision. revision.id == id) revisions

-- the latest revision of a page
abbrev pub latest_of : TreePart → ℕ → Option Revision
latest_of part page =
    option_and_then (λ id. revision_with id part.revisions)
    (option_and_then (λ body. body.latest) (body_of part.tree page))

-- the content of the latest revision of a page
abbrev pub latest_content : TreePart → ℕ → Option ContentValue
latest_content part page = option_map (λ revision. revision.content) (latest_of part page)

-- a change of one page's body alone, with this reply
abbrev pub body_deed : TreePart → ℕ → ℕ → (Body → Body) → Reply → Deed
body_deed part now page change reply =
    plain_deed
    (record part { time = time_at part now; tree = rebodied page change part.tree }) reply

-- a test of a page's body; it fails where there is none
abbrev pub has_body : (Body → Bool) → Option Body → Bool
has_body test None = false
has_body test (Some body) = test body

-- whether two ids, or two moments, are the same, or both absent
abbrev pub same_number : Option ℕ → Option ℕ → Bool
same_number None None = true
same_number None (Some other) = false
same_number (Some number) None = false
same_number (Some number) (Some other) = number == other

-- whether a moment is there and after this one
abbrev pub is_after : ℕ → Option ℕ → Bool
is_after moment None = false
is_after moment (Some other) = nat_lt moment other
