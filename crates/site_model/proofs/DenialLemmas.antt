-- Rules that never say that a need is not met: those of drafts, publishing and locks among them.
use Rattle.std.proofs.Common.{◌≡◌, ℕ, Bool, true, false, cond, not, ◌||◌, nat_eq, nat_le, nat_lt, List, [], ◌∷◌, ◌++◌, length, Option, Some, None, refl}
use Rattle.std.specs.List.{AllByRecursion}
use Rattle.std.specs.Option.{option_map, is_some, is_none}
use Rattle.site_ids.specs.declared.ids.TheConstants.{LAST_REVISION_ID}
use Rattle.site_types.specs.Content.{ContentValue}
use Rattle.site_types.specs.declared.refusal.Refusal.{Refusal}
use Rattle.site_types.specs.declared.refusal.Refusal.TheVariants.{Denied, NothingNew, IdsFull, ContentFull, NoDesk, DeskTaken, NotLive, AlreadyExpired}
use Rattle.site_types.specs.declared.revision.Revision.{Revision}
use Rattle.site_model.specs.World.{TreePart, time_at}
use Rattle.site_model.specs.Limits.{MAX_CONTENTS, MAX_DESKS, contents_length}
use Rattle.site_model.specs.Rules.{refused_if, first_of, ids_full, content_full}
use Rattle.site_model.specs.Views.{body_of}
use Rattle.site_model.specs.Bodies.{latest_of, has_body}
use Rattle.site_model.specs.Desks.{no_desk, desk_user, open_rules, filed_revision, is_filed, file_rules}
use Rattle.site_model.specs.Publishing.{has_expired, expires_first, is_out, publish_rules, unpublish_rules, unschedule_rules, lock_rules, unlock_rules, purged, purge_rules}

-- whether a refusal says that a need is not met
abbrev pub is_denied : Option Refusal → Bool
is_denied (Some (Denied need)) = true
is_denied _ = false

-- of rules none says so where neither the first nor a later one does
pub first_says : (refusal : Option Refusal) (later : List (Option Refusal)) →
    is_denied refusal ≡ false → is_denied (first_of later) ≡ false →
    is_denied (first_of (refusal ∷ later)) ≡ false
first_says None later one more = more
first_says (Some refusal) later one more = one

-- nor does a test with another refusal
pub test_says : (test : Bool) (refusal : Refusal) → is_denied (Some refusal) ≡ false →
    is_denied (refused_if test refusal) ≡ false
test_says true refusal one = one
test_says false refusal one = refl

-- nor one of two
pub either_says : (test : Bool) (one other : Option Refusal) → is_denied one ≡ false →
    is_denied other ≡ false → is_denied (cond test one other) ≡ false
either_says true one other first second = first
either_says false one other first second = second

-- of a list of rules none says so where none does
pub all_say : (tried : List (Option Refusal)) →
    AllByRecursion (λ (one : Option Refusal). is_denied one ≡ false) tried →
    is_denied (first_of tried) ≡ false
all_say [] all = refl
all_say (one ∷ tried) all = first_says one tried all.0 (all_say tried all.1)

-- nor do ids that are full
pub ids_say : (last next : ℕ) → is_denied (ids_full last next) ≡ false
ids_say last next = test_says (nat_lt last next) IdsFull refl

-- nor contents that have no room
pub contents_say : (revisions : List Revision) → is_denied (content_full revisions) ≡ false
contents_say revisions =
    test_says (nat_lt MAX_CONTENTS (contents_length revisions)) ContentFull refl

-- nor what changes nothing
pub new_says : (test : Bool) → is_denied (refused_if test NothingNew) ≡ false
new_says test = test_says test NothingNew refl

-- nor a desk that the caller does not have
pub desk_says : (desk : Option ContentValue) → is_denied (no_desk desk) ≡ false
desk_says desk = test_says (not (is_some desk)) NoDesk refl

-- nor do the rules of opening a desk
pub open_says : (part : TreePart) (page : ℕ) → is_denied (open_rules part page) ≡ false
open_says part page =
    let many = nat_le MAX_DESKS (length part.desk_pairs) in
    all_say
    (option_map DeskTaken (desk_user part.desk_pairs page) ∷ refused_if many ContentFull ∷ [])
    (taken (desk_user part.desk_pairs page), (test_says many ContentFull refl, tt))
  where
    taken : (user : Option ℕ) → is_denied (option_map DeskTaken user) ≡ false
    taken None = refl
    taken (Some user) = refl

-- nor those of filing
pub file_says : (part : TreePart) (now caller page : ℕ) (go_live expire : Option ℕ)
    (desk : Option ContentValue) →
    is_denied (file_rules part now caller page go_live expire desk) ≡ false
file_says part now caller page go_live expire None = refl
file_says part now caller page go_live expire (Some text) =
    let same = is_filed text go_live expire (latest_of part page) in
    let after = part.revisions
    ++ filed_revision part now caller page text go_live expire ∷ [] in
    all_say
    (refused_if same NothingNew
    ∷ ids_full LAST_REVISION_ID part.next_revision
    ∷ content_full after
    ∷ [])
    (new_says same, (ids_say LAST_REVISION_ID part.next_revision, (contents_say after, tt)))

-- nor those of publishing
pub publish_says : (part : TreePart) (now page : ℕ) (found : Option Revision) →
    is_denied (publish_rules part now page found) ≡ false
publish_says part now page None = refl
publish_says part now page (Some revision) =
    let moment = time_at part now in
    let late = has_expired moment revision || expires_first revision in
    either_says (has_body (is_out moment revision) (body_of part.tree page)) (Some NothingNew)
    (refused_if late AlreadyExpired) refl (test_says late AlreadyExpired refl)

-- nor that of unpublishing
pub unpublish_says : (part : TreePart) (page : ℕ) → is_denied (unpublish_rules part page) ≡ false
unpublish_says part page =
    test_says (not (has_body (λ body. body.live) (body_of part.tree page))) NotLive refl

-- nor that of emptying a schedule
pub unscheduling_says : (part : TreePart) (page : ℕ) →
    is_denied (unschedule_rules part page) ≡ false
unscheduling_says part page =
    new_says (has_body (λ body. is_none body.scheduled) (body_of part.tree page))

-- nor those of locks
pub locking_says : (caller : ℕ) → is_denied (lock_rules caller) ≡ false
locking_says caller = new_says (nat_eq caller 0)

-- nor that of unlocking
pub unlocking_says : (part : TreePart) (page : ℕ) → is_denied (unlock_rules part page) ≡ false
unlocking_says part page =
    new_says (has_body (λ body. is_none body.locked_by) (body_of part.tree page))

-- nor that of a purge
pub purge_says : (part : TreePart) (page : ℕ) → is_denied (purge_rules part page) ≡ false
purge_says part page = new_says (nat_eq (length (purged part page)) 0)
