-- Users, groups, memberships, grants and needs at worked values.
use Rattle.std.proofs.Common.{◌≡◌, ◌+◌, ◌<◌, ℕ, true, false, List, [], ◌∷◌, ◌++◌, length, refl, codes, Some, None, Ok, Err, arith, length-append}
use Rattle.step_path.specs.Path.{path_text}
use Rattle.step_path.specs.Step.{step_text}
use Rattle.site_types.specs.Content.{content_form}
use Rattle.site_types.specs.declared.command.Command.TheVariants.{Create, Move, Delete, SetSlug, DefineUser, DefineGroup, Member, Grant}
use Rattle.site_types.specs.declared.permission.Permission.TheVariants.{Add, Change, Publish}
use Rattle.site_types.specs.declared.position.Position.TheVariants.{LastChild}
use Rattle.site_types.specs.declared.refusal.NameKind.TheVariants as kinds
use Rattle.site_types.specs.declared.refusal.Refusal.TheVariants.{NoPage, IsRoot, Denied, IdsFull, NothingNew, NoName, ContentFull}
use Rattle.site_types.specs.declared.reply.Reply.TheVariants.{Page, Removed, Id, Done}
use Rattle.site_model.specs.World.{TreePart}
use Rattle.site_model.specs.Limits.{MAX_CONTENTS, contents_length}
use Rattle.site_model.specs.Rights.{user_of, has, held}
use Rattle.site_model.specs.Rules.{content_full}
use Rattle.site_model.specs.Needs.{needs_of, may}
use Rattle.site_model.specs.Front.{row_of, front_rules}
use Rattle.site_model.specs.Create.{created}
use Rattle.site_model.specs.Desks.{desk_page}
use Rattle.site_model.specs.Step.{rules, effect, step_by}
use Rattle.site_model.proofs.ContentLemmas.{within_room, past_room}
use Rattle.site_model.proofs.Sites.{said, after, titled, page_below, second_digest, fresh, with_two, with_group_1, joined, changing, with_pages}

-- the first user to be defined is user 2
user_2_is_next : said fresh 1 (DefineUser false second_digest) ≡ Ok (Id 2)
unfolding step_by needs_of front_rules row_of rules effect desk_page
user_2_is_next = refl

-- whose digest finds that user
user_2_is_found : user_of second_digest with_two.users ≡ Some 2
unfolding step_by needs_of front_rules row_of rules effect desk_page
user_2_is_found = refl

-- and nobody is found by another
nobody_is_found : user_of (codes "other") with_two.users ≡ None
unfolding step_by needs_of front_rules row_of rules effect desk_page
nobody_is_found = refl

-- a digest that a user has is nothing new, whether or not an id is left
a_known_digest : said with_two 1 (DefineUser true second_digest) ≡ Err NothingNew
unfolding step_by needs_of front_rules row_of rules effect desk_page
a_known_digest = refl

-- the same where no id is left
a_known_digest_at_full_ids :
    said (record with_two { next_user = 65536 }) 1 (DefineUser true second_digest) ≡ Err NothingNew
unfolding step_by needs_of front_rules row_of rules effect desk_page
a_known_digest_at_full_ids = refl

-- another digest is then refused, since no id is left
no_user_id_is_left :
    said (record with_two { next_user = 65536 }) 1 (DefineUser true (codes "other")) ≡ Err IdsFull
unfolding step_by needs_of front_rules row_of rules effect desk_page
no_user_id_is_left = refl

-- who is no superuser defines nobody
user_2_defines_nobody : said with_two 2 (DefineUser true (codes "other")) ≡ Err (Denied 7)
unfolding step_by needs_of front_rules row_of rules effect desk_page
user_2_defines_nobody = refl

-- and no group
user_2_defines_no_group : said with_two 2 DefineGroup ≡ Err (Denied 7)
unfolding step_by needs_of front_rules row_of rules effect desk_page
user_2_defines_no_group = refl

-- user 0 is a superuser
user_0_defines_a_group : said with_two 0 DefineGroup ≡ Ok (Id 1)
unfolding step_by needs_of front_rules row_of rules effect desk_page
user_0_defines_a_group = refl

-- and an id that names no user is none
nobody_defines_no_group : said with_two 3 DefineGroup ≡ Err (Denied 7)
unfolding step_by needs_of front_rules row_of rules effect desk_page
nobody_defines_no_group = refl

-- a membership begins
user_2_joins : said with_group_1 1 (Member 2 1 true) ≡ Ok Done
unfolding step_by needs_of front_rules row_of rules effect desk_page
user_2_joins = refl

-- which then is so already
user_2_has_joined : said joined 1 (Member 2 1 true) ≡ Err NothingNew
unfolding step_by needs_of front_rules row_of rules effect desk_page
user_2_has_joined = refl

-- and ends
user_2_leaves : (after joined 1 (Member 2 1 false)).members ≡ []
unfolding step_by needs_of front_rules row_of rules effect desk_page
user_2_leaves = refl

-- a user that is not there, before a group that is not
no_user_9 : said with_two 1 (Member 9 7 true) ≡ Err (NoName kinds.User)
unfolding step_by needs_of front_rules row_of rules effect desk_page
no_user_9 = refl

-- a group that is not there
no_group_7 : said with_two 1 (Member 2 7 true) ≡ Err (NoName kinds.Group)
unfolding step_by needs_of front_rules row_of rules effect desk_page
no_group_7 = refl

-- to take who is not there out of a group is nothing new
nobody_leaves : said with_two 1 (Member 9 7 false) ≡ Err NothingNew
unfolding step_by needs_of front_rules row_of rules effect desk_page
nobody_leaves = refl

-- a permission is granted
change_is_granted : said joined 1 (Grant 1 1 Change true) ≡ Ok Done
unfolding step_by needs_of front_rules row_of rules effect desk_page
change_is_granted = refl

-- which then is so already
change_has_been_granted : said changing 1 (Grant 1 1 Change true) ≡ Err NothingNew
unfolding step_by needs_of front_rules row_of rules effect desk_page
change_has_been_granted = refl

-- a page that is not there, before all else
no_page_9 : said changing 2 (Grant 7 9 Change true) ≡ Err (NoPage 9)
unfolding step_by needs_of front_rules row_of rules effect desk_page
no_page_9 = refl

-- a group that is not there
no_group_to_grant : said changing 1 (Grant 7 1 Change true) ≡ Err (NoName kinds.Group)
unfolding step_by needs_of front_rules row_of rules effect desk_page
no_group_to_grant = refl

-- user 2 may not add below the root
user_2_adds_nothing : said changing 2 (page_below 1 (codes "p")) ≡ Err (Denied 1)
unfolding step_by needs_of front_rules row_of rules effect desk_page
user_2_adds_nothing = refl

-- a parent that is not there comes first
no_parent_9 : said changing 2 (page_below 9 (codes "p")) ≡ Err (NoPage 9)
unfolding step_by needs_of front_rules row_of rules effect desk_page
no_parent_9 = refl

-- user 2 gives a page below the root another slug
user_2_names_a_page : said with_pages 2 (SetSlug 4 (codes "d")) ≡
    Ok (Page 4 (codes "000100010001") (codes "/a/d/"))
unfolding step_by needs_of front_rules row_of rules effect desk_page path_text step_text
user_2_names_a_page = refl

-- the root has none, whoever asks
the_root_has_no_slug : said with_pages 2 (SetSlug 1 (codes "d")) ≡ Err IsRoot
unfolding step_by needs_of front_rules row_of rules effect desk_page
the_root_has_no_slug = refl

-- user 2 may take a page away, but not one with kids
user_2_takes_one_page : said with_pages 2 (Delete 3) ≡ Ok (Removed 1)
unfolding step_by needs_of front_rules row_of rules effect desk_page
user_2_takes_one_page = refl

-- that wants another permission
user_2_takes_no_two_pages : said with_pages 2 (Delete 2) ≡ Err (Denied 4)
unfolding step_by needs_of front_rules row_of rules effect desk_page
user_2_takes_no_two_pages = refl

-- a move wants add at the new parent
user_2_moves_nothing : said with_pages 2 (Move 3 2 LastChild) ≡ Err (Denied 1)
unfolding step_by needs_of front_rules row_of rules effect desk_page
user_2_moves_nothing = refl

-- the part where change is granted at page 2 alone
abbrev below_a : TreePart
below_a =
    after (after with_pages 1 (Grant 1 1 Change false)) 1 (Grant 1 2 Change true)

-- a grant holds at its page
holds_at_it : has below_a 2 Change 2 ≡ true
unfolding step_by needs_of front_rules row_of rules effect desk_page
holds_at_it = refl

-- and below it
holds_below_it : has below_a 2 Change 4 ≡ true
unfolding step_by needs_of front_rules row_of rules effect desk_page
holds_below_it = refl

-- but not beside it
not_beside_it : has below_a 2 Change 3 ≡ false
unfolding step_by needs_of front_rules row_of rules effect desk_page
not_beside_it = refl

-- nor above it
not_above_it : has below_a 2 Change 1 ≡ false
unfolding step_by needs_of front_rules row_of rules effect desk_page
not_above_it = refl

-- and no other permission with it
change_alone : held below_a 2 4 ≡ record {
  add = false;
  change = true;
  publish = false;
  bulk_delete = false;
  lock = false;
  unlock = false;
}
unfolding step_by needs_of front_rules row_of rules effect desk_page
change_alone = refl

-- so that one page gets another slug
user_2_names_page_4 : may below_a 2 (SetSlug 4 (codes "d")) ≡ None
unfolding step_by needs_of front_rules row_of rules effect desk_page
user_2_names_page_4 = refl

-- and the other not
user_2_does_not_name_page_3 : said below_a 2 (SetSlug 3 (codes "d")) ≡ Err (Denied 2)
unfolding step_by needs_of front_rules row_of rules effect desk_page
user_2_does_not_name_page_3 = refl

-- a grant that is withdrawn holds nowhere
withdrawn : said (after below_a 1 (Grant 1 2 Change false)) 2 (SetSlug 4 (codes "d")) ≡
    Err (Denied 2)
unfolding step_by needs_of front_rules row_of rules effect desk_page
withdrawn = refl

-- a member who leaves holds nothing
left_the_group : said (after below_a 1 (Member 2 1 false)) 2 (SetSlug 4 (codes "d")) ≡
    Err (Denied 2)
unfolding step_by needs_of front_rules row_of rules effect desk_page
left_the_group = refl

-- a grant goes with its page
grants_go_with_pages : (after below_a 1 (Delete 2)).grants ≡ []
unfolding step_by needs_of front_rules row_of rules effect desk_page
grants_go_with_pages = refl

-- the part where group 1 may add below the root, and user 2 has made page 2
abbrev adding : TreePart
adding = after (after joined 1 (Grant 1 1 Add true)) 2 (page_below 1 (codes "p"))

-- who may add edits the pages that are one's own
user_2_names_an_own_page : said adding 2 (SetSlug 2 (codes "q")) ≡
    Ok (Page 2 (codes "00010001") (codes "/q/"))
unfolding step_by needs_of front_rules row_of rules effect desk_page path_text step_text
user_2_names_an_own_page = refl

-- and takes them away
user_2_takes_an_own_page : said adding 2 (Delete 2) ≡ Ok (Removed 1)
unfolding step_by needs_of front_rules row_of rules effect desk_page
user_2_takes_an_own_page = refl

-- but not with another's page below
not_with_anothers : said (after adding 1 (page_below 2 (codes "x"))) 2 (Delete 2) ≡ Err (Denied 2)
unfolding step_by needs_of front_rules row_of rules effect desk_page
not_with_anothers = refl

-- ids may run out for pages
no_page_id_is_left : said (record fresh { next_page = 1000001 }) 1 (page_below 1 (codes "p")) ≡
    Err IdsFull
unfolding step_by needs_of front_rules row_of rules effect desk_page
no_page_id_is_left = refl

-- and for revisions
no_revision_id_is_left :
    said (record fresh { next_revision = 4000000001 }) 1 (page_below 1 (codes "p")) ≡ Err IdsFull
unfolding step_by needs_of front_rules row_of rules effect desk_page
no_revision_id_is_left = refl

-- the contents of three pages whose titles are one letter have forms of four bytes each
three_contents : contents_length with_pages.revisions ≡ 12
unfolding step_by needs_of front_rules row_of rules effect desk_page
three_contents = refl

-- so that room is left
room_is_left : content_full with_pages.revisions ≡ None
unfolding step_by needs_of front_rules row_of rules effect desk_page
room_is_left = refl

-- what a page's contents took is free once it is gone
gone_contents : contents_length (after with_pages 1 (Delete 2)).revisions ≡ 4
unfolding step_by needs_of front_rules row_of rules effect desk_page
gone_contents = refl

-- the form of a content that is its title has three bytes more than the title
titled_form : (title : List ℕ) → length (content_form (titled title)) ≡ length title + 3
titled_form title =
    let front = length-append title (0 ∷ 0 ∷ []) in
    let all = length-append (title ++ 0 ∷ 0 ∷ []) [] in omega (arith, front, all)

-- a content that fills all the room is taken
the_last_content : (title : List ℕ) → length title + 3 ≡ MAX_CONTENTS →
    said fresh 1 (Create 1 (codes "p") (titled title)) ≡
    Ok (Page 2 (codes "00010001") (codes "/p/"))
unfolding step_by needs_of front_rules row_of rules effect desk_page path_text step_text
the_last_content title fills =
    let form = titled_form title in
    rw (within_room (created fresh 100 1 1 (codes "p") (titled title)).revisions
    (omega (arith, form, fills))) refl

-- and a longer one is refused
no_content_more : (title : List ℕ) → MAX_CONTENTS < length title + 3 →
    said fresh 1 (Create 1 (codes "p") (titled title)) ≡ Err ContentFull
unfolding step_by needs_of front_rules row_of rules effect desk_page
no_content_more title longer =
    let form = titled_form title in
    rw (past_room (created fresh 100 1 1 (codes "p") (titled title)).revisions
    (omega (arith, form, longer))) refl

-- grants rise by page, group and permission, in whatever order they are given
grants_rise : (after (after below_a 1 (Grant 1 2 Add true)) 1 (Grant 1 1 Publish true)).grants ≡
    record { page = 1; group = 1; permission = Publish }
    ∷ record { page = 2; group = 1; permission = Add }
    ∷ record { page = 2; group = 1; permission = Change }
    ∷ []
unfolding step_by needs_of front_rules row_of rules effect desk_page
grants_rise = refl
