-- The definition of calls at worked values.
use Rattle.std.proofs.Common.{◌≡◌, ℕ, List, [], Some, None, Ok, Err, refl, codes, false}
use Rattle.http_model.specs.Requests.{Request}
use Rattle.http_model.specs.declared.method.Method.{Method}
use Rattle.http_model.specs.declared.method.Method.TheVariants.{Get, Post, Other}
use Rattle.http_model.specs.declared.method.Allow.TheVariants as allows
use Rattle.serde_json.specs.Data.{Data, unsigned, number, string, array, object, no_items, no_members, member}
use Rattle.site_types.specs.declared.command.Command.TheVariants.{Create, Move, Delete, SetSlug}
use Rattle.site_types.specs.declared.position.Position.TheVariants.{FirstChild, LastChild, FirstSibling, Left, Right, LastSibling}
use Rattle.wire_model.specs.Forms.{position_of, creation_in, move_in, page_command_in, slug_change_in}
use Rattle.wire_model.specs.Routes.{route_of, command, read_named, unbuilt, nowhere, public_page, id_written, closed_path, call_of}
use Rattle.wire_model.specs.declared.form.CommandForm.TheVariants as forms
use Rattle.wire_model.specs.declared.form.PageVerb.TheVariants as verbs
use Rattle.wire_model.specs.declared.form.ReadForm.TheVariants as reads
use Rattle.wire_model.specs.declared.call.Call.TheVariants.{Page, Public}
use Rattle.wire_model.specs.declared.call.RouteFault.TheVariants.{NotFound, NotBuilt, Method as WrongMethod, Form}

-- the route that creates pages
pages_create : route_of (codes "/api/pages") ≡ command forms.Create
unfolding route_of
pages_create = refl

-- the route of moves
move_moves : route_of (codes "/api/move") ≡ command forms.Move
unfolding route_of
move_moves = refl

-- the route of deletions
delete_deletes : route_of (codes "/api/delete") ≡ command (forms.OnPage verbs.Delete)
unfolding route_of
delete_deletes = refl

-- the route of slugs
slug_sets_slugs : route_of (codes "/api/slug") ≡ command forms.SetSlug
unfolding route_of
slug_sets_slugs = refl

-- nothing follows the path of a form's route
after_a_name : route_of (codes "/api/move/") ≡ nowhere
unfolding route_of
after_a_name = refl

-- a part after `/api/pages/` is a card's, whatever it is
a_part_is_a_card : route_of (codes "/api/pages/x") ≡ read_named reads.Card (codes "x")
unfolding route_of
a_part_is_a_card = refl

-- no part, or two
no_part : route_of (codes "/api/pages/") ≡ nowhere
unfolding route_of
no_part = refl

-- two parts
two_parts : route_of (codes "/api/pages/2/") ≡ nowhere
unfolding route_of
two_parts = refl

-- what is not built yet
a_command : route_of (codes "/api/checkpoint") ≡ unbuilt
unfolding route_of
a_command = refl

-- a desk
a_desk : route_of (codes "/api/desks/2") ≡ read_named reads.Desk (codes "2")
unfolding route_of
a_desk = refl

-- the pages that link to a page
some_refs : route_of (codes "/api/refs/2") ≡ read_named reads.Refs (codes "2")
unfolding route_of
some_refs = refl

-- `/api` and what is below it has no other route, and any other path is for everybody
api_alone : route_of (codes "/api") ≡ nowhere
unfolding route_of
api_alone = refl

-- below api
below_api : route_of (codes "/api/x") ≡ nowhere
unfolding route_of
below_api = refl

-- beside api
beside_api : route_of (codes "/apix") ≡ public_page
unfolding route_of
beside_api = refl

-- a star
a_star : route_of (codes "*") ≡ public_page
unfolding route_of
a_star = refl

-- ids have 1 to 7 digits, and are 1 to 1,000,000
leading_zeros : id_written (codes "0000002") ≡ Some 2
leading_zeros = refl

-- the last id
the_last_id : id_written (codes "1000000") ≡ Some 1000000
the_last_id = refl

-- above the last id
above_the_last_id : id_written (codes "1000001") ≡ None
above_the_last_id = refl

-- eight digits
eight_digits : id_written (codes "00000002") ≡ None
eight_digits = refl

-- zero is no id
zero_is_no_id : id_written (codes "0") ≡ None
zero_is_no_id = refl

-- a path is closed once
an_open_path : closed_path (codes "/home") ≡ codes "/home/"
an_open_path = refl

-- a closed path
a_closed_path : closed_path (codes "/home/") ≡ codes "/home/"
a_closed_path = refl

-- {"content":{"blocks":[],"title":"A"},"parent":7,"slug":..} with this slug
abbrev creation_object : Data → Data
creation_object slug =
    object
    (member (codes "content")
    (object
    (member (codes "blocks") (array no_items)
    (member (codes "title") (string (codes "A")) no_members)))
    (member (codes "parent") (number (unsigned 7)) (member (codes "slug") slug no_members)))

-- it is read, and a slug with a space is none
a_creation : creation_in (creation_object (string (codes "home")))
    ≡ Some (Create 7 (codes "home") (record { title = codes "A"; blocks = [] }))
a_creation = refl

-- no slug
no_slug : creation_in (creation_object (string (codes "a b"))) ≡ None
no_slug = refl

-- the six positions by their texts
first_child : position_of (string (codes "first-child")) ≡ Some FirstChild
first_child = refl

-- after the kids
last_child : position_of (string (codes "last-child")) ≡ Some LastChild
last_child = refl

-- before the siblings
first_sibling : position_of (string (codes "first-sibling")) ≡ Some FirstSibling
first_sibling = refl

-- before the target
left : position_of (string (codes "left")) ≡ Some Left
left = refl

-- after the target
right : position_of (string (codes "right")) ≡ Some Right
right = refl

-- after the siblings
last_sibling : position_of (string (codes "last-sibling")) ≡ Some LastSibling
last_sibling = refl

-- no other text is a position, not even in other letters
other_letters : position_of (string (codes "Left")) ≡ None
other_letters = refl

-- a number is no position
a_number_is_none : position_of (number (unsigned 1)) ≡ None
a_number_is_none = refl

-- {"page":3,"position":..,"target":7} with this position
abbrev move_object : Data → Data
move_object position =
    object
    (member (codes "page") (number (unsigned 3))
    (member (codes "position") position
    (member (codes "target") (number (unsigned 7)) no_members)))

-- page 3 is moved before page 7
a_move : move_in (move_object (string (codes "left"))) ≡ Some (Move 3 7 Left)
a_move = refl

-- no position
no_position : move_in (move_object (string (codes "before"))) ≡ None
no_position = refl

-- {"page":..} with this id
abbrev page_object : Data → Data
page_object id = object (member (codes "page") id no_members)

-- page 3 is deleted
a_deletion : page_command_in verbs.Delete (page_object (number (unsigned 3))) ≡ Some (Delete 3)
a_deletion = refl

-- no page has the id 0
no_deletion : page_command_in verbs.Delete (page_object (number (unsigned 0))) ≡ None
no_deletion = refl

-- a member too many
one_too_many : page_command_in verbs.Delete (move_object (string (codes "left"))) ≡ None
one_too_many = refl

-- {"page":3,"slug":..} with this slug
abbrev slug_object : Data → Data
slug_object slug =
    object (member (codes "page") (number (unsigned 3)) (member (codes "slug") slug no_members))

-- page 3 gets the slug home
a_slug_change : slug_change_in (slug_object (string (codes "home")))
    ≡ Some (SetSlug 3 (codes "home"))
a_slug_change = refl

-- a slug with a slash is none
a_slash : slug_change_in (slug_object (string (codes "a/b"))) ≡ None
a_slash = refl

-- a request of this method and path, with an empty body
abbrev bare_request : Method → List ℕ → Request
bare_request method path =
    record { method = method; path = path; token = None; body = []; close = false }

-- the route is tried before the method, and the method before the form
a_card : call_of (bare_request Get (codes "/api/pages/2")) ≡ Ok (Page 2)
unfolding call_of route_of
a_card = refl

-- an unknown path
an_unknown_path : call_of (bare_request Other (codes "/api/x")) ≡ Err NotFound
unfolding call_of route_of
an_unknown_path = refl

-- not built
not_built : call_of (bare_request Other (codes "/api/checkpoint")) ≡ Err NotBuilt
unfolding call_of route_of
not_built = refl

-- the wrong method
the_wrong_method : call_of (bare_request Post (codes "/api/pages/0")) ≡ Err (WrongMethod allows.Get)
unfolding call_of route_of
the_wrong_method = refl

-- the wrong method for a move
no_move_by_get : call_of (bare_request Get (codes "/api/move")) ≡ Err (WrongMethod allows.Post)
unfolding call_of route_of
no_move_by_get = refl

-- no form
no_form : call_of (bare_request Get (codes "/api/pages/0")) ≡ Err Form
unfolding call_of route_of
no_form = refl

-- for everybody
for_everybody : call_of (bare_request Get (codes "/home")) ≡ Ok (Public (codes "/home/"))
unfolding call_of route_of
for_everybody = refl
