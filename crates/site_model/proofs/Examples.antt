-- The definitions at worked values: what commands make of small sites, and some that are refused.
use Rattle.std.proofs.Common.{◌≡◌, ℕ, List, refl, codes, Ok, Err}
use Rattle.page_tree.specs.Walk.{path_of, url_of}
use Rattle.step_path.specs.Path.{path_text}
use Rattle.step_path.specs.Step.{step_text}
use Rattle.site_types.specs.declared.command.Command.TheVariants.{Create, Move, Delete, SetSlug}
use Rattle.site_types.specs.declared.position.Position.TheVariants.{FirstChild, LastChild, FirstSibling, Left, Right, LastSibling}
use Rattle.site_types.specs.declared.refusal.Refusal.TheVariants.{NoPage, IsRoot, IntoItself, SlugTaken, NothingNew}
use Rattle.site_types.specs.declared.reply.Reply.TheVariants.{Page, Removed}
use Rattle.site_model.specs.World.{TreePart}
use Rattle.site_model.specs.Needs.{needs_of}
use Rattle.site_model.specs.Front.{row_of, front_rules}
use Rattle.site_model.specs.Create.{created}
use Rattle.site_model.specs.Desks.{desk_page}
use Rattle.site_model.specs.Step.{rules, effect, step_by}
use Rattle.site_model.proofs.Sites.{said, after, titled, fresh}

-- a new site with one page below the root, which user 1 made at moment 100
abbrev with_home : TreePart
with_home = created fresh 100 1 1 (codes "home") (titled (codes "Home"))

-- the first page of a site is page 2, at step 1 below the root
home_is_page_2 : said fresh 1 (Create 1 (codes "home") (titled (codes "Home"))) ≡ Ok
    (Page 2 (codes "00010001") (codes "/home/"))
unfolding step_by needs_of front_rules row_of rules effect desk_page path_text step_text
home_is_page_2 = refl

-- its slug is then taken below that parent
home_is_taken : said with_home 1 (Create 1 (codes "home") (titled (codes "Again"))) ≡ Err
    (SlugTaken 2)
unfolding step_by needs_of front_rules row_of rules effect desk_page path_text step_text
home_is_taken = refl

-- below the new page the slug is free
home_below_home : said with_home 1 (Create 2 (codes "home") (titled (codes "Again"))) ≡ Ok
    (Page 3 (codes "000100010001") (codes "/home/home/"))
unfolding step_by needs_of front_rules row_of rules effect desk_page path_text step_text
home_below_home = refl

-- a parent that is no page is refused by its number
no_page_9 : said with_home 1 (Create 9 (codes "home") (titled (codes "Home"))) ≡ Err
    (NoPage 9)
unfolding step_by needs_of front_rules row_of rules effect desk_page path_text step_text
no_page_9 = refl

-- a part with one page more below this parent
abbrev with_page : ℕ → List ℕ → TreePart → TreePart
with_page parent slug part = created part 100 1 parent slug (titled slug)

-- pages 2, 3 and 4 are a, b and c below the root
abbrev three : TreePart
three = with_page 1 (codes "c") (with_page 1 (codes "b") (with_page 1 (codes "a") fresh))

-- and page 5 is x below c
abbrev three_and_one : TreePart
three_and_one = with_page 4 (codes "x") three

-- the path and the URL of a page
abbrev place_of : ℕ → TreePart → List ℕ × List ℕ
place_of id part = (path_text (path_of id part.tree), url_of id part.tree)

-- a deletion tells how many pages went, and leaves a hole
a_deletion_leaves_a_hole :
    said (after three 1 (Delete 3)) 1 (Create 1 (codes "d") (titled (codes "d"))) ≡
    Ok (Page 5 (codes "00010004") (codes "/d/"))
unfolding step_by needs_of front_rules row_of rules effect desk_page path_text step_text
a_deletion_leaves_a_hole = refl

-- a page goes with the page below it
two_pages_go : said three_and_one 1 (Delete 4) ≡ Ok (Removed 2)
unfolding step_by needs_of front_rules row_of rules effect desk_page path_text step_text
two_pages_go = refl

-- the root does not go
the_root_does_not_go : said three 1 (Delete 1) ≡ Err IsRoot
unfolding step_by needs_of front_rules row_of rules effect desk_page path_text step_text
the_root_does_not_go = refl

-- the last page's step is taken again once it is gone
the_last_step_is_taken_again :
    said (after three 1 (Delete 4)) 1 (Create 1 (codes "d") (titled (codes "d"))) ≡
    Ok (Page 5 (codes "00010003") (codes "/d/"))
unfolding step_by needs_of front_rules row_of rules effect desk_page path_text step_text
the_last_step_is_taken_again = refl

-- a move to the left of the first page takes its step, and each later sibling goes up by one
left_of_the_first : said three_and_one 1 (Move 4 2 Left) ≡
    Ok (Page 4 (codes "00010001") (codes "/c/"))
unfolding step_by needs_of front_rules row_of rules effect desk_page path_text step_text
left_of_the_first = refl

-- the page below goes with it
the_page_below_goes_with_it :
    place_of 5 (after three_and_one 1 (Move 4 2 Left)) ≡
    (codes "000100010001", codes "/c/x/")
unfolding step_by needs_of front_rules row_of rules effect desk_page path_text step_text
the_page_below_goes_with_it = refl

-- to the right of the last page is the end, and the hole stays
right_of_the_last : said three 1 (Move 2 4 Right) ≡ Ok (Page 2 (codes "00010004") (codes "/a/"))
unfolding step_by needs_of front_rules row_of rules effect desk_page path_text step_text
right_of_the_last = refl

-- to the right of a page is before the next one that stays, whose step it takes
right_of_a_page : said three_and_one 1 (Move 4 2 Right) ≡
    Ok (Page 4 (codes "00010002") (codes "/c/"))
unfolding step_by needs_of front_rules row_of rules effect desk_page path_text step_text
right_of_a_page = refl

-- to the right of the page before it, it stands where it stood, and that is no refusal
right_of_the_one_before : said three 1 (Move 3 2 Right) ≡
    Ok (Page 3 (codes "00010003") (codes "/b/"))
unfolding step_by needs_of front_rules row_of rules effect desk_page path_text step_text
right_of_the_one_before = refl

-- the page after it then goes up by one
the_page_after_goes_up : place_of 4 (after three 1 (Move 3 2 Right)) ≡
    (codes "00010004", codes "/c/")
unfolding step_by needs_of front_rules row_of rules effect desk_page path_text step_text
the_page_after_goes_up = refl

-- the first among the siblings of a target
first_sibling : said three 1 (Move 4 3 FirstSibling) ≡
    Ok (Page 4 (codes "00010001") (codes "/c/"))
unfolding step_by needs_of front_rules row_of rules effect desk_page path_text step_text
first_sibling = refl

-- the last among them
last_sibling : said three 1 (Move 2 3 LastSibling) ≡ Ok (Page 2 (codes "00010004") (codes "/a/"))
unfolding step_by needs_of front_rules row_of rules effect desk_page path_text step_text
last_sibling = refl

-- the first below a target
first_child : said three_and_one 1 (Move 2 4 FirstChild) ≡
    Ok (Page 2 (codes "000100030001") (codes "/c/a/"))
unfolding step_by needs_of front_rules row_of rules effect desk_page path_text step_text
first_child = refl

-- the last below it
last_child : said three_and_one 1 (Move 2 4 LastChild) ≡
    Ok (Page 2 (codes "000100030002") (codes "/c/a/"))
unfolding step_by needs_of front_rules row_of rules effect desk_page path_text step_text
last_child = refl

-- beside itself is nothing new
beside_itself : said three 1 (Move 2 2 Left) ≡ Err NothingNew
unfolding step_by needs_of front_rules row_of rules effect desk_page path_text step_text
beside_itself = refl

-- below itself
below_itself : said three_and_one 1 (Move 4 5 LastChild) ≡ Err IntoItself
unfolding step_by needs_of front_rules row_of rules effect desk_page path_text step_text
below_itself = refl

-- at a place below itself
as_its_own_child : said three_and_one 1 (Move 4 4 FirstChild) ≡ Err IntoItself
unfolding step_by needs_of front_rules row_of rules effect desk_page path_text step_text
as_its_own_child = refl

-- the root stays
the_root_stays : said three 1 (Move 1 2 LastChild) ≡ Err IsRoot
unfolding step_by needs_of front_rules row_of rules effect desk_page path_text step_text
the_root_stays = refl

-- nothing stands beside the root
beside_the_root : said three 1 (Move 2 1 Right) ≡ Err IsRoot
unfolding step_by needs_of front_rules row_of rules effect desk_page path_text step_text
beside_the_root = refl

-- the page is looked for before the target
the_page_first : said three 1 (Move 8 9 Left) ≡ Err (NoPage 8)
unfolding step_by needs_of front_rules row_of rules effect desk_page path_text step_text
the_page_first = refl

-- and then the target
the_target_then : said three 1 (Move 2 9 Left) ≡ Err (NoPage 9)
unfolding step_by needs_of front_rules row_of rules effect desk_page path_text step_text
the_target_then = refl

-- another slug
another_slug : said three_and_one 1 (SetSlug 4 (codes "y")) ≡
    Ok (Page 4 (codes "00010003") (codes "/y/"))
unfolding step_by needs_of front_rules row_of rules effect desk_page path_text step_text
another_slug = refl

-- it is in the URL of the page below
the_page_below_has_it : place_of 5 (after three_and_one 1 (SetSlug 4 (codes "y")))
    ≡ (codes "000100030001", codes "/y/x/")
unfolding step_by needs_of front_rules row_of rules effect desk_page path_text step_text
the_page_below_has_it = refl

-- the slug that it has is nothing new
the_same_slug : said three 1 (SetSlug 4 (codes "c")) ≡ Err NothingNew
unfolding step_by needs_of front_rules row_of rules effect desk_page path_text step_text
the_same_slug = refl

-- a slug that a sibling has
a_siblings_slug : said three 1 (SetSlug 4 (codes "a")) ≡ Err (SlugTaken 2)
unfolding step_by needs_of front_rules row_of rules effect desk_page path_text step_text
a_siblings_slug = refl

-- pages 2 and 3 are home and news below the root
abbrev home_and_news : TreePart
home_and_news = with_page 1 (codes "news") with_home

-- news goes below home
news_below_home : said home_and_news 1 (Move 3 2 FirstChild) ≡
    Ok (Page 3 (codes "000100010001") (codes "/home/news/"))
unfolding step_by needs_of front_rules row_of rules effect desk_page path_text step_text
news_below_home = refl

-- and is blog then
abbrev with_news_below : TreePart
with_news_below = after home_and_news 1 (Move 3 2 FirstChild)

-- as its answer says
news_is_blog : said with_news_below 1 (SetSlug 3 (codes "blog")) ≡
    Ok (Page 3 (codes "000100010001") (codes "/home/blog/"))
unfolding step_by needs_of front_rules row_of rules effect desk_page path_text step_text
news_is_blog = refl

-- both go with home
home_goes : said with_news_below 1 (Delete 2) ≡ Ok (Removed 2)
unfolding step_by needs_of front_rules row_of rules effect desk_page path_text step_text
home_goes = refl
