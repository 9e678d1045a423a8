-- The pages from one above another down to that other one, and what is granted on that way.
use Rattle.std.proofs.Common.{◌≡◌, ℕ, Bool, true, false, cond, not, ◌&&◌, ◌||◌, nat_eq, List, [], ◌∷◌, ◌++◌, Option, Some, None, IsSome, map, refl, sym, ap, ◌∙◌, arith}
use Rattle.std.specs.List.{list_any}
use Rattle.std.specs.Prelude.{option_and_then}
use Rattle.std.proofs.lemmas.Bool.Decides.{nat_tests}
use Rattle.std.proofs.lemmas.List.Folds.{list_any-append}
use Rattle.page_tree.specs.Tree.{Forest, bare, grown}
use Rattle.page_tree.specs.Walk.{Visit, walk, first_walk, extended, kid_count}
use Rattle.page_tree.specs.Rows.{rows_of, row_with}
use Rattle.site_types.specs.declared.body.Body.{Body}
use Rattle.site_types.specs.declared.permission.Permission.{Permission}
use Rattle.site_types.specs.declared.world_rows.Grant.{Grant}
use Rattle.site_types.specs.declared.world_rows.Member.{Member}
use Rattle.page_store.specs.Pages.{Page, ArePages}
use Rattle.site_model.specs.World.{TreePart}
use Rattle.site_model.specs.Rights as rights
use Rattle.site_model.specs.Rights.{rights_of, groups_of, has_group, permits, gives, is_same}
use Rattle.site_model.specs.Views.{stage_of, body_of, view_of, meets, moderates}
use Rattle.site_model.specs.Losing.{is_within}
use Rattle.site_model.specs.LosingLaws.{from_page, between, edits_below, is_lost_below}
use Rattle.site_model.proofs.ViewLemmas.{view_is}
use Rattle.desk_pairs.specs.Pairs.{pair_of}
use Rattle.site_part.specs.declared.part.TreePart as memory
use Rattle.grants.specs.declared.right.Held.{Held}
use Rattle.grants.specs.Granted.{held_where, held_either, seen_held}
use Rattle.grants.proofs.AboveLemmas.{ids_to, ids_above}
use Rattle.grants.proofs.HeldLemmas.{held_agree, any_agree, any_kept}
use Rattle.grants.proofs.UpLemmas.{walk_up}
use Rattle.lost_desks.specs.Staying.{HasDesksOf}

-- the ids of a walk
abbrev ids : List (Visit Body) → List ℕ
ids visits = map (λ (visit : Visit Body). visit.id) visits

-- a walk to a page has only the page itself from the page on
pub from_itself : (page : ℕ) (f : Forest Body) → (walk page f ≡ [] → ⊥) →
    from_page page (ids_to page f) ≡ page ∷ []
from_itself page bare some = absurd (some refl)
from_itself page (grown i s slug body kids rest) some =
    choice (nat_eq i page) refl (walk page kids) some (from_itself page kids) (from_itself page rest)
  where
    here : Visit Body
    here = record { id = i; step = s; slug = slug; body = body; numchild = kid_count kids }

    choice : (t : Bool) → nat_eq i page ≡ t → (below : List (Visit Body)) →
        (cond t (here ∷ []) (first_walk (extended here below) (walk page rest)) ≡ [] → ⊥) →
        ((below ≡ [] → ⊥) → from_page page (ids below) ≡ page ∷ []) →
        ((walk page rest ≡ [] → ⊥) → from_page page (ids_to page rest) ≡ page ∷ []) →
        from_page page (ids (cond t (here ∷ []) (first_walk (extended here below) (walk page rest))))
        ≡ page ∷ []
    choice true is below there in_kids in_rest =
        let same : i ≡ page = grind (arith, nat_tests) in
        rw is (ap (λ id. id ∷ []) same)
    choice false is [] there in_kids in_rest = in_rest there
    choice false is (visit ∷ below) there in_kids in_rest = rw is (in_kids (λ none. cc))

-- from a page that is among some, more behind them come along
from_more : (page : ℕ) (some more : List ℕ) → list_any (λ one. nat_eq one page) some ≡ true →
    from_page page (some ++ more) ≡ from_page page some ++ more
from_more page [] more among = absurd cc
from_more page (one ∷ some) more among =
    choice (nat_eq one page) among (from_more page some more)
  where
    choice : (t : Bool) → t || list_any (λ id. nat_eq id page) some ≡ true →
        (list_any (λ id. nat_eq id page) some ≡ true →
        from_page page (some ++ more) ≡ from_page page some ++ more) →
        cond t (one ∷ some ++ more) (from_page page (some ++ more))
        ≡ cond t (one ∷ some) (from_page page some) ++ more
    choice true is later = refl
    choice false is later = later is

-- a list with one more is not empty
pub not_empty : (some : List ℕ) (one : ℕ) (visits : List (Visit Body)) →
    ids visits ≡ some ++ one ∷ [] → visits ≡ [] → ⊥
not_empty some one visits is none =
    never some (ap ids (sym none) ∙ is)
  where
    never : (front : List ℕ) → [] ≡ front ++ one ∷ [] → ⊥
    never [] e = cc
    never (id ∷ front) e = cc

-- three tests, of which the first goes behind the second
turned : (group at same : Bool) → group && (at && same) ≡ at && (same && group)
turned true true true = refl
turned true true false = refl
turned true false same = refl
turned false true true = refl
turned false true false = refl
turned false false same = refl

-- what is permitted at a page by what is granted to a user is what gives the user's groups something
pub permits_is : (world : TreePart) (user page : ℕ) (p : Permission) →
    list_any (permits p page) (rights_of world user).granted
    ≡ list_any (gives (groups_of world.members user) p page) world.grants
permits_is world user page p =
    let groups = groups_of world.members user in
    any_kept (λ (g : Grant). has_group groups g.group) (permits p page) world.grants
    ∙ any_agree (λ (g : Grant). has_group groups g.group && permits p page g)
    (gives groups p page)
    (λ g. turned (has_group groups g.group) (nat_eq g.page page) (is_same g.permission p))
    world.grants

-- what is granted here is granted in the world
pub given_there : (world : TreePart) (kept : memory.TreePart) → HasDesksOf world kept →
    (page user : ℕ) (here : Held) →
    here ≡ held_where (λ p. list_any (gives (groups_of kept.grants.members user) p page)
    kept.grants.grants) →
    here ≡ held_where (λ p. list_any (gives (groups_of world.members user) p page) world.grants)
given_there world kept has page user here is =
    is
    ∙ (ap (λ (members : List Member). held_where (λ p. list_any
    (gives (groups_of members user) p page) kept.grants.grants)) has.lists.members
    ∙ ap (λ (grants : List Grant). held_where (λ p. list_any
    (gives (groups_of world.members user) p page) grants)) has.lists.grants)

module _ (pages : List Page) (are : ArePages pages) (world : TreePart)
    (is_tree : pages ≡ rows_of world.tree) (top page user : ℕ) (there : IsSome (row_with page pages))
  where
    -- what is granted to the user at a page
    abbrev pub given : Permission → ℕ → Bool
    given p id = list_any (permits p id) (rights_of world user).granted

    -- the page above
    abbrev above : Option ℕ
    above = option_and_then (λ (row : Page). row.parent) (row_with page pages)

    -- what is granted on the way to the page from the page itself
    pub granted_alone : (here : Held) → nat_eq page top ≡ true →
        here ≡ held_where (λ p. list_any
        (gives (groups_of world.members user) p page) world.grants) →
        here ≡ held_where (λ p. list_any (given p) (between world.tree top page))
    granted_alone here is here_is =
        let same : page ≡ top = grind (arith, nat_tests) in
        let up = walk_up pages are page world.tree is_tree there in
        let own = from_itself page world.tree
        (not_empty (ids_above above world.tree) page (walk page world.tree) up) in
        let alone : between world.tree top page ≡ page ∷ [] =
        ap (λ id. from_page id (ids_to page world.tree)) (sym same) ∙ own in
        here_is
        ∙ held_agree (λ p. list_any (gives (groups_of world.members user) p page) world.grants)
        (λ p. list_any (given p) (between world.tree top page))
        (λ p. sym (permits_is world user page p)
        ∙ (sym (or_none (given p page)) ∙ ap (list_any (given p)) (sym alone)))
      where
        or_none : (a : Bool) → a || false ≡ a
        or_none true = refl
        or_none false = refl

    -- what is granted from one above, by what is granted on the way to the page above
    pub granted_above : (parent : ℕ) (up here : Held) → Some parent ≡ above →
        nat_eq page top ≡ false → is_within world.tree top parent ≡ true →
        up ≡ held_where (λ p. list_any (given p) (between world.tree top parent)) →
        here ≡ held_where (λ p. list_any
        (gives (groups_of world.members user) p page) world.grants) →
        held_either up here ≡ held_where (λ p. list_any (given p) (between world.tree top page))
    granted_above parent up here is differ within up_is here_is =
        let way : ids_to page world.tree ≡ ids_to parent world.tree ++ page ∷ [] =
        walk_up pages are page world.tree is_tree there
        ∙ ap (λ (o : Option ℕ). ids_above o world.tree ++ page ∷ []) (sym is) in
        let more : between world.tree top page ≡ between world.tree top parent ++ page ∷ [] =
        ap (from_page top) way ∙ from_more top (ids_to parent world.tree) (page ∷ []) within in
        ap (λ held. held_either held here) up_is
        ∙ (ap (λ held. held_either
        (held_where (λ p. list_any (given p) (between world.tree top parent))) held) here_is
        ∙ held_agree
        (λ p. list_any (given p) (between world.tree top parent)
        || list_any (gives (groups_of world.members user) p page) world.grants)
        (λ p. list_any (given p) (between world.tree top page))
        (λ p. ap (λ t. list_any (given p) (between world.tree top parent) || t)
        (sym (permits_is world user page p) ∙ sym (or_none (given p page)))
        ∙ (sym (list_any-append (given p) (between world.tree top parent) (page ∷ []))
        ∙ ap (list_any (given p)) (sym more))))
      where
        or_none : (a : Bool) → a || false ≡ a
        or_none true = refl
        or_none false = refl

    -- a page above another is above the one above that, or is that one
    pub within_parent : (parent : ℕ) → Some parent ≡ above → nat_eq page top ≡ false →
        is_within world.tree top page ≡ true → is_within world.tree top parent ≡ true
    within_parent parent is differ within =
        let way : ids_to page world.tree ≡ ids_to parent world.tree ++ page ∷ [] =
        walk_up pages are page world.tree is_tree there
        ∙ ap (λ (o : Option ℕ). ids_above o world.tree ++ page ∷ []) (sym is) in
        let both = sym (ap (list_any (λ one. nat_eq one top)) way
        ∙ list_any-append (λ one. nat_eq one top) (ids_to parent world.tree) (page ∷ [])) ∙ within in
        first (is_within world.tree top parent) (nat_eq page top) differ both
      where
        first : (t u : Bool) → u ≡ false → t || (u || false) ≡ true → t ≡ true
        first true u fails either = refl
        first false true fails either = absurd cc
        first false false fails either = either

    -- nothing is above a page that has none above it but the page
    pub within_root : None ≡ above → nat_eq page top ≡ false →
        is_within world.tree top page ≡ true → ⊥
    within_root is differ within =
        let way : ids_to page world.tree ≡ page ∷ [] =
        walk_up pages are page world.tree is_tree there
        ∙ ap (λ (o : Option ℕ). ids_above o world.tree ++ page ∷ []) (sym is) in
        let alone : nat_eq page top || false ≡ true =
        sym (ap (list_any (λ one. nat_eq one top)) way) ∙ within in
        never (nat_eq page top) differ alone
      where
        never : (t : Bool) → t ≡ false → t || false ≡ true → ⊥
        never true fails holds = cc
        never false fails holds = cc

-- three ways to edit, one after the other
edit_ways : (change own asked : Bool) → (change || own) || asked ≡ change || (own || asked)
edit_ways true own asked = refl
edit_ways false own asked = refl

module _ (world : TreePart) (top parent page user : ℕ) where
  -- Whether a user may edit a page once one above it is below a parent.
  pub edits_if : (body : Body) (held granted : Held) (asked : Bool) →
      body_of world.tree page ≡ Some body →
      asked ≡ moderates (rights_of world user) (stage_of world body.moderation) →
      seen_held held ≡ rights.held world user parent →
      granted ≡ held_where (λ p. list_any
      (λ id. list_any (permits p id) (rights_of world user).granted) (between world.tree top page)) →
      ((held.change || granted.change)
      || ((held.add || granted.add) && nat_eq body.owner user)) || asked
      ≡ meets (edits_below world user parent (between world.tree top page)) (view_of world page)
  edits_if body held granted asked kept asked_is is below =
      let change = ap (λ (h : rights.Held). h.change) is in
      let add = ap (λ (h : rights.Held). h.add) is in
      let more_change = ap (λ (h : Held). h.change) below in
      let more_add = ap (λ (h : Held). h.add) below in
      edit_ways (held.change || granted.change)
      ((held.add || granted.add) && nat_eq body.owner user) asked
      ∙ rw (view_is world page, kept, asked_is, change, add, more_change, more_add) refl

  -- a desk on a page that is not below the one that is moved is not lost
  pub kept_outside : is_within world.tree top page ≡ false →
      false ≡ is_lost_below world top parent (pair_of page user)
  kept_outside outside = rw outside refl

  -- one on a page below it is lost where its user may not edit there
  pub lost_inside : (edits : Bool) → is_within world.tree top page ≡ true →
      edits ≡ meets (edits_below world user parent (between world.tree top page))
      (view_of world page) →
      not edits ≡ is_lost_below world top parent (pair_of page user)
  lost_inside edits inside is = rw (inside, ← is) refl
