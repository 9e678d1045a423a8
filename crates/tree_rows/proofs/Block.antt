-- The rows of a page and of all below it stand together among the rows of a tree.
use Rattle.std.proofs.Common.{◌≡◌, ◌<◌, ◌+◌, ℕ, Bool, true, false, List, [], ◌∷◌, ◌++◌, Option, Some, nat_eq, ◌||◌, refl, sym, ap, ◌∙◌, subst, arith, append_assoc}
use Rattle.std.specs.List.{AllByRecursion}
use Rattle.std.proofs.lemmas.Bool.Decides.{nat_tests}
use Rattle.std.proofs.lemmas.List.{append-nil, map-append}
use Rattle.page_tree.specs.Tree.{Forest, bare, grown, Place, AreRising, AllIds, has_page, last_step, node_of, kids_of, without, put, graft}
use Rattle.page_tree.specs.Walk.{kid_count, walk, path_of}
use Rattle.page_tree.specs.Rows.{Row, rows_below, child_url, is_parent}
use Rattle.page_tree.proofs.RowLemmas.{AllIds-weaker}
use Rattle.page_tree.proofs.WalkLemmas.{walk-absent}
use Rattle.page_store.specs.Search.{begins}
use Rattle.page_store.proofs.AllLemmas.{All-append, All-weaker}
use Rattle.tree_rows.specs.Cuts.{lower_row, lower_count, with_count}
use Rattle.tree_rows.proofs.Apart.{Lacks, AreApart, kids_of-lacks, node_of-lacks, without-lacks, graft-lacks, lacks_after, lacks_below, rows_parents, rows_ids, AllIds-turned}
use Rattle.tree_rows.proofs.Lists.{all_parts}
use Rattle.tree_rows.proofs.Paths.{begins-other_step, begins-longer, rows_go_on, earlier_out}
use Rattle.tree_rows.proofs.BlockParts.{one_if, no_parent, not_same, lower_count-others, lowered_head, kid_count-graft, cons_both, path_below, or_else_first, or_else_bare}

module _ {Body : Type 0} where
  -- The rows of pages side by side, and among them those of one page and of all below it: its own,
  -- those of its kids behind it, and none of the others has a path that begins with its path.
  pub record Block (id before : ℕ) (parent : Option ℕ) (path url : List ℕ) (f : Forest Body) : Type
      0 where
    pub front : List (Row Body)
    pub top : Row Body
    pub behind : List (Row Body)
    pub step : ℕ
    pub more : List ℕ
    pub own_step : ℕ
    pub late : before < step
    pub path_is : top.path ≡ path ++ step ∷ more
    pub walk_is : path_of id f ≡ step ∷ more
    pub id_is : top.id ≡ id
    pub node_is : node_of id f ≡ grown id own_step top.slug top.body (kids_of id f) bare
    pub count_is : top.numchild ≡ kid_count (kids_of id f)
    pub rows_are : rows_below parent path url f
        ≡ front ++ (top ∷ (rows_below (Some id) top.path top.url (kids_of id f) ++ behind))
    pub front_out : AllByRecursion (λ (row : Row Body). begins top.path row.path ≡ false) front
    pub behind_out : AllByRecursion (λ (row : Row Body). begins top.path row.path ≡ false) behind
    pub front_ids : AllByRecursion (λ (row : Row Body). row.id ≡ id → ⊥) front
    pub inner_ids : AllByRecursion (λ (row : Row Body). row.id ≡ id → ⊥)
        (rows_below (Some id) top.path top.url (kids_of id f))
    pub behind_ids : AllByRecursion (λ (row : Row Body). row.id ≡ id → ⊥) behind
    pub kids_left : (i : ℕ) → parent ≡ Some i → Lacks i f →
        kid_count f ≡ kid_count (without id f) + one_if (is_parent i top.parent)
    pub cut_is : AllIds (λ j. parent ≡ Some j → ⊥) f →
        rows_below parent path url (without id f) ≡ lower_count top.parent (front ++ behind)
    pub graft_is : (place : Place) (node : Forest Body) →
        rows_below parent path url (graft id place node f)
        ≡ front ++ (with_count (kid_count (put place node (kids_of id f))) top
        ∷ (rows_below (Some id) top.path top.url (put place node (kids_of id f)) ++ behind))

  -- what holds of the parent and of each page holds of the parent of a block's page
  top_parent : (P : Option ℕ → Type 0) (id before : ℕ) (parent : Option ℕ) (path url : List ℕ)
      (f : Forest Body) →
      P parent → AllIds (λ j. P (Some j)) f → (b : Block id before parent path url f) →
      P b.top.parent
  top_parent P id before parent path url f one all b =
      let rows = subst (λ rows. AllByRecursion (λ (row : Row Body). P row.parent) rows) b.rows_are
      (rows_parents P parent path url f one all) in
      let parts = all_parts (λ (row : Row Body). P row.parent) b.front
      (b.top ∷ (rows_below (Some id) b.top.path b.top.url (kids_of id f) ++ b.behind)) rows in
      parts.1.0

  module _ (id before : ℕ) (parent : Option ℕ) (path url : List ℕ) (i s : ℕ) (slug : List ℕ)
      (body : Body)
      (kids rest : Forest Body) where
    -- all pages
    abbrev whole : Forest Body
    whole = grown i s slug body kids rest

    -- the first row
    abbrev head : Row Body
    head = record {
      id = i;
      parent = parent;
      path = path ++ s ∷ [];
      url = child_url url slug;
      slug = slug;
      numchild = kid_count kids;
      body = body;
    }

    -- the rows below the first page
    abbrev below : List (Row Body)
    below = rows_below (Some i) (path ++ s ∷ []) (child_url url slug) kids

    -- the rows of its siblings
    abbrev after : List (Row Body)
    after = rows_below parent path url rest

    -- the first page's block
    block_here : AreRising before whole → AreApart whole → i ≡ id →
        Block id before parent path url whole
    block_here rising apart is =
        let same : nat_eq i id ≡ true = grind (arith, nat_tests) in
        record {
          front = [];
          top = head;
          behind = after;
          step = s;
          more = [];
          own_step = s;
          late = rising.0;
          path_is = refl;
          walk_is = rw same refl;
          id_is = is;
          node_is = rw same (ap (λ n. grown n s slug body kids bare) is);
          count_is = rw same refl;
          rows_are = rw (same, ← is) refl;
          front_out = tt;
          behind_out = All-weaker _ _
              (λ (row : Row Body) on. earlier_out path [] row.path s s (last_step s rest)
              (omega arith) on) _ (rows_go_on parent path url s rest rising.2);
          front_ids = tt;
          inner_ids = rw same (rows_ids (λ j. j ≡ id →
              ⊥) (Some id) (path ++ s ∷ []) (child_url url slug) kids (rw is at apart.0.0));
          behind_ids = rows_ids (λ j. j ≡ id → ⊥) parent path url rest (rw is at apart.0.1);
          kids_left = λ j parent_is lacks.
              let own : nat_eq j j ≡ true = grind (arith, nat_tests) in
              rw (same, parent_is, own) refl;
          cut_is = λ apart. rw same (sym (lower_count-others parent after
              (rows_ids (λ j. is_parent j parent ≡ false) parent path url rest
              (AllIds-weaker _ (λ j. is_parent j parent ≡ false) rest (no_parent parent)
              apart.2))));
          graft_is = λ place node. rw (same, ← is) refl;
        }

    -- a page further down is none of these side by side
    below_kids_left : (i ≡ id → ⊥) → Lacks id rest →
        (b : Block id 0 (Some i) (path ++ s ∷ []) (child_url url slug) kids) → (j : ℕ) →
        Lacks j whole →
        kid_count whole ≡ kid_count (without id whole) + one_if (is_parent j b.top.parent)
    below_kids_left other lacks b j lacks_j =
        let differs : nat_eq i id ≡ false = grind (arith, nat_tests) in
        let deeper : is_parent j b.top.parent ≡ false =
        top_parent (λ q. is_parent j q ≡ false) id 0 (Some i) (path ++ s ∷ [])
        (child_url url slug) kids
        (not_same i j lacks_j.0)
        (AllIds-weaker _ (λ k. nat_eq k j ≡ false) kids (λ k. not_same k j) lacks_j.1) b in
        rw (differs, without-lacks id rest lacks, deeper) (omega arith)

    -- the rows that are left where a page further down is cut out
    below_cut_is : AreApart whole → (i ≡ id → ⊥) → Lacks id rest →
        (b : Block id 0 (Some i) (path ++ s ∷ []) (child_url url slug) kids) →
        rows_below parent path url (without id whole)
        ≡ lower_count b.top.parent ((head ∷ b.front) ++ (b.behind ++ after))
    below_cut_is apart other lacks b =
        let differs : nat_eq i id ≡ false = grind (arith, nat_tests) in
        let inner = b.cut_is (AllIds-weaker (λ j. j ≡ i → ⊥) (λ j. Some i ≡ Some j → ⊥) kids
        (λ j apart_j e. apart_j (let same : i ≡ j = cc in sym same)) apart.0.0) in
        let count = b.kids_left i refl apart.0.0 in
        let first = lowered_head head b.top.parent (kid_count (without id kids)) count in
        let others : AllByRecursion (λ (row : Row Body). is_parent row.id b.top.parent
        ≡ false) after =
        top_parent (λ q. AllByRecursion (λ (row : Row Body). is_parent row.id q ≡ false) after)
        id 0 (Some i) (path ++ s ∷ []) (child_url url slug) kids
        (rows_ids (λ k. nat_eq i k ≡ false) parent path url rest
        (AllIds-weaker _ (λ k. nat_eq i k ≡ false) rest
        (λ k apart_k. not_same i k (λ e. apart_k (sym e))) apart.0.1))
        (AllIds-weaker (λ j. Lacks j rest)
        (λ j. AllByRecursion (λ (row : Row Body). nat_eq j row.id ≡ false) after) kids
        (λ j lacks_j. rows_ids (λ k. nat_eq j k ≡ false) parent path url rest
        (AllIds-weaker _ (λ k. nat_eq j k ≡ false) rest
        (λ k apart_k. not_same j k (λ e. apart_k (sym e))) lacks_j))
        (AllIds-turned kids rest apart.0.2)) b in
        let kept = lower_count-others b.top.parent after others in
        let tail : rows_below (Some i) (path ++ s ∷ []) (child_url url slug) (without id kids)
        ++ after
        ≡ lower_count b.top.parent (b.front ++ (b.behind ++ after)) =
        ap (λ xs. xs ++ after) inner
        ∙ (ap (λ ys. lower_count b.top.parent (b.front ++ b.behind) ++ ys) (sym kept)
        ∙ (sym (map-append (lower_row b.top.parent) (b.front ++ b.behind) after)
        ∙ ap (lower_count b.top.parent) (append_assoc b.front b.behind after))) in
        rw (differs, without-lacks id rest lacks) (cons_both _ _ _ _ first tail)

    -- a block below the first page
    block_below : AreRising before whole → AreApart whole → (i ≡ id → ⊥) → Lacks id rest →
        Block id 0 (Some i) (path ++ s ∷ []) (child_url url slug) kids →
        Block id before parent path url whole
    block_below rising apart other lacks b =
        let differs : nat_eq i id ≡ false = grind (arith, nat_tests) in
        let path_is : b.top.path ≡ path ++ s ∷ b.step ∷ b.more = b.path_is
        ∙ append_assoc path (s ∷ []) (b.step ∷ b.more) in
        let kids_are : kids_of id whole
        ≡ kids_of id kids = rw (
          differs,
          kids_of-lacks id rest lacks,
        ) (or_else_bare (kids_of id kids)) in
        record {
          front = head ∷ b.front;
          top = b.top;
          behind = b.behind ++ after;
          step = s;
          more = b.step ∷ b.more;
          own_step = b.own_step;
          late = rising.0;
          path_is = path_is;
          walk_is = rw differs (path_below _ (walk id kids) (walk id rest) b.step b.more b.walk_is);
          id_is = b.id_is;
          node_is = rw (differs, kids_of-lacks id rest lacks, or_else_bare (kids_of id kids))
              (or_else_first _ _ _ _ _ _ _ _ b.node_is);
          count_is = b.count_is ∙ ap kid_count (sym kids_are);
          rows_are = rw (
            differs,
            kids_of-lacks id rest lacks,
            or_else_bare (kids_of id kids),
            b.rows_are,
            append_assoc b.front (b.top ∷
                (rows_below (Some id) b.top.path b.top.url (kids_of id kids) ++ b.behind)) after,
            append_assoc (rows_below (Some id) b.top.path b.top.url (kids_of id kids)) b.behind
                after,
          ) refl;
          front_out = (rw b.path_is (begins-longer (path ++ s ∷ []) b.more b.step), b.front_out);
          behind_out = All-append _ _ _ b.behind_out
              (All-weaker _ _ (λ (row : Row Body) on. rw path_is
              (earlier_out path (b.step ∷ b.more) row.path s s (last_step s rest) (omega arith)
              on)) _ (rows_go_on parent path url s rest rising.2));
          front_ids = (other, b.front_ids);
          inner_ids = rw (differs, kids_of-lacks id rest lacks, or_else_bare (kids_of id kids))
              b.inner_ids;
          behind_ids = All-append _ _ _ b.behind_ids
              (rows_ids (λ j. j ≡ id → ⊥) parent path url rest lacks);
          kids_left = λ j parent_is lacks_j. below_kids_left other lacks b j lacks_j;
          cut_is = λ others. below_cut_is apart other lacks b;
          graft_is = λ place node. rw (
            differs,
            graft-lacks id place node rest lacks,
            kids_of-lacks id rest lacks,
            or_else_bare (kids_of id kids),
            kid_count-graft id place node kids,
            b.graft_is place node,
            append_assoc b.front (with_count (kid_count (put place node (kids_of id kids))) b.top
                ∷ (rows_below (Some id) b.top.path b.top.url (put place node (kids_of id kids))
                ++ b.behind)) after,
            append_assoc (rows_below (Some id) b.top.path b.top.url
                (put place node (kids_of id kids))) b.behind after,
          ) refl;
        }

    -- a path that goes on by a later step than this one begins with none below it
    later_out : (a own : List ℕ) (step : ℕ) → s < step → (more : List ℕ) → own ≡ (path ++ s ∷ [])
        ++ more →
        begins (path ++ step ∷ a) own ≡ false
    later_out a own step late more is =
        rw (is, append_assoc path (s ∷ []) more)
        (begins-other_step path a more step s (λ e. absurd (omega arith)))

    -- the rows that are left where a page behind the first is cut out
    after_cut_is : AreApart whole → (i ≡ id → ⊥) → Lacks id kids →
        (b : Block id s parent path url rest) → AllIds (λ j. parent ≡ Some j → ⊥) whole →
        rows_below parent path url (without id whole)
        ≡ lower_count b.top.parent ((head ∷ (below ++ b.front)) ++ b.behind)
    after_cut_is apart other lacks b others =
        let differs : nat_eq i id ≡ false = grind (arith, nat_tests) in
        let inner = b.cut_is others.2 in
        let first : is_parent i b.top.parent ≡ false =
        top_parent (λ q. is_parent i q ≡ false) id s parent path url rest
        (no_parent parent i others.0)
        (AllIds-weaker _ (λ j. nat_eq j i ≡ false) rest (λ j. not_same j i) apart.0.1) b in
        let apart_below : AllByRecursion (λ (row : Row Body). is_parent row.id b.top.parent
        ≡ false) below =
        top_parent (λ q. AllByRecursion (λ (row : Row Body). is_parent row.id q ≡ false) below)
        id s parent path url rest
        (rows_ids (λ k. is_parent k parent ≡ false) (Some i) (path ++ s ∷ [])
        (child_url url slug) kids
        (AllIds-weaker _ (λ k. is_parent k parent ≡ false) kids (no_parent parent) others.1))
        (AllIds-weaker (λ j. Lacks j kids)
        (λ j. AllByRecursion (λ (row : Row Body). nat_eq j row.id ≡ false) below) rest
        (λ j lacks_j. rows_ids (λ k. nat_eq j k ≡ false) (Some i) (path ++ s ∷ [])
        (child_url url slug) kids
        (AllIds-weaker _ (λ k. nat_eq j k ≡ false) kids
        (λ k apart_k. not_same j k (λ e. apart_k (sym e))) lacks_j))
        apart.0.2) b in
        let kept = lower_count-others b.top.parent below apart_below in
        let tail : below ++ rows_below parent path url (without id rest)
        ≡ lower_count b.top.parent ((below ++ b.front) ++ b.behind) =
        ap (λ ys. below ++ ys) inner
        ∙ (ap (λ xs. xs ++ lower_count b.top.parent (b.front ++ b.behind)) (sym kept)
        ∙ (sym (map-append (lower_row b.top.parent) below (b.front ++ b.behind))
        ∙ ap (lower_count b.top.parent) (sym (append_assoc below b.front b.behind)))) in
        rw (differs, without-lacks id kids lacks, first) (cons_both _ _ _ _ refl tail)

    -- a block among the siblings behind the first page
    block_after : AreRising before whole → AreApart whole → (i ≡ id → ⊥) → Lacks id kids →
        Block id s parent path url rest → Block id before parent path url whole
    block_after rising apart other lacks b =
        let differs : nat_eq i id ≡ false = grind (arith, nat_tests) in
        let first = rising.0 in
        let late = b.late in
        let kids_are : kids_of id whole
        ≡ kids_of id rest = rw (differs, kids_of-lacks id kids lacks) refl in
        record {
          front = head ∷ (below ++ b.front);
          top = b.top;
          behind = b.behind;
          step = b.step;
          more = b.more;
          own_step = b.own_step;
          late = omega arith;
          path_is = b.path_is;
          walk_is = rw (differs, walk-absent id kids lacks) b.walk_is;
          id_is = b.id_is;
          node_is = rw (
            differs,
            kids_of-lacks id kids lacks,
            node_of-lacks id kids lacks,
          ) b.node_is;
          count_is = b.count_is ∙ ap kid_count (sym kids_are);
          rows_are = rw (
            differs,
            kids_of-lacks id kids lacks,
            b.rows_are,
            append_assoc below b.front
                (b.top ∷ (rows_below (Some id) b.top.path b.top.url (kids_of id rest)
                ++ b.behind)),
          ) refl;
          front_out = (
            rw b.path_is
                (later_out b.more (path ++ s ∷ []) b.step late []
                (sym (append-nil (path ++ s ∷ [])))),
            All-append _ _ _
                (All-weaker _ _ (λ (row : Row Body) on. rw b.path_is
                (later_out b.more row.path b.step late (on.step ∷ on.more) on.is)) _
                (rows_go_on (Some i) (path ++ s ∷ []) (child_url url slug) 0 kids rising.1))
                b.front_out,
          );
          behind_out = b.behind_out;
          front_ids = (
            other,
            All-append _ _ _
                (rows_ids (λ j. j ≡ id → ⊥) (Some i) (path ++ s ∷ []) (child_url url slug) kids
                lacks) b.front_ids,
          );
          inner_ids = rw (differs, kids_of-lacks id kids lacks) b.inner_ids;
          behind_ids = b.behind_ids;
          kids_left = λ j parent_is lacks_j. let more = b.kids_left j parent_is lacks_j.2 in
              rw differs (omega arith);
          cut_is = λ others. after_cut_is apart other lacks b others;
          graft_is = λ place node. rw (
            differs,
            graft-lacks id place node kids lacks,
            kids_of-lacks id kids lacks,
            b.graft_is place node,
            append_assoc below b.front
                (with_count (kid_count (put place node (kids_of id rest))) b.top
                ∷ (rows_below (Some id) b.top.path b.top.url (put place node (kids_of id rest))
                ++ b.behind)),
          ) refl;
        }

  -- the block of each page that is there
  pub block_of : (id before : ℕ) (parent : Option ℕ) (path url : List ℕ) (f : Forest Body) →
      AreRising before f → AreApart f → has_page id f ≡ true → Block id before parent path url f
  block_of id before parent path url bare rising apart there = absurd cc
  block_of id before parent path url (grown i s slug body kids rest) rising apart there =
      by (nat_eq i id) refl (has_page id kids) refl
      (block_of id 0 (Some i) (path ++ s ∷ []) (child_url url slug) kids rising.1 apart.1)
      (block_of id s parent path url rest rising.2 apart.2) there
    where
      by : (here : Bool) → nat_eq i id ≡ here → (inside : Bool) → has_page id kids ≡ inside →
          (has_page id kids ≡ true →
          Block id 0 (Some i) (path ++ s ∷ []) (child_url url slug) kids) →
          (has_page id rest ≡ true → Block id s parent path url rest) →
          here || (inside || has_page id rest) ≡ true →
          Block id before parent path url (grown i s slug body kids rest)
      by true e inside k deeper later is = let same : i ≡ id = grind (arith, nat_tests) in
          block_here id before parent path url i s slug body kids rest rising apart same
      by false e true k deeper later is = let other : i ≡ id → ⊥ = λ q. grind (arith, nat_tests) in
          block_below id before parent path url i s slug body kids rest rising apart other
          (lacks_after id i kids rest apart.0.2 k) (deeper k)
      by false e false k deeper later is = let other : i ≡ id → ⊥ = λ q. grind (arith, nat_tests) in
          block_after id before parent path url i s slug body kids rest rising apart other
          (lacks_below id kids rest apart.0.2 is) (later is)
