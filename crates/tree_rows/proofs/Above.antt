-- The walk to a page is the walk to its parent, and the page, in whatever is read off each page.
use Rattle.std.proofs.Common.{◌≡◌, ℕ, Bool, true, false, cond, ◌||◌, List, [], ◌∷◌, ◌++◌, Option, Some, None, map, nat_eq, refl, sym, ap, ◌∙◌, arith}
use Rattle.std.specs.List.{AllByRecursion}
use Rattle.std.proofs.lemmas.Bool.Decides.{nat_tests}
use Rattle.page_tree.specs.Tree.{Forest, bare, grown, AllIds, has_page}
use Rattle.page_tree.specs.Walk.{Visit, walk, kid_count, first_walk, extended}
use Rattle.page_tree.specs.Rows.{Row, rows_below, child_url}
use Rattle.page_tree.proofs.RowLemmas.{AllIds-weaker}
use Rattle.page_tree.proofs.WalkLemmas.{walk-absent}
use Rattle.page_store.proofs.AllLemmas.{All-append, All-both}
use Rattle.tree_rows.proofs.Apart.{Lacks, AreApart, rows_ids, rows_parents}

-- the second of three tests that holds
second_holds : (a b c : Bool) → b ≡ true → a || (b || c) ≡ true
second_holds true b c holds = refl
second_holds false b c holds = rw holds refl

-- the last of three tests that holds
third_holds : (a b c : Bool) → c ≡ true → a || (b || c) ≡ true
third_holds true b c holds = refl
third_holds false true c holds = refl
third_holds false false c holds = holds

module _ {Body : Type 0} where
  -- the walk leads to the page
  abbrev IsWalked : Forest Body → ℕ → Type 0
  IsWalked f id = walk id f ≡ [] → ⊥

  -- a page that is there is walked to, as the page itself, below it or behind it
  walked_to : (here : Visit Body) (t k r : Bool) (below after : List (Visit Body)) →
      (k ≡ true → below ≡ [] → ⊥) → (r ≡ true → after ≡ [] → ⊥) → t || (k || r) ≡ true →
      cond t (here ∷ []) (first_walk (extended here below) after) ≡ [] → ⊥
  walked_to here true k r below after in_kids in_rest there none = cc
  walked_to here false k r (visit ∷ below) after in_kids in_rest there none = cc
  walked_to here false true r [] after in_kids in_rest there none = in_kids refl refl
  walked_to here false false true [] after in_kids in_rest there none = in_rest refl none
  walked_to here false false false [] after in_kids in_rest there none = cc

  -- a page that is there is walked to
  there_walked : (id : ℕ) (f : Forest Body) → has_page id f ≡ true → IsWalked f id
  there_walked id bare there none = cc
  there_walked id (grown i s slug body kids rest) there none =
      walked_to
      (record { id = i; step = s; slug = slug; body = body; numchild = kid_count kids })
      (nat_eq i id) (has_page id kids) (has_page id rest) (walk id kids) (walk id rest)
      (there_walked id kids) (there_walked id rest) there none

  -- each page is there
  pub all_there : (f : Forest Body) → AllIds (λ j. has_page j f ≡ true) f
  all_there bare = tt
  all_there (grown i s slug body kids rest) =
      let same : nat_eq i i ≡ true = grind (arith, nat_tests) in (
        rw same refl,
        AllIds-weaker (λ j. has_page j kids ≡ true)
            (λ j. has_page j (grown i s slug body kids rest) ≡ true) kids
            (λ j there. second_holds (nat_eq i j) (has_page j kids) (has_page j rest) there)
            (all_there kids),
        AllIds-weaker (λ j. has_page j rest ≡ true)
            (λ j. has_page j (grown i s slug body kids rest) ≡ true) rest
            (λ j there. third_holds (nat_eq i j) (has_page j kids) (has_page j rest) there)
            (all_there rest),
      )

  -- two facts of each id
  AllIds-both : (P Q R : ℕ → Type 0) (f : Forest Body) → ((id : ℕ) → P id → Q id → R id) →
      AllIds P f → AllIds Q f → AllIds R f
  AllIds-both P Q R bare both ps qs = tt
  AllIds-both P Q R (grown i s slug body kids rest) both ps qs = (
    both i ps.0 qs.0,
    AllIds-both P Q R kids both ps.1 qs.1,
    AllIds-both P Q R rest both ps.2 qs.2,
  )

  module _ {A : Type 0} (read : ℕ → Body → A) where
    -- what is read off a page on a walk
    abbrev seen : Visit Body → A
    seen visit = read visit.id visit.body

    -- what is read off the pages on the walk to a page
    abbrev pub read_to : ℕ → Forest Body → List A
    read_to id f = map seen (walk id f)

    -- and on the walk to a parent, where there is one
    abbrev pub read_above : Option ℕ → Forest Body → List A
    read_above None f = []
    read_above (Some parent) f = read_to parent f

    -- no walk leads to a parent that is not there
    above_absent : (parent : Option ℕ) (f : Forest Body) → AllIds (λ j. parent ≡ Some j → ⊥) f →
        read_above parent f ≡ []
    above_absent None f apart = refl
    above_absent (Some p) f apart =
        ap (map seen)
        (walk-absent p f (AllIds-weaker (λ j. Some p ≡ Some j → ⊥) (λ j. j ≡ p → ⊥) f
        (λ j other e. other (ap Some (sym e))) apart))

    -- what is read on a walk that begins at a page with kids
    read_extended : (here : Visit Body) (below after : List (Visit Body)) → (below ≡ [] → ⊥) →
        map seen (first_walk (extended here below) after)
        ≡ seen here ∷ map seen below
    read_extended here [] after some = absurd (some refl)
    read_extended here (visit ∷ below) after some = refl

    module _ (i s : ℕ) (slug : List ℕ) (body : Body) (kids rest : Forest Body) where
      -- all pages
      abbrev whole : Forest Body
      whole = grown i s slug body kids rest

      -- the walk to the first page
      first_alone : read_to i whole ≡ read i body ∷ []
      first_alone = let same : nat_eq i i ≡ true = grind (arith, nat_tests) in rw same refl

      -- the walk to a page below it
      first_before : (j : ℕ) → (j ≡ i → ⊥) → IsWalked kids j →
          read_to j whole ≡ read i body ∷ read_to j kids
      first_before j other walked =
          let differs : nat_eq i j ≡ false = grind (arith, nat_tests) in
          rw differs (read_extended _ (walk j kids) (walk j rest) walked)

      -- the walk to a page behind it
      first_passed : (j : ℕ) → (j ≡ i → ⊥) → Lacks j kids → read_to j whole ≡ read_to j rest
      first_passed j other lacks =
          let differs : nat_eq i j ≡ false = grind (arith, nat_tests) in
          rw (differs, walk-absent j kids lacks) refl

    -- The walk to each of these pages is the walk to the page above it, and the page.
    pub read_walked : (q : Option ℕ) (path url : List ℕ) (f : Forest Body) → AreApart f →
        AllIds (λ j. q ≡ Some j → ⊥) f →
        AllByRecursion
        (λ (row : Row Body).
        read_to row.id f ≡ read_above row.parent f ++ read row.id row.body ∷ [])
        (rows_below q path url f)
    read_walked q path url bare apart outside = tt
    read_walked q path url (grown i s slug body kids rest) apart outside =
        let all = grown i s slug body kids rest in
        let none_above = above_absent q all outside in
        let kids_walked : AllIds (IsWalked kids) kids =
        AllIds-weaker (λ j. has_page j kids ≡ true) (IsWalked kids) kids
        (λ j there. there_walked j kids there) (all_there kids) in
        let below = rows_below (Some i) (path ++ s ∷ []) (child_url url slug) kids in
        let after = rows_below q path url rest in
        let ups : AllByRecursion (λ (row : Row Body). read_above row.parent all
        ≡ read i body ∷ read_above row.parent kids) below =
        rows_parents (λ (p : Option ℕ). read_above p all ≡ read i body ∷ read_above p kids) (Some i)
        (path ++ s ∷ []) (child_url url slug) kids
        (first_alone i s slug body kids rest
        ∙ ap (λ list. read i body ∷ list) (sym (ap (map seen)
        (walk-absent i kids apart.0.0))))
        (AllIds-both (λ j. j ≡ i → ⊥) (IsWalked kids)
        (λ j. read_to j all ≡ read i body ∷ read_to j kids) kids
        (λ j other walked. first_before i s slug body kids rest j other walked) apart.0.0
        kids_walked) in
        let owns : AllByRecursion (λ (row : Row Body). read_to row.id all
        ≡ read i body ∷ read_to row.id kids) below =
        rows_ids (λ j. read_to j all ≡ read i body ∷ read_to j kids) (Some i) (path ++ s ∷ [])
        (child_url url slug) kids
        (AllIds-both (λ j. j ≡ i → ⊥) (IsWalked kids)
        (λ j. read_to j all ≡ read i body ∷ read_to j kids) kids
        (λ j other walked. first_before i s slug body kids rest j other walked) apart.0.0
        kids_walked) in
        let inner = read_walked (Some i) (path ++ s ∷ []) (child_url url slug) kids apart.1
        (AllIds-weaker (λ j. j ≡ i → ⊥) (λ j. Some i ≡ Some j → ⊥) kids
        (λ j other e. other (let same : i ≡ j = cc in sym same)) apart.0.0) in
        let passed : AllIds (λ j. read_to j all ≡ read_to j rest) rest =
        AllIds-both (λ j. j ≡ i → ⊥) (λ j. Lacks j kids) (λ j. read_to j all ≡ read_to j rest) rest
        (λ j other lacks. first_passed i s slug body kids rest j other lacks) apart.0.1 apart.0.2 in
        let ups_after : AllByRecursion (λ (row : Row Body). read_above row.parent all
        ≡ read_above row.parent rest) after =
        rows_parents (λ (p : Option ℕ). read_above p all ≡ read_above p rest) q path url rest
        (none_above ∙ sym (above_absent q rest outside.2)) passed in
        let owns_after : AllByRecursion (λ (row : Row Body). read_to row.id all
        ≡ read_to row.id rest) after =
        rows_ids (λ j. read_to j all ≡ read_to j rest) q path url rest passed in
        let outer = read_walked q path url rest apart.2 outside.2 in (
          first_alone i s slug body kids rest
              ∙ ap (λ list. list ++ read i body ∷ []) (sym none_above),
          All-append _ below after
              (All-both _ _ _ (λ (row : Row Body) both up. both.0
              ∙ (ap (λ list. read i body ∷ list) both.1
              ∙ ap (λ list. list ++ read row.id row.body ∷ []) (sym up))) below
              (All-both _ _ (λ (row : Row Body).
              (read_to row.id all ≡ read i body ∷ read_to row.id kids)
              × (read_to row.id kids ≡ read_above row.parent kids ++ read row.id row.body ∷ []))
              (λ (row : Row Body) own more. (own, more)) below owns inner) ups)
              (All-both _ _ _ (λ (row : Row Body) both up. both.0
              ∙ (both.1 ∙ ap (λ list. list ++ read row.id row.body ∷ []) (sym up))) after
              (All-both _ _ (λ (row : Row Body).
              (read_to row.id all ≡ read_to row.id rest)
              × (read_to row.id rest ≡ read_above row.parent rest ++ read row.id row.body ∷ []))
              (λ (row : Row Body) own more. (own, more)) after owns_after outer) ups_after),
        )
