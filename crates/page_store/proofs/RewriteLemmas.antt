-- Listed texts that are put, and the steps that they take.
use Rattle.std.proofs.Common.{◌≡◌, ℕ, ◌+◌, ◌≤◌, Bool, true, false, cond, not, is_some, nat_eq, List, [], ◌∷◌, ◌++◌, Option, Some, None, length, filter, refl, ap, sym, ◌∙◌, arith}
use Rattle.std.specs.Option.{option_map, IfSome}
use Rattle.std.specs.Map.{lookup}
use Rattle.page_store.specs.declared.stored.StoredRow.{StoredRow}
use Rattle.step_path.specs.Path.{path_text}
use Rattle.page_store.specs.declared.rewrite.NewText.{NewText}
use Rattle.page_store.specs.declared.rewrite.NewText.TheVariants as texts
use Rattle.page_store.specs.Kept.{IsStored}
use Rattle.page_store.specs.Search.{HaveTexts}
use Rattle.page_store.specs.Relabelling.{listed_in_either}
use Rattle.page_store.specs.Settling.{path_put, url_put, listed_put}
use Rattle.page_store.specs.Rewriting.{text_put, path_counted, count_cleared, uncounted, uncounted_in}

-- a text takes one step at most
pub uncounted-small : (o : Option StoredRow) → uncounted o ≤ 1
uncounted-small None = omega arith
uncounted-small (Some stored) = by stored.counted
  where
    by : (t : Bool) → cond t 0 1 ≤ 1
    by true = omega arith
    by false = omega arith

-- a URL that is put leaves the count of its page
pub uncounted-listed : (url : Option (List ℕ)) (o : Option StoredRow) →
    uncounted (option_map (listed_put url_put url) o) ≡ uncounted o
uncounted-listed url None = refl
uncounted-listed None (Some stored) = refl
uncounted-listed (Some url) (Some stored) = refl

-- the steps of a list with one page more
pub uncounted_in-last : (stored : List (ℕ × StoredRow)) (pairs : List (ℕ × List ℕ)) (pair : ℕ × List ℕ) →
    uncounted_in stored (pairs ++ pair ∷ []) ≡ uncounted_in stored pairs + uncounted (lookup (nat_eq
    pair.0) stored)
uncounted_in-last stored [] pair = refl
uncounted_in-last stored (other ∷ pairs) pair =
    let more = uncounted_in-last stored pairs pair in omega arith

module _ (stored mid : List (ℕ × StoredRow)) (paths : List (ℕ × List ℕ)) (puts : (q : ℕ) →
    lookup (nat_eq q) mid ≡ option_map (listed_put path_counted (lookup (nat_eq q) paths)) (lookup
    (nat_eq q) stored)) where
  -- after the listed paths are put, a page takes a step for its URL only if no path is listed for it
  uncounted-other : (q : ℕ) → uncounted (lookup (nat_eq q) mid) ≤ cond (not (is_some (lookup (nat_eq q)
      paths))) 1 0
  uncounted-other q = rw (puts q) (by (lookup (nat_eq q) paths) (lookup (nat_eq q) stored))
    where
      by : (path : Option (List ℕ)) (o : Option StoredRow) →
          uncounted (option_map (listed_put path_counted path) o) ≤ cond (not (is_some path)) 1 0
      by None o = uncounted-small (option_map (listed_put path_counted None) o)
      by (Some path) None = omega arith
      by (Some path) (Some page) = omega arith

  -- so the URLs take no more steps than there are pages that are listed with a URL alone
  pub uncounted_in-others : (urls : List (ℕ × List ℕ)) → uncounted_in mid urls ≤ length (filter (λ (pair
      : ℕ × List ℕ). not (is_some (lookup (nat_eq pair.0) paths))) urls)
  uncounted_in-others [] = omega arith
  uncounted_in-others (pair ∷ urls) =
      by (not (is_some (lookup (nat_eq pair.0) paths))) (uncounted-other pair.0) (uncounted_in-others urls)
    where
      by : (t : Bool) → uncounted (lookup (nat_eq pair.0) mid) ≤ cond t 1 0 →
          uncounted_in mid urls ≤ length (filter (λ (pair : ℕ × List ℕ). not (is_some (lookup (nat_eq
          pair.0) paths))) urls) →
          uncounted_in mid urls + uncounted (lookup (nat_eq pair.0) mid) ≤ length (cond t (pair ∷
          filter (λ (pair : ℕ × List ℕ). not (is_some (lookup (nat_eq pair.0) paths))) urls) (filter (λ
          (pair : ℕ × List ℕ). not (is_some (lookup (nat_eq pair.0) paths))) urls))
      by true one more = omega arith
      by false one more = omega arith

-- a page that is not counted, with its listings, is not counted again
put_and_cleared : (path url : Option (List ℕ)) (page : StoredRow) → page.counted ≡ false →
    listed_put count_cleared path (listed_put url_put url (listed_put path_counted path page))
    ≡ listed_put url_put url (listed_put path_put path page)
put_and_cleared None url page fresh = refl
put_and_cleared (Some path) None page fresh =
    ap (λ (t : Bool). (let out : StoredRow = record (path_put path page) { counted = t } in out)) (sym fresh)
put_and_cleared (Some path) (Some url) page fresh =
    ap (λ (t : Bool). (let out : StoredRow = record (url_put url (path_put path page)) { counted = t } in
    out)) (sym fresh)

-- a text that is the path's, with its depth, is put as the path
pub path_rewritten : (text path : List ℕ) (depth id : ℕ) (mid later : ℕ → Option StoredRow) →
    text ≡ path_text path → depth ≡ length path →
    ((q : ℕ) → later q ≡ cond (nat_eq id q) (option_map (text_put (texts.Path text depth)) (mid id)) (mid
    q)) → (q : ℕ) → later q ≡ cond (nat_eq id q) (option_map (path_counted path) (mid id)) (mid q)
path_rewritten text path depth id mid later is long puts q =
    puts q ∙ ap (λ (t : NewText). cond (nat_eq id q) (option_map (text_put t) (mid id)) (mid q)) (ap (λ
    (own : List ℕ). texts.Path own depth) is ∙ ap (λ (n : ℕ). texts.Path (path_text path) n) long)

-- After the paths and the URLs are put and the counts cleared, what is kept has its listings.
pub all_put : (stored mid given later : List (ℕ × StoredRow)) (paths urls shown shown_urls : List (ℕ ×
    List ℕ)) → HaveTexts stored → shown ≡ paths → shown_urls ≡ urls →
    ((q : ℕ) → lookup (nat_eq q) mid ≡ option_map (listed_put path_counted (lookup (nat_eq q) shown))
    (lookup (nat_eq q) stored)) →
    ((q : ℕ) → lookup (nat_eq q) given ≡ option_map (listed_put url_put (lookup (nat_eq q) shown_urls))
    (lookup (nat_eq q) mid)) →
    ((q : ℕ) → lookup (nat_eq q) later ≡ option_map (listed_put count_cleared (lookup (nat_eq q) shown))
    (lookup (nat_eq q) given)) → (q : ℕ) →
    lookup (nat_eq q) later ≡ option_map (listed_put url_put (lookup (nat_eq q) urls)) (option_map
    (listed_put path_put (lookup (nat_eq q) paths)) (lookup (nat_eq q) stored))
all_put stored mid given later paths urls shown shown_urls texts paths_are urls_are puts gives clears q =
    rw (← paths_are, ← urls_are) (clears q ∙ ap (option_map (listed_put count_cleared (lookup (nat_eq q)
    shown))) (gives q ∙ ap (option_map (listed_put url_put (lookup (nat_eq q) shown_urls))) (puts q)) ∙
    by (lookup (nat_eq q) stored) (texts q))
  where
    by : (o : Option StoredRow) → IfSome o IsStored →
        option_map (listed_put count_cleared (lookup (nat_eq q) shown)) (option_map (listed_put url_put
        (lookup (nat_eq q) shown_urls)) (option_map (listed_put path_counted (lookup (nat_eq q) shown))
        o)) ≡ option_map (listed_put url_put (lookup (nat_eq q) shown_urls)) (option_map (listed_put
        path_put (lookup (nat_eq q) shown)) o)
    by None own = refl
    by (Some page) own =
        ap Some (put_and_cleared (lookup (nat_eq q) shown) (lookup (nat_eq q) shown_urls) page
        own.not_counted)

-- the steps of both lists are those of the pages in either
pub either_steps : (stored mid : List (ℕ × StoredRow)) (paths urls shown shown_urls : List (ℕ × List ℕ))
    (first last old : ℕ) → shown ≡ paths → shown_urls ≡ urls →
    ((q : ℕ) → lookup (nat_eq q) mid ≡ option_map (listed_put path_counted (lookup (nat_eq q) shown))
    (lookup (nat_eq q) stored)) → first ≤ old + length shown →
    last ≤ first + uncounted_in mid shown_urls → last ≤ old + listed_in_either paths urls
either_steps stored mid paths urls shown shown_urls first last old paths_are urls_are puts one other =
    rw (← paths_are, ← urls_are) (let most = uncounted_in-others stored mid shown puts shown_urls
    in omega arith)
