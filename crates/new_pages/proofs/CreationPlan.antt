-- What the plan of a new page tells of the rules.
use Rattle.std.proofs.Common.{◌≡◌, inl, inr, ◌≤◌, ◌+◌, ℕ, Bool, true, false, not, cond, ◌&&◌, ◌||◌, nat_le, find, List, [], ◌∷◌, ◌++◌, length, Option, Some, None, is_some, Result, Ok, Err, nat_lt, refl, sym, ap, subst, ◌∙◌, arith}
use Rattle.std.specs.Str.{bytes_eq}
use Rattle.std.specs.Option.{option_map}
use Rattle.std.proofs.lemmas.Bool.Decides.{nat_tests}
use Rattle.page_tree.specs.Tree.{Forest, bare, grown, End, has_page, without, kids_of, kid_with_slug, step_needed}
use Rattle.page_tree.specs.Walk.{path_of}
use Rattle.page_tree.specs.Rows.{Row, rows_of, row_with, is_parent, kid_named, child_url}
use Rattle.page_store.specs.Pages.{ArePages}
use Rattle.page_store.proofs.SeenLemmas.{All-find}
use Rattle.site_ids.specs.Ids.{IsPageId}
use Rattle.step_path.specs.declared.path.TheConstants.{MAX_DEPTH}
use Rattle.site_types.specs.declared.body.Body.{Body}
use Rattle.site_types.specs.declared.refusal.Refusal.{Refusal}
use Rattle.site_types.specs.declared.refusal.Refusal.TheVariants.{SlugTaken, StepsFull, TooDeep, UrlTooLong}
use Rattle.tree_model.specs.Limits.{MAX_URL, is_full, has_long_url}
use Rattle.tree_model.specs.Changes.{url_in}
use Rattle.tree_model.proofs.CountLemmas.{count, once, has_counts, none_has, not_first, told_apart}
use Rattle.path_moves.specs.Append.{appended_path}
use Rattle.path_moves.specs.declared.fault.PathFault.{PathFault}
use Rattle.path_moves.specs.declared.fault.PathFault.TheVariants as paths
use Rattle.slug_urls.specs.Flat.{other_kid}
use Rattle.slug_urls.specs.Plans.{UnlessMemory, new_urls, is_one_long}
use Rattle.slug_urls.specs.declared.fault.UrlFault.{UrlFault}
use Rattle.slug_urls.specs.declared.fault.UrlFault.TheVariants as urls
use Rattle.slug_urls.proofs.LawLemmas.{creation_is, long_is_new}
use Rattle.slug_urls.proofs.Taken.{taken_is}
use Rattle.site_model.specs.World.{TreePart}
use Rattle.site_model.specs.Rules.{refused_if, first_of}
use Rattle.new_pages.specs.Plans.{PlansBy, IsSoundTree}
use Rattle.site_model.proofs.ClearLemmas.{not_given}
use Rattle.site_model.proofs.MoveSound.{no_zero}
use Rattle.site_model.proofs.RowLemmas.{rows_too_deep}
use Rattle.site_part.specs.declared.fault.Fault.{Fault}
use Rattle.site_part.specs.declared.fault.Fault.TheVariants as faults
use Rattle.new_pages.specs.Faults.{both_of}
use Rattle.new_pages.specs.Making.{IsPlace, with_page, place_refusal, planned_url}
use Rattle.new_pages.proofs.HeightLemmas.{deep_is}
use Rattle.new_pages.proofs.LookUpLemmas.{row_there}
use Rattle.new_pages.proofs.MoveRefusals.{none_long}
use Rattle.new_pages.proofs.StepRows.{graft_past}

-- a page that is not there leaves nothing where it is cut out
pub without_absent : (id : ℕ) (f : Forest Body) → count id f ≡ 0 → without id f ≡ f
without_absent id bare none = refl
without_absent id (grown i step slug body kids rest) none =
    let differs = not_first id i (count id kids + count id rest) none in
    let below = without_absent id kids (omega (arith, none)) in
    let after = without_absent id rest (omega (arith, none)) in
    rw (differs, below, after) refl

-- the next id is no page's
pub next_free : (part : TreePart) → IsSoundTree part → has_page part.next_page part.tree ≡ false
next_free part sound =
    none_has part.next_page part.tree
    (not_given part.next_page part.next_page part.tree (omega arith) sound.page_ids)

-- a path and a URL of a new page
abbrev pub Told : Type 0
Told = List ℕ × List ℕ

-- a length is within a limit exactly where it is not above it
within_is : (limit n : ℕ) → nat_le n limit ≡ not (nat_lt limit n)
within_is limit n = by (nat_le n limit) (nat_lt limit n) refl refl
  where
    by : (s t : Bool) → nat_le n limit ≡ s → nat_lt limit n ≡ t → s ≡ not t
    by true false e f = refl
    by false true e f = refl
    by true true e f = absurd (grind (arith, nat_tests))
    by false false e f = absurd (grind (arith, nat_tests))

-- what the path tells, where a step is left and there is room below, or not
abbrev pub path_told : Bool → Bool → List ℕ → Result (List ℕ) PathFault
path_told full room path =
    cond full (Err paths.StepsFull) (cond room (Ok path) (Err paths.TooDeep))

-- what the slug and the URL tell, where it is too long or not
abbrev pub url_told : Option ℕ → Bool → List ℕ → Result (List ℕ) UrlFault
url_told (Some other) long url = Err (urls.Taken other)
url_told None long url = cond long (Err urls.TooLong) (Ok url)

-- so it is planned
pub told_url : (taken : Option ℕ) (url : List ℕ) →
    planned_url taken url ≡ url_told taken (nat_lt MAX_URL (length url)) url
told_url (Some other) url = refl
told_url None url = rw (within_is MAX_URL (length url)) (turned (nat_lt MAX_URL (length url)))
  where
    turned : (t : Bool) → cond {A = Result (List ℕ) UrlFault} (not t) (Ok url) (Err urls.TooLong)
        ≡ cond t (Err urls.TooLong) (Ok url)
    turned true = refl
    turned false = refl

-- What the path, the slug and the URL of a new page tell, each by its own test: a slug that is taken
-- goes before a path that is refused, and that before a URL that is too long.
pub told : (taken : Option ℕ) (full room long : Bool) (path url : List ℕ) →
    PlansBy
    (first_of (option_map SlugTaken taken ∷ refused_if full StepsFull ∷ refused_if (not room) TooDeep
    ∷ refused_if long UrlTooLong ∷ []))
    (λ (plan : Told). (plan.1 ≡ url) × (taken ≡ None)
    × (path_told full room path ≡ Ok plan.0))
    (both_of (path_told full room path) (url_told taken long url))
told (Some other) true room long path url = refl
told (Some other) false true long path url = refl
told (Some other) false false long path url = refl
told None true room true path url = refl
told None true room false path url = refl
told None false false true path url = refl
told None false false false path url = refl
told None false true true path url = refl
told None false true false path url = (refl, (refl, refl, refl))

-- a refusal is right whatever a plan would be
pub any_right : {X Y : Type 0} (refused : Option Refusal) (P : X → Type 0) (Q : Y → Type 0)
    (fault : Fault) → PlansBy refused P (Err fault) → PlansBy refused Q (Err fault)
any_right refused P Q (faults.Refused refusal) is = is
any_right refused P Q faults.Memory is = tt

-- a test, or one that never holds
or_false : (t : Bool) → (t || false) ≡ t
or_false true = refl
or_false false = refl

module _ (part : TreePart) (sound : IsSoundTree part) (parent : ℕ) (slug : List ℕ) (body : Body)
    (there : has_page parent part.tree ≡ true) where
  -- the tree, the page that is made, the tree with it, and its URL
  abbrev tree : Forest Body
  tree = part.tree

  abbrev page : ℕ
  page = part.next_page

  abbrev after : Forest Body
  after = with_page tree page parent slug body

  abbrev url : List ℕ
  url = child_url (url_in parent (rows_of tree)) slug

  abbrev pairs : List (ℕ × List ℕ)
  pairs = (page, url) ∷ []

  -- no page has the new id
  absent : has_page page tree ≡ false
  absent = next_free part sound

  -- the one URL that changes is the new page's
  new_is : new_urls tree page parent slug ≡ pairs
  new_is = rw absent refl

  -- a URL is too long after a creation exactly where the new one is
  long_is : has_long_url after ≡ nat_lt MAX_URL (length url)
  long_is =
      long_is_new tree after (none_long (rows_of tree) sound.urls)
      ∙ (ap is_one_long (creation_is tree sound.distinct page parent 1 slug body absent there ∙ new_is)
      ∙ or_false (nat_lt MAX_URL (length url)))

  -- what rules refuse, by their tests
  refusal_is : place_refusal tree page parent slug body
      ≡ first_of (option_map SlugTaken (kid_with_slug slug (kids_of parent tree))
      ∷ refused_if (is_full tree parent End) StepsFull
      ∷ refused_if (not (nat_lt (length (path_of parent tree)) MAX_DEPTH)) TooDeep
      ∷ refused_if (nat_lt MAX_URL (length url)) UrlTooLong ∷ [])
  refusal_is =
      let some = has_counts parent tree there in
      let most = once tree sound.distinct parent in
      let stands : count parent tree ≡ 1 = omega (arith, some, most) in
      let deep = rows_too_deep after ∙ deep_is parent page 1 slug body tree stands sound.depth in
      let full = graft_past parent page 1 slug body bare End tree stands tt sound.rising sound.steps
      tt in
      rw (full, deep, long_is) refl

  -- what is right of a path and a URL
  abbrev Right : Told → Type 0
  Right plan =
      (plan.1 ≡ url) × (kid_with_slug slug (kids_of parent tree) ≡ None)
      × (appended_path parent tree ≡ Ok plan.0)

  -- what is told of a place is right: a refusal as the rules say, or a place where no rule refuses
  place_is : (u : Result (List ℕ) UrlFault) →
      UnlessMemory (planned_url (kid_with_slug slug (kids_of parent tree)) url) u →
      PlansBy (place_refusal tree page parent slug body) Right (both_of (appended_path parent tree) u)
  place_is u (inl memory) = rw memory tt
  place_is u (inr is) =
      rw (is, told_url (kid_with_slug slug (kids_of parent tree)) url, refusal_is)
      (told (kid_with_slug slug (kids_of parent tree)) (is_full tree parent End)
      (nat_lt (length (path_of parent tree)) MAX_DEPTH) (nat_lt MAX_URL (length url))
      (path_of parent tree ++ step_needed End (kids_of parent tree) ∷ []) url)

  module _ (p : Result (List ℕ) PathFault) (p_is : p ≡ appended_path parent tree)
      (u : Result (List ℕ) UrlFault)
      (u_is : UnlessMemory (planned_url (kid_with_slug slug (kids_of parent tree)) url) u) where
    -- so it is of what was planned
    right : PlansBy (place_refusal tree page parent slug body) Right (both_of p u)
    right = rw p_is (place_is u u_is)

    -- a place that is refused is refused as the rules say
    pub place_refused : (fault : Fault) → Err fault ≡ both_of p u →
        PlansBy (place_refusal tree page parent slug body) (IsPlace tree parent slug) (Err fault)
    place_refused fault is =
        any_right (place_refusal tree page parent slug body) Right (IsPlace tree parent slug) fault
        (subst (λ (r : Result Told Fault). PlansBy (place_refusal tree page parent slug body) Right r)
        (sym is) right)

    -- and a place that is found is the page's
    pub place_found : (path own : List ℕ) → Ok (path, own) ≡ both_of p u →
        PlansBy (place_refusal tree page parent slug body) (IsPlace tree parent slug)
        (Ok (record { path = path; url = own }))
    place_found path own is =
        let all : (place_refusal tree page parent slug body ≡ None) × Right (path, own) =
        subst (λ (r : Result Told Fault). PlansBy (place_refusal tree page parent slug body) Right r)
        (sym is) right in
        (all.0, record { free = all.1.1; path = all.1.2; url = all.1.0 })

-- the kid that the rows name is the tree's: no page has the id 0
pub kid_seen : (part : TreePart) (pages : List (Row Body)) (parent : ℕ) (slug : List ℕ) →
    IsSoundTree part → ArePages pages → pages ≡ rows_of part.tree → has_page parent part.tree ≡ true →
    kid_named parent slug pages ≡ kid_with_slug slug (kids_of parent part.tree)
kid_seen part pages parent slug sound are same there =
    let tree = part.tree in
    let rows = subst ArePages same are in
    let none = no_zero part.next_page tree sound.page_ids in
    let absent : row_with 0 (rows_of tree) ≡ None =
    none_found (row_with 0 (rows_of tree)) (row_there 0 tree (rows_of tree) refl
    ∙ none_has 0 tree none) in
    let taken = taken_is tree 0 parent slug rows (row_there parent tree (rows_of tree) refl ∙ there)
    (rw absent tt) in
    ap (kid_named parent slug) same
    ∙ (sym (others (find (λ row. is_parent parent row.parent && bytes_eq row.slug slug)
    (rows_of tree)) refl rows)
    ∙ (sym taken ∙ ap (λ f. kid_with_slug slug (kids_of parent f)) (without_absent 0 tree none)))
  where
    none_found : (o : Option (Row Body)) → is_some o ≡ false → o ≡ None
    none_found None none = refl
    none_found (Some row) none = absurd (cc)

    others : (o : Option (Row Body)) →
        find (λ row. is_parent parent row.parent && bytes_eq row.slug slug) (rows_of part.tree) ≡ o →
        ArePages (rows_of part.tree) →
        other_kid 0 (option_map (λ (r : Row Body). r.id) o) ≡ option_map (λ (r : Row Body). r.id) o
    others None e rows = refl
    others (Some row) e rows =
        let fits = All-find (λ (r : Row Body). IsPageId r.id)
        (λ row. is_parent parent row.parent && bytes_eq row.slug slug) (rows_of part.tree) row
        rows.ids_fit e in
        let positive : 1 ≤ row.id = fits.0 in
        rw (told_apart row.id 0 (λ is. let no : ⊥ = omega (arith, positive, is) in no)) refl

-- what is planned of a URL by the rows is planned of it by the tree
pub url_seen : (part : TreePart) (pages : List (Row Body)) (parent : ℕ) (slug : List ℕ)
    (u : Result (List ℕ) UrlFault) → IsSoundTree part → ArePages pages → pages ≡ rows_of part.tree →
    has_page parent part.tree ≡ true →
    UnlessMemory (planned_url (kid_named parent slug pages) (child_url (url_in parent pages) slug)) u →
    UnlessMemory (planned_url (kid_with_slug slug (kids_of parent part.tree))
    (child_url (url_in parent (rows_of part.tree)) slug)) u
url_seen part pages parent slug u sound are same there planned =
    subst (λ kid. UnlessMemory (planned_url kid (child_url (url_in parent (rows_of part.tree)) slug)) u)
    (kid_seen part pages parent slug sound are same there)
    (subst (λ rows. UnlessMemory (planned_url (kid_named parent slug pages)
    (child_url (url_in parent rows) slug)) u) same planned)
