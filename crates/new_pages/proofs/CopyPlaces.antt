-- The place of a copy, tried on the tree with the copy.
use Rattle.std.proofs.Common.{◌≡◌, ◌+◌, ℕ, Bool, true, false, not, cond, ◌||◌, ◌&&◌, nat_lt, List, [], ◌∷◌, ◌++◌, length, Option, Some, None, is_some, Result, Ok, Err, inl, inr, refl, sym, ap, subst, ◌∙◌, arith, length-append}
use Rattle.std.specs.List.{list_any}
use Rattle.std.specs.Option.{option_map}
use Rattle.std.proofs.lemmas.Bool.Decides.{nat_tests}
use Rattle.page_tree.specs.Tree.{Forest, bare, grown, End, has_page, node_of, kids_of, kid_with_slug, step_needed, graft}
use Rattle.page_tree.specs.Rows.{Row, row_with, rows_of, child_url}
use Rattle.page_tree.specs.Walk.{path_of}
use Rattle.page_tree.proofs.RowLemmas.{has_page-rows}
use Rattle.step_path.specs.declared.path.TheConstants.{MAX_DEPTH}
use Rattle.step_path.specs.declared.step.TheConstants.{LAST_STEP}
use Rattle.site_types.specs.declared.body.Body.{Body}
use Rattle.site_types.specs.declared.refusal.Refusal.TheVariants.{SlugTaken, StepsFull, TooDeep, UrlTooLong}
use Rattle.page_store.specs.Pages.{Page}
use Rattle.tree_model.specs.Changes.{url_in}
use Rattle.tree_model.specs.Limits.{MAX_URL, is_full}
use Rattle.tree_model.specs.Shape.{AreWithin}
use Rattle.tree_model.proofs.CountLemmas.{count, once, has_counts}
use Rattle.tree_model.proofs.SiblingLemmas.{AreWithin-node_of}
use Rattle.tree_rows.proofs.Apart.{AreApart, AreApart-distinct}
use Rattle.path_moves.specs.Append.{appended_path}
use Rattle.path_moves.specs.declared.fault.PathFault.{PathFault}
use Rattle.path_moves.specs.declared.fault.PathFault.TheVariants as paths
use Rattle.slug_urls.specs.Plans.{UnlessMemory}
use Rattle.slug_urls.specs.declared.fault.UrlFault.{UrlFault}
use Rattle.site_model.specs.World.{TreePart}
use Rattle.site_model.specs.Copies.{size_of, to_copy, copies, into_copy}
use Rattle.site_model.specs.Create.{fresh_body}
use Rattle.site_model.specs.Rules.{refused_if, first_of}
use Rattle.site_model.proofs.RowLemmas.{rows_too_deep}
use Rattle.site_part.specs.declared.fault.Fault.{Fault}
use Rattle.new_pages.specs.Copying.{IsSource, IsCopyPlace, copied_tree, copy_place_rules, is_deep, is_long, path_within, url_within, rows_below_it}
use Rattle.new_pages.specs.Faults.{both_of}
use Rattle.new_pages.specs.Making.{planned_url}
use Rattle.new_pages.specs.Plans.{PlansBy, IsSoundTree}
use Rattle.new_pages.specs.declared.source.Source.{Source}
use Rattle.new_pages.proofs.CopyRules.{any_after, path_above}
use Rattle.new_pages.proofs.CreationPlan.{Told, told, path_told, url_told, told_url, any_right}
use Rattle.new_pages.proofs.MoveRefusals.{none_long}
use Rattle.new_pages.proofs.StepRows.{graft_past}

-- what is copied has no step past the last
copied_within : (page : ℕ) (deep : Bool) (f : Forest Body) → AreWithin LAST_STEP f →
    AreWithin LAST_STEP (to_copy deep f)
copied_within page deep bare within = tt
copied_within page true (grown i s slug body kids rest) within = (within.0, within.1, tt)
copied_within page false (grown i s slug body kids rest) within = (within.0, tt, tt)

-- nor have the copies
copies_within : (part : TreePart) (caller number : ℕ) (f : Forest Body) → AreWithin LAST_STEP f →
    AreWithin LAST_STEP (copies part caller number f)
copies_within part caller number bare within = tt
copies_within part caller number (grown i s slug body kids rest) within = (
  within.0,
  copies_within part caller (number + 1) kids within.1,
  copies_within part caller (number + 1 + size_of kids) rest within.2,
)

-- the path that is told, where no copy below is too deep
told_within : (full room deep : Bool) (path : List ℕ) →
    cond full (Err paths.StepsFull)
    (cond room (cond deep (Err paths.TooDeep) (Ok path)) (Err paths.TooDeep))
    ≡ path_told full (room && not deep) path
told_within true room deep path = refl
told_within false true true path = refl
told_within false true false path = refl
told_within false false deep path = refl

-- where a path is told, no copy below is too deep, and it is told without them
told_clear : (full room deep : Bool) (path own : List ℕ) →
    path_told full (room && not deep) path ≡ Ok own →
    (path_told full room path ≡ Ok own) × (path ≡ own) × (deep ≡ false)
told_clear true room deep path own is = absurd (cc)
told_clear false true true path own is = absurd (cc)
told_clear false true false path own is = (is, (let same : path ≡ own = cc in same), refl)
told_clear false false deep path own is = absurd (cc)

-- a row is too deep exactly where the copy has no room, or one below it is too deep
deep_or : (room deep : Bool) → (not room || deep) ≡ not (room && not deep)
deep_or true true = refl
deep_or true false = refl
deep_or false deep = refl

-- a path with a step more
one_deeper : (path : List ℕ) (step : ℕ) →
    nat_lt MAX_DEPTH (length (path ++ step ∷ [])) ≡ not (nat_lt (length path) MAX_DEPTH)
one_deeper path step =
    let long = length-append path (step ∷ []) in
    by (nat_lt MAX_DEPTH (length (path ++ step ∷ []))) (nat_lt (length path) MAX_DEPTH) refl refl
    (omega (arith, long))
  where
    by : (s t : Bool) → nat_lt MAX_DEPTH (length (path ++ step ∷ [])) ≡ s →
        nat_lt (length path) MAX_DEPTH ≡ t → length (path ++ step ∷ []) ≡ length path + 1 → s ≡ not t
    by true false e f long = refl
    by false true e f long = refl
    by true true e f long = absurd (grind (arith, nat_tests))
    by false false e f long = absurd (grind (arith, nat_tests))

module _ (part : TreePart) (sound : IsSoundTree part) (pages : List Page)
    (stands : pages ≡ rows_of part.tree) (caller page parent : ℕ) (slug : List ℕ) (deep : Bool)
    (there : has_page parent part.tree ≡ true) (source : Source)
    (is : IsSource pages part.tree page deep source) (above : Page)
    (found : row_with parent (rows_of part.tree) ≡ Some above) where
  -- the tree, and the tree with the copy
  abbrev tree : Forest Body
  tree = part.tree

  abbrev node : Forest Body
  node = grown (part.next_page + 0) is.step slug (fresh_body caller (part.next_revision + 0))
      (copies part caller (0 + 1) is.kids) bare

  abbrev after : Forest Body
  after = graft parent End node tree

  -- it is the tree of the copy
  after_is : copied_tree part caller page parent slug deep ≡ after
  after_is = rw is.copied refl

  apart : AreApart tree
  apart = AreApart-distinct tree sound.distinct

  -- the path and the URL of the copy
  abbrev own : List ℕ
  own = path_of parent tree ++ step_needed End (kids_of parent tree) ∷ []

  abbrev own_url : List ℕ
  own_url = child_url (url_in parent (rows_of tree)) slug

  -- whether the copy of a page below is too deep, or gets too long a URL
  abbrev is_deeper : Bool
  is_deeper = list_any (is_deep source own) (rows_below_it pages source)

  abbrev is_longer : Bool
  is_longer = list_any (is_long source own_url) (rows_below_it pages source)

  -- the walk to the parent and its URL are those of its row
  path_is : path_of parent tree ≡ above.path
  path_is = path_above part caller parent page is.step slug is.top.body is.kids is.top above
      sound.rising apart found

  url_is : url_in parent (rows_of tree) ≡ above.url
  url_is = rw found refl

  -- a row of the tree with the copy is too deep
  deep_after : list_any (λ (row : Row Body). nat_lt MAX_DEPTH (length row.path)) (rows_of after)
      ≡ not (nat_lt (length (path_of parent tree)) MAX_DEPTH && not is_deeper)
  deep_after =
      let old : list_any (λ (row : Row Body). nat_lt MAX_DEPTH (length row.path)) (rows_of tree)
      ≡ false = rows_too_deep tree ∙ (let fits = sound.depth in grind (arith, nat_tests)) in
      any_after part caller parent page is.step slug is.top.body is.kids is.top above sound.rising
      apart found (λ path url. nat_lt MAX_DEPTH (length path)) old
      ∙ rw (
        ← is.rows_are,
        ← is.path,
        ← path_is,
        one_deeper (path_of parent tree) (step_needed End (kids_of parent tree)),
      ) (deep_or (nat_lt (length (path_of parent tree)) MAX_DEPTH) is_deeper)

  -- one has too long a URL
  long_after : list_any (λ (row : Row Body). nat_lt MAX_URL (length row.url)) (rows_of after)
      ≡ (nat_lt MAX_URL (length own_url) || is_longer)
  long_after =
      any_after part caller parent page is.step slug is.top.body is.kids is.top above sound.rising
      apart found (λ path url. nat_lt MAX_URL (length url)) (none_long (rows_of tree) sound.urls)
      ∙ rw (← is.rows_are, ← is.url, ← url_is) refl

  -- one has a step past the last
  full_after : list_any (λ (row : Row Body). list_any (λ step. nat_lt LAST_STEP step) row.path)
      (rows_of after) ≡ is_full tree parent End
  full_after =
      let some = has_counts parent tree there in
      let most = once tree sound.distinct parent in
      let stands : count parent tree ≡ 1 = omega (arith, some, most) in
      let within : AreWithin LAST_STEP (grown page is.step is.top.slug is.top.body is.kids bare) =
      subst (λ f. AreWithin LAST_STEP f) is.copied
      (copied_within page deep (node_of page tree)
      (AreWithin-node_of LAST_STEP page tree sound.steps)) in
      graft_past parent (part.next_page + 0) is.step slug
      (fresh_body caller (part.next_revision + 0)) (copies part caller (0 + 1) is.kids) End tree stands
      tt sound.rising sound.steps (copies_within part caller (0 + 1) is.kids within.1)

  -- what is told of a place is right
  abbrev Right : Told → Type 0
  Right plan =
      (plan.1 ≡ own_url) × (kid_with_slug slug (kids_of parent tree) ≡ None)
      × (path_told (is_full tree parent End)
      (nat_lt (length (path_of parent tree)) MAX_DEPTH && not is_deeper) own ≡ Ok plan.0)

  -- the rules, by their tests
  rules_are : into_copy part page parent deep ≡ None →
      first_of (copy_place_rules part caller page parent slug deep)
      ≡ first_of (option_map SlugTaken (kid_with_slug slug (kids_of parent tree))
      ∷ refused_if (is_full tree parent End) StepsFull
      ∷ refused_if (not (nat_lt (length (path_of parent tree)) MAX_DEPTH && not is_deeper)) TooDeep
      ∷ refused_if (nat_lt MAX_URL (length own_url) || is_longer) UrlTooLong ∷ [])
  rules_are outside = rw (after_is, outside, full_after, deep_after, long_after) refl

  -- the path that is told for the copy
  path_given : path_within pages source (appended_path parent tree)
      ≡ path_told (is_full tree parent End)
      (nat_lt (length (path_of parent tree)) MAX_DEPTH && not is_deeper) own
  path_given =
      by (is_full tree parent End) (nat_lt (length (path_of parent tree)) MAX_DEPTH)
    where
      by : (full room : Bool) →
          path_within pages source (path_told full room own)
          ≡ path_told full (room && not is_deeper) own
      by true room = refl
      by false true = told_within false true is_deeper own
      by false false = refl

  -- and its URL
  url_given : (taken : Option ℕ) →
      url_within pages source (planned_url taken own_url)
      ≡ url_told taken (nat_lt MAX_URL (length own_url) || is_longer) own_url
  url_given (Some other) = refl
  url_given None =
      ap (url_within pages source) (told_url None own_url)
      ∙ by (nat_lt MAX_URL (length own_url))
    where
      by : (long : Bool) → url_within pages source (url_told None long own_url)
          ≡ url_told None (long || is_longer) own_url
      by true = refl
      by false = refl

  -- what the two tell together
  told_is : into_copy part page parent deep ≡ None → (p : Result (List ℕ) PathFault) →
      p ≡ appended_path parent tree → (u : Result (List ℕ) UrlFault) →
      UnlessMemory (planned_url (kid_with_slug slug (kids_of parent tree)) own_url) u →
      PlansBy (first_of (copy_place_rules part caller page parent slug deep)) Right
      (both_of (path_within pages source p) (url_within pages source u))
  told_is outside p p_is u (inl memory) = rw memory tt
  told_is outside p p_is u (inr u_is) =
      rw (
        rules_are outside,
        p_is,
        u_is,
        path_given,
        url_given (kid_with_slug slug (kids_of parent tree)),
      )
      (told (kid_with_slug slug (kids_of parent tree)) (is_full tree parent End)
      (nat_lt (length (path_of parent tree)) MAX_DEPTH && not is_deeper)
      (nat_lt MAX_URL (length own_url) || is_longer) own own_url)

  -- a place that is refused is refused as the rules say
  pub copy_refused : into_copy part page parent deep ≡ None → (p : Result (List ℕ) PathFault) →
      p ≡ appended_path parent tree → (u : Result (List ℕ) UrlFault) →
      UnlessMemory (planned_url (kid_with_slug slug (kids_of parent tree)) own_url) u →
      (fault : Fault) → Err fault ≡ both_of (path_within pages source p) (url_within pages source u) →
      PlansBy (first_of (copy_place_rules part caller page parent slug deep))
      (IsCopyPlace part pages parent slug source) (Err fault)
  copy_refused outside p p_is u u_is fault told_fault =
      any_right (first_of (copy_place_rules part caller page parent slug deep)) Right
      (IsCopyPlace part pages parent slug source) fault
      (subst (λ (r : Result Told Fault).
      PlansBy (first_of (copy_place_rules part caller page parent slug deep)) Right r)
      (sym told_fault) (told_is outside p p_is u u_is))

  -- and a place that is found is the copy's
  pub copy_placed : into_copy part page parent deep ≡ None → (p : Result (List ℕ) PathFault) →
      p ≡ appended_path parent tree → (u : Result (List ℕ) UrlFault) →
      UnlessMemory (planned_url (kid_with_slug slug (kids_of parent tree)) own_url) u →
      (path url : List ℕ) →
      Ok (path, url) ≡ both_of (path_within pages source p) (url_within pages source u) →
      PlansBy (first_of (copy_place_rules part caller page parent slug deep))
      (IsCopyPlace part pages parent slug source) (Ok (record { path = path; url = url }))
  copy_placed outside p p_is u u_is path url told_place =
      let all : (first_of (copy_place_rules part caller page parent slug deep) ≡ None)
      × Right (path, url) =
      subst (λ (r : Result Told Fault).
      PlansBy (first_of (copy_place_rules part caller page parent slug deep)) Right r)
      (sym told_place) (told_is outside p p_is u u_is) in
      let clear = told_clear (is_full tree parent End)
      (nat_lt (length (path_of parent tree)) MAX_DEPTH) is_deeper own path all.1.2 in (
        all.0,
        record {
          place = record { free = all.1.1; path = clear.0; url = all.1.0 };
          shallow = subst (λ (q : List ℕ).
              list_any (is_deep source q) (rows_below_it pages source) ≡ false) clear.1 clear.2;
        },
      )

-- the row of a page that is there
pub row_found : (tree : Forest Body) (id : ℕ) → has_page id tree ≡ true →
    (row : Page) × (row_with id (rows_of tree) ≡ Some row)
row_found tree id there =
    by (row_with id (rows_of tree)) refl (sym (has_page-rows id None [] [] tree) ∙ there)
  where
    by : (o : Option Page) → row_with id (rows_of tree) ≡ o → is_some o ≡ true →
        (row : Page) × (row_with id (rows_of tree) ≡ Some row)
    by None e some = absurd (cc)
    by (Some row) e some = (row, e)
