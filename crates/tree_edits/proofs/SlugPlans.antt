-- Another slug for a page: when the URLs refuse it, and which they are.
use Rattle.std.proofs.Common.{◌≡◌, inl, inr, ℕ, Bool, true, false, List, [], ◌∷◌, Option, Some, None, IsSome, Result, Ok, Err, unwrap_or, refl, sym, ap, ◌∙◌, subst, rules}
use Rattle.std.specs.Option.{option_map, option_and_then}
use Rattle.std.specs.Str.{bytes_eq}
use Rattle.page_tree.specs.Tree.{Forest, kids_of, kid_with_slug, without}
use Rattle.page_tree.specs.Rows.{rows_of, row_with}
use Rattle.site_types.specs.declared.body.Body.{Body}
use Rattle.site_types.specs.declared.refusal.Refusal.TheVariants as refusals
use Rattle.tree_model.specs.Changes.{changed_urls}
use Rattle.tree_model.specs.Limits.{has_long_url}
use Rattle.tree_model.specs.Places.{parent_in, slug_in}
use Rattle.tree_model.specs.Renames.{renamed}
use Rattle.page_store.specs.Pages.{Page}
use Rattle.slug_urls.specs.declared.fault.UrlFault.{UrlFault}
use Rattle.slug_urls.specs.Plans.{new_urls, is_one_long, unless_taken, planned_urls, UnlessMemory}
use Rattle.slug_urls.proofs.LawLemmas.{renaming_is, long_is_new}
use Rattle.site_model.specs.World.{TreePart}
use Rattle.site_model.specs.Rules.{first_of, refused_if}
use Rattle.new_pages.specs.Plans.{PlansBy, IsSoundTree}
use Rattle.site_part.specs.declared.fault.Fault.{Fault}
use Rattle.new_pages.specs.Faults.{of_url}
use Rattle.site_model.specs.Slugs.{slug_rules}
use Rattle.tree_edits.specs.Naming.{AreNewUrls}
use Rattle.new_pages.proofs.MoveRefusals.{none_long}

-- What is known of a page that may get another slug, as far as its siblings and the URLs go.
pub record IsSought (part : TreePart) (page : ℕ) (slug : List ℕ) (row : Page) (parent : ℕ) :
    Type 0 where
  pub sound : IsSoundTree part
  pub found : row_with page (rows_of part.tree) ≡ Some row
  pub below : row.parent ≡ Some parent
  pub new : bytes_eq (slug_in part.tree page) slug ≡ false

-- what a plan of URLs is to a command
abbrev told_urls : Result (List (ℕ × List ℕ)) UrlFault → Result (List (ℕ × List ℕ)) Fault
told_urls (Ok list) = Ok list
told_urls (Err fault) = Err (of_url fault)

-- a plan tells of the rules
told : (taken : Option ℕ) (fits : List (ℕ × List ℕ)) (long : Bool) → is_one_long fits ≡ long →
    PlansBy (first_of (option_map refusals.SlugTaken taken ∷ refused_if long refusals.UrlTooLong ∷ []))
    (λ list. list ≡ fits) (told_urls (unless_taken taken fits))
told (Some other) fits long is = refl
told None fits true is = rw is refl
told None fits false is = rw is (refl, refl)

module _ (part : TreePart) (page : ℕ) (slug : List ℕ) (row : Page) (parent : ℕ)
    (asked : IsSought part page slug row parent) where
  -- the tree
  abbrev tree : Forest Body
  tree = part.tree

  -- the kid with the slug where the page is left out
  abbrev taken : Option ℕ
  taken = kid_with_slug slug (kids_of parent (without page tree))

  -- its parent is the tree's
  parent_is : parent_in tree page ≡ parent
  parent_is =
      ap (λ (o : Option Page). unwrap_or (option_and_then (λ (r : Page). r.parent) o) 0) asked.found
      ∙ ap (λ (o : Option ℕ). unwrap_or o 0) asked.below

  -- the URLs that change
  changes : new_urls tree page parent slug ≡ changed_urls (rows_of tree) (rows_of (renamed page
      slug tree))
  changes =
      ap (λ p. new_urls tree page p slug) (sym parent_is)
      ∙ sym (renaming_is tree asked.sound.distinct page slug
      (subst (λ (o : Option Page). IsSome (option_and_then (λ (r : Page). r.parent) o)) (sym
      asked.found)
      (subst (λ (o : Option ℕ). IsSome o) (sym asked.below) (search rules))))

  -- what is left of the rules
  rules_are : slug_rules tree page slug ≡ first_of
      (option_map refusals.SlugTaken (kid_with_slug slug (kids_of (parent_in tree page) (without page
      tree)))
      ∷ refused_if (has_long_url (renamed page slug tree)) refusals.UrlTooLong ∷ [])
  rules_are = rw asked.new refl

  -- what the URLs that are planned tell
  planned_told :
      PlansBy (slug_rules tree page slug) (AreNewUrls tree page slug)
      (told_urls (planned_urls tree page parent slug))
  planned_told =
      subst (λ refused. PlansBy refused (AreNewUrls tree page slug)
      (told_urls (planned_urls tree page parent slug)))
      (sym (rules_are ∙ ap (λ p. first_of
      (option_map refusals.SlugTaken (kid_with_slug slug (kids_of p (without page tree)))
      ∷ refused_if (has_long_url (renamed page slug tree)) refusals.UrlTooLong ∷ [])) parent_is))
      (subst (λ list. PlansBy (first_of
      (option_map refusals.SlugTaken taken
      ∷ refused_if (has_long_url (renamed page slug tree)) refusals.UrlTooLong ∷ []))
      (λ urls. urls ≡ list) (told_urls (planned_urls tree page parent slug))) changes
      (told taken (new_urls tree page parent slug) (has_long_url (renamed page slug tree))
      (ap is_one_long changes
      ∙ sym (long_is_new tree (renamed page slug tree) (none_long (rows_of tree)
      asked.sound.urls)))))

  -- so are those that a plan gave
  pub urls_told : (result : Result (List (ℕ × List ℕ)) UrlFault) →
      UnlessMemory (planned_urls tree page parent slug) result →
      PlansBy (slug_rules tree page slug) (AreNewUrls tree page slug) (told_urls result)
  urls_told result (inl is) = rw is tt
  urls_told result (inr is) = rw is planned_told
