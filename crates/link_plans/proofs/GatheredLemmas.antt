-- Links that are told of one page after another.
use Rattle.std.proofs.Common.{◌≡◌, ℕ, ◌+◌, ◌<◌, length, get_or, drop, Option, Bool, true, false, cond, nat_eq, List, [], ◌∷◌, ◌++◌, ◌||◌, refl, ap, sym, ◌∙◌}
use Rattle.std.proofs.lemmas.List.{drop_more}
use Rattle.std.specs.List.{list_any}
use Rattle.site_types.specs.declared.body.Body.{Body}
use Rattle.link_index.specs.Pairs.{has_pair}
use Rattle.link_plans.specs.PageLinks.{Finds, live_links, kept_links}
use Rattle.link_plans.specs.Told.{AreThose, body_told, links_told}
use Rattle.link_plans.specs.Layers.{aliases_told, pages_told}
use Rattle.link_plans.specs.declared.fates.Fate.{Fate}

-- what is told of a page by these pages, of which each is told one thing
abbrev pub ones_told : Bool → List ℕ → ℕ → Bool → Bool
ones_told value [] page was = was
ones_told value (one ∷ more) page was =
    ones_told value more page (cond (nat_eq page one) value was)

-- it is that thing, if the page is among them
pub ones_are : (value : Bool) (ones : List ℕ) (page : ℕ) (was : Bool) →
    ones_told value ones page was ≡ cond (list_any (nat_eq page) ones) value was
ones_are value [] page was = refl
ones_are value (one ∷ more) page was =
    ones_are value more page (cond (nat_eq page one) value was)
    ∙ by (nat_eq page one) (list_any (nat_eq page) more)
  where
    by : (t u : Bool) → cond u value (cond t value was) ≡ cond (t || u) value was
    by true true = refl
    by true false = refl
    by false u = refl

-- what is told with one page more is told last
pub told_more : (planned : List (ℕ × List ℕ)) (one : ℕ × List ℕ) (page linked : ℕ) (was : Bool) →
    links_told (planned ++ one ∷ []) page linked was
    ≡ cond (nat_eq page one.0) (list_any (nat_eq linked) one.1) (links_told planned page linked was)
told_more [] one page linked was = refl
told_more (first ∷ planned) one page linked was =
    told_more planned one page linked
    (cond (nat_eq page first.0) (list_any (nat_eq linked) first.1) was)

-- one page more, with the ids that a test passes
told_those : (planned : List (ℕ × List ℕ)) (page : ℕ) (ids : List ℕ) (test : ℕ → Bool) →
    AreThose test ids → (other linked : ℕ) (was : Bool) →
    links_told (planned ++ (page, ids) ∷ []) other linked was
    ≡ cond (nat_eq other page) (test linked) (links_told planned other linked was)
told_those planned page ids test those other linked was =
    told_more planned (page, ids) other linked was
    ∙ ap (λ (told : Bool). cond (nat_eq other page) told (links_told planned other linked was))
    (those linked)

module _ (finds : Finds) (fates : List Fate) (i : ℕ) (one : Fate) (within : i < length fates)
    (is : one ≡ get_or fates i one) (page : ℕ) where
  -- what is kept of a page after one of the fates more
  pub body_step : (was all : Option Body) → body_told (drop i fates) page was ≡ all →
      body_told (drop (i + 1) fates) page (cond (nat_eq page one.page) one.body was) ≡ all
  body_step was all so_far =
      ap (λ (next : Fate). body_told (drop (i + 1) fates) page
      (cond (nat_eq page next.page) next.body was)) is
      ∙ ap (λ (list : List Fate). body_told list page was) (sym (drop_more fates i one within))
      ∙ so_far

  -- what is told after the page of one fate more
  pub pages_step : (linked : ℕ) (was all : Bool) (planned : List (ℕ × List ℕ)) (ids : List ℕ)
      (later : List (ℕ × List ℕ)) → later ≡ planned ++ (one.page, ids) ∷ [] →
      AreThose (kept_links finds one.body) ids →
      pages_told finds (drop i fates) page linked (links_told planned page linked was) ≡ all →
      pages_told finds (drop (i + 1) fates) page linked (links_told later page linked was) ≡ all
  pages_step linked was all planned ids later more those so_far =
      ap (λ (told : Bool). pages_told finds (drop (i + 1) fates) page linked told)
      (ap (λ (list : List (ℕ × List ℕ)). links_told list page linked was) more
      ∙ told_those planned one.page ids (kept_links finds one.body) those page linked was)
      ∙ ap (λ (next : Fate). pages_told finds (drop (i + 1) fates) page linked
      (cond (nat_eq page next.page) (kept_links finds next.body linked)
      (links_told planned page linked was))) is
      ∙ ap (λ (list : List Fate). pages_told finds list page linked (links_told planned page linked was))
      (sym (drop_more fates i one within))
      ∙ so_far

  -- what is told after the aliases of the page of one fate more
  pub aliases_step : (pairs : List (ℕ × ℕ)) (linked : ℕ) (was all : Bool)
      (planned later : List (ℕ × List ℕ)) →
      links_told later page linked was
      ≡ cond (has_pair one.page page pairs) (live_links finds one.body linked)
      (links_told planned page linked was) →
      aliases_told finds pairs (drop i fates) page linked (links_told planned page linked was) ≡ all →
      aliases_told finds pairs (drop (i + 1) fates) page linked (links_told later page linked was) ≡ all
  aliases_step pairs linked was all planned later more so_far =
      ap (λ (told : Bool). aliases_told finds pairs (drop (i + 1) fates) page linked told) more
      ∙ ap (λ (next : Fate). aliases_told finds pairs (drop (i + 1) fates) page linked
      (cond (has_pair next.page page pairs) (live_links finds next.body linked)
      (links_told planned page linked was))) is
      ∙ ap (λ (list : List Fate). aliases_told finds pairs list page linked
      (links_told planned page linked was)) (sym (drop_more fates i one within))
      ∙ so_far

-- what is told after one page more of those that are told one thing
pub ones_step : (test : ℕ → Bool) (ones : List ℕ) (i number : ℕ) → i < length ones →
    number ≡ get_or ones i 0 → (page linked : ℕ) (was all : Bool) (planned : List (ℕ × List ℕ))
    (ids : List ℕ) (later : List (ℕ × List ℕ)) → later ≡ planned ++ (number, ids) ∷ [] →
    AreThose test ids →
    ones_told (test linked) (drop i ones) page (links_told planned page linked was) ≡ all →
    ones_told (test linked) (drop (i + 1) ones) page (links_told later page linked was) ≡ all
ones_step test ones i number within is page linked was all planned ids later more those so_far =
    ap (λ (told : Bool). ones_told (test linked) (drop (i + 1) ones) page told)
    (ap (λ (list : List (ℕ × List ℕ)). links_told list page linked was) more
    ∙ told_those planned number ids test those page linked was)
    ∙ ap (λ (next : ℕ). ones_told (test linked) (drop (i + 1) ones) page
    (cond (nat_eq page next) (test linked) (links_told planned page linked was))) is
    ∙ ap (λ (list : List ℕ). ones_told (test linked) list page (links_told planned page linked was))
    (sym (drop_more ones i 0 within))
    ∙ so_far
