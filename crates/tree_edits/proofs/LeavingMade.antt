-- The bodies, the revisions and the contents of the aliases that a deletion leaves, one after another.
use Rattle.std.proofs.Common.{◌≡◌, ◌+◌, ◌-◌, ◌≤◌, ◌<◌, ℕ, zero, suc, Bool, true, false, cond, nat_lt, List, [], ◌∷◌, ◌++◌, length, take, slice_get, filter, Some, refl, sym, ap, subst, ◌∙◌, arith}
use Rattle.std.specs.List.{AllByRecursion}
use Rattle.std.proofs.lemmas.Bool.Decides.{nat_tests}
use Rattle.site_types.specs.Content.{content_form}
use Rattle.site_types.specs.declared.body.Body.{Body}
use Rattle.site_types.specs.declared.revision.Revision.{Revision}
use Rattle.site_model.specs.World as worlds
use Rattle.site_model.specs.Aliases.{detached_body, shown_content}
use Rattle.site_model.specs.Create.{plain_revision}
use Rattle.site_model.specs.Delete.{detached_revisions}
use Rattle.site_model.specs.Limits.{MAX_CONTENTS, contents_length}
use Rattle.site_model.proofs.ContentLemmas.{contents_length-append}
use Rattle.new_pages.proofs.WeightLemmas.{one_taken, front_shorter}
use Rattle.tree_edits.specs.Leaving.{body_at, detached_pairs}

-- one alias more at the end
pub pairs_more : (part : worlds.TreePart) (moment first alias : ℕ) (aliases : List ℕ) →
    detached_pairs part moment first (aliases ++ alias ∷ [])
    ≡ detached_pairs part moment first aliases
    ++ (alias, detached_body part.tree moment (first + length aliases) (body_at part.tree alias))
    ∷ []
pairs_more part moment first alias [] =
    let same : first ≡ first + 0 = omega arith in
    ap (λ n. (alias, detached_body part.tree moment n (body_at part.tree alias)) ∷ []) same
pairs_more part moment first alias (one ∷ aliases) =
    let same : (first + 1) + length aliases ≡ first + suc (length aliases) = omega arith in
    ap (λ more. (one, detached_body part.tree moment first (body_at part.tree one)) ∷ more)
    (pairs_more part moment (first + 1) alias aliases
    ∙ ap (λ n. detached_pairs part moment (first + 1) aliases
    ++ (alias, detached_body part.tree moment n (body_at part.tree alias)) ∷ []) same)

-- and one revision more
pub revisions_more : (part : worlds.TreePart) (moment caller first alias : ℕ) (aliases : List ℕ) →
    detached_revisions part moment caller first (aliases ++ alias ∷ [])
    ≡ detached_revisions part moment caller first aliases
    ++ plain_revision (first + length aliases) alias caller moment (shown_content part alias) ∷ []
revisions_more part moment caller first alias [] =
    let same : first ≡ first + 0 = omega arith in
    ap (λ n. plain_revision n alias caller moment (shown_content part alias) ∷ []) same
revisions_more part moment caller first alias (one ∷ aliases) =
    let same : (first + 1) + length aliases ≡ first + suc (length aliases) = omega arith in
    ap (λ more. plain_revision first one caller moment (shown_content part one) ∷ more)
    (revisions_more part moment caller (first + 1) alias aliases
    ∙ ap (λ n. detached_revisions part moment caller (first + 1) aliases
    ++ plain_revision n alias caller moment (shown_content part alias) ∷ []) same)

-- an item more passes the test or not
filter_more : (test : Revision → Bool) (xs : List Revision) (x : Revision) →
    filter test (xs ++ x ∷ []) ≡ filter test xs ++ cond (test x) (x ∷ []) []
filter_more test [] x = refl
filter_more test (y ∷ xs) x = by (test y) (filter_more test xs x)
  where
    by : (t : Bool) →
        filter test (xs ++ x ∷ []) ≡ filter test xs ++ cond (test x) (x ∷ []) [] →
        cond t (y ∷ filter test (xs ++ x ∷ [])) (filter test (xs ++ x ∷ []))
        ≡ cond t (y ∷ filter test xs) (filter test xs) ++ cond (test x) (x ∷ []) []
    by true same = ap (λ more. y ∷ more) same
    by false same = same

-- what passes a test takes no more than all
passing_shorter : (test : Revision → Bool) (xs : List Revision) →
    contents_length (filter test xs) ≤ contents_length xs
passing_shorter test [] = omega arith
passing_shorter test (x ∷ xs) = by (test x) (passing_shorter test xs)
  where
    by : (t : Bool) → contents_length (filter test xs) ≤ contents_length xs →
        contents_length (cond t (x ∷ filter test xs) (filter test xs)) ≤ contents_length (x ∷ xs)
    by true more = omega (arith, more)
    by false more = omega (arith, more)

-- what has room beside all contents has room beside those that pass a test
pub room_beside_all : (test : Revision → Bool) (revisions new : List Revision) (weight : ℕ) →
    weight ≡ contents_length revisions → weight ≤ MAX_CONTENTS →
    nat_lt (MAX_CONTENTS - weight) (contents_length new) ≡ false →
    false ≡ nat_lt MAX_CONTENTS (contents_length (filter test revisions) + contents_length new)
room_beside_all test revisions new weight weight_is fits room =
    let less = passing_shorter test revisions in
    let most : contents_length new ≤ MAX_CONTENTS - weight = grind (arith, nat_tests) in
    let all : contents_length (filter test revisions) + contents_length new ≤ MAX_CONTENTS =
    omega (arith, weight_is, fits, less, most) in
    grind (arith, nat_tests)

-- what is more than the room beside some contents is more than all may take with them
pub room_beside : (kept room new : ℕ) → room + kept ≡ MAX_CONTENTS →
    nat_lt room new ≡ nat_lt MAX_CONTENTS (kept + new)
room_beside kept room new sum = by (nat_lt room new) refl (nat_lt MAX_CONTENTS (kept + new)) refl
  where
    by : (t : Bool) → nat_lt room new ≡ t → (u : Bool) →
        nat_lt MAX_CONTENTS (kept + new) ≡ u → t ≡ u
    by true e true f = refl
    by false e false f = refl
    by true e false f =
        let over : room < new = grind (arith, nat_tests) in
        let under : kept + new ≤ MAX_CONTENTS = grind (arith, nat_tests) in
        let no : ⊥ = omega (arith, over, under, sum) in absurd no
    by false e true f =
        let under : new ≤ room = grind (arith, nat_tests) in
        let over : MAX_CONTENTS < kept + new = grind (arith, nat_tests) in
        let no : ⊥ = omega (arith, over, under, sum) in absurd no

module _ (test : Revision → Bool) (revisions : List Revision) (done room : ℕ)
    (revision : Revision) (at : slice_get revisions done ≡ Some revision)
    (sum : room + contents_length (filter test (take done revisions)) ≡ MAX_CONTENTS)
    (all_fit : contents_length revisions ≤ MAX_CONTENTS) (form : ℕ)
    (form_is : form ≡ length (content_form revision.content)) where
  -- what stays with it
  both : contents_length (filter test (take (done + 1) revisions))
      ≡ contents_length (filter test (take done revisions))
      + contents_length (cond (test revision) (revision ∷ []) [])
  both =
      ap contents_length
      (ap (filter test) (one_taken revisions done revision at)
      ∙ filter_more test (take done revisions) revision)
      ∙ contents_length-append (filter test (take done revisions))
      (cond (test revision) (revision ∷ []) [])

  -- a revision that stays has room
  pub room_fits : test revision ≡ true → form ≤ room
  room_fits stays =
      let with_it : contents_length (filter test (take (done + 1) revisions))
      ≡ contents_length (filter test (take done revisions)) + contents_length (revision ∷ []) =
      both ∙ ap (λ t. contents_length (filter test (take done revisions))
      + contents_length (cond t (revision ∷ []) [])) stays in
      let less = passing_shorter test (take (done + 1) revisions) in
      let most = front_shorter revisions (done + 1) in
      omega (arith, with_it, less, most, sum, all_fit, form_is)

  -- and what is left falls by its content, if it stays
  pub room_more : (stays : Bool) → stays ≡ test revision → (left : ℕ) →
      left ≡ cond stays (room - form) room →
      left + contents_length (filter test (take (done + 1) revisions)) ≡ MAX_CONTENTS
  room_more true stays_is left left_is =
      let fits = room_fits (sym stays_is) in
      let with_it : contents_length (filter test (take (done + 1) revisions))
      ≡ contents_length (filter test (take done revisions)) + contents_length (revision ∷ []) =
      both ∙ ap (λ t. contents_length (filter test (take done revisions))
      + contents_length (cond t (revision ∷ []) [])) (sym stays_is) in
      omega (arith, with_it, left_is, sum, fits, form_is)
  room_more false stays_is left left_is =
      let with_it : contents_length (filter test (take (done + 1) revisions))
      ≡ contents_length (filter test (take done revisions)) + contents_length [] =
      both ∙ ap (λ t. contents_length (filter test (take done revisions))
      + contents_length (cond t (revision ∷ []) [])) (sym stays_is) in
      omega (arith, with_it, left_is, sum)

-- what holds of each holds of the one at a place
pub at_place : (P : ℕ → Type 0) (xs : List ℕ) (k x : ℕ) → AllByRecursion P xs →
    slice_get xs k ≡ Some x → P x
at_place P [] k x all is = absurd (cc)
at_place P (y ∷ xs) zero x all is = (let same : y ≡ x = cc in subst P same all.0)
at_place P (y ∷ xs) (suc k) x all is = at_place P xs k x all.1 is

-- the bodies and the revisions of the aliases so far, with one more
pub all_more : (part : worlds.TreePart) (moment caller : ℕ) (aliases : List ℕ) (done alias id : ℕ)
    (own : Body) (revision : Revision) (bodies new_bodies : List (ℕ × Body))
    (revisions new_revisions : List Revision) → done < length aliases →
    slice_get aliases done ≡ Some alias → id ≡ part.next_revision + done →
    (bodies ≡ detached_pairs part moment part.next_revision (take done aliases))
    × (revisions ≡ detached_revisions part moment caller part.next_revision (take done aliases)) →
    own ≡ detached_body part.tree moment id (body_at part.tree alias) →
    revision ≡ plain_revision id alias caller moment (shown_content part alias) →
    new_bodies ≡ bodies ++ (alias, own) ∷ [] → new_revisions ≡ revisions ++ revision ∷ [] →
    (new_bodies ≡ detached_pairs part moment part.next_revision (take (done + 1) aliases))
    × (new_revisions
    ≡ detached_revisions part moment caller part.next_revision (take (done + 1) aliases))
all_more part moment caller aliases done alias id own revision bodies new_bodies revisions
    new_revisions low at id_is so_far own_is revision_is bodies_are revisions_are =
    let next = one_taken aliases done alias at in
    let count = taken_length aliases done low in
    let number : id ≡ part.next_revision + length (take done aliases) =
    id_is ∙ ap (λ n. part.next_revision + n) (sym count) in (
      bodies_are
          ∙ (ap (λ xs. xs ++ (alias, own) ∷ []) so_far.0
          ∙ (ap (λ (b : Body). detached_pairs part moment part.next_revision (take done aliases)
          ++ (alias, b) ∷ [])
          (own_is
          ∙ ap (λ n. detached_body part.tree moment n (body_at part.tree alias)) number)
          ∙ (sym (pairs_more part moment part.next_revision alias (take done aliases))
          ∙ ap (detached_pairs part moment part.next_revision) (sym next)))),
      revisions_are
          ∙ (ap (λ xs. xs ++ revision ∷ []) so_far.1
          ∙ (ap (λ (r : Revision).
          detached_revisions part moment caller part.next_revision (take done aliases) ++ r ∷ [])
          (revision_is
          ∙ ap (λ n. plain_revision n alias caller moment (shown_content part alias)) number)
          ∙ (sym (revisions_more part moment caller part.next_revision alias (take done aliases))
          ∙ ap (detached_revisions part moment caller part.next_revision) (sym next)))),
    )
  where
    taken_length : (xs : List ℕ) (n : ℕ) → n < length xs → length (take n xs) ≡ n
    taken_length [] n low = let no : ⊥ = omega (arith, low) in absurd no
    taken_length (x ∷ xs) zero low = refl
    taken_length (x ∷ xs) (suc n) low =
        let more = taken_length xs n (omega (arith, low)) in omega (arith, more)
