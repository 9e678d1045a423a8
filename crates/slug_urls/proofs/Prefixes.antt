-- Beginnings of texts: one text is compared with two others put together.
use Rattle.std.proofs.Common.{◌≡◌, ℕ, Bool, true, false, nat_eq, ◌&&◌, List, [], ◌∷◌, ◌++◌, length, take, drop, refl, ap, ◌∙◌, append_assoc}
use Rattle.std.specs.Str.{bytes_eq}
use Rattle.page_tree.specs.Rows.{child_url}
use Rattle.page_tree.specs.Walk.{SLASH}

-- a text is two others put together where it begins with the first and goes on with the second
begins_and_goes_on : (front rest text : List ℕ) →
    bytes_eq text (front ++ rest)
    ≡ bytes_eq (take (length front) text) front && bytes_eq (drop (length front) text) rest
begins_and_goes_on [] rest text = refl
begins_and_goes_on (x ∷ front) rest [] = refl
begins_and_goes_on (x ∷ front) rest (y ∷ text) =
    by (nat_eq y x) (begins_and_goes_on front rest text)
  where
    by : (t : Bool) →
        bytes_eq text (front ++ rest)
        ≡ bytes_eq (take (length front) text) front && bytes_eq (drop (length front) text) rest →
        t && bytes_eq text (front ++ rest)
        ≡ (t && bytes_eq (take (length front) text) front)
        && bytes_eq (drop (length front) text) rest
    by true more = more
    by false more = refl

-- a URL is that of a page below another where it begins with that one's, and goes on with the slug
-- and `/`
below_parts : (url above slug : List ℕ) →
    bytes_eq url (child_url above slug)
    ≡ bytes_eq (take (length above) url) above
    && (bytes_eq (take (length slug) (drop (length above) url)) slug
    && bytes_eq (drop (length slug) (drop (length above) url)) (SLASH ∷ []))
below_parts url above slug =
    ap (bytes_eq url) (append_assoc above slug (SLASH ∷ []))
    ∙ (begins_and_goes_on above (slug ++ SLASH ∷ []) url
    ∙ ap (λ t. bytes_eq (take (length above) url) above && t)
    (begins_and_goes_on slug (SLASH ∷ []) (drop (length above) url)))

-- it does not begin with that URL
pub other_above : (url above slug : List ℕ) → bytes_eq (take (length above) url) above ≡ false →
    false ≡ bytes_eq url (child_url above slug)
other_above url above slug other = rw (below_parts url above slug, other) refl

-- it does not go on with the slug
pub other_slug : (url above slug rest : List ℕ) →
    bytes_eq (take (length above) url) above ≡ true → rest ≡ drop (length above) url →
    bytes_eq (take (length slug) rest) slug ≡ false →
    false ≡ bytes_eq url (child_url above slug)
other_slug url above slug rest same is other =
    let own = rw is at other in
    rw (below_parts url above slug, same, own) refl

-- what stands behind both decides
pub same_end : (url above slug rest end : List ℕ) →
    bytes_eq (take (length above) url) above ≡ true → rest ≡ drop (length above) url →
    bytes_eq (take (length slug) rest) slug ≡ true → end ≡ drop (length slug) rest →
    bytes_eq end (SLASH ∷ []) ≡ bytes_eq url (child_url above slug)
same_end url above slug rest end same is own end_is =
    let slug_same = rw is at own in
    let both : end ≡ drop (length slug) (drop (length above) url) =
    end_is ∙ ap (drop (length slug)) is in
    rw (below_parts url above slug, same, slug_same) (ap (λ e. bytes_eq e (SLASH ∷ [])) both)
