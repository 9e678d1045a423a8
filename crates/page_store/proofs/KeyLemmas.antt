-- The keys of the pages that are kept, as what is kept of a page changes.
use Rattle.std.proofs.Common.{◌≡◌, ◌∙◌, ℕ, Bool, true, false, cond, nat_eq, List, Option, Some, None, refl, ap, sym, arith}
use Rattle.std.proofs.lemmas.Bool.Decides.{nat_tests}
use Rattle.std.specs.Option.{option_map}
use Rattle.std.specs.Map.{lookup}
use Rattle.page_store.specs.declared.stored.StoredRow.{StoredRow}
use Rattle.page_store.specs.declared.kid_index.KidKey.{KidKey}
use Rattle.page_store.specs.KidIndex.{kid_key, own_key, keys_of, with_key, without_key}
use Rattle.page_store.specs.Settling.{path_put, url_put, listed_put}

-- the key that is kept has the page's parent and the digest of its slug
pub key_of_row : (o : Option StoredRow) (page : StoredRow) (key : KidKey) → o ≡ Some page →
    own_key o ≡ Some key → (page.parent ≡ Some key.parent) × (kid_key key.parent page.row.slug ≡ key)
key_of_row None page key is h = absurd cc
key_of_row (Some stored) page key is h = by page.parent refl (sym (ap own_key is) ∙ h)
  where
    by : (q : Option ℕ) → page.parent ≡ q →
        option_map (λ parent. kid_key parent page.row.slug) q ≡ Some key →
        (page.parent ≡ Some key.parent) × (kid_key key.parent page.row.slug ≡ key)
    by None e h = absurd cc
    by (Some parent) e h =
        let keys : kid_key parent page.row.slug ≡ key = cc in
        let same : parent ≡ key.parent = ap (λ (k : KidKey). k.parent) keys in
        (e ∙ ap Some same, ap (λ (p : ℕ). kid_key p page.row.slug) (sym same) ∙ keys)

-- a page below a parent has the key of its slug
pub key_below : (page : StoredRow) (parent : ℕ) → page.parent ≡ Some parent →
    own_key (Some page) ≡ Some (kid_key parent page.row.slug)
key_below page parent is = ap (option_map (λ p. kid_key p page.row.slug)) is

module _ (stored later : List (ℕ × StoredRow)) (id : ℕ) (put : StoredRow → StoredRow)
    (stores : (other : ℕ) → lookup (nat_eq other) later ≡ cond (nat_eq id other) (option_map put
    (lookup (nat_eq id) stored)) (lookup (nat_eq other) stored)) where
  -- a change that keeps the key of a page keeps all keys
  pub keys-changed : ((page : StoredRow) → own_key (Some (put page)) ≡ own_key (Some page)) → (q : ℕ) →
      keys_of later q ≡ keys_of stored q
  keys-changed keeps q = ap own_key (stores q) ∙ by (nat_eq id q) refl
    where
      own : (o : Option StoredRow) → own_key (option_map put o) ≡ own_key o
      own None = refl
      own (Some page) = keeps page

      by : (t : Bool) → nat_eq id q ≡ t → own_key (cond t (option_map put (lookup (nat_eq id) stored))
          (lookup (nat_eq q) stored)) ≡ keys_of stored q
      by true e =
          let same : id ≡ q = grind (arith, nat_tests) in
          own (lookup (nat_eq id) stored) ∙ ap (keys_of stored) same
      by false e = refl

  -- a change of the key of a page takes its key out and puts another in
  pub keys-moved : (key : KidKey) → own_key (option_map put (lookup (nat_eq id) stored)) ≡ Some key →
      (q : ℕ) → keys_of later q ≡ with_key id key (without_key id (keys_of stored)) q
  keys-moved key moved q = ap own_key (stores q) ∙ by (nat_eq id q)
    where
      by : (t : Bool) → own_key (cond t (option_map put (lookup (nat_eq id) stored)) (lookup (nat_eq q)
          stored)) ≡ cond t (Some key) (cond t None (keys_of stored q))
      by true = moved
      by false = refl

-- listed paths and URLs keep all keys
pub keys-listed : (stored later : List (ℕ × StoredRow)) (paths urls : List (ℕ × List ℕ)) →
    ((q : ℕ) → lookup (nat_eq q) later ≡ option_map (listed_put url_put (lookup (nat_eq q) urls))
    (option_map (listed_put path_put (lookup (nat_eq q) paths)) (lookup (nat_eq q) stored))) → (q : ℕ) →
    keys_of later q ≡ keys_of stored q
keys-listed stored later paths urls puts q =
    ap own_key (puts q)
    ∙ by (lookup (nat_eq q) urls) (lookup (nat_eq q) paths) (lookup (nat_eq q) stored)
  where
    by : (url path : Option (List ℕ)) (o : Option StoredRow) →
        own_key (option_map (listed_put url_put url) (option_map (listed_put path_put path) o)) ≡
        own_key o
    by url path None = refl
    by None None (Some page) = refl
    by None (Some path) (Some page) = refl
    by (Some url) None (Some page) = refl
    by (Some url) (Some path) (Some page) = refl
