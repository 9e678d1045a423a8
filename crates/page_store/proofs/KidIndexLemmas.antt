-- The index of the kids: it finds the pages with keys, as pages come and go.
use Rattle.std.proofs.Common.{◌≡◌, ◌∙◌, ℕ, Bool, true, false, cond, not, nat_eq, ◌&&◌, ◌||◌, List, [], ◌∷◌, ◌++◌, Option, Some, None, IsSome, is_some, filter, refl, ap, sym, subst, arith, rules}
use Rattle.std.proofs.lemmas.Bool.Decides.{nat_tests}
use Rattle.std.proofs.lemmas.List.Folds.{list_any-append}
use Rattle.std.specs.Option.{option_map_or, IfSome}
use Rattle.std.specs.List.{list_any}
use Rattle.std.specs.Map.{lookup}
use Rattle.page_store.specs.declared.kid_index.KidKey.{KidKey}
use Rattle.page_store.specs.KidIndex.{key_eq, leads_to, is_indexed, AreIndexed, with_key, without_key}

-- a key of two numbers
abbrev key_with : ℕ → ℕ → KidKey
key_with parent digest = record { parent = parent; digest = digest }

-- keys that are equal are one
pub same_key : (one other : KidKey) → key_eq one other ≡ true → one ≡ other
same_key one other h =
    let parents : one.parent ≡ other.parent = grind (arith, nat_tests) in
    let digests : one.digest ≡ other.digest = grind (arith, nat_tests) in
    ap (λ (p : ℕ). key_with p one.digest) parents ∙ ap (key_with other.parent) digests

-- a number equals itself
nat_eq-self : (n : ℕ) → nat_eq n n ≡ true
nat_eq-self n = grind (arith, nat_tests)

-- a key equals itself
pub key_eq-self : (key : KidKey) → key_eq key key ≡ true
key_eq-self key = rw (nat_eq-self key.parent, nat_eq-self key.digest) refl

-- a page whose key is out has none
pub without_key-self : (id : ℕ) (keys : ℕ → Option KidKey) → without_key id keys id ≡ None
without_key-self id keys = ap (λ t. cond t None (keys id)) (nat_eq-self id)

-- nothing is found where the test for it fails
pub nothing : (o : Option ℕ) (t : Bool) → t ≡ is_some o → t ≡ false → o ≡ None
nothing None t is e = refl
nothing (Some id) t is e =
    absurd (let never : true ≡ false = sym is ∙ e in cc)

-- what holds anyway is so behind any test
or_true : (t : Bool) → (t || true) ≡ true
or_true true = refl
or_true false = refl

-- a key that leads to a page has that page at it
pub leads_found : (at_keys : List (KidKey × ℕ)) (key : KidKey) (id : ℕ) → leads_to at_keys key id ≡ true →
    lookup (key_eq key) at_keys ≡ Some id
leads_found at_keys key id h = by (lookup (key_eq key) at_keys) h
  where
    by : (o : Option ℕ) → option_map_or (λ kid. nat_eq kid id) o false ≡ true → o ≡ Some id
    by None h = absurd cc
    by (Some kid) h = let same : kid ≡ id = grind (arith, nat_tests) in ap Some same

-- an index of nothing finds the pages with keys where no page has one
pub indexed_none : (keys : ℕ → Option KidKey) → ((id : ℕ) → keys id ≡ None) → AreIndexed [] [] keys
indexed_none keys none = record {
  owned = λ key. tt;
  clashed = λ id h. absurd cc;
  there = λ id. rw (none id) tt;
}

-- an index knows pages with the same keys, told in another way
pub indexed_as : (at_keys : List (KidKey × ℕ)) (clashes : List ℕ) (keys again : ℕ → Option KidKey) →
    ((id : ℕ) → again id ≡ keys id) → AreIndexed at_keys clashes keys →
    AreIndexed at_keys clashes again
indexed_as at_keys clashes keys again same is = record {
  owned = λ key. own key (lookup (key_eq key) at_keys) (is.owned key);
  clashed = λ id h. rw (same id) (is.clashed id h);
  there = λ id. rw (same id) (is.there id);
}
  where
    own : (key : KidKey) (o : Option ℕ) → IfSome o (λ id. keys id ≡ Some key) →
        IfSome o (λ id. again id ≡ Some key)
    own key None h = tt
    own key (Some id) h = same id ∙ h

module _ (at_keys : List (KidKey × ℕ)) (clashes : List ℕ) (keys : ℕ → Option KidKey) (key : KidKey)
    (kid : ℕ) (is : AreIndexed at_keys clashes keys) where
  -- a page that comes
  module _ (new : keys kid ≡ None) where
    -- each other page keeps its key
    keeps_key : (id : ℕ) (other : KidKey) → keys id ≡ Some other → with_key kid key keys id ≡ Some other
    keeps_key id other h = by (nat_eq kid id) refl
      where
        by : (t : Bool) → nat_eq kid id ≡ t → cond t (Some key) (keys id) ≡ Some other
        by true e =
            let same : kid ≡ id = grind (arith, nat_tests) in
            let none : keys id ≡ None = rw (← same) new in
            absurd (let never : None ≡ Some other = sym none ∙ h in cc)
        by false e = h

    -- and has one
    keeps_some : (id : ℕ) → IsSome (keys id) → IsSome (with_key kid key keys id)
    keeps_some id some = by (nat_eq kid id)
      where
        by : (t : Bool) → IsSome (cond t (Some key) (keys id))
        by true = search rules
        by false = some

    -- what holds of the key that comes and of the others' keys holds of each
    each_key : (P : ℕ → KidKey → Type 0) → ((id : ℕ) → nat_eq kid id ≡ true → P id key) →
        ((id : ℕ) (other : KidKey) → keys id ≡ Some other → P id other) → (id : ℕ) →
        IfSome (with_key kid key keys id) (P id)
    each_key P comes stays id = by (nat_eq kid id) refl
      where
        old : (o : Option KidKey) → keys id ≡ o → IfSome o (P id)
        old None e = tt
        old (Some other) e = stays id other e

        by : (t : Bool) → nat_eq kid id ≡ t → IfSome (cond t (Some key) (keys id)) (P id)
        by true e = comes id e
        by false e = old (keys id) refl

    -- a page with a key stands somewhere
    stood : (id : ℕ) (other : KidKey) → keys id ≡ Some other → is_indexed at_keys clashes id other ≡ true
    stood id other h =
        subst (λ (o : Option KidKey). IfSome o (λ key. is_indexed at_keys clashes id key ≡ true)) h
        (is.there id)

    -- where its key is free it is put there
    pub add_at_key : (more : List (KidKey × ℕ)) → lookup (key_eq key) at_keys ≡ None →
        ((other : KidKey) → lookup (key_eq other) more ≡ cond (key_eq key other) (Some kid) (lookup
        (key_eq other) at_keys)) → AreIndexed more clashes (with_key kid key keys)
    add_at_key more free puts = record {
      owned = λ other. rw (puts other) (own other (key_eq key other) refl (lookup (key_eq other) at_keys)
          (is.owned other));
      clashed = λ id h. keeps_some id (is.clashed id h);
      there = each_key (λ id other. is_indexed more clashes id other ≡ true) (λ id e. rw (
        puts key,
        key_eq-self key,
        e,
      ) refl) (λ id other h. rw (puts other) (stands id other (key_eq key other)
          refl (stood id other h)));
    }
      where
        own : (other : KidKey) (t : Bool) → key_eq key other ≡ t → (o : Option ℕ) → IfSome o (λ id.
            keys id ≡ Some other) → IfSome (cond t (Some kid) o) (λ id. with_key kid key keys id ≡
            Some other)
        own other true e o h = rw (nat_eq-self kid) (ap Some (same_key key other e))
        own other false e None h = tt
        own other false e (Some id) h = keeps_key id other h

        stands : (id : ℕ) (other : KidKey) (t : Bool) → key_eq key other ≡ t →
            is_indexed at_keys clashes id other ≡ true →
            (option_map_or (λ k. nat_eq k id) (cond t (Some kid) (lookup (key_eq other) at_keys))
            false || list_any (λ k. nat_eq k id) clashes) ≡ true
        stands id other true e h =
            let none : lookup (key_eq other) at_keys ≡ None =
            subst (λ (k : KidKey). lookup (key_eq k) at_keys ≡ None) (same_key key other e) free in
            let clash : list_any (λ k. nat_eq k id) clashes ≡ true = rw none at h in
            rw clash (or_true (nat_eq kid id))
        stands id other false e h = h

    -- and else it is put among the clashes
    pub add_clash : AreIndexed at_keys (clashes ++ kid ∷ []) (with_key kid key keys)
    add_clash = record {
      owned = λ other. own other (lookup (key_eq other) at_keys) (is.owned other);
      clashed = λ id h. some id (rw (list_any-append (λ k. nat_eq k id) clashes (kid ∷ [])) at h);
      there = each_key (λ id other. is_indexed at_keys (clashes ++ kid ∷ []) id other ≡ true) (λ id e.
          rw (list_any-append (λ k. nat_eq k id) clashes (kid ∷ [])) (last id e)) (λ id other h. rw
          (list_any-append (λ k. nat_eq k id) clashes (kid ∷ [])) (front (leads_to at_keys other id)
          (list_any (λ k. nat_eq k id) clashes) (nat_eq kid id) (stood id other h)));
    }
      where
        own : (other : KidKey) (o : Option ℕ) → IfSome o (λ id. keys id ≡ Some other) →
            IfSome o (λ id. with_key kid key keys id ≡ Some other)
        own other None h = tt
        own other (Some id) h = keeps_key id other h

        some : (id : ℕ) → (list_any (λ k. nat_eq k id) clashes || (nat_eq kid id || false)) ≡ true →
            IsSome (with_key kid key keys id)
        some id h = by (list_any (λ k. nat_eq k id) clashes) (nat_eq kid id) refl h
          where
            by : (t u : Bool) → list_any (λ k. nat_eq k id) clashes ≡ t → (t || (u || false)) ≡ true →
                IsSome (cond u (Some key) (keys id))
            by true true e h = search rules
            by true false e h = is.clashed id e
            by false true e h = search rules
            by false false e h = absurd cc

        last : (id : ℕ) → nat_eq kid id ≡ true → (leads_to at_keys key id || (list_any (λ k. nat_eq k
            id) clashes || (nat_eq kid id || false))) ≡ true
        last id e = rw (e, or_true (list_any (λ k. nat_eq k id) clashes)) (or_true (leads_to at_keys
            key id))

        front : (t u v : Bool) → (t || u) ≡ true → (t || (u || (v || false))) ≡ true
        front true u v h = refl
        front false true v h = refl
        front false false v h = absurd cc

  -- a page that goes
  module _ (own : keys kid ≡ Some key) where
    -- each other page keeps its key
    stays_key : (id : ℕ) (other : KidKey) → keys id ≡ Some other → nat_eq kid id ≡ false →
        without_key kid keys id ≡ Some other
    stays_key id other h e = rw e h

    -- the clashes without it
    clashes_left : (id : ℕ) (ids : List ℕ) → nat_eq kid id ≡ false →
        list_any (λ k. nat_eq k id) (filter (λ k. not (nat_eq k kid)) ids) ≡ list_any (λ k. nat_eq k
        id) ids
    clashes_left id [] e = refl
    clashes_left id (x ∷ ids) e = by (nat_eq x kid) refl (clashes_left id ids e)
      where
        by : (t : Bool) → nat_eq x kid ≡ t → list_any (λ k. nat_eq k id) (filter (λ k. not (nat_eq k
            kid)) ids) ≡ list_any (λ k. nat_eq k id) ids → list_any (λ k. nat_eq k id) (cond (not t)
            (x ∷ filter (λ k. not (nat_eq k kid)) ids) (filter (λ k. not (nat_eq k kid)) ids)) ≡
            (nat_eq x id || list_any (λ k. nat_eq k id) ids)
        by true h more =
            let other : nat_eq x id ≡ false = grind (arith, nat_tests) in rw other more
        by false h more = ap (λ t. nat_eq x id || t) more

    -- it is not among them itself
    clash_gone : (id : ℕ) (ids : List ℕ) → nat_eq kid id ≡ true →
        list_any (λ k. nat_eq k id) (filter (λ k. not (nat_eq k kid)) ids) ≡ false
    clash_gone id [] e = refl
    clash_gone id (x ∷ ids) e = by (nat_eq x kid) refl (clash_gone id ids e)
      where
        by : (t : Bool) → nat_eq x kid ≡ t → list_any (λ k. nat_eq k id) (filter (λ k. not (nat_eq k
            kid)) ids) ≡ false → list_any (λ k. nat_eq k id) (cond (not t) (x ∷ filter (λ k. not
            (nat_eq k kid)) ids) (filter (λ k. not (nat_eq k kid)) ids)) ≡ false
        by true h more = more
        by false h more =
            let other : nat_eq x id ≡ false = grind (arith, nat_tests) in rw other more

    -- what stands at a key that is not freed is another page
    not_kid : (other : KidKey) (id : ℕ) → lookup (key_eq other) at_keys ≡ Some id → keys id ≡ Some other →
        (leads_to at_keys key kid && key_eq key other) ≡ false → nat_eq kid id ≡ false
    not_kid other id at h stays = by (nat_eq kid id) refl
      where
        by : (t : Bool) → nat_eq kid id ≡ t → nat_eq kid id ≡ false
        by true e =
            let same : kid ≡ id = grind (arith, nat_tests) in
            let two : Some key ≡ Some other = sym own ∙ ap keys same ∙ h in
            let one : key ≡ other = cc in
            let found : lookup (key_eq key) at_keys ≡ Some kid =
            ap (λ (k : KidKey). lookup (key_eq k) at_keys) one ∙ at ∙ ap Some (sym same) in
            let leads : leads_to at_keys key kid ≡ true =
            ap (λ o. option_map_or (λ k. nat_eq k kid) o false) found ∙ nat_eq-self kid in
            let equal : key_eq key other ≡ true = subst (λ (k : KidKey). key_eq key k ≡ true) one
            (key_eq-self key) in
            let never : true ≡ false = rw (leads, equal) at stays in
            absurd cc
        by false e = e

    -- a key at which another page stands is not freed
    not_freed : (other : KidKey) (id : ℕ) → leads_to at_keys other id ≡ true → nat_eq kid id ≡ false →
        (leads_to at_keys key kid && key_eq key other) ≡ false
    not_freed other id at e = by (leads_to at_keys key kid) (key_eq key other) refl refl
      where
        by : (t u : Bool) → leads_to at_keys key kid ≡ t → key_eq key other ≡ u → t && u ≡ false
        by true true f g =
            let found : lookup (key_eq other) at_keys ≡ Some kid =
            subst (λ (k : KidKey). lookup (key_eq k) at_keys ≡ Some kid) (same_key key other g)
            (leads_found at_keys key kid f) in
            let two : Some kid ≡ Some id = sym found ∙ leads_found at_keys other id at in
            let same : kid ≡ id = cc in
            absurd (grind (arith, nat_tests))
        by true false f g = refl
        by false u f g = refl

    -- its key is freed where it stands there, and it leaves the clashes
    pub take_key : (fewer : List (KidKey × ℕ)) → ((other : KidKey) → lookup (key_eq other) fewer ≡
        cond (leads_to at_keys key kid && key_eq key other) None (lookup (key_eq other) at_keys)) →
        AreIndexed fewer (filter (λ k. not (nat_eq k kid)) clashes) (without_key kid keys)
    take_key fewer frees = record {
      owned = λ other. rw (frees other) (stay other (leads_to at_keys key kid && key_eq key other) refl
          (lookup (key_eq other) at_keys) refl (is.owned other));
      clashed = λ id h. some id (nat_eq kid id) refl h;
      there = λ id. rest id (nat_eq kid id) refl (keys id) (is.there id);
    }
      where
        stay : (other : KidKey) (t : Bool) → (leads_to at_keys key kid && key_eq key other) ≡ t → (o :
            Option ℕ) → lookup (key_eq other) at_keys ≡ o → IfSome o (λ id. keys id ≡ Some other) →
            IfSome (cond t None o) (λ id. without_key kid keys id ≡ Some other)
        stay other true e o at h = tt
        stay other false e None at h = tt
        stay other false e (Some id) at h = stays_key id other h (not_kid other id at h e)

        some : (id : ℕ) (t : Bool) → nat_eq kid id ≡ t → list_any (λ k. nat_eq k id) (filter (λ k. not
            (nat_eq k kid)) clashes) ≡ true → IsSome (cond t None (keys id))
        some id true e h = absurd (let gone = clash_gone id clashes e in cc)
        some id false e h = is.clashed id (sym (clashes_left id clashes e) ∙ h)

        moved : (id : ℕ) (other : KidKey) → nat_eq kid id ≡ false → (t u : Bool) →
            leads_to at_keys other id ≡ t → list_any (λ k. nat_eq k id) clashes ≡ u →
            (t || u) ≡ true → (leads_to fewer other id || u) ≡ true
        moved id other e true u f g h =
            let kept : lookup (key_eq other) fewer ≡ lookup (key_eq other) at_keys =
            frees other ∙ ap (λ (b : Bool). cond b None (lookup (key_eq other) at_keys)) (not_freed
            other id f e) in
            let leads : leads_to fewer other id ≡ true =
            ap (λ o. option_map_or (λ k. nat_eq k id) o false) kept ∙ f in
            rw leads refl
        moved id other e false true f g h = or_true (leads_to fewer other id)
        moved id other e false false f g h = absurd cc

        rest : (id : ℕ) (t : Bool) → nat_eq kid id ≡ t → (o : Option KidKey) → IfSome o (λ other.
            is_indexed at_keys clashes id other ≡ true) → IfSome (cond t None o) (λ other. is_indexed
            fewer (filter (λ k. not (nat_eq k kid)) clashes) id other ≡ true)
        rest id true e o h = tt
        rest id false e None h = tt
        rest id false e (Some other) h =
            rw (clashes_left id clashes e) (moved id other e (leads_to at_keys other id) (list_any (λ
            k. nat_eq k id) clashes) refl refl h)
