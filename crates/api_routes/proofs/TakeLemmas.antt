-- What a router with simple patterns finds: a route that takes the path, if there is one.
use Rattle.std.proofs.Common.{◌≡◌, ◌≢◌, ℕ, zero, suc, ◌-◌, List, [], ◌∷◌, length, Option, Some, None, MatchOption, Bool, true, false, ◌==◌, ◌&&◌, ◌||◌, not, cond, refl, ap, ◌∙◌, arith}
use Rattle.std.proofs.lemmas.Bool.Decides.{nat_tests}
use Rattle.matchit.specs.Rows.{RowsOf, param_token, catch_all_token}
use Rattle.matchit.specs.Seek.{own, step, or_else, seek, param_step, has_slash, longest_from, segment}
use Rattle.api_routes.proofs.Taking.{takes, end_step, IsSimple, AllSimple, AllAtEnd, AllLead, NoneTakes, NoParameterTakes, is_simple, all_simple}

-- a first answer stands before none
pub or_else-none : {K : Type 0} (o : Option K) → or_else o None ≡ o
or_else-none None = refl
or_else-none (Some k) = refl

-- rows that go on after a byte are simple
pub step-simple : {K : Type 0} (b : ℕ) (rs : RowsOf K) → AllSimple rs → AllSimple (step b rs)
step-simple b [] h = tt
step-simple b (([], k) ∷ rest) h = step-simple b rest h.1
step-simple {K} b ((x ∷ t, k) ∷ rest) h =
    elim (x == b) as (λ v. AllSimple {K = K} (cond v ((t, k) ∷ step b rest) (step b rest))) [
      | true ↦ (h.0.2, step-simple b rest h.1)
      | false ↦ step-simple b rest h.1
    ]

-- no simple row goes on with a catch-all
pub step-catch_all : {K : Type 0} (rs : RowsOf K) → AllSimple rs → step catch_all_token rs ≡ []
step-catch_all [] h = refl
step-catch_all (([], k) ∷ rest) h = step-catch_all rest h.1
step-catch_all ((x ∷ t, k) ∷ rest) h =
    let n : x ≢ catch_all_token = h.0.0 in
    let e : (x == catch_all_token) ≡ false = grind (arith, nat_tests) in
    rw e (step-catch_all rest h.1)

-- simple rows end after a parameter
pub step-parameter : {K : Type 0} (rs : RowsOf K) → AllSimple rs → AllAtEnd (step param_token rs)
step-parameter [] h = tt
step-parameter (([], k) ∷ rest) h = step-parameter rest h.1
step-parameter {K} ((x ∷ t, k) ∷ rest) h = by (step-parameter rest h.1) (x == param_token) refl
  where
    by : AllAtEnd {K = K} (step param_token rest) → (v : Bool) → (x == param_token) ≡ v →
        AllAtEnd {K = K} (cond v ((t, k) ∷ step param_token rest) (step param_token rest))
    by others true e =
        let same : x ≡ param_token = grind (arith, nat_tests) in
        (h.0.1 same, others)
    by others false e = others

-- rows that end have no suffix
pub longest-at-end : {K : Type 0} (seg : List ℕ) (rs : RowsOf K) → AllAtEnd rs →
    longest_from seg [] rs ≡ []
longest-at-end seg [] h = refl
longest-at-end {K} seg ((t, k) ∷ rest) h =
    rw h.0 (longest-at-end seg rest h.1)

-- a parameter of rows that end takes all of a path, and no slash
pub param_step-at-end : {K : Type 0} (rs : RowsOf K) (path : List ℕ) → AllAtEnd rs →
    param_step rs path ≡ end_step (has_slash path) path rs
unfolding param_step
param_step-at-end rs path h = rw (longest-at-end (segment path) rs h) refl

-- nothing is found in no rows
pub seek-nothing : {K : Type 0} (n : ℕ) (path : List ℕ) → seek {K = K} n [] path ≡ None
unfolding seek
seek-nothing n [] = refl
seek-nothing (suc n) (b ∷ path) = seek-nothing n path
seek-nothing {K} zero (b ∷ path) =
    let at_end = param_step-at-end {K = K} [] (b ∷ path) tt in
    rw (seek-nothing {K = K} 0 path, at_end)
    (or_else-none _ ∙ by (λ n. seek-nothing {K = K} n path) (has_slash (b ∷ path)))
  where
    by : ((n : ℕ) → seek {K = K} n [] path ≡ None) → (v : Bool) →
        seek ((end_step {K = K} v (b ∷ path) []).0 - 1) (end_step {K = K} v (b ∷ path) []).1 path
        ≡ None
    by none true = none _
    by none false = none _

-- a path that is skipped leaves the route that ends
pub seek-skipped : {K : Type 0} (n : ℕ) (rs : RowsOf K) (path : List ℕ) → n ≡ length path →
    seek n rs path ≡ own rs
unfolding seek
seek-skipped n rs [] e = refl
seek-skipped zero rs (b ∷ path) e = absurd (omega arith)
seek-skipped (suc n) rs (b ∷ path) e = seek-skipped n rs path (omega arith)

-- what is found by a parameter of rows that end: the route that ends, where no slash is left
pub seek-parameter : {K : Type 0} (rs : RowsOf K) (b : ℕ) (path : List ℕ) → AllAtEnd rs →
    seek ((param_step rs (b ∷ path)).0 - 1) (param_step rs (b ∷ path)).1 path
    ≡ cond (has_slash (b ∷ path)) None (own rs)
seek-parameter {K} rs b path h =
    rw (param_step-at-end rs (b ∷ path) h) (by (has_slash (b ∷ path)))
  where
    by : (v : Bool) →
        seek ((end_step {K = K} v (b ∷ path) rs).0 - 1) (end_step {K = K} v (b ∷ path) rs).1 path
        ≡ cond v None (own rs)
    by true = seek-nothing _ path
    by false = seek-skipped _ rs path (omega arith)

-- a step of the search in simple rows: by a byte, and else by a parameter
pub seek-step : {K : Type 0} (rs : RowsOf K) (b : ℕ) (path : List ℕ) → AllSimple rs →
    seek 0 rs (b ∷ path)
    ≡ or_else (seek 0 (step b rs) path)
    (cond (has_slash (b ∷ path)) None (own (step param_token rs)))
unfolding seek
seek-step rs b path h =
    rw (step-catch_all rs h, seek-parameter (step param_token rs) b path (step-parameter rs h))
    (ap (λ o. or_else (seek 0 (step b rs) path) o) (or_else-none _))

-- the facts of rows are facts of those that go on after a byte
pub lead-step : {K : Type 0} (P : K → Type 0) (b : ℕ) (path : List ℕ) (rs : RowsOf K) →
    AllLead P (b ∷ path) rs → AllLead P path (step b rs)
lead-step P b path [] h = tt
lead-step P b path (([], k) ∷ rest) h = lead-step P b path rest h.1
lead-step {K} P b path ((x ∷ t, k) ∷ rest) h =
    by (x == b) (lead-step P b path rest h.1) h.0
  where
    by : (v : Bool) → AllLead P path (step b rest) →
        (((v && takes t path) || ((x == param_token) && not (has_slash (b ∷ path)))) ≡ true → P k) →
        AllLead P path (cond v ((t, k) ∷ step b rest) (step b rest))
    by true others lead = ((λ e. lead (simp e refl)), others)
    by false others lead = others

-- no row takes a path where none does by a byte and none by a parameter
pub none-joined : {K : Type 0} (b : ℕ) (path : List ℕ) (rs : RowsOf K) →
    NoneTakes path (step b rs) → NoParameterTakes (b ∷ path) rs → NoneTakes (b ∷ path) rs
none-joined b path [] byte parameter = tt
none-joined b path (([], k) ∷ rest) byte parameter =
    ((λ e. absurd (cc)), none-joined b path rest byte parameter)
none-joined {K} b path ((x ∷ t, k) ∷ rest) byte parameter =
    by (x == b) (λ others. none-joined b path rest others parameter.1) byte
  where
    by : (v : Bool) → (NoneTakes path (step b rest) → NoneTakes (b ∷ path) rest) →
        NoneTakes {K = K} path (cond v ((t, k) ∷ step b rest) (step b rest)) →
        (((v && takes t path) || ((x == param_token) && not (has_slash (b ∷ path)))) ≡ true → ⊥)
        × NoneTakes (b ∷ path) rest
    by true others none = ((λ e. none.0 (also (takes t path) e)), others none.1)
      where
        also : (w : Bool) → (w || ((x == param_token) && not (has_slash (b ∷ path)))) ≡ true →
            w ≡ true
        also true e = refl
        also false e = absurd (cc (parameter.0))
    by false others none = ((λ e. absurd (cc (parameter.0))), others none)

-- the route that ends leads there, and where none ends no row takes the empty path
pub own-found : {K : Type 0} (P : K → Type 0) (rs : RowsOf K) → AllLead P [] rs →
    MatchOption (own rs) (NoneTakes [] rs) P
own-found P [] h = tt
own-found P (([], k) ∷ rest) h = h.0 refl
own-found {K} P ((x ∷ t, k) ∷ rest) h = by (own rest) (own-found P rest h.1)
  where
    by : (o : Option K) → MatchOption o (NoneTakes [] rest) P →
        MatchOption o (NoneTakes [] ((x ∷ t, k) ∷ rest)) P
    by None none = ((λ e. absurd (cc)), none)
    by (Some found) leads = leads

-- where a slash is left no row takes a path by a parameter
pub slash-taken : {K : Type 0} (path : List ℕ) (rs : RowsOf K) → has_slash path ≡ true →
    NoParameterTakes path rs
slash-taken path [] e = tt
slash-taken path (([], k) ∷ rest) e = slash-taken path rest e
slash-taken path ((x ∷ t, k) ∷ rest) e =
    (rw e (by (x == param_token)), slash-taken path rest e)
  where
    by : (v : Bool) → (v && false) ≡ false
    by true = refl
    by false = refl

-- the route after a parameter leads there, and if there is none, no row takes a path so
pub parameter-found : {K : Type 0} (P : K → Type 0) (b : ℕ) (path : List ℕ) (rs : RowsOf K) →
    AllSimple rs → AllLead P (b ∷ path) rs → has_slash (b ∷ path) ≡ false →
    MatchOption (own (step param_token rs)) (NoParameterTakes (b ∷ path) rs) P
parameter-found P b path [] simple h e = tt
parameter-found P b path (([], k) ∷ rest) simple h e =
    parameter-found P b path rest simple.1 h.1 e
parameter-found {K} P b path ((x ∷ t, k) ∷ rest) simple h e =
    by (x == param_token) refl (parameter-found P b path rest simple.1 h.1 e)
  where
    at_end : (s : List ℕ) → s ≡ [] → P k →
        MatchOption (own ((s, k) ∷ step param_token rest)) (NoParameterTakes (b ∷ path) ((x ∷ t, k)
        ∷ rest)) P
    at_end [] same leads = leads
    at_end (y ∷ s) same leads = absurd (cc)

    skip : (o : Option K) → (x == param_token) ≡ false →
        MatchOption o (NoParameterTakes (b ∷ path) rest) P →
        MatchOption o (NoParameterTakes (b ∷ path) ((x ∷ t, k) ∷ rest)) P
    skip None other none = (rw other refl, none)
    skip (Some found) other leads = leads

    taken : (v : Bool) → (v || (true && not false)) ≡ true
    taken true = refl
    taken false = refl

    by : (v : Bool) → (x == param_token) ≡ v →
        MatchOption (own (step param_token rest)) (NoParameterTakes (b ∷ path) rest) P →
        MatchOption (own (cond v ((t, k) ∷ step param_token rest) (step param_token rest)))
        (NoParameterTakes (b ∷ path) ((x ∷ t, k) ∷ rest)) P
    by true same others =
        let token : x ≡ param_token = grind (arith, nat_tests) in
        at_end t (simple.0.1 token) (h.0 (rw (same, e) (taken _)))
    by false same others = skip _ same others

-- What the search finds leads there. Where it finds nothing, no row takes the path.
pub seek-found : {K : Type 0} (P : K → Type 0) (path : List ℕ) (rs : RowsOf K) → AllSimple rs →
    AllLead P path rs → MatchOption (seek 0 rs path) (NoneTakes path rs) P
unfolding seek
seek-found P [] rs simple h = own-found P rs h
seek-found {K} P (b ∷ path) rs simple h =
    rw (seek-step rs b path simple)
    (by (seek 0 (step b rs) path)
    (seek-found P path (step b rs) (step-simple b rs simple) (lead-step P b path rs h))
    (has_slash (b ∷ path)) refl)
  where
    last : (o : Option K) → NoneTakes path (step b rs) →
        MatchOption o (NoParameterTakes (b ∷ path) rs) P → MatchOption o (NoneTakes (b ∷ path) rs) P
    last None byte none = none-joined b path rs byte none
    last (Some found) byte leads = leads

    by : (o : Option K) → MatchOption o (NoneTakes path (step b rs)) P → (v : Bool) →
        has_slash (b ∷ path) ≡ v →
        MatchOption (or_else o (cond v None (own (step param_token rs)))) (NoneTakes (b ∷ path) rs)
        P
    by (Some found) leads v e = leads
    by None none true e = none-joined b path rs none (slash-taken (b ∷ path) rs e)
    by None none false e = last _ none (parameter-found P b path rs simple h e)

-- the test of a simple pattern tells that it is one
pub is_simple-tells : (t : List ℕ) → is_simple t ≡ true → IsSimple t
is_simple-tells [] e = tt
is_simple-tells (x ∷ []) e =
    ((λ same. grind (arith, nat_tests)), (λ token. refl), tt)
is_simple-tells (x ∷ y ∷ t) e = (
  (λ same. grind (arith, nat_tests)),
  (λ token. absurd (grind (arith, nat_tests))),
  is_simple-tells (y ∷ t) (grind (arith, nat_tests)),
)

-- the test of simple rows tells that they are simple
pub all_simple-tells : {K : Type 0} (rs : RowsOf K) → all_simple rs ≡ true → AllSimple rs
all_simple-tells [] e = tt
all_simple-tells ((t, k) ∷ rest) e =
    (is_simple-tells t (grind arith), all_simple-tells rest (grind arith))
