-- One more URL is put, and at the end all are.
use Rattle.std.proofs.Common.{◌≡◌, ℕ, nat_eq, List, [], ◌∷◌, ◌++◌, length, ap, sym, ◌∙◌, arith}
use Rattle.std.proofs.lemmas.List.{append_assoc, append-nil}
use Rattle.std.specs.Option.{option_map}
use Rattle.std.specs.Map.{lookup}
use Rattle.page_store.specs.Settling.{url_put, listed_put}
use Rattle.page_store.proofs.ListingLemmas.{Listing, listed_next, others_in_front}
use Rattle.page_store.specs.Rewriting.{uncounted, uncounted_in}
use Rattle.page_store.proofs.RewriteLemmas.{uncounted-listed, uncounted_in-last}
use Rattle.page_store.proofs.rewrite.put_urls.Goals as goal

-- a list of no length has nothing in it
nothing_left : (pairs : List Listing) → length pairs ≡ 0 → pairs ≡ []
nothing_left [] none = cc
nothing_left (pair ∷ pairs) none = absurd (omega arith)

pub loop-id-preserved : goal.loop-id-preserved
loop-id-preserved g c =
    let at = c.loop-id in
    let pair : Listing = (c.in-Some.id, c.in-Some.url) in
    let steps : at.id-iterator.rest.items ≡ pair ∷ c.next.new.self.rest.items = c.in-Some.ensures.steps.0 in
    let all = ap (λ (ps : List Listing). at.yielded ++ ps) (sym steps) ∙ at.invariant.items in
    let listed = all ∙ c.into_iter-id-iterator.ensures.into_iter_gives.0 in
    record {
      rows = listed_next url_put at.yielded pair
          (λ q. lookup (nat_eq q) c.args.stored.now.entries)
          (λ q. lookup (nat_eq q) at.stored.entries)
          (λ q. lookup (nat_eq q) c.rewrite.new.stored.entries) (others_in_front at.yielded pair _
          c.args.pairs.items c.requires.once listed) at.invariant.rows c.rewrite.ensures.rows;
      room = c.rewrite.ensures.spare ∙ at.invariant.room;
      count = let one = c.rewrite.ensures.steps in let before = at.invariant.count in
          let same = uncounted-listed (lookup (nat_eq pair.0) at.yielded) (lookup (nat_eq pair.0)
          c.args.stored.now.entries) in
          let now = ap uncounted (at.invariant.rows pair.0) in
          let more = uncounted_in-last c.args.stored.now.entries at.yielded pair in omega arith;
      items = append_assoc at.yielded (pair ∷ []) _ ∙ all;
      left = let was = at.invariant.left in let gone = c.in-Some.ensures.steps.1 in
          let short = ap length steps in omega arith;
    }

-- at the end all of the list was yielded
all_yielded : (yielded left given pairs : List Listing) (n : ℕ) → yielded ++ left ≡ given →
    n ≡ length left → n ≡ 0 → given ≡ pairs → yielded ≡ pairs
all_yielded yielded left given pairs n items is none gives =
    sym (append-nil yielded) ∙ ap (λ ps. yielded ++ ps) (sym (nothing_left left (sym is ∙ none)))
    ∙ items ∙ gives

pub returns-clause-rows : goal.returns-clause-rows
returns-clause-rows g c =
    let at = c.loop-id in
    let all = all_yielded at.yielded at.id-iterator.rest.items _ c.args.pairs.items _
    at.invariant.items at.invariant.left c.in-None.ensures.steps.0
    c.into_iter-id-iterator.ensures.into_iter_gives.0 in
    λ id. at.invariant.rows id
    ∙ ap (λ (ps : List Listing). option_map (listed_put url_put (lookup (nat_eq id) ps)) (lookup
    (nat_eq id) c.args.stored.now.entries)) all

pub returns-clause-steps : goal.returns-clause-steps
returns-clause-steps g c =
    let at = c.loop-id in
    let all = all_yielded at.yielded at.id-iterator.rest.items _ c.args.pairs.items _
    at.invariant.items at.invariant.left c.in-None.ensures.steps.0
    c.into_iter-id-iterator.ensures.into_iter_gives.0 in
    let count = at.invariant.count in
    let same = ap (uncounted_in c.args.stored.now.entries) all in
    omega arith
