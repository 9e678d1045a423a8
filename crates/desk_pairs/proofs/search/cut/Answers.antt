-- The desk that stands at the page's place is taken out, if it is on the page.
use Rattle.std.proofs.Common.{◌≡◌, ◌∙◌, [], ◌∷◌, true, false, sym, subst}
use Rattle.std.specs.List.{slice_get}
use Rattle.site_model.specs.Desks.{desk_key}
use Rattle.site_model.specs.Sound.{KeysRise}
use Rattle.desk_pairs.specs.Kept.{pairs_seen}
use Rattle.desk_pairs.specs.Pairs.{is_on, without}
use Rattle.desk_pairs.specs.Places.{place_of, passes}
use Rattle.desk_pairs.proofs.PairLemmas.{cut_there, cut_nowhere, cut_rises}
use Rattle.desk_pairs.proofs.search.cut.Goals as goal

-- the place is that of the page
at : (c : goal.Else-is_at) →
    c.place_at-place.result
    ≡ place_of desk_key (c.args.page ∷ []) (pairs_seen c.args.pairs.now.items)
at c = rw (c.deref.ensures.value) at c.place_at-place.ensures

pub returns-then-is_at-clause-items : goal.returns-then-is_at-clause-items
returns-then-is_at-clause-items c =
    let kept = c.args.pairs.now.items in
    let place : c.place_at-place.result ≡ place_of desk_key (c.args.page ∷ []) (pairs_seen kept) =
    rw (c.deref.ensures.value) at c.place_at-place.ensures in
    let there : passes (is_on c.args.page) (slice_get (pairs_seen kept) c.place_at-place.result)
    ≡ true = rw (c.deref-2.ensures.value) at (sym c.is_at.ensures ∙ c.if-is_at.true) in
    rw (c.remove.ensures.items)
    (cut_there c.args.page c.place_at-place.result kept c.requires place there)

pub returns-then-is_at-clause-rise : goal.returns-then-is_at-clause-rise
returns-then-is_at-clause-rise c =
    let kept = c.args.pairs.now.items in
    let place : c.place_at-place.result ≡ place_of desk_key (c.args.page ∷ []) (pairs_seen kept) =
    rw (c.deref.ensures.value) at c.place_at-place.ensures in
    let there : passes (is_on c.args.page) (slice_get (pairs_seen kept) c.place_at-place.result)
    ≡ true = rw (c.deref-2.ensures.value) at (sym c.is_at.ensures ∙ c.if-is_at.true) in
    let is : pairs_seen c.remove.new.self.items ≡ without c.args.page (pairs_seen kept) =
    rw (c.remove.ensures.items)
    (cut_there c.args.page c.place_at-place.result kept c.requires place there) in
    subst (KeysRise desk_key) (sym is) (cut_rises c.args.page (pairs_seen kept) c.requires)

pub returns-else-is_at-clause-items : goal.returns-else-is_at-clause-items
returns-else-is_at-clause-items c =
    let kept = c.args.pairs.now.items in
    let there : passes (is_on c.args.page) (slice_get (pairs_seen kept) c.place_at-place.result)
    ≡ false = rw (c.deref-2.ensures.value) at (sym c.is_at.ensures ∙ c.if-is_at.false) in
    cut_nowhere c.args.page c.place_at-place.result (pairs_seen kept) c.requires (at c) there
