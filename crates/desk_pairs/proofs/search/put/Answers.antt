-- The desk is put in at the page's place.
use Rattle.std.proofs.Common.{◌≡◌, [], ◌∷◌, refl, sym, subst, arith}
use Rattle.site_model.specs.Desks.{desk_key}
use Rattle.site_model.specs.Sound.{KeysRise}
use Rattle.desk_pairs.specs.Kept.{pairs_seen}
use Rattle.desk_pairs.specs.Pairs.{with_pair}
use Rattle.desk_pairs.specs.Places.{place_of}
use Rattle.desk_pairs.proofs.PairLemmas.{put_there, put_rises, place_in}
use Rattle.desk_pairs.proofs.search.put.Goals as goal

pub insert-requires : goal.insert-requires
insert-requires c =
    let kept = c.args.pairs.now.items in
    let place : c.place_at-place.result ≡ place_of desk_key (c.args.page ∷ []) (pairs_seen kept) =
    rw (c.deref.ensures.value) at c.place_at-place.ensures in
    let within = place_in c.args.page c.place_at-place.result kept place in
    omega arith

pub returns-clause-items : goal.returns-clause-items
returns-clause-items c =
    let kept = c.args.pairs.now.items in
    let place : c.place_at-place.result ≡ place_of desk_key (c.args.page ∷ []) (pairs_seen kept) =
    rw (c.deref.ensures.value) at c.place_at-place.ensures in
    rw (c.in-Ok.ensures.items)
    (put_there c.args.page c.args.user c.place_at-place.result kept _ refl c.requires.free place)

pub returns-clause-rise : goal.returns-clause-rise
returns-clause-rise c =
    let kept = c.args.pairs.now.items in
    let place : c.place_at-place.result ≡ place_of desk_key (c.args.page ∷ []) (pairs_seen kept) =
    rw (c.deref.ensures.value) at c.place_at-place.ensures in
    let is : pairs_seen c.insert.new.self.items
    ≡ with_pair c.args.page c.args.user (pairs_seen kept) =
    rw (c.in-Ok.ensures.items)
    (put_there c.args.page c.args.user c.place_at-place.result kept _ refl c.requires.free place) in
    subst (KeysRise desk_key) (sym is)
    (put_rises c.args.page c.args.user (pairs_seen kept) c.requires.free c.requires.rise)
