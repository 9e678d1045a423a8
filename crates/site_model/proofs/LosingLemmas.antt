-- Which desks end, by what a command comes to of itself.
use Rattle.std.proofs.Common.{◌≡◌, ◌<◌, ℕ, Bool, true, false, cond, not, ◌||◌, ◌&&◌, List, [], ◌∷◌, filter, Option, Some, None, refl, ap, subst, ◌∙◌}
use Rattle.std.specs.Prelude.{IfSome}
use Rattle.std.specs.List.{AllByRecursion}
use Rattle.page_tree.specs.Rows.{comes_before}
use Rattle.site_types.specs.declared.command.Command.{Command}
use Rattle.site_model.specs.World.{DeskPair, Desk, TreePart, Deed, Effect, pair_of}
use Rattle.site_model.specs.Users.{put_in}
use Rattle.site_model.specs.Desks.{desk_key, desk_page, stays, desk_opened, is_shut, with_pair, is_ended, settled}
use Rattle.site_model.specs.Sound.{AreDesks}
use Rattle.site_model.specs.Losing.{suspects_of, is_suspect, shuts, is_lost, LosesFew}

-- What a command comes to of itself, as far as desks go: it shuts the caller's own where it should,
-- the one that it opens stays, and of the others those stay that are not suspect.
pub record EndsFew (before : TreePart) (caller : ℕ) (command : Command) (deed : Deed) :
    Type 0 where
  pub shut : deed.shut ≡ shuts command
  pub pairs : deed.part.desk_pairs ≡ before.desk_pairs
  pub opened :
      IfSome (desk_opened caller (desk_page command) deed.opened)
      (λ desk. (deed.shut ≡ false) × (stays deed.part (pair_of desk) ≡ true))
  pub others :
      (pair : DeskPair) → pair.user < before.next_user → stays before pair ≡ true →
      is_suspect before (suspects_of command) pair ≡ false → stays deed.part pair ≡ true

-- two tests that agree on each keep the same
pub filter_alike : (p q : DeskPair → Bool) (pairs : List DeskPair) →
    AllByRecursion (λ (pair : DeskPair). p pair ≡ q pair) pairs → filter p pairs ≡ filter q pairs
filter_alike p q [] same = refl
filter_alike p q (pair ∷ pairs) same = rw (same.0, filter_alike p q pairs same.1) refl

-- what two facts of an element give holds of each
all_by_both : (P Q R : DeskPair → Type 0) (pairs : List DeskPair) →
    ((pair : DeskPair) → P pair → Q pair → R pair) →
    AllByRecursion P pairs → AllByRecursion Q pairs → AllByRecursion R pairs
all_by_both P Q R [] both p q = tt
all_by_both P Q R (pair ∷ pairs) both p q =
    (both pair p.0 q.0, all_by_both P Q R pairs both p.1 q.1)

-- one more that a test does not keep
filter_put : (test : DeskPair → Bool) (new : DeskPair) (pairs : List DeskPair) →
    test new ≡ false → filter test (put_in desk_key new pairs) ≡ filter test pairs
filter_put test new [] free = rw free refl
filter_put test new (pair ∷ pairs) free =
    choice (comes_before (desk_key new) (desk_key pair)) (filter_put test new pairs free)
  where
    choice : (t : Bool) → filter test (put_in desk_key new pairs) ≡ filter test pairs →
        filter test (cond t (new ∷ pair ∷ pairs) (pair ∷ put_in desk_key new pairs))
        ≡ filter test (pair ∷ pairs)
    choice true more = rw free refl
    choice false more = rw more refl

-- a desk that is not suspect and stays is not lost
alike : (shut suspect stay : Bool) → (suspect ≡ false → stay ≡ true) →
    (shut || not stay) ≡ (shut || (suspect && not stay))
alike true suspect stay follows = refl
alike false true stay follows = refl
alike false false stay follows = rw (follows refl) refl

-- whether a desk ends, as the effect of a command tells it
abbrev ends : ℕ → Command → Deed → DeskPair → Bool
ends caller command deed pair =
    is_shut deed.shut caller (desk_page command) pair || not (stays deed.part pair)

-- a desk that is opened does not end
none_ends : (caller : ℕ) (command : Command) (deed : Deed) (opened : Option Desk)
    (pairs : List DeskPair) →
    IfSome opened (λ desk. (deed.shut ≡ false) × (stays deed.part (pair_of desk) ≡ true)) →
    filter (ends caller command deed) (with_pair opened pairs)
    ≡ filter (ends caller command deed) pairs
none_ends caller command deed None pairs is = refl
none_ends caller command deed (Some desk) pairs is =
    filter_put (ends caller command deed) (pair_of desk) pairs
    (test (desk_page command) deed.shut (stays deed.part (pair_of desk)) is.0 is.1)
  where
    unshut : (page : Option ℕ) → is_shut false caller page (pair_of desk) ≡ false
    unshut None = refl
    unshut (Some page) = refl

    test : (page : Option ℕ) (shut stay : Bool) → shut ≡ false → stay ≡ true →
        (is_shut shut caller page (pair_of desk) || not stay) ≡ false
    test page shut true free kept = rw (free, unshut page) refl
    test page shut false free kept = absurd (cc)

-- What becomes of the open desks.
pub loses_few : (before after : TreePart) (told : Effect) (caller : ℕ) (command : Command)
    (deed : Deed) → AreDesks before → EndsFew before caller command deed →
    settled caller (desk_page command) deed ≡ (after, told) →
    LosesFew before after told caller command
loses_few before after told caller command deed desks few is =
    let page = desk_page command in
    let opened = desk_opened caller page deed.opened in
    let pairs = before.desk_pairs in
    let ended =
    none_ends caller command deed opened deed.part.desk_pairs few.opened
    ∙ ap (λ (list : List DeskPair). filter (ends caller command deed) list) few.pairs
    ∙ filter_alike (ends caller command deed) (is_lost before deed.part caller command) pairs
    (all_by_both (λ (pair : DeskPair). pair.user < before.next_user)
    (λ (pair : DeskPair). stays before pair ≡ true)
    (λ (pair : DeskPair).
    ends caller command deed pair ≡ is_lost before deed.part caller command pair) pairs
    (λ pair user stay.
    ap (λ (shut : Bool). is_shut shut caller page pair || not (stays deed.part pair)) few.shut
    ∙ alike (is_shut (shuts command) caller page pair)
    (is_suspect before (suspects_of command) pair) (stays deed.part pair)
    (few.others pair user stay)) desks.desk_users desks.desks_stay) in
    subst (λ (made : TreePart × Effect). LosesFew before made.0 made.1 caller command) is (record {
      ended = ended;
      left = ap (λ (list : List DeskPair).
          filter (λ pair. not (is_ended (settled caller page deed).1.ended pair))
          (with_pair opened list)) few.pairs;
    })
