-- The desks that are open after a command are as they should be.
use Rattle.std.proofs.Common.{◌≡◌, ◌<◌, ◌≤◌, ℕ, Bool, true, false, cond, not, ◌||◌, List, [], ◌∷◌, length, map, filter, Option, Some, None, refl, sym, ap, subst, ◌∙◌, arith}
use Rattle.std.specs.Prelude.{IfSome}
use Rattle.std.specs.List.{AllByRecursion}
use Rattle.std.specs.Option.{option_map}
use Rattle.page_tree.specs.Tree.{Forest, has_page}
use Rattle.page_tree.specs.Rows.{comes_before}
use Rattle.site_types.specs.Content.{FitsLimits}
use Rattle.site_types.specs.declared.body.Body.{Body}
use Rattle.tree_model.proofs.CountLemmas.{none_counts, node_absent}
use Rattle.tree_model.proofs.PageLemmas.{all_weaker}
use Rattle.site_model.specs.World.{DeskPair, Desk, TreePart, Deed, pair_of}
use Rattle.site_model.specs.Limits.{MAX_DESKS}
use Rattle.site_model.specs.Rights.{rights_of, above_of}
use Rattle.site_model.specs.Views.{View, first_body, view_of}
use Rattle.site_model.specs.Users.{put_in}
use Rattle.site_model.specs.Desks.{desk_key, desk_opened, is_shut, with_pair, with_desk, is_ended, keeps_desk, stays, settled}
use Rattle.site_model.specs.Sound.{KeysRise, AreDesks, IsRegular, IsSoundPart}
use Rattle.site_model.proofs.Deeds.{MayOpen, KeepsSound}
use Rattle.site_model.proofs.DeletionSound.{shorter}
use Rattle.site_model.proofs.DeskLemmas.{settled_stay}
use Rattle.site_model.proofs.Groups as groups
use Rattle.site_model.proofs.OrderLemmas.{all_put, rise_put, length-put_in, all_filter, rise_filter}
use Rattle.site_model.proofs.ViewLemmas.{seen, view_is}

-- of nothing that is seen nobody keeps a desk
nothing_seen : (part : TreePart) (pair : DeskPair) (view : Option View) → view ≡ None →
    keeps_desk (rights_of part pair.user) view ≡ false
nothing_seen part pair None is = refl
nothing_seen part pair (Some view) is = absurd (cc)

-- a page with a desk that stays is there
pub desk_has_page : (part : TreePart) (pair : DeskPair) → stays part pair ≡ true →
    has_page pair.page part.tree ≡ true
desk_has_page part pair stay = choice (has_page pair.page part.tree) refl
  where
    both_values : true ≡ false → ⊥
    both_values e = cc

    choice : (t : Bool) → has_page pair.page part.tree ≡ t → has_page pair.page part.tree ≡ true
    choice true is = is
    choice false is =
        let gone = node_absent pair.page part.tree (none_counts pair.page part.tree is) in
        let unseen = view_is part pair.page
        ∙ ap (λ (f : Forest Body). option_map (seen part (above_of part.tree pair.page))
        (first_body f)) gone in
        let lost = nothing_seen part pair (view_of part pair.page) unseen in
        absurd (both_values (sym stay ∙ lost))

-- a test with the pages of desks is one of desks
pub map_filter : (keep : DeskPair → Bool) (desks : List Desk) →
    map pair_of (filter (λ (desk : Desk). keep (pair_of desk)) desks)
    ≡ filter keep (map pair_of desks)
map_filter keep [] = refl
map_filter keep (desk ∷ desks) = choice (keep (pair_of desk)) (map_filter keep desks)
  where
    choice : (t : Bool) →
        map pair_of (filter (λ (one : Desk). keep (pair_of one)) desks)
        ≡ filter keep (map pair_of desks) →
        map pair_of (cond t (desk ∷ filter (λ (one : Desk). keep (pair_of one)) desks)
        (filter (λ (one : Desk). keep (pair_of one)) desks))
        ≡ cond t (pair_of desk ∷ filter keep (map pair_of desks)) (filter keep (map pair_of desks))
    choice true more = ap (λ (pairs : List DeskPair). pair_of desk ∷ pairs) more
    choice false more = more

-- the desks that end
abbrev pub ended_pairs : ℕ → Option ℕ → Deed → List DeskPair
ended_pairs caller page deed =
    filter (λ pair. is_shut deed.shut caller page pair || not (stays deed.part pair))
    (with_pair (desk_opened caller page deed.opened) deed.part.desk_pairs)

-- what two facts of an element give holds of each
both_all : {X : Type 0} (P Q R : X → Type 0) (xs : List X) → ((x : X) → P x → Q x → R x) →
    AllByRecursion P xs → AllByRecursion Q xs → AllByRecursion R xs
both_all P Q R [] both p q = tt
both_all P Q R (x ∷ xs) both p q = (both x p.0 q.0, both_all P Q R xs both p.1 q.1)

-- Open desks on pages of this tree that are in order, of which nobody has looked yet whether they
-- stay.
record ArePairs (tree : Forest Body) (users : ℕ) (pairs : List DeskPair) : Type 0 where
  rise : KeysRise desk_key pairs
  fit : length pairs ≤ MAX_DESKS
  of_users : AllByRecursion (λ (pair : DeskPair). pair.user < users) pairs
  regular : AllByRecursion (λ (pair : DeskPair). IsRegular tree pair.page) pairs

-- the desks of a sound part are, also where there are more users
old_pairs : (part : TreePart) (users : ℕ) → AreDesks part → part.next_user ≤ users →
    ArePairs part.tree users part.desk_pairs
old_pairs part users desks more = record {
  rise = desks.desks_rise;
  fit = desks.desks_fit;
  of_users = all_weaker (λ (pair : DeskPair). pair.user < part.next_user)
      (λ (pair : DeskPair). pair.user < users) part.desk_pairs
      (λ pair lower. omega (arith, lower, more)) desks.desk_users;
  regular = desks.desks_regular;
}

-- so are they with one more that may be opened
with_opened : (part : TreePart) (users : ℕ) (opened : Option Desk) → AreDesks part →
    part.next_user ≤ users → IfSome opened (MayOpen part) →
    ArePairs part.tree users (with_pair opened part.desk_pairs)
with_opened part users None desks more may = old_pairs part users desks more
with_opened part users (Some desk) desks more may =
    let old = old_pairs part users desks more in
    let new = pair_of desk in
    let pairs = part.desk_pairs in
    record {
      rise = rise_put desk_key new pairs
          (all_weaker (λ (pair : DeskPair). pair.page ≡ desk.page → ⊥)
          (λ (pair : DeskPair). desk_key pair ≡ desk_key new → ⊥) pairs
          (λ pair free same. free (same_key pair.page desk.page same)) may.free) old.rise;
      fit = let longer = length-put_in desk_key new pairs in omega (arith, longer, may.room);
      of_users = all_put (λ (pair : DeskPair). pair.user < users) desk_key new pairs
          (omega (arith, may.user, more)) old.of_users;
      regular = all_put (λ (pair : DeskPair). IsRegular part.tree pair.page) desk_key new pairs
          may.regular old.regular;
    }
  where
    same_key : (x y : ℕ) → x ∷ [] ≡ y ∷ [] → x ≡ y
    same_key x y e = cc

-- the desks of a sound part after a command
pub settled_desks : (part : TreePart) (caller : ℕ) (page : Option ℕ) (deed : Deed) →
    AreDesks part → KeepsSound part caller page deed → AreDesks (settled caller page deed).0
settled_desks part caller page deed desks kept =
    let opened = desk_opened caller page deed.opened in
    let pairs = with_pair opened deed.part.desk_pairs in
    let keep = λ (pair : DeskPair). not (is_ended (ended_pairs caller page deed) pair) in
    let all = subst
    (λ (list : List DeskPair). ArePairs part.tree deed.part.next_user (with_pair opened list))
    (sym kept.pairs)
    (with_opened part deed.part.next_user opened desks kept.users kept.opened) in
    let stay = settled_stay caller page deed in
    record {
      desks_rise = rise_filter desk_key keep pairs all.rise;
      desks_fit = let fewer = shorter keep pairs in omega (arith, fewer, all.fit);
      desk_users = all_filter (λ (pair : DeskPair). pair.user < deed.part.next_user) keep pairs
          all.of_users;
      desks_stay = stay;
      desks_regular = both_all _ (λ (pair : DeskPair). IsRegular part.tree pair.page) _
          (filter keep pairs)
          (λ pair is regular. kept.regular pair.page regular (desk_has_page deed.part pair is)) stay
          (all_filter (λ (pair : DeskPair). IsRegular part.tree pair.page) keep pairs all.regular);
    }

-- a sound part stays one
pub settled_sound : (part : TreePart) (caller : ℕ) (page : Option ℕ) (deed : Deed) →
    IsSoundPart part → KeepsSound part caller page deed →
    IsSoundPart (settled caller page deed).0
settled_sound part caller page deed sound kept =
    groups.with_desks deed.part
    (filter (λ pair. not (is_ended (ended_pairs caller page deed) pair))
    (with_pair (desk_opened caller page deed.opened) deed.part.desk_pairs)) kept.sound
    (settled_desks part caller page deed sound.desks kept)

-- the desks with one more are those pairs with one more
pub pairs_opened : (opened : Option Desk) (desks : List Desk) →
    map pair_of (with_desk opened desks) ≡ with_pair opened (map pair_of desks)
pairs_opened None desks = refl
pairs_opened (Some desk) [] = refl
pairs_opened (Some desk) (first ∷ desks) =
    choice (comes_before (desk_key (pair_of desk)) (desk_key (pair_of first)))
    (pairs_opened (Some desk) desks)
  where
    choice : (t : Bool) →
        map pair_of (put_in (λ (one : Desk). desk_key (pair_of one)) desk desks)
        ≡ put_in desk_key (pair_of desk) (map pair_of desks) →
        map pair_of (cond t (desk ∷ first ∷ desks)
        (first ∷ put_in (λ (one : Desk). desk_key (pair_of one)) desk desks))
        ≡ cond t (pair_of desk ∷ pair_of first ∷ map pair_of desks)
        (pair_of first ∷ put_in desk_key (pair_of desk) (map pair_of desks))
    choice true more = refl
    choice false more = ap (λ (pairs : List DeskPair). pair_of first ∷ pairs) more

-- texts within their limits stay so with that of a desk that may be opened
pub texts_opened : (part : TreePart) (opened : Option Desk) (desks : List Desk) →
    IfSome opened (MayOpen part) → AllByRecursion (λ (desk : Desk). FitsLimits desk.text) desks →
    AllByRecursion (λ (desk : Desk). FitsLimits desk.text) (with_desk opened desks)
texts_opened part None desks may texts = texts
texts_opened part (Some desk) desks may texts =
    all_put (λ (one : Desk). FitsLimits one.text) (λ (one : Desk). desk_key (pair_of one)) desk
    desks may.fits texts
