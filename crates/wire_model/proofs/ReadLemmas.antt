-- What is read from a body fits: a slug is by the rule of slugs, a content within its limits, a
-- digest has its bytes, groups rise, and of groups and tasks there are 1 to 16 ids in their range.
use Rattle.std.proofs.Common.{◌≡◌, ◌≤◌, ◌<◌, ◌&&◌, ◌==◌, ◌+◌, ◌*◌, ℕ, suc, Bool, true, false, cond, nat_le, nat_lt, List, [], ◌∷◌, length, Option, Some, None, refl, ap, subst, arith}
use Rattle.std.specs.Prelude.{IfSome, option_map, option_and_then}
use Rattle.std.specs.Bool.{then_some}
use Rattle.std.specs.List.{list_all, AllByRecursion}
use Rattle.std.proofs.lemmas.Bool.Decides.{nat_tests}
use Rattle.serde_json.specs.Data.{Data, Items, no_items, item}
use Rattle.serde_json.specs.Find.{as_str, as_array}
use Rattle.site_ids.specs.Slug.{is_slug_byte, IsSlug}
use Rattle.site_ids.specs.declared.slug.TheConstants.{MAX_SLUG_BYTES}
use Rattle.site_ids.specs.declared.digest.TheConstants.{DIGEST_BYTES}
use Rattle.site_types.specs.Content.{ContentValue, FitsLimits}
use Rattle.site_ids.specs.declared.ids.TheConstants.{LAST_GROUP_ID}
use Rattle.site_model.specs.Laws.{FitsList}
use Rattle.site_model.specs.Sound.{NumbersRise}
use Rattle.json_model.specs.Members.{is_slug, slug_of, is_within, whole_of, whole_within, each_of}
use Rattle.json_model.specs.Content.{content_of}
use Rattle.json_model.proofs.ContentLemmas.{content_right}
use Rattle.wire_model.specs.Forms.{hex_digit, hex_bytes, digest_of, ids_of, placed, gathered}
use Rattle.wire_model.specs.declared.words.TheConstants.{MAX_NAMED_IDS}

-- a text, if there is one, is a slug
abbrev pub AreSlugs : Option (List ℕ) → Type 0
AreSlugs slug = IfSome slug (λ text. IsSlug text)

-- both of two tests that hold together hold
both_hold : (first second : Bool) → first && second ≡ true → (first ≡ true) × (second ≡ true)
both_hold true second is = (refl, is)
both_hold false second is = absurd (cc)

-- a text that passes the test is a slug
slug_by_test : (text : List ℕ) → is_slug text ≡ true → IsSlug text
slug_by_test text is =
    let parts = both_hold _ (list_all is_slug_byte text) is in
    let sizes = both_hold (nat_le 1 (length text)) (nat_le (length text) MAX_SLUG_BYTES) parts.0 in
    record {
      not_empty = grind (arith, nat_tests, sizes.0);
      fits = grind (arith, nat_tests, sizes.1);
      allowed = parts.1;
    }

-- a text that is kept by the test is a slug
tested_slug : (test : Bool) (text : List ℕ) → is_slug text ≡ test → AreSlugs (then_some test text)
tested_slug true text is = slug_by_test text is
tested_slug false text is = tt

-- a slug that a value is read as is one
read_slug : (text : Option (List ℕ)) →
    AreSlugs (option_and_then (λ text. then_some (is_slug text) text) text)
read_slug (Some text) = tested_slug (is_slug text) text refl
read_slug None = tt

-- a slug that a member is read as is one
pub member_slug : (found : Option Data) → AreSlugs (option_and_then slug_of found)
member_slug (Some value) = read_slug (as_str value)
member_slug None = tt

-- a content that is read is within its limits
read_content : (value : Data) (content : Option ContentValue) → content_of value ≡ content →
    IfSome content FitsLimits
read_content value (Some content) is = (content_right value content is).1
read_content value None is = tt

-- a content that a member is read as is within its limits
pub member_content : (found : Option Data) →
    IfSome (option_and_then content_of found) FitsLimits
member_content (Some value) = read_content value (content_of value) refl
member_content None = tt

-- a digit of the higher half, and one of the lower, before bytes
digits_length : (high low : Option ℕ) (bytes : Option (List ℕ)) (size : ℕ) →
    IfSome bytes (λ read. 2 * length read ≡ size) →
    IfSome (option_and_then (λ h. option_and_then (λ l. option_map (λ read. (h * 16 + l) ∷ read)
    bytes) low) high) (λ read. 2 * length read ≡ suc (suc size))
digits_length (Some high) (Some low) (Some bytes) size is = omega (arith, is)
digits_length (Some high) (Some low) None size is = tt
digits_length (Some high) None bytes size is = tt
digits_length None low bytes size is = tt

-- two digits write one byte
hex_length : (text : List ℕ) → IfSome (hex_bytes text) (λ read. 2 * length read ≡ length text)
hex_length [] = refl
hex_length (high ∷ []) = tt
hex_length (high ∷ low ∷ text) =
    digits_length (hex_digit high) (hex_digit low) (hex_bytes text) (length text)
    (hex_length text)

-- a digest has its bytes
abbrev pub AreDigests : Option (List ℕ) → Type 0
AreDigests digest = IfSome digest (λ bytes. length bytes ≡ DIGEST_BYTES)

-- half of twice as many
half : (read : Option (List ℕ)) (size : ℕ) → IfSome read (λ bytes. 2 * length bytes ≡ size) →
    size ≡ 2 * DIGEST_BYTES → AreDigests read
half (Some bytes) size is same = omega (arith, is, same)
half None size is same = tt

-- a text that is read as a digest has twice as many digits
tested_digest : (test : Bool) (text : List ℕ) → (length text == 2 * DIGEST_BYTES) ≡ test →
    AreDigests (cond test (hex_bytes text) None)
tested_digest true text is =
    half (hex_bytes text) (length text) (hex_length text) (grind (arith, nat_tests, is))
tested_digest false text is = tt

-- a digest that a member is read as has its bytes
pub read_digest : (text : Option (List ℕ)) → AreDigests (option_and_then digest_of text)
read_digest (Some text) = tested_digest (length text == 2 * DIGEST_BYTES) text refl
read_digest None = tt

-- an id from 1 to the last one of its kind
abbrev pub IsUpTo : ℕ → ℕ → Type 0
IsUpTo last id = (1 ≤ id) × (id ≤ last)

-- ids, if there are any: 1 to 16, each from 1 to the last one of its kind
abbrev pub AreIds : ℕ → Option (List ℕ) → Type 0
AreIds last ids = IfSome ids (λ list. FitsList list × AllByRecursion (IsUpTo last) list)

-- a number that is kept within a range is within it
kept_within : (high : ℕ) (number : Option ℕ) →
    IfSome (option_and_then (λ n. then_some (is_within 1 high n) n) number) (IsUpTo high)
kept_within high None = tt
kept_within high (Some number) = tested (is_within 1 high number) refl
  where
    tested : (test : Bool) → is_within 1 high number ≡ test →
        IfSome (then_some test number) (IsUpTo high)
    tested true is =
        let both = both_hold (nat_le 1 number) (nat_le number high) is in
        (grind (arith, nat_tests, both.0), grind (arith, nat_tests, both.1))
    tested false is = tt

-- one more id before others that are up to the last
first_read : (last : ℕ) (first : Option ℕ) (rest : Option (List ℕ)) → IfSome first (IsUpTo last) →
    IfSome rest (AllByRecursion (IsUpTo last)) →
    IfSome (option_and_then (λ found. option_map (λ more. found ∷ more) rest) first)
    (AllByRecursion (IsUpTo last))
first_read last (Some first) (Some rest) one more = (one, more)
first_read last (Some first) None one more = tt
first_read last None rest one more = tt

-- each of the ids that items are read as is up to the last
each_id : (last : ℕ) (items : Items) →
    IfSome (each_of (whole_within 1 last) items) (AllByRecursion (IsUpTo last))
each_id last no_items = tt
each_id last (item first items) =
    first_read last (whole_within 1 last first) (each_of (whole_within 1 last) items)
    (kept_within last (whole_of first)) (each_id last items)

-- ids up to the last that are kept if there are 1 to 16 are such ids
kept_ids : (last : ℕ) (ids : Option (List ℕ)) → IfSome ids (AllByRecursion (IsUpTo last)) →
    AreIds last
    (option_and_then (λ list. then_some (is_within 1 MAX_NAMED_IDS (length list)) list) ids)
kept_ids last None each = tt
kept_ids last (Some ids) each = tested (is_within 1 MAX_NAMED_IDS (length ids)) refl
  where
    tested : (test : Bool) → is_within 1 MAX_NAMED_IDS (length ids) ≡ test →
        AreIds last (then_some test ids)
    tested true is =
        let sizes =
        both_hold (nat_le 1 (length ids)) (nat_le (length ids) MAX_NAMED_IDS) is
        in (
          record {
            not_empty = grind (arith, nat_tests, sizes.0);
            fits = grind (arith, nat_tests, sizes.1);
          },
          each,
        )
    tested false is = tt

-- ids that a list is read as
listed_ids : (last : ℕ) (list : Option Items) →
    AreIds last (option_and_then (λ ids. then_some (is_within 1 MAX_NAMED_IDS (length ids)) ids)
    (option_and_then (each_of (whole_within 1 last)) list))
listed_ids last (Some list) =
    kept_ids last (each_of (whole_within 1 last) list) (each_id last list)
listed_ids last None = tt

-- ids that a member is read as
pub member_ids : (last : ℕ) (found : Option Data) →
    AreIds last (option_and_then (ids_of last) found)
member_ids last (Some value) = listed_ids last (as_array value)
member_ids last None = tt

-- groups, if there are any: 1 to 16 that rise
abbrev pub AreGroups : Option (List ℕ) → Type 0
AreGroups groups =
    IfSome groups
    (λ list. FitsList list × NumbersRise 0 list × AllByRecursion (IsUpTo LAST_GROUP_ID) list)

-- ids after a number that rise, one more than there were
abbrev RiseBy : ℕ → ℕ → Option (List ℕ) → Type 0
RiseBy before size ids = IfSome ids (λ list. NumbersRise before list × (length list ≡ size))

-- the first id before others that rise after it
first_rises : (before first size : ℕ) (more : Option (List ℕ)) → before < first →
    RiseBy first size more → RiseBy before (suc size) (option_map (λ ids. first ∷ ids) more)
first_rises before first size (Some more) above rise = ((above, rise.0), ap suc rise.1)
first_rises before first size None above rise = tt

-- ids that rise with one more at its place still rise
placed_rise : (before id : ℕ) (ids : List ℕ) → before < id → NumbersRise before ids →
    RiseBy before (suc (length ids)) (placed id ids)
placed_rise before id [] above rise = ((above, tt), refl)
placed_rise before id (first ∷ ids) above rise =
    by (λ (over : first < id). placed_rise first id ids over rise.1)
    (nat_lt id first) refl (id == first) refl
  where
    by : (first < id → RiseBy first (suc (length ids)) (placed id ids)) →
        (less : Bool) → nat_lt id first ≡ less → (same : Bool) → (id == first) ≡ same →
        RiseBy before (suc (suc (length ids)))
        (cond less (Some (id ∷ first ∷ ids))
        (cond same None (option_map (λ more. first ∷ more) (placed id ids))))
    by later true less same is = ((above, (grind (arith, nat_tests, less), rise.1)), refl)
    by later false less true is = tt
    by later false less false is =
        first_rises before first (suc (length ids)) (placed id ids) rise.0
        (later (grind (arith, nat_tests, less, is)))

-- ids that rise, with others put in, still rise
gathered_rise : (last : ℕ) (kept ids : List ℕ) → NumbersRise 0 kept →
    AllByRecursion (IsUpTo last) ids →
    RiseBy 0 (length kept + length ids) (gathered kept ids)
gathered_rise last kept [] rise each = (rise, omega arith)
gathered_rise last kept (id ∷ ids) rise each =
    by (placed id kept) (placed_rise 0 id kept each.0.0 rise)
    (λ (more : List ℕ) (rises : NumbersRise 0 more). gathered_rise last more ids rises each.1)
  where
    sized : (size other : ℕ) (more : Option (List ℕ)) → size ≡ other → RiseBy 0 size more →
        RiseBy 0 other more
    sized size other more is rises = subst (λ n. RiseBy 0 n more) is rises

    by : (one_more : Option (List ℕ)) → RiseBy 0 (suc (length kept)) one_more →
        ((more : List ℕ) → NumbersRise 0 more →
        RiseBy 0 (length more + length ids) (gathered more ids)) →
        RiseBy 0 (length kept + suc (length ids))
        (option_and_then (λ more. gathered more ids) one_more)
    by (Some more) rises later =
        sized (length more + length ids) (length kept + suc (length ids)) (gathered more ids)
        (omega (arith, rises.1)) (later more rises.0)
    by None rises later = tt

-- what holds of each id, and of one more, holds of each with that at its place
placed_each : (P : ℕ → Type 0) (id : ℕ) (ids : List ℕ) → P id → AllByRecursion P ids →
    IfSome (placed id ids) (AllByRecursion P)
placed_each P id [] one each = (one, tt)
placed_each P id (first ∷ ids) one each =
    by (nat_lt id first) (id == first) (placed id ids) (placed_each P id ids one each.1)
  where
    by : (less same : Bool) (more : Option (List ℕ)) → IfSome more (AllByRecursion P) →
        IfSome (cond less (Some (id ∷ first ∷ ids))
        (cond same None (option_map (λ rest. first ∷ rest) more))) (AllByRecursion P)
    by true same more rest = (one, each)
    by false true more rest = tt
    by false false (Some more) rest = (each.0, rest)
    by false false None rest = tt

-- so it does with others put in
gathered_each : (P : ℕ → Type 0) (kept ids : List ℕ) → AllByRecursion P kept →
    AllByRecursion P ids → IfSome (gathered kept ids) (AllByRecursion P)
gathered_each P kept [] each more = each
gathered_each P kept (id ∷ ids) each more =
    by (placed id kept) (placed_each P id kept more.0 each)
    (λ (list : List ℕ) (holds : AllByRecursion P list). gathered_each P list ids holds more.1)
  where
    by : (one_more : Option (List ℕ)) → IfSome one_more (AllByRecursion P) →
        ((list : List ℕ) → AllByRecursion P list →
        IfSome (gathered list ids) (AllByRecursion P)) →
        IfSome (option_and_then (λ list. gathered list ids) one_more) (AllByRecursion P)
    by (Some list) holds later = later list holds
    by None holds later = tt

-- groups that a list of ids is gathered to
gathered_groups : (ids : Option (List ℕ)) → AreIds LAST_GROUP_ID ids →
    AreGroups (option_and_then (gathered []) ids)
gathered_groups None are = tt
gathered_groups (Some ids) are =
    by (gathered [] ids) (gathered_rise LAST_GROUP_ID [] ids tt are.1)
    (gathered_each (IsUpTo LAST_GROUP_ID) [] ids tt are.1)
  where
    by : (groups : Option (List ℕ)) → RiseBy 0 (0 + length ids) groups →
        IfSome groups (AllByRecursion (IsUpTo LAST_GROUP_ID)) → AreGroups groups
    by (Some groups) rises each = (
      record {
        not_empty = omega (arith, rises.1, are.0.not_empty);
        fits = omega (arith, rises.1, are.0.fits);
      },
      rises.0,
      each,
    )
    by None rises each = tt

-- groups that a member is read as are 1 to 16 and rise
pub read_groups : (found : Option Data) →
    AreGroups (option_and_then (gathered []) (option_and_then (ids_of LAST_GROUP_ID) found))
read_groups found =
    gathered_groups (option_and_then (ids_of LAST_GROUP_ID) found)
    (member_ids LAST_GROUP_ID found)
