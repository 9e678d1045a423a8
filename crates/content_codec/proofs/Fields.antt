-- Fields are read as they are written.
use Rattle.std.proofs.Common.{◌≡◌, ℕ, ◌<◌, ◌≤◌, ◌==◌, ◌&&◌, nat_le, Bool, true, false, List, length, IsUtf8, Option, Some, None, Decides, ◌≢◌, if◌then◌else◌, refl, sym, subst, arith}
use Rattle.std.specs.List.{AllByRecursion}
use Rattle.std.specs.Str.{is_utf8}
use Rattle.std.proofs.lemmas.Bool.{eqb-true}
use Rattle.std.proofs.lemmas.Bool.Decides.{nat_tests}
use Rattle.std.proofs.lemmas.Str.{IsUtf8-from_is_utf8, is_utf8-from_IsUtf8}
use Rattle.site_types.specs.Ids.{IsPageId, IsUserId, IsGroupId, IsWorkflowId}
use Rattle.site_types.specs.Moment.{IsMoment}
use Rattle.site_types.specs.Slug.{IsSlug}
use Rattle.site_types.specs.Content.{text_form}
use Rattle.site_ids.specs.declared.ids.TheConstants.{LAST_PAGE_ID, LAST_USER_ID, LAST_GROUP_ID, LAST_WORKFLOW_ID}
use Rattle.site_ids.specs.declared.moment.TheConstants.{LAST_MOMENT}
use Rattle.site_ids.specs.declared.slug.TheConstants.{MAX_SLUG_BYTES}
use Rattle.byte_forms.specs.Fields.{u32_form, u64_form, truth_number, truth_form, id_form, optional_id_form, moment_form, optional_moment_form, short_form, slug_form, ids_form, IfThere}
use Rattle.content_codec.specs.Reading.{is_within}
use Rattle.content_codec.specs.Fields.{truth_of, truth_at, page_at, user_at, group_at, NO_MOMENT, optional_of, optional_workflow_at, moment_at, optional_moment_at, is_slug, slug_at, short_text_at, text_at, numbers_at}
use Rattle.content_codec.proofs.Readings.{IsReading, some_is, test_gives, kept_reading, same_facts, same_reading, counted_reading, sized_reading, byte_reading, coded_reading, code_is}
use Rattle.content_codec.proofs.Numbers.{u32_reading, u64_reading}
use Rattle.content_codec.proofs.Limits.{nat_le_decides, is_within_decides}

-- truth values
pub truth_reading : IsReading truth_form (λ truth. Unit {0}) truth_at
unfolding truth_at
truth_reading = coded_reading byte_reading truth_number truth_of (λ _. Unit {0}) small back forth
  where
    small : (truth : Bool) → Unit {0} → truth_number truth < 256
    small false is = omega arith
    small true is = omega arith

    back : (truth : Bool) → Unit {0} → truth_of (truth_number truth) ≡ Some truth
    back false is = refl
    back true is = refl

    forth : (n : ℕ) (truth : Bool) → truth_of n ≡ Some truth → (truth_number truth ≡ n) × Unit {0}
    forth n truth e = (
      code_is truth_number n 0 false _ truth refl
          (code_is truth_number n 1 true None truth refl (λ none. absurd cc)) e,
      tt,
    )

-- ids of pages
pub page_reading : IsReading id_form IsPageId page_at
unfolding page_at
page_reading =
    kept_reading u32_reading (is_within 1 LAST_PAGE_ID) IsPageId
    (λ n is. (omega arith, (is_within_decides 1 LAST_PAGE_ID n).1 is))
    (λ n _ e. (is_within_decides 1 LAST_PAGE_ID n).0 e)

-- ids of users
pub user_reading : IsReading id_form IsUserId user_at
unfolding user_at
user_reading =
    kept_reading u32_reading (is_within 0 LAST_USER_ID) IsUserId
    (λ n is. (omega arith, (is_within_decides 0 LAST_USER_ID n).1 (omega arith, is)))
    (λ n _ e. ((is_within_decides 0 LAST_USER_ID n).0 e).1)

-- ids of groups
pub group_reading : IsReading id_form IsGroupId group_at
unfolding group_at
group_reading =
    kept_reading u32_reading (is_within 1 LAST_GROUP_ID) IsGroupId
    (λ n is. (omega arith, (is_within_decides 1 LAST_GROUP_ID n).1 is))
    (λ n _ e. (is_within_decides 1 LAST_GROUP_ID n).0 e)

-- moments
pub moment_reading : IsReading moment_form IsMoment moment_at
unfolding moment_at
moment_reading =
    kept_reading u64_reading (λ n. nat_le n LAST_MOMENT) IsMoment
    (λ n is. (omega arith, (nat_le_decides n LAST_MOMENT).1 is))
    (λ n _ e. (nat_le_decides n LAST_MOMENT).0 e)

-- both tests are true
pub and_gives : (a b : Bool) → (a && b) ≡ true → (a ≡ true) × (b ≡ true)
and_gives true b e = (refl, e)
and_gives false b e = absurd cc

-- two true tests
pub and_holds : (a b : Bool) → a ≡ true → b ≡ true → (a && b) ≡ true
and_holds a b p q = rw (p, q) refl

-- slugs
is_slug_decides : (text : List ℕ) → Decides (is_slug text) (IsSlug text)
is_slug_decides text = (
  λ e.
      let both = and_gives (is_within 1 MAX_SLUG_BYTES (length text)) _ e in
      let size = (is_within_decides 1 MAX_SLUG_BYTES (length text)).0 both.0 in
      record { not_empty = size.0; fits = size.1; allowed = both.1 },
  λ is.
      and_holds _ _ ((is_within_decides 1 MAX_SLUG_BYTES (length text)).1 (is.not_empty, is.fits))
      is.allowed,
)

-- slugs are read
pub slug_reading : IsReading slug_form IsSlug slug_at
unfolding slug_at
slug_reading =
    kept_reading (sized_reading byte_reading) is_slug IsSlug
    (λ text is. (omega (arith, is.fits), (is_slug_decides text).1 is))
    (λ text _ e. (is_slug_decides text).0 e)

-- a text of so many bytes at most
abbrev pub IsTextBelow : ℕ → List ℕ → Type 0
IsTextBelow limit text = (length text < limit) × IsUtf8 text

-- texts of at most 255 bytes
pub short_text_reading : IsReading short_form (IsTextBelow 256) short_text_at
unfolding short_text_at
short_text_reading =
    kept_reading (sized_reading byte_reading) is_utf8 (IsTextBelow 256)
    (λ text is. (is.0, is_utf8-from_IsUtf8 text is.1))
    (λ text few e. (few, IsUtf8-from_is_utf8 text e))

-- texts
pub text_reading : IsReading text_form (IsTextBelow 4294967296) text_at
unfolding text_at u32_form
text_reading =
    kept_reading (sized_reading u32_reading) is_utf8 (IsTextBelow 4294967296)
    (λ text is. (is.0, is_utf8-from_IsUtf8 text is.1))
    (λ text few e. (few, IsUtf8-from_is_utf8 text e))

-- lists of numbers of four bytes
pub numbers_reading :
    IsReading ids_form
    (λ ids. (length ids < 256) × AllByRecursion (λ n. n < 4294967296) ids) numbers_at
unfolding numbers_at
numbers_reading =
    counted_reading byte_reading u32_reading

-- the number of an option, where one says that there is none
abbrev optional_number : ℕ → Option ℕ → ℕ
optional_number none None = none
optional_number none (Some n) = n

-- an option that is there is another number, up to the last
abbrev IsOptional : ℕ → ℕ → Option ℕ → Type 0
IsOptional none last None = Unit {0}
IsOptional none last (Some n) = (n ≢ none) × (n ≤ last)

-- the number of an option is that option
optional_back : (none last : ℕ) (value : Option ℕ) → IsOptional none last value →
    optional_of none last (optional_number none value) ≡ Some value
optional_back none last None is =
    let same : (none == none) ≡ true = grind (arith, nat_tests) in rw same refl
optional_back none last (Some n) is =
    let other : (n == none) ≡ false = grind (arith, nat_tests) in
    let fits = (nat_le_decides n last).1 is.1 in rw (other, fits) refl

-- the option of a number has that number
optional_forth : (none last n : ℕ) (value : Option ℕ) → optional_of none last n ≡ Some value →
    (optional_number none value ≡ n) × IsOptional none last value
optional_forth none last n value e = at (n == none) refl e
  where
    at : (absent : Bool) → (n == none) ≡ absent →
        (if absent then Some None else if nat_le n last then Some (Some n) else None) ≡ Some value →
        (optional_number none value ≡ n) × IsOptional none last value
    at true absent e =
        let P : Option ℕ → Type 0 = λ v. (optional_number none v ≡ n) × IsOptional none last v in
        subst P (some_is None value e) (sym (eqb-true _ _ absent), tt)
    at false absent e =
        let found = test_gives (nat_le n last) (Some n) value e in
        let P : Option ℕ → Type 0 = λ v. (optional_number none v ≡ n) × IsOptional none last v in
        let other : n ≢ none = grind (arith, nat_tests) in
        subst P found.1 (refl, (other, (nat_le_decides n last).0 found.0))

-- the form of an option is that of its number
optional_id_is : (id : Option ℕ) → optional_id_form id ≡ u32_form (optional_number 0 id)
optional_id_is None = refl
optional_id_is (Some n) = refl

-- the form of an option is that of its number
optional_moment_is : (moment : Option ℕ) →
    optional_moment_form moment ≡ u64_form (optional_number NO_MOMENT moment)
unfolding optional_moment_form u64_form
optional_moment_is None = refl
optional_moment_is (Some n) = refl

-- ids of workflows that may be absent
pub optional_workflow_reading :
    IsReading optional_id_form (IfThere IsWorkflowId) optional_workflow_at
unfolding optional_workflow_at
optional_workflow_reading =
    same_facts
    (same_reading
    (coded_reading u32_reading (optional_number 0) (optional_of 0 LAST_WORKFLOW_ID)
    (IsOptional 0 LAST_WORKFLOW_ID) small (optional_back 0 LAST_WORKFLOW_ID)
    (optional_forth 0 LAST_WORKFLOW_ID))
    optional_id_form optional_id_is) (IfThere IsWorkflowId) to from
  where
    small : (id : Option ℕ) → IsOptional 0 LAST_WORKFLOW_ID id →
        optional_number 0 id < 4294967296
    small None is = omega arith
    small (Some n) is = omega arith

    to : (id : Option ℕ) → IsOptional 0 LAST_WORKFLOW_ID id → IfThere IsWorkflowId id
    to None is = tt
    to (Some n) is = (omega arith, is.1)

    from : (id : Option ℕ) → IfThere IsWorkflowId id → IsOptional 0 LAST_WORKFLOW_ID id
    from None is = tt
    from (Some n) is = (omega arith, is.1)

-- moments that may be absent
pub optional_moment_reading :
    IsReading optional_moment_form (IfThere IsMoment) optional_moment_at
unfolding optional_moment_at
optional_moment_reading =
    same_facts
    (same_reading
    (coded_reading u64_reading (optional_number NO_MOMENT) (optional_of NO_MOMENT LAST_MOMENT)
    (IsOptional NO_MOMENT LAST_MOMENT) small (optional_back NO_MOMENT LAST_MOMENT)
    (optional_forth NO_MOMENT LAST_MOMENT))
    optional_moment_form optional_moment_is) (IfThere IsMoment) to from
  where
    small : (moment : Option ℕ) → IsOptional NO_MOMENT LAST_MOMENT moment →
        optional_number NO_MOMENT moment < 18446744073709551616
    small None is = omega arith
    small (Some n) is = omega arith

    to : (moment : Option ℕ) → IsOptional NO_MOMENT LAST_MOMENT moment → IfThere IsMoment moment
    to None is = tt
    to (Some n) is = is.1

    from : (moment : Option ℕ) → IfThere IsMoment moment → IsOptional NO_MOMENT LAST_MOMENT moment
    from None is = tt
    from (Some n) is = (omega arith, is)
