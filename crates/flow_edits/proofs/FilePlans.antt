-- Filing the text of a desk: what is refused, and what is planned.
use Rattle.std.proofs.Common.{◌≡◌, ◌||◌, ◌+◌, ◌<◌, ◌≤◌, ℕ, Bool, true, false, nat_eq, nat_lt, List, [], ◌∷◌, ◌++◌, length, Option, Some, None, Result, Ok, Err, Fits, w64, refl, sym, ap, subst, ◌∙◌, arith}
use Rattle.std.specs.Prelude.{filter}
use Rattle.std.specs.List.{AllByRecursion, list_any}
use Rattle.std.proofs.lemmas.Bool.Decides.{nat_tests}
use Rattle.page_tree.specs.Tree.{has_page}
use Rattle.site_ids.specs.declared.ids.TheConstants.{LAST_REVISION_ID}
use Rattle.site_types.specs.Content.{ContentValue, FitsLimits, content_form}
use Rattle.site_types.specs.declared.body.Body.{Body}
use Rattle.site_types.specs.declared.command.Command.TheVariants as commands
use Rattle.site_types.specs.declared.refusal.Refusal.{Refusal}
use Rattle.site_types.specs.declared.refusal.Refusal.TheVariants.{NoDesk, NothingNew, IdsFull, ContentFull}
use Rattle.site_types.specs.declared.reply.Reply.TheVariants.{Id}
use Rattle.site_types.specs.declared.revision.Revision.{Revision}
use Rattle.revision_shelf.specs.Shelf.{total_weight}
use Rattle.tree_model.proofs.CountLemmas.{id_found}
use Rattle.site_model.specs.World as worlds
use Rattle.site_model.specs.Bodies.{latest_of}
use Rattle.site_model.specs.Desks.{desk_page, is_filed, file_rules, file_text, filed_revision, with_filed}
use Rattle.site_model.specs.Laws.{IsAtDesk, FitsDesk}
use Rattle.site_model.specs.Limits.{MAX_CONTENTS, contents_length}
use Rattle.site_model.specs.Losing.{suspects_of, shuts}
use Rattle.site_model.specs.Sound.{IsRegular}
use Rattle.site_model.specs.Step.{rules, step_by}
use Rattle.site_model.specs.Step as steps
use Rattle.site_model.specs.Views.{body_of}
use Rattle.site_model.proofs.ContentLemmas.{contents_length-append, within_room, past_room, within, past}
use Rattle.site_model.proofs.KeptLemmas.{both_hold}
use Rattle.site_model.proofs.LosingEnds.{ends_own}
use Rattle.site_model.proofs.RegularLemmas.{kept_there}
use Rattle.flat_model.specs.Flat.{people_of, lists_of}
use Rattle.flat_model.specs.Single.{body_change}
use Rattle.flat_model.specs.declared.change.Change.{Change}
use Rattle.flat_model.proofs.ListLemmas.{lists_are, none_out, quiet_people}
use Rattle.site_part.specs.Plans.{Prepares, HasPlan, left_by, pages_of}
use Rattle.site_part.specs.Standing.{IsReady}
use Rattle.site_part.specs.declared.fault.Fault.{Fault}
use Rattle.site_part.specs.declared.fault.Fault.TheVariants.{Refused, Memory}
use Rattle.site_part.specs.declared.part.TreePart.{TreePart}
use Rattle.site_part.specs.declared.plan.Plan.{Plan}
use Rattle.site_part.proofs.StepLemmas.{own_refuses, pairs_agree}
use Rattle.moderating.specs.Asked.{IsAsked}
use Rattle.moderating.specs.Plans.{Plans, Tells, ending_plan}
use Rattle.flow_edits.specs.Plans.{revision_of, filed_body, filing_plan}
use Rattle.flat_model.proofs.BodyRows.{rebodied_rows}
use Rattle.flow_edits.proofs.OpenPlans.{is_callers, callers_page}
use Rattle.moderating.proofs.Planned.{planned, prepared, row_there}
use Rattle.moderating.proofs.Steps.{part_left, ends_step}

-- the weight of revisions is the length of their contents
pub weights_are : (revisions : List Revision) → total_weight revisions ≡ contents_length revisions
weights_are [] = refl
weights_are (revision ∷ revisions) =
    ap (λ n. length (content_form revision.content) + n) (weights_are revisions)

-- with one more revision contents take what its content takes more
one_longer : (revisions : List Revision) (revision : Revision) →
    contents_length (revisions ++ revision ∷ [])
    ≡ contents_length revisions + length (content_form revision.content)
one_longer revisions revision =
    let sum = contents_length-append revisions (revision ∷ []) in omega (arith, sum)

-- contents that have room, and one more
pub sum_fits : (weight form all : ℕ) (content : ContentValue) → weight ≡ all → all ≤ MAX_CONTENTS →
    form ≡ length (content_form content) → FitsLimits content → Fits w64 (weight + form)
sum_fits weight form all content weight_is room form_is fits =
    let most = fits.form_fits in omega (arith, weight_is, room, form_is, most)

module _ (part : worlds.TreePart) (now caller page : ℕ) (go_live expire : Option ℕ)
    (text : ContentValue) where
  -- the rules on a text that is filed
  abbrev told : Option Refusal
  told = file_rules part now caller page go_live expire (Some text)

  -- it is filed already
  pub file_known : is_filed text go_live expire (latest_of part page) ≡ true → told ≡ Some NothingNew
  file_known is = rw is refl

  -- no id is left
  pub file_ids : is_filed text go_live expire (latest_of part page) ≡ false →
      LAST_REVISION_ID < part.next_revision → told ≡ Some IdsFull
  file_ids new over = rw (new, past LAST_REVISION_ID part.next_revision IdsFull over) refl

  -- no room is left
  pub file_full : is_filed text go_live expire (latest_of part page) ≡ false →
      part.next_revision ≤ LAST_REVISION_ID → (weight sum : ℕ) →
      weight ≡ contents_length part.revisions → sum ≡ weight + length (content_form text) →
      MAX_CONTENTS < sum → told ≡ Some ContentFull
  file_full new fits weight sum weight_is sum_is over =
      let longer = one_longer part.revisions
      (filed_revision part now caller page text go_live expire) in
      let past_all : MAX_CONTENTS
      < contents_length (with_filed part now caller page text go_live expire).revisions =
      omega (arith, longer, weight_is, sum_is, over) in
      rw (
        new,
        within LAST_REVISION_ID part.next_revision IdsFull fits,
        past_room (with_filed part now caller page text go_live expire).revisions past_all,
      ) refl

  -- nothing is in the way
  pub file_clear : is_filed text go_live expire (latest_of part page) ≡ false →
      part.next_revision ≤ LAST_REVISION_ID → (weight sum : ℕ) →
      weight ≡ contents_length part.revisions → sum ≡ weight + length (content_form text) →
      sum ≤ MAX_CONTENTS → told ≡ None
  file_clear new fits weight sum weight_is sum_is room =
      let longer = one_longer part.revisions
      (filed_revision part now caller page text go_live expire) in
      let all_fit : contents_length (with_filed part now caller page text go_live expire).revisions
      ≤ MAX_CONTENTS = omega (arith, longer, weight_is, sum_is, room) in
      rw (
        new,
        within LAST_REVISION_ID part.next_revision IdsFull fits,
        within_room (with_filed part now caller page text go_live expire).revisions all_fit,
      ) refl

-- what one of the desks that pass has, as all have it
any_has : {X : Type 0} (test : X → Bool) (P : X → Type 0) (R : Type 0) (xs : List X) →
    list_any test xs ≡ true → AllByRecursion P xs → ((x : X) → test x ≡ true → P x → R) → R
any_has test P R [] is all gives = absurd (cc)
any_has test P R (x ∷ xs) is all gives =
    by (test x) refl is (λ more. any_has test P R xs more all.1 gives)
  where
    by : (t : Bool) → test x ≡ t → (t || list_any test xs) ≡ true → (list_any test xs ≡ true → R) → R
    by true passes h later = gives x passes all.0
    by false passes h later = later h

module _ (kept room : TreePart) (part : worlds.TreePart) (desk : Option ContentValue)
    (now caller page : ℕ) (go_live expire : Option ℕ)
    (asked : IsAsked kept part desk caller (commands.File page go_live expire)) where
  -- the command's own rules, and what it does
  file_own : rules part desk now caller (commands.File page go_live expire)
      ≡ file_rules part now caller page go_live expire desk
  unfolding rules
  file_own = refl

  file_done : steps.effect part desk now caller (commands.File page go_live expire)
      ≡ file_text part now caller page go_live expire desk
  unfolding steps.effect
  file_done = refl

  -- the caller has no desk there
  pub file_none : desk ≡ None →
      step_by part desk now caller (commands.File page go_live expire) ≡ Err NoDesk
  file_none none =
      own_refuses part desk now caller (commands.File page go_live expire) NoDesk asked.front
      (file_own ∙ ap (file_rules part now caller page go_live expire) none)

  module _ (text : ContentValue) (some : desk ≡ Some text) where
    -- a text that is not filed
    pub file_refused : {Told : Type 0} (IsRight : Told → Type 0) (fault : Fault) →
        Tells (file_rules part now caller page go_live expire (Some text)) IsRight (Err fault) →
        Prepares part desk now caller (commands.File page go_live expire) room (Err fault)
    file_refused IsRight (Refused refusal) is =
        own_refuses part desk now caller (commands.File page go_live expire) refusal asked.front
        (file_own ∙ (ap (file_rules part now caller page go_live expire) some ∙ is))
    file_refused IsRight Memory is = tt

    -- the text is that of the caller's open desk
    pub at_desk : IsAtDesk part caller page text
    unfolding desk_page
    at_desk =
        subst (λ (o : Option ContentValue). FitsDesk part caller (Some page) o) some
        asked.given.at_desk

    -- whose page is there and below the root
    pub own_page : IsRegular part.tree page
    own_page =
        any_has (is_callers page caller) (λ (pair : worlds.DeskPair). IsRegular part.tree pair.page) _
        part.desk_pairs at_desk.opened asked.given.ready.reached.sound.desks.desks_regular
        (λ pair is one. subst (λ (id : ℕ). IsRegular part.tree id)
        (id_found pair.page page
        (both_hold (nat_eq pair.page page) (nat_eq pair.user caller) is).0) one)

    -- the caller's own desk ends
    file_ends : (left : worlds.TreePart) (effect : worlds.Effect) →
        step_by part desk now caller (commands.File page go_live expire) ≡ Ok (left, effect) →
        effect.ended ≡ filter (is_callers page caller) part.desk_pairs
    unfolding suspects_of shuts desk_page
    file_ends left effect is =
        ends_own part left effect desk now caller (commands.File page go_live expire)
        asked.given.ready.reached.sound refl is

    -- its plan
    pub file_planned : IsReady room part → (body : Body) → body_of part.tree page ≡ Some body →
        file_rules part now caller page go_live expire (Some text) ≡ None →
        1 ≤ room.shelf.spare → (filed : Revision) →
        filed ≡ filed_revision part now caller page text go_live expire →
        HasPlan room part desk now caller (commands.File page go_live expire)
        (filing_plan filed body kept.next_page)
    file_planned ready body found clear spare filed filed_is =
        let command = commands.File page go_live expire in
        let new : Revision = filed_revision part now caller page text go_live expire in
        let after = with_filed part now caller page text go_live expire in
        let ended = filter (is_callers page caller) part.desk_pairs in
        let change : Body → Body = λ (one : Body). filed_body one part.next_revision in
        let rise = ready.reached.sound.desks.desks_rise in
        let kept_out = none_out (λ (revision : Revision). revision.page) part.revisions in
        let all : Change = record (body_change page (filed_body body part.next_revision)
        (worlds.time_at part now) kept.next_page (part.next_revision + 1)) {
          revisions = new ∷ [];
        } in
        subst (λ (one : Revision). HasPlan room part desk now caller command
        (filing_plan one body kept.next_page)) (sym filed_is)
        (subst (λ (pages : List ℕ). HasPlan room part desk now caller command
        (ending_plan (Id part.next_revision) pages all))
        (callers_page page caller part.desk_pairs rise at_desk.opened)
        (planned command room part after desk now caller (Id part.next_revision) ended all ready
        (ends_step part desk now caller command after (Id part.next_revision) true asked.front
        (file_own ∙ (ap (file_rules part now caller page go_live expire) some ∙ clear))
        (file_done ∙ ap (file_text part now caller page go_live expire) some) refl ended file_ends
        (pairs_agree (is_callers page caller) part.desk_pairs rise))
        (record {
          tree = tt;
          bodies = (row_there page body part.tree found, tt);
          gone = tt;
          revisions = (ready.reached.sound.revisions.revision_ids, tt);
          people = tt;
          flows = tt;
        })
        (lists_are
        (left_by (ending_plan (Id part.next_revision) (pages_of ended) all) (lists_of part))
        (lists_of (part_left after part.desk_pairs ended))
        (sym (rebodied_rows page change body (filed_body body part.next_revision) part.tree
        ready.reached.sound.pages.distinct found refl))
        (ap (λ (rs : List Revision). rs ++ new ∷ []) kept_out) (quiet_people (people_of part)) refl
        refl refl refl asked.given.ready.stands.next_page refl) (omega arith) spare (omega arith)
        (omega arith)))

    -- what is told of it
    pub file_prepared : IsReady room part →
        file_rules part now caller page go_live expire (Some text) ≡ None →
        1 ≤ room.shelf.spare → (filed : Revision) →
        filed ≡ filed_revision part now caller page text go_live expire →
        (result : Result Plan Fault) →
        ((body : Body) → body_of part.tree filed.page ≡ Some body →
        Plans (filing_plan filed body kept.next_page) result) →
        Prepares part desk now caller (commands.File page go_live expire) room result
    file_prepared ready clear spare filed filed_is result is =
        let there = kept_there page part.tree own_page.1 in
        let plan = filing_plan filed there.0 kept.next_page in
        prepared (commands.File page go_live expire) room part desk now caller plan plan result refl
        (file_planned ready there.0 there.1 clear spare filed filed_is)
        (is there.0 (subst (λ (one : Revision). body_of part.tree one.page ≡ Some there.0)
        (sym filed_is) there.1))

    -- the page of the revision is there
    pub filed_there : (filed : Revision) →
        filed ≡ filed_revision part now caller page text go_live expire →
        has_page filed.page part.tree ≡ true
    filed_there filed filed_is =
        subst (λ (one : Revision). has_page one.page part.tree ≡ true) (sym filed_is) own_page.1

-- an id past the last is none that there is
pub past_last : (last next : ℕ) → 1 ≤ next → ((1 ≤ next) × (next ≤ last) → ⊥) → last < next
past_last last next some none = by (nat_lt last next) refl
  where
    by : (t : Bool) → nat_lt last next ≡ t → last < next
    by true e = grind (arith, nat_tests)
    by false e =
        let most : next ≤ last = grind (arith, nat_tests) in absurd (none (some, most))

-- whether a text is filed, as it is looked up
pub filed_as : (text : ContentValue) (go_live expire : Option ℕ) (found latest : Option Revision)
    (answer known : Bool) → found ≡ latest → answer ≡ is_filed text go_live expire found →
    answer ≡ known → is_filed text go_live expire latest ≡ known
filed_as text go_live expire found latest answer known same answer_is known_is =
    ap (is_filed text go_live expire) (sym same) ∙ (sym answer_is ∙ known_is)

-- the revision that is made is the one that is filed
pub filed_is_made : (part : worlds.TreePart) (now caller page : ℕ) (go_live expire : Option ℕ)
    (text : ContentValue) (id : ℕ) → id ≡ part.next_revision → (made : ℕ) →
    made ≡ worlds.time_at part now →
    revision_of id page caller made text go_live expire
    ≡ filed_revision part now caller page text go_live expire
filed_is_made part now caller page go_live expire text id id_is made made_is =
    ap (λ (n : ℕ). revision_of n page caller made text go_live expire) id_is
    ∙ ap (λ (t : ℕ). revision_of part.next_revision page caller t text go_live expire) made_is
