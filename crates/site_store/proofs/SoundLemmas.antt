-- A file that recovers is bad nowhere.
use Rattle.std.proofs.Common.{◌≡◌, ◌≢◌, inl, inr, ℕ, List, [], ◌∷◌, ◌++◌, get_or, Result, Ok, Err, sym, ◌∙◌, ap, subst}
use Rattle.std.specs.List.{AllByRecursion}
use Rattle.site_types.specs.declared.entry.Entry.{Entry}
use Rattle.site_types.specs.declared.refusal.Refusal.{Refusal}
use Rattle.site_types.specs.declared.reply.Reply.{Reply}
use Rattle.site_model.specs.World.{World}
use Rattle.site_model.specs.Step.{step}
use Rattle.byte_forms.specs.Entries.{entry_form, IsEntry}
use Rattle.journal.specs.Form.{opened, Fits}
use Rattle.journal.proofs.ReadingLemmas.{same_record, same_tail, after_header, opened-first, opened-none, Recovers-header}
use Rattle.entry_log.specs.Entries.{forms}
use Rattle.entry_log.proofs.ReadingLemmas.{same_entry, RecoversTo-sound}
use Rattle.site_store.specs.Recovery.{Stage, Leads, Recovers}
use Rattle.site_store.specs.Opening.{IsBadAt}

-- a step has one outcome
refuted : (world : World) (entry other : Entry) (next : World) (reply : Reply) (refusal : Refusal)
    → entry ≡ other → step world entry ≡ Ok (next, reply) → step world other ≡ Err refusal → ⊥
refuted world entry other next reply refusal same made refused =
    differ (sym made ∙ ap (step world) same ∙ refused)
  where
    differ : (let one : Result (World × Reply) Refusal = Ok (next, reply) in one) ≡ Err refusal → ⊥
    differ is = absurd (cc)

-- the worlds after the same step are the same
same_next : (world : World) (entry other : Entry) (next second : World) (reply told : Reply)
    → entry ≡ other → step world entry ≡ Ok (next, reply) → step world other ≡ Ok (second, told)
    → next ≡ second
same_next world entry other next second reply told same made again =
    by (sym made ∙ ap (step world) same ∙ again)
  where
    by : (let one : Result (World × Reply) Refusal = Ok (next, reply) in one) ≡ Ok (second, told)
        → next ≡ second
    by is =
        let pair : (let p : World × Reply = (next, reply) in p) ≡ (second, told) = cc in
        ap (λ (p : World × Reply). p.0) pair

-- Entries that are accepted one after the other are not read where one stands that is refused.
refused_opened : (entries others : List Entry) (entry : Entry) (gate next : ℕ)
    (rest after : List ℕ) (first last mid : World) (refusal : Refusal)
    → AllByRecursion IsEntry entries → AllByRecursion IsEntry (others ++ entry ∷ [])
    → opened (forms entries) ++ gate ∷ rest
    ≡ opened (forms (others ++ entry ∷ [])) ++ next ∷ after
    → gate ≢ 1 → AllByRecursion Fits (forms entries)
    → AllByRecursion Fits (forms (others ++ entry ∷ [])) → Leads first entries last
    → Leads first others mid → step mid entry ≡ Err refusal → ⊥
refused_opened [] [] entry gate next rest after first last mid refusal each all is closed fit fits
    leads led refused =
    closed (ap (λ l. get_or l 0 0) (sym (opened-none (gate ∷ rest)) ∙ is
    ∙ opened-first (entry_form entry) [] (next ∷ after)))
refused_opened [] (second ∷ others) entry gate next rest after first last mid refusal each all is
    closed fit fits leads led refused =
    closed (ap (λ l. get_or l 0 0) (sym (opened-none (gate ∷ rest)) ∙ is
    ∙ opened-first (entry_form second) (forms (others ++ entry ∷ [])) (next ∷ after)))
refused_opened (one ∷ entries) [] entry gate next rest after first last mid refusal each all is
    closed fit fits (made, reply, done, leads) led refused =
    let same = same_record (entry_form one) (entry_form entry)
    (opened (forms entries) ++ gate ∷ rest) (opened [] ++ next ∷ after) fit.0 fits.0
    (same_tail 1 1 _ _ (sym (opened-first (entry_form one) (forms entries) (gate ∷ rest)) ∙ is
    ∙ opened-first (entry_form entry) [] (next ∷ after))) in
    refuted first one entry made reply refusal (same_entry one entry each.0 all.0 same.payload) done
    (subst (λ (w : World). step w entry ≡ Err refusal) led refused)
refused_opened (one ∷ entries) (second ∷ others) entry gate next rest after first last mid refusal
    each all is closed fit fits (made, reply, done, leads) (other, told, again, led) refused =
    let same = same_record (entry_form one) (entry_form second)
    (opened (forms entries) ++ gate ∷ rest)
    (opened (forms (others ++ entry ∷ [])) ++ next ∷ after) fit.0 fits.0
    (same_tail 1 1 _ _ (sym (opened-first (entry_form one) (forms entries) (gate ∷ rest)) ∙ is
    ∙ opened-first (entry_form second) (forms (others ++ entry ∷ [])) (next ∷ after))) in
    let world = same_next first one second made other reply told
    (same_entry one second each.0 all.0 same.payload) done again in
    refused_opened entries others entry gate next rest after made last mid refusal each.1 all.1
    same.tail closed fit.1 fits.1 leads
    (subst (λ (w : World). Leads w others mid) (sym world) led) refused

-- a file that recovers is bad nowhere
pub Recovers-sound : (k : ℕ) (from at : Stage) (bytes : List ℕ) (offset : ℕ)
    → Recovers k from at bytes → IsBadAt k from bytes offset → ⊥
Recovers-sound k from at bytes offset recovers (inl (is, none)) =
    none (Recovers-header k (forms recovers.entries) bytes recovers.are.payloads)
Recovers-sound k from at bytes offset recovers (inr (inl none)) =
    RecoversTo-sound k from.number recovers.entries none.entries bytes offset recovers.are none.bad
Recovers-sound k from at bytes offset recovers (inr (inr refused)) =
    let one = recovers.are in
    refused_opened recovers.entries refused.entries refused.entry one.payloads.gate refused.gate
    one.payloads.rest refused.rest from.world at.world refused.world refused.refusal one.are.each
    refused.are.each
    (after_header k (forms recovers.entries) (forms (refused.entries ++ refused.entry ∷ []))
    (one.payloads.gate ∷ one.payloads.rest) (refused.gate ∷ refused.rest)
    (sym one.payloads.is ∙ refused.is)) one.payloads.closed one.payloads.fit refused.fit
    recovers.leads refused.leads refused.refused
