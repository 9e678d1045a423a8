-- Tables with the same moments are the same; what is due of a table.
use Rattle.std.proofs.Common.{◌≡◌, ℕ, Bool, true, false, cond, nat_eq, nat_le, List, [], ◌∷◌, Option, Some, None, refl, ap, sym, ◌∙◌}
use Rattle.std.specs.List.{AllByRecursion}
use Rattle.std.specs.Option.{option_and_then}
use Rattle.time_table.specs.Table.{moment_in, due_in, ComesFirst, IsTable}
use Rattle.time_table.proofs.EntryLemmas.{earlier_trans, earlier_self, eq_turned, eq_self, eq_means, all_found}
use Rattle.time_table.proofs.TableLemmas.{eq_joined}

-- behind the pair of a page there is none of that page
none_behind : (entry : ℕ × ℕ) (page : ℕ) (entries : List (ℕ × ℕ)) → nat_eq entry.1 page ≡ true →
    AllByRecursion (ComesFirst entry) entries → moment_in entries page ≡ None
none_behind entry page [] own all = refl
none_behind entry page (next ∷ entries) own all =
    by (nat_eq next.1 page) refl (none_behind entry page entries own all.1)
  where
    by : (t : Bool) → nat_eq next.1 page ≡ t → moment_in entries page ≡ None →
        cond t (Some next.0) (moment_in entries page) ≡ None
    by true e more =
        let joined : nat_eq next.1 entry.1 ≡ true =
        eq_joined next.1 page entry.1 e (eq_turned entry.1 page true own) in
        let differs : nat_eq next.1 entry.1 ≡ false = all.0.1 in
        cc
    by false e more = more

-- two first pairs of tables with the same moments are of one page
module _ (entry other : ℕ × ℕ) (entries others : List (ℕ × ℕ))
    (table : IsTable (entry ∷ entries)) (second : IsTable (other ∷ others))
    (same : (page : ℕ) → moment_in (entry ∷ entries) page ≡ moment_in (other ∷ others) page) where
  -- otherwise each would come before the other
  one_page : nat_eq entry.1 other.1 ≡ false → ⊥
  one_page differs =
      let turned = eq_turned entry.1 other.1 false differs in
      let here : moment_in others entry.1 ≡ Some entry.0 =
      sym (rw (turned, eq_self entry.1) at (same entry.1)) in
      let there : moment_in entries other.1 ≡ Some other.0 =
      rw (differs, eq_self other.1) at (same other.1) in
      let first = (all_found (ComesFirst other) entry.1 entry.0 others second.0 here).0 in
      let last = (all_found (ComesFirst entry) other.1 other.0 entries table.0 there).0 in
      let round = earlier_trans entry other entry last first in
      let never = earlier_self entry.0 entry.0 entry.1 entry.1 refl refl in
      cc

  -- so they are the same pair
  one_pair : nat_eq entry.1 other.1 ≡ true → entry ≡ other
  one_pair own =
      let moment : Some entry.0 ≡ Some other.0 =
      rw (eq_turned entry.1 other.1 true own, eq_self entry.1) at (same entry.1) in
      let when : entry.0 ≡ other.0 = cc in
      let first : entry ≡ (other.0, entry.1) = ap (λ (m : ℕ). (m, entry.1)) when in
      let last : (other.0, entry.1) ≡ other =
      ap (λ (p : ℕ). (other.0, p)) (eq_means entry.1 other.1 own) in
      first ∙ last

  -- and what follows has the same moments
  rest_same : nat_eq entry.1 other.1 ≡ true → (page : ℕ) →
      moment_in entries page ≡ moment_in others page
  rest_same own page = by (nat_eq entry.1 page) (nat_eq other.1 page) refl refl (same page)
    where
      by : (t u : Bool) → nat_eq entry.1 page ≡ t → nat_eq other.1 page ≡ u →
          cond t (Some entry.0) (moment_in entries page)
          ≡ cond u (Some other.0) (moment_in others page) →
          moment_in entries page ≡ moment_in others page
      by true true e f is =
          none_behind entry page entries e table.0 ∙ sym (none_behind other page others f second.0)
      by true false e f is =
          let joined : nat_eq other.1 page ≡ true =
          eq_joined other.1 entry.1 page (eq_turned entry.1 other.1 true own) e in
          cc
      by false true e f is =
          let joined : nat_eq entry.1 page ≡ true = eq_joined entry.1 other.1 page own f in
          cc
      by false false e f is = is

-- tables with the same moments are the same
pub same_table : (entries others : List (ℕ × ℕ)) → IsTable entries → IsTable others →
    ((page : ℕ) → moment_in entries page ≡ moment_in others page) → entries ≡ others
same_table [] [] table second same = refl
same_table [] (other ∷ others) table second same =
    let none : None ≡ Some other.0 = rw (eq_self other.1) at (same other.1) in
    cc
same_table (entry ∷ entries) [] table second same =
    let none : Some entry.0 ≡ None = rw (eq_self entry.1) at (same entry.1) in
    cc
same_table (entry ∷ entries) (other ∷ others) table second same =
    by (nat_eq entry.1 other.1) refl (same_table entries others table.1 second.1)
  where
    by : (t : Bool) → nat_eq entry.1 other.1 ≡ t →
        (((page : ℕ) → moment_in entries page ≡ moment_in others page) → entries ≡ others) →
        entry ∷ entries ≡ other ∷ others
    by true own more =
        ap (λ (one : ℕ × ℕ). one ∷ entries) (one_pair entry other entries others table second same own)
        ∙ ap (λ (rest : List (ℕ × ℕ)). other ∷ rest)
        (more (rest_same entry other entries others table second same own))
    by false differs more =
        absurd (one_page entry other entries others table second same differs)

-- a moment that has come
abbrev pub come_by : ℕ → ℕ → Option ℕ
come_by t moment = cond (nat_le moment t) (Some moment) None

-- the moments of what is due of a table are those that have come
pub due_moments : (t : ℕ) (entries : List (ℕ × ℕ)) → IsTable entries → (page : ℕ) →
    moment_in (due_in t entries) page ≡ option_and_then (come_by t) (moment_in entries page)
due_moments t [] table page = refl
due_moments t (entry ∷ entries) table page =
    by (nat_le entry.0 t) (nat_eq entry.1 page) refl refl (due_moments t entries table.1 page)
  where
    by : (come own : Bool) → nat_le entry.0 t ≡ come → nat_eq entry.1 page ≡ own →
        moment_in (due_in t entries) page ≡ option_and_then (come_by t) (moment_in entries page) →
        moment_in (cond come (entry ∷ due_in t entries) (due_in t entries)) page
        ≡ option_and_then (come_by t) (cond own (Some entry.0) (moment_in entries page))
    by true true e f more = rw (f, e) refl
    by true false e f more = rw f more
    by false true e f more =
        let none = none_behind entry page entries f table.0 in
        more ∙ rw (none, e) refl
    by false false e f more = more
