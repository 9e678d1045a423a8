-- An entry that was read is done, or its world refuses it.
use Rattle.std.proofs.Common.{[], ◌∷◌, ◌++◌, Err, ap}
use Rattle.site_model.proofs.ReachedSound.{step_keeps_reached}
use Rattle.site_store.specs.Opening.{start}
use Rattle.site_store.proofs.FitLemmas.{fits_command}
use Rattle.site_store.proofs.KeptLemmas.{Leads-push}
use Rattle.site_store.proofs.ReplayLemmas.{refused_at, fault_tells}
use Rattle.site_store.proofs.replay.replay_entry.Goals as goal

pub returns-in-Err-clause-replays : goal.returns-in-Err-clause-replays
returns-in-Err-clause-replays g c = λ world entries ready leads.
    fault_tells _ _ _ start entries world c.in-Err.fault leads
    (λ sure offset is. c.in-Err.ensures.bad start.number entries sure.0 sure.1 offset (ap Err is))

pub prepare-requires : goal.prepare-requires
prepare-requires g c =
    let is = rw c.in-Ok-Some.field-0-is at c.in-Ok-Some.ensures.entry in
    (c.requires.ready.0, c.requires.ready.1, fits_command _ is.command)

pub returns-in-Err-Refused-clause-replays : goal.returns-in-Err-Refused-clause-replays
returns-in-Err-Refused-clause-replays g c = λ world entries ready leads sure.
    let is = rw c.in-Ok-Some.field-0-is at c.in-Ok-Some.ensures.entry in
    let refused = rw c.in-Err-Refused.field-0-is at (c.in-Err-Refused.ensures.plan world ready
    (fits_command _ is.command)) in
    let after = rw c.in-Ok-Some.field-0-is at (c.in-Ok-Some.ensures.some start.number entries sure.0
    sure.1) in
    refused_at start _ c.args.scan.now c.next.new.self _ entries world c.in-Ok-Some.entry _ leads
    refused sure.1 after c.in-Ok-Some.ensures.same_file.0 c.gate-gate.ensures.gate

pub commit-requires : goal.commit-requires
commit-requires g c =
    let is = rw c.in-Ok-Some.field-0-is at c.in-Ok-Some.ensures.entry in (
      c.requires.ready.0,
      _,
      _,
      _,
      c.in-Ok.ensures.plan c.requires.ready.0 c.requires.ready.1 (fits_command _ is.command),
    )

pub returns-clause-replays : goal.returns-clause-replays
returns-clause-replays g c = λ world entries ready leads.
    let is = rw c.in-Ok-Some.field-0-is at c.in-Ok-Some.ensures.entry in
    let fits = fits_command c.in-Ok-Some.entry.command is.command in
    let made = c.in-Ok.ensures.plan world ready fits in
    record {
      world = made.after;
      entries = entries ++ c.in-Ok-Some.entry ∷ [];
      ready = record {
        stands = c.commit.ensures.stands _ _ _ _ made;
        reached = step_keeps_reached world made.after made.reply c.in-Ok-Some.entry ready.reached
            is.moment fits made.step;
      };
      leads = Leads-push start.world world made.after entries c.in-Ok-Some.entry made.reply leads
          made.step;
      read = λ sure. rw c.in-Ok-Some.field-0-is at (c.in-Ok-Some.ensures.some start.number entries
          sure.0 sure.1);
    }
