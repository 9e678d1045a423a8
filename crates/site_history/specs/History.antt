-- Histories: what a server has accepted, in order, over any kind of world and entry. A history
-- grows at its end alone.
use Rattle.std.specs.Prelude.{ℕ, ◌≡◌, ◌+◌, Bool, List, [], ◌∷◌, ◌++◌, Result, Ok, Err, if◌then◌else◌}
use Rattle.site_history.specs.Log.{Log, Logging}

-- Something that stands in a history: an entry that was accepted, with its reply.
pub data Item (Entry Reply : Type 0) : Type 0 where
  accepted : (entry : Entry) (reply : Reply) → Item Entry Reply

-- What a history comes to: the world after it, the number of its last entry, and what was written.
pub record Tally (World : Type 0) : Type 0 where
  pub world : World
  pub number : ℕ
  pub log : Log

-- What there was at the start, and all that came since.
pub record History (World Entry Reply : Type 0) : Type 0 where
  pub start : Tally World
  pub items : List (Item Entry Reply)

-- the history with one more item at its end
abbrev pub longer : {World Entry Reply : Type 0} → History World Entry Reply → Item Entry Reply →
    History World Entry Reply
longer history item = record { start = history.start; items = history.items ++ item ∷ [] }

-- one history begins another
abbrev pub IsBefore : {World Entry Reply : Type 0} → History World Entry Reply →
    History World Entry Reply → Type 0
IsBefore {World} {Entry} {Reply} early late =
    (late.start ≡ early.start) × ((more : List (Item Entry Reply)) ×
    (late.items ≡ early.items ++ more))

-- How entries are decided: the step of the world says what an entry does, which is a new world and
-- a reply, or a refusal; each entry has a number; a log is kept, and a refusal says that it is
-- full.
pub record Decider (World Entry Reply Refusal : Type 0) : Type 0 where
  pub step : World → Entry → Result (World × Reply) Refusal
  pub number_of : Entry → ℕ
  pub logging : Logging Entry
  pub log_full : Refusal

module _ {World Entry Reply Refusal : Type 0} (decider : Decider World Entry Reply Refusal) where
  -- the world after a step, which a refused entry leaves as it was
  abbrev pub world_after : World → Result (World × Reply) Refusal → World
  world_after world (Ok done) = done.0
  world_after world (Err refusal) = world

  -- what one more item makes of a tally
  abbrev pub tick : Tally World → Item Entry Reply → Tally World
  tick tally (accepted entry reply) =
      record {
        world = world_after tally.world (decider.step tally.world entry);
        number = tally.number + 1;
        log = decider.logging.logged tally.log entry;
      }

  -- what items make of a tally, one after another
  abbrev pub tick_all : Tally World → List (Item Entry Reply) → Tally World
  tick_all tally [] = tally
  tick_all tally (item ∷ items) = tick_all (tick tally item) items

  -- what a history comes to
  abbrev pub tally_of : History World Entry Reply → Tally World
  tally_of history = tick_all history.start history.items

  -- what is decided by the step's answer, where the log has room or not
  abbrev pub decided : Bool → Result (World × Reply) Refusal → Result Reply Refusal
  decided room (Err refusal) = Err refusal
  decided room (Ok done) = if room then Ok done.1 else Err decider.log_full

  -- What an entry gets after a history: the step's refusal; else that the log is full, where it has
  -- no room; else the step's reply.
  abbrev pub decide : Tally World → Entry → Result Reply Refusal
  decide tally entry =
      decided (decider.logging.has_room tally.number tally.log entry)
      (decider.step tally.world entry)

  -- an item may stand next: its entry has the next number, and its reply is what is decided
  abbrev pub MayStand : Tally World → Item Entry Reply → Type 0
  MayStand tally (accepted entry reply) =
      (decider.number_of entry ≡ tally.number + 1) × (decide tally entry ≡ Ok reply)

  -- each item may stand where it stands
  abbrev pub AllMayStand : Tally World → List (Item Entry Reply) → Type 0
  AllMayStand tally [] = Unit {0}
  AllMayStand tally (item ∷ items) = MayStand tally item × AllMayStand (tick tally item) items

  -- A legal history: its start is a sound world, and each item may stand where it stands.
  pub record IsLegal (IsSound : World → Type 0) (history : History World Entry Reply) : Type 0 where
    pub start : IsSound history.start.world
    pub items : AllMayStand history.start history.items
