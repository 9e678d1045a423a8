-- The words of the command `session` after the folder. Its options may stand in any order, as
-- `--at N` or `--at=N` and `--step N` or `--step=N`, each at most once.
use Rattle.std.specs.Prelude.{◌≡◌, ℕ, Bool, ◌+◌, ◌*◌, min, ◌&&◌, nat_le, List, [], ◌∷◌, length, take, drop, bytes_eq, Option, Some, None, option_and_then, unwrap_or, if◌then◌else◌}
use Rattle.std.specs.Bool.{then_some}
use Rattle.std.specs.List.{list_all}
use Rattle.std.specs.Char.{is_ascii_digit}
use Rattle.std.specs.Str.Parse.{digits_value}
use Rattle.outside_world.specs.declared.clock.TheConstants.{LAST_MOMENT}
use Rattle.outside_world.specs.declared.memory_clock.MemoryClock.{MemoryClock}
use Rattle.pagetree_session.specs.declared.options.Options.{Options}
use Rattle.pagetree_session.specs.Ending.{MovesOn}
use Rattle.pagetree_session.specs.declared.words.TheConstants.{SESSION, AT, AT_FRONT, STEP, STEP_FRONT, MAX_DIGITS}

-- the number that a word of 1 to 12 decimal digits writes
abbrev pub number_in : List ℕ → Option ℕ
number_in word =
    then_some
    (nat_le 1 (length word) && (nat_le (length word) MAX_DIGITS && list_all is_ascii_digit word))
    (digits_value 10 word)

-- the number of what may be given once, if it was not given before
abbrev pub given_once : Option ℕ → Option ℕ → Option ℕ
given_once None number = number
given_once (Some before) number = None

-- the options with the first moment, which may be given once
abbrev pub with_at : Options → Option ℕ → Option Options
with_at options number =
    option_and_then (λ n. Some (record { at = Some n; step = options.step }))
    (given_once options.at number)

-- the options with the seconds between moments, which may be given once
abbrev pub with_step : Options → Option ℕ → Option Options
with_step options number =
    option_and_then (λ n. Some (record { at = options.at; step = Some n }))
    (given_once options.step number)

-- whether a word begins with this front
abbrev pub begins_with : List ℕ → List ℕ → Bool
begins_with front word = bytes_eq (take (length front) word) front

-- the options with a word that gives one of them and its number
abbrev pub with_joined : Options → List ℕ → Option Options
with_joined options word =
    if begins_with AT_FRONT.now word
    then with_at options (number_in (drop (length AT_FRONT.now) word))
    else if begins_with STEP_FRONT.now word
    then with_step options (number_in (drop (length STEP_FRONT.now) word))
    else None

-- the options with those that words give, if the words give options and nothing else
abbrev pub options_after : Options → List (List ℕ) → Option Options
options_after options [] = Some options
options_after options (word ∷ []) = with_joined options word
options_after options (word ∷ value ∷ words) =
    if bytes_eq word AT.now
    then option_and_then (λ more. options_after more words) (with_at options (number_in value))
    else if bytes_eq word STEP.now
    then option_and_then (λ more. options_after more words) (with_step options (number_in value))
    else option_and_then (λ more. options_after more (value ∷ words)) (with_joined options word)

-- no options
abbrev pub no_options : Options
no_options = record { at = None; step = None }

-- the options of the words, where they are the command `session` with its options
abbrev pub session_options : List (List ℕ) → Option Options
session_options [] = None
session_options (word ∷ words) =
    if bytes_eq word SESSION.now then options_after no_options words else None

-- the clock in memory that options ask for: if one of them is given, the other is 0 unless given
abbrev pub clock_by : Option ℕ → Option ℕ → Option MemoryClock
clock_by None None = None
clock_by (Some at) step = Some (record { next = at; step = unwrap_or step 0 })
clock_by None (Some step) = Some (record { next = 0; step = step })

-- the clock in memory that options ask for
abbrev pub clock_asked : Options → Option MemoryClock
clock_asked options = clock_by options.at options.step

-- the moments of a clock in memory; those past the last are the last
abbrev pub moments_of : MemoryClock → ℕ → Option ℕ
moments_of clock k = Some (min (clock.next + k * clock.step) LAST_MOMENT)

-- the moments of the clock that is asked for, or else of the one that is given
abbrev pub moments_by : Option MemoryClock → (ℕ → Option ℕ) → ℕ → Option ℕ
moments_by (Some clock) given = moments_of clock
moments_by None given = given

-- the moments of a session with these options
abbrev pub moments : Options → (ℕ → Option ℕ) → ℕ → Option ℕ
moments options given = moments_by (clock_asked options) given

-- the clock that is given has moved on by so many moments, if none is asked for; else it stands
abbrev pub MovesBy : Option MemoryClock → (ℕ → Option ℕ) → (ℕ → Option ℕ) → ℕ → Type 0
MovesBy (Some clock) given later count =
    (k : ℕ) → later k ≡ given k
MovesBy None given later count = MovesOn given later count

-- how the clock that is given moves in a session with these options
abbrev pub Moves : Options → (ℕ → Option ℕ) → (ℕ → Option ℕ) → ℕ → Type 0
Moves options given later count = MovesBy (clock_asked options) given later count
