-- The line of a life's step: its event's, or the one that begins the life.
use Rattle.std.specs.Prelude.{ℕ, ◌+◌, ◌-◌, ◌^◌, ◌==◌, ◌&&◌, min, not, is_some, Bool, if◌then◌else◌, List, [], length, Option, Some, None}
use Rattle.dkg_words.specs.declared.seek.Seek.{Seek}
use Rattle.dkg_words.specs.declared.names.Name.{Name}
use Rattle.dkg_words.specs.declared.names.Name.TheVariants.{Life}
use Rattle.dkg_words.specs.Before.{counted_up, events_after}
use Rattle.dkg_words.specs.Lines.{name_in, over_lines}
use Rattle.dkg_words.specs.Names.{name_by}

abbrev pub lives_after : ℕ → Option Name → ℕ
lives_after lives (Some Life) = counted_up lives
lives_after lives _ = lives

-- whether a line is the first one behind which there are so many lives, and so many events of the last
abbrev pub is_sought : Seek → (lives events : ℕ) → Bool
is_sought seek lives events = not (is_some seek.found) && not (lives == 0) && (lives - 1 == seek.life) && (events == seek.step)

abbrev pub sought_next : Seek → Option Name → (line : List ℕ) → Seek
sought_next seek name line =
    record {
      life = seek.life;
      step = seek.step;
      at = counted_up (min (seek.at + length line) (2 ^ 64 - 1));
      lives = lives_after seek.lives name;
      events = events_after seek.events name;
      found = if is_sought seek (lives_after seek.lives name) (events_after seek.events name) then Some seek.at else seek.found;
    }

abbrev pub sought_after : Seek → (line : List ℕ) → Seek
sought_after seek line = sought_next seek (name_by (name_in line)) line

-- where the line of a life's step begins, if a text has it
abbrev pub place_of_step : (text : List ℕ) (life step : ℕ) → Option ℕ
place_of_step text life step = (over_lines sought_after (record { life = life; step = step; at = 0; lives = 0; events = 0; found = None }) [] text).found
