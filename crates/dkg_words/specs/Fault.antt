-- What is said of a run that a fault ended.
use Rattle.std.specs.Prelude.{ℕ, List, [], ◌∷◌, ◌++◌, Option, Some, None, codes, decimal}
use Rattle.dkg_infos.specs.declared.entry.Entry.{Entry}
use Rattle.dkg_infos.specs.declared.entry.Entry.TheVariants as entry
use Rattle.dkg_infos.specs.declared.fault.Fault.{Fault}
use Rattle.dkg_infos.specs.Faults.{fault_number}
use Rattle.dkg_words.specs.declared.fault.Spot.{Spot}
use Rattle.dkg_words.specs.declared.fault.Step.{Step}
use Rattle.dkg_words.specs.Before.{counted_up}
use Rattle.dkg_words.specs.Message.{fault_words}
use Rattle.dkg_words.specs.Seek.{place_of_step}
use Rattle.dkg_words.specs.Told.{line_told}

abbrev pub opening_step : (life : ℕ) → Step
opening_step life = record { life = life; step = 0 }

-- the step in hand behind an entry; a life that was cut is over
abbrev pub behind_entry : Step → Entry → Step
behind_entry its (entry.Opened life restored) = opening_step life
behind_entry its (entry.Step done) = record { life = its.life; step = counted_up done }
behind_entry its (entry.Cut step call) = opening_step (counted_up its.life)
behind_entry its _ = its

abbrev pub behind_more : Step → List Entry → Step
behind_more its [] = its
behind_more its (e ∷ es) = behind_more (behind_entry its e) es

abbrev pub behind_entries : List Entry → Step
behind_entries entries = behind_more (opening_step 0) entries

-- The spot of a step: where its line begins. Behind a life's last event it is the opening of the next life.
abbrev pub next_spot : Step → (next : Step) → Option ℕ → Spot
next_spot its next (Some place) = record { step = next; place = Some place }
next_spot its next None = record { step = its; place = None }

abbrev pub spot_or_next : List ℕ → Step → Option ℕ → Spot
spot_or_next text its (Some place) = record { step = its; place = Some place }
spot_or_next text its None = next_spot its (opening_step (counted_up its.life)) (place_of_step text (counted_up its.life) 0)

abbrev pub spot_of : List ℕ → Step → Spot
spot_of text its = spot_or_next text its (place_of_step text its.life its.step)

abbrev pub step_told : Step → List ℕ
step_told its = codes "life " ++ decimal its.life ++ codes ", step " ++ decimal its.step

abbrev pub place_told : List ℕ → Option ℕ → List ℕ
place_told text (Some place) = codes ", " ++ line_told text place
place_told text None = []

abbrev pub spot_told : List ℕ → Spot → List ℕ
spot_told text spot = step_told spot.step ++ place_told text spot.place

-- a fault's message and its number
abbrev pub fault_told : Fault → List ℕ
fault_told fault = codes ": " ++ fault_words fault ++ codes " (fault " ++ decimal (fault_number fault) ++ codes ")\n"

-- the spot of the step in hand, and the fault
abbrev pub fault_text : List ℕ → List Entry → Fault → List ℕ
fault_text text entries fault = spot_told text (spot_of text (behind_entries entries)) ++ fault_told fault
