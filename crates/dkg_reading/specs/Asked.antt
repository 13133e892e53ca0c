-- The numbers of the requests that events name.
use Rattle.std.specs.Prelude.{◌≡◌, ℕ, ◌==◌, Bool, false, List, is_some, ⊤}
use Rattle.std.specs.FinMap.{FinMap, get}
use Rattle.std.specs.List.{list_any}
use Rattle.std.specs.Ordering.{nat_cmp}
use Rattle.dkg_text.specs.declared.script.Event.{Event}
use Rattle.dkg_text.specs.declared.script.Event.TheVariants.{Next, Info}

-- whether a number is a key
abbrev pub has_number : FinMap nat_cmp ⊤ → ℕ → Bool
has_number numbers request = is_some (get numbers request)

-- whether an event names a request by this number
abbrev pub asks : (request : ℕ) → Event → Bool
asks request (Next number height) = number == request
asks request (Info number) = number == request
asks request _ = false

abbrev pub is_asked : List Event → (request : ℕ) → Bool
is_asked done request = list_any (asks request) done

-- just the numbers that these events name
abbrev pub AreAsked : List Event → FinMap nat_cmp ⊤ → Type 0
AreAsked done numbers = (request : ℕ) → has_number numbers request ≡ is_asked done request
