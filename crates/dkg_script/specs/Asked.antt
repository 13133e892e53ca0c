-- Requests of a life: their numbers, and the blocks that each is fed.
use Rattle.std.specs.Prelude.{ℕ, ◌≡◌, ◌==◌, false, List, [], ◌∷◌, take, if◌then◌else◌, ⊤}
use Rattle.dkg_reading.specs.Asked.{is_asked}
use Rattle.dkg_reading.specs.Spells.{FitAfter}
use Rattle.dkg_text.specs.declared.script.Event.{Event}
use Rattle.dkg_text.specs.declared.script.Event.TheVariants.{Info, Feed, Over, Cancel}
use Rattle.dkg_text.specs.declared.script.Life.{Life}

-- An info is asked for by a number that no request before it has, of either kind.
abbrev pub IsAskedAnew : (done : List Event) → Event → Type 0
IsAskedAnew done (Info request) = is_asked done request ≡ false
IsAskedAnew done _ = ⊤

-- .. each of these events, after those before it
abbrev pub AskAnew : List Event → Type 0
AskAnew events = FitAfter IsAskedAnew [] events

-- WHAT A REQUEST IS FED: the numbers of the blocks of its feeds, from its `info` on, up to its `over` or `cancel`

abbrev pub fed_while_open : (request : ℕ) → List Event → List ℕ
fed_while_open request [] = []
fed_while_open request (Feed number block ∷ events) = if number == request then block ∷ fed_while_open request events else fed_while_open request events
fed_while_open request (Over number ∷ events) = if number == request then [] else fed_while_open request events
fed_while_open request (Cancel number ∷ events) = if number == request then [] else fed_while_open request events
fed_while_open request (_ ∷ events) = fed_while_open request events

abbrev pub fed_to : (request : ℕ) → List Event → List ℕ
fed_to request [] = []
fed_to request (Info number ∷ events) = if number == request then fed_while_open request events else fed_to request events
fed_to request (_ ∷ events) = fed_to request events

-- .. by the first j events of a life
abbrev pub fed_by : Life → (request j : ℕ) → List ℕ
fed_by life request j = fed_to request (take j life.events)
