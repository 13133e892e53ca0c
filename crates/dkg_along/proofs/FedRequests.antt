-- How a request stands behind one event more, and what it was fed.
use Rattle.std.proofs.Common.{◌≡◌, ℕ, zero, suc, ◌+◌, ◌<◌, ◌++◌, ◌==◌, ◌||◌, Bool, true, false, List, [], ◌∷◌, Option, Some, None, refl, sym, ◌∙◌, ap, subst, arith, append-nil, append_assoc}
use Rattle.std.specs.Prelude.{fold, slice_get, take, if◌then◌else◌}
use Rattle.std.specs.List.{cons_option}
use Rattle.std.proofs.lemmas.Bool.Decides.{nat_tests}
use Rattle.std.proofs.lemmas.List.Elements.{filter_map-append}
use Rattle.std.proofs.lemmas.List.Sums.{fold-append}
use Rattle.dkg_types.specs.Blocks.{Block}
use Rattle.dkg_infos.specs.declared.directory.Unit as directory
use Rattle.dkg_reading.specs.Asked.{asks, is_asked}
use Rattle.dkg_reading.specs.Spells.{FitAfter}
use Rattle.dkg_text.specs.declared.script.Event.{Event}
use Rattle.dkg_text.specs.declared.script.Event.TheVariants as event
use Rattle.dkg_text.specs.declared.script.Life.{Life}
use Rattle.dkg_text.specs.declared.script.Script.{Script}
use Rattle.dkg_script.specs.Asked.{AskAnew, IsAskedAnew, fed_to, fed_while_open}
use Rattle.dkg_lives.specs.Asks.{RequestStanding, Unmade, Open, FullyFed, Cancelled, turns, request_standing, fed_in}
use Rattle.dkg_lives.specs.Given.{blocks_in, numbered}
use Rattle.dkg_lives.proofs.Awaiting.{one_more}

abbrev U : Type 0
U = directory.Unit

same_number : (a b : ℕ) → (a == b) ≡ true → a ≡ b
same_number a b e = grind (arith, nat_tests)

itself : (a : ℕ) → (a == a) ≡ true
itself a = grind (arith, nat_tests)

module _ (request : ℕ) where
  -- what an event adds to what it was fed, by how it stands
  abbrev pub adds : RequestStanding → Event → List ℕ
  adds Open (event.Feed number block) = if number == request then block ∷ [] else []
  adds standing _ = []

  abbrev fed_from : RequestStanding → List Event → List ℕ
  fed_from Unmade events = fed_to request events
  fed_from Open events = fed_while_open request events
  fed_from FullyFed events = []
  fed_from Cancelled events = []

  first_fed : (standing : RequestStanding) (e : Event) (es : List Event) → fed_from standing (e ∷ es) ≡ adds standing e ++ fed_from (turns request standing e) es
  first_fed FullyFed e es = closed e
    where
      closed : (e : Event) → [] ≡ adds FullyFed e ++ fed_from (turns request FullyFed e) es
      closed (event.Cancel number) = by_test (number == request)
        where
          by_test : (t : Bool) → [] ≡ fed_from (if t then Cancelled else FullyFed) es
          by_test true = refl
          by_test false = refl
      closed other = refl
  first_fed Cancelled e es = refl
  first_fed Unmade (event.Info number) es = by_test (number == request)
    where
      by_test : (t : Bool) → (if t then fed_while_open request es else fed_to request es) ≡ fed_from (if t then Open else Unmade) es
      by_test true = refl
      by_test false = refl
  first_fed Unmade other es = refl
  first_fed Open (event.Feed number block) es = by_test (number == request)
    where
      by_test : (t : Bool) → (if t then block ∷ fed_while_open request es else fed_while_open request es) ≡ (if t then block ∷ [] else []) ++ fed_while_open request es
      by_test true = refl
      by_test false = refl
  first_fed Open (event.Over number) es = by_test (number == request)
    where
      by_test : (t : Bool) → (if t then [] else fed_while_open request es) ≡ fed_from (if t then FullyFed else Open) es
      by_test true = refl
      by_test false = refl
  first_fed Open (event.Cancel number) es = by_test (number == request)
    where
      by_test : (t : Bool) → (if t then [] else fed_while_open request es) ≡ fed_from (if t then Cancelled else Open) es
      by_test true = refl
      by_test false = refl
  first_fed Open other es = refl

  nothing_from : (standing : RequestStanding) → fed_from standing [] ≡ []
  nothing_from Unmade = refl
  nothing_from Open = refl
  nothing_from FullyFed = refl
  nothing_from Cancelled = refl

  fed_more_from : (standing : RequestStanding) (es : List Event) (e : Event) → fed_from standing (es ++ e ∷ []) ≡ fed_from standing es ++ adds (fold (turns request) standing es) e
  fed_more_from standing [] e =
      first_fed standing e [] ∙ ap (λ (xs : List ℕ). adds standing e ++ xs) (nothing_from (turns request standing e)) ∙ append-nil (adds standing e)
      ∙ sym (ap (λ (xs : List ℕ). xs ++ adds standing e) (nothing_from standing))
  fed_more_from standing (x ∷ es) e =
      first_fed standing x (es ++ e ∷ [])
      ∙ ap (λ (xs : List ℕ). adds standing x ++ xs) (fed_more_from (turns request standing x) es e)
      ∙ sym (append_assoc (adds standing x) (fed_from (turns request standing x) es) (adds (fold (turns request) (turns request standing x) es) e))
      ∙ ap (λ (xs : List ℕ). xs ++ adds (fold (turns request) standing (x ∷ es)) e) (sym (first_fed standing x es))

  -- ONE EVENT MORE

  module _ (life : Life) (i : ℕ) (e : Event) (is : slice_get life.events i ≡ Some e) where
    pub stands_more : request_standing life request (suc i) ≡ turns request (request_standing life request i) e
    stands_more = ap (λ (es : List Event). fold (turns request) Unmade es) (one_more life.events i e is) ∙ fold-append (turns request) Unmade (take i life.events) (e ∷ [])

    fed_numbers : fed_to request (take (suc i) life.events) ≡ fed_to request (take i life.events) ++ adds (request_standing life request i) e
    fed_numbers = ap (λ (es : List Event). fed_to request es) (one_more life.events i e is) ∙ fed_more_from Unmade (take i life.events) e

    pub fed_more : (script : Script) → fed_in script life request (suc i) ≡ fed_in script life request i ++ numbered (blocks_in script) (adds (request_standing life request i) e)
    fed_more script = ap (numbered (blocks_in script)) fed_numbers ∙ filter_map-append (slice_get (blocks_in script)) (fed_to request (take i life.events)) (adds (request_standing life request i) e)

  -- a block that an open request is fed
  pub adds_block : (blocks : List (Block U)) (number : ℕ) (b : Block U) → slice_get blocks number ≡ Some b → numbered blocks (adds Open (event.Feed request number)) ≡ b ∷ []
  adds_block blocks number b there = ap (λ (t : Bool). numbered blocks (if t then number ∷ [] else [])) (itself request) ∙ ap (λ (o : Option (Block U)). cons_option o []) there

  -- A NEW REQUEST

  unmade : (es : List Event) → is_asked es request ≡ false → fold (turns request) Unmade es ≡ Unmade
  unmade [] none = refl
  unmade (e ∷ es) none = by_event (λ rest. unmade es rest) e none
    where
      neither : (a b : Bool) → (a || b) ≡ false → (a ≡ false) × (b ≡ false)
      neither true b e = absurd (let wrong : ◌≡◌ {A = Bool} true false = e in cc)
      neither false b e = (refl, e)

      by_event : (is_asked es request ≡ false → fold (turns request) Unmade es ≡ Unmade) → (x : Event) → (asks request x || is_asked es request) ≡ false → fold (turns request) (turns request Unmade x) es ≡ Unmade
      by_event again (event.Info number) none =
          let both = neither (number == request) (is_asked es request) none in
          ap (λ (t : Bool). fold (turns request) (if t then Open else Unmade) es) both.0 ∙ again both.1
      by_event again (event.Next number height) none = again (neither (number == request) (is_asked es request) none).1
      by_event again other none = again none

  -- .. and it was fed nothing yet
  unfed : (es : List Event) → is_asked es request ≡ false → fed_to request es ≡ []
  unfed [] none = refl
  unfed (e ∷ es) none = by_event (λ rest. unfed es rest) e none
    where
      neither : (a b : Bool) → (a || b) ≡ false → (a ≡ false) × (b ≡ false)
      neither true b e = absurd (let wrong : ◌≡◌ {A = Bool} true false = e in cc)
      neither false b e = (refl, e)

      by_event : (is_asked es request ≡ false → fed_to request es ≡ []) → (x : Event) → (asks request x || is_asked es request) ≡ false → fed_to request (x ∷ es) ≡ []
      by_event again (event.Info number) none =
          let both = neither (number == request) (is_asked es request) none in
          ap (λ (t : Bool). if t then fed_while_open request es else fed_to request es) both.0 ∙ again both.1
      by_event again (event.Next number height) none = again (neither (number == request) (is_asked es request) none).1
      by_event again other none = again none

-- where it is made, no request of its number was made before
anew_at : (done events : List Event) (i request : ℕ) → FitAfter IsAskedAnew done events → slice_get events i ≡ Some (event.Info request) → is_asked (done ++ take i events) request ≡ false
anew_at done [] i request anew there = absurd (let wrong : ◌≡◌ {A = Option Event} None (Some (event.Info request)) = there in cc)
anew_at done (e ∷ events) zero request anew there = subst (λ (es : List Event). is_asked es request ≡ false) (sym (append-nil done)) (subst (λ (x : Event). IsAskedAnew done x) (same there) anew.0)
  where
    same : {x y : Event} → ◌≡◌ {A = Option Event} (Some x) (Some y) → x ≡ y
    same e = cc
anew_at done (e ∷ events) (suc i) request anew there =
    subst (λ (es : List Event). is_asked es request ≡ false) (append_assoc done (e ∷ []) (take i events)) (anew_at (done ++ e ∷ []) events i request anew.1 there)

pub asked_anew : (life : Life) (i request : ℕ) → AskAnew life.events → slice_get life.events i ≡ Some (event.Info request) → is_asked (take i life.events) request ≡ false
asked_anew life i request anew there = anew_at [] life.events i request anew there

pub made_anew : (life : Life) (i request : ℕ) → AskAnew life.events → slice_get life.events i ≡ Some (event.Info request) → request_standing life request i ≡ Unmade
made_anew life i request anew there = unmade request (take i life.events) (anew_at [] life.events i request anew there)

pub becomes_open : (life : Life) (i request : ℕ) → AskAnew life.events → slice_get life.events i ≡ Some (event.Info request) → request_standing life request (suc i) ≡ Open
becomes_open life i request anew there =
    stands_more request life i (event.Info request) there ∙ ap (λ (s : RequestStanding). turns request s (event.Info request)) (made_anew life i request anew there) ∙ ap (λ (t : Bool). if t then Open else Unmade) (itself request)

pub fed_nothing : (script : Script) (life : Life) (i request : ℕ) → AskAnew life.events → slice_get life.events i ≡ Some (event.Info request) → fed_in script life request (suc i) ≡ []
fed_nothing script life i request anew there =
    fed_more request life i (event.Info request) there script
    ∙ ap (λ (s : RequestStanding). fed_in script life request i ++ numbered (blocks_in script) (adds request s (event.Info request))) (made_anew life i request anew there)
    ∙ append-nil (fed_in script life request i) ∙ ap (numbered (blocks_in script)) (unfed request (take i life.events) (anew_at [] life.events i request anew there))

-- What a request is fed grows at its end alone.
pub fed_grows : (request : ℕ) (script : Script) (life : Life) (read more : ℕ) → ((i : ℕ) → i < read + more → (e : Event) × (slice_get life.events i ≡ Some e))
    → (rest : List (Block U)) × (fed_in script life request (read + more) ≡ fed_in script life request read ++ rest)
fed_grows request script life read zero all = ([], ap (fed_in script life request) (none read) ∙ sym (append-nil (fed_in script life request read)))
  where
    none : (a : ℕ) → a + 0 ≡ a
    none a = omega arith
fed_grows request script life read (suc more) all =
    let before = fed_grows request script life read more (λ i low. all i (later i low)) in
    let last = all (read + more) (next (read + more) (read + suc more) (one read more)) in
    let added = numbered (blocks_in script) (adds request (request_standing life request (read + more)) last.0) in (
      before.0 ++ added,
      ap (fed_in script life request) (one read more) ∙ fed_more request life (read + more) last.0 last.1 script ∙ ap (λ (bs : List (Block U)). bs ++ added) before.1 ∙ append_assoc (fed_in script life request read) before.0 added,
    )
  where
    one : (a b : ℕ) → a + suc b ≡ suc (a + b)
    one a b = omega arith

    next : (a b : ℕ) → b ≡ suc a → a < b
    next a b same = omega (arith, same)

    later : (i : ℕ) → i < read + more → i < read + suc more
    later i low = omega (arith, low)
