-- The place of a text that is no script's is that of the first line that no script's text has after the lines before it.
use Rattle.std.proofs.Common.{◌≡◌, ℕ, ◌-◌, ◌==◌, Bool, true, false, List, [], ◌∷◌, ◌++◌, length, take, drop, Option, Some, None, Result, Ok, Err, refl, sym, ap, subst, ◌∙◌, inl, inr, append_assoc, length-append, arith}
use Rattle.std.specs.Prelude.{codes, is_some, if◌then◌else◌}
use Rattle.std.specs.Result.{result_ok}
use Rattle.std.specs.Str.{bytes_eq}
use Rattle.std.proofs.Math.Seq.{drop-append_seam, take-append_seam}
use Rattle.std.proofs.lemmas.Bool.{cases_Bool, eq-eqb, eqb-true}
use Rattle.dkg_text.specs.declared.script.BlockLine.{BlockLine}
use Rattle.dkg_text.specs.declared.script.Event.{Event}
use Rattle.dkg_text.specs.declared.script.Script.{Script}
use Rattle.dkg_text.specs.declared.script.ScriptConfig.{ScriptConfig}
use Rattle.dkg_reading.specs.Grammar.{address_line_at, anchor_line_at, block_line_at, blocks_at, config_at, cut_at, end_at, event_line_after, event_line_at, event_named, event_lines_at, held_line_at, is_allowed_event, is_eventful, life_lines_at, lives_at, nothing_left, opening_at, players_line_at, probe_at, reading_of, script_of, script_or_place, sync_at, with_place}
use Rattle.dkg_reading.specs.Laws.{Begins, IsAllowed, IsPlaceFound, IsPlace, first_line}
use Rattle.dkg_reading.specs.Lines.{LineFront, TextReading, allowed, begins, checked_line, checked_line_at, front_of, line_at, maybe_at, row_of, some_read, ◌>=>◌}
use Rattle.dkg_reading.specs.Rows.{Row, cut_at_byte, whole_row, ◌>>=◌}
use Rattle.dkg_text.specs.Writing.{text_of}
use Rattle.dkg_reading.proofs.Begun.{begun_reading}
use Rattle.dkg_reading.proofs.ScriptLaws.{read_again}
use Rattle.dkg_reading.proofs.WholeLines.{Alike, IsLined, IsOfFront, Moves, Stopped, Stops, alike_feed, alike_more, begins_of_front, beside_rest, by_front, last_feed, lined_as, lined_done, lined_front, lined_if, lined_many, lined_refused, lined_then, moves_as, moves_front, moves_then, stops_then}

-- THE KINDS OF LINES

module _ {A : Type 0} (name : List ℕ) (row : Row A) where
  abbrev of_row : List ℕ → List (List ℕ) → Option A
  of_row its fields = if bytes_eq its name then whole_row (row fields) else None

  row_same : (b : Bool) (o : Option A) (behind : List ℕ) → beside_rest (if b then o else None) behind ≡ (if b then beside_rest o behind else None)
  row_same true o behind = refl
  row_same false o behind = refl

  line_same : (text : List ℕ) (o : Option LineFront) → allowed text (o >>= λ line. beside_rest (of_row line.0 line.1.0) line.1.1) ≡ allowed text (o >>= row_of name row)
  line_same text None = refl
  line_same text (Some line) = ap (allowed text) (row_same (bytes_eq line.0 name) (whole_row (row line.1.0)) line.1.1)

  line_is : (text : List ℕ) → by_front of_row text ≡ line_at name row text
  unfolding line_at
  line_is text = line_same text (front_of text)

  pub lined_line : IsLined (line_at name row)
  lined_line = lined_as (by_front of_row) (line_at name row) line_is (lined_front of_row)

  pub moves_line : Moves (line_at name row)
  moves_line = moves_as (by_front of_row) (line_at name row) line_is (moves_front of_row)

module _ {A B : Type 0} (name : List ℕ) (row : Row A) (fits : A → Option B) where
  abbrev of_checked : List ℕ → List (List ℕ) → Option B
  of_checked its fields = of_row name row its fields >>= fits

  checked_row : (text : List ℕ) (o : Option A) (behind : List ℕ) → allowed text (beside_rest (o >>= fits) behind) ≡ checked_line text fits (allowed text (beside_rest o behind))
  checked_row text None behind = refl
  checked_row text (Some x) behind = refl

  checked_same : (text : List ℕ) (o : Option LineFront) → allowed text (o >>= λ line. beside_rest (of_checked line.0 line.1.0) line.1.1) ≡ checked_line text fits (allowed text (o >>= λ line. beside_rest (of_row name row line.0 line.1.0) line.1.1))
  checked_same text None = refl
  checked_same text (Some line) = checked_row text (of_row name row line.0 line.1.0) line.1.1

  checked_is : (text : List ℕ) → by_front of_checked text ≡ checked_line_at name row fits text
  checked_is text = checked_same text (front_of text) ∙ ap (checked_line text fits) (line_is name row text)

  pub lined_checked : IsLined (checked_line_at name row fits)
  lined_checked = lined_as (by_front of_checked) (checked_line_at name row fits) checked_is (lined_front of_checked)

  pub moves_checked : Moves (checked_line_at name row fits)
  moves_checked = moves_as (by_front of_checked) (checked_line_at name row fits) checked_is (moves_front of_checked)

lined_some : {A : Type 0} (read : List ℕ → TextReading A) → IsLined read → IsLined (λ t. some_read (read t))
lined_some {A} read law = lined_then read (λ x. Ok (Some x.0, x.1)) law (λ x. lined_done (Some x))

lined_maybe : {A : Type 0} (name : List ℕ) (read : List ℕ → TextReading A) → IsLined read → IsLined (maybe_at name read)
lined_maybe {A} name read law = lined_if (begins name) (λ t. some_read (read t)) (λ t. Ok (None, t)) (begins_of_front name) (lined_some read law) (lined_done {A = Option A} None)

-- THE CONFIGURATION

lined_opening : IsLined opening_at
unfolding opening_at
lined_opening =
    lined_then _ _ (lined_checked _ _ _) (λ version.
    lined_then _ _ (lined_line _ _) (λ me.
    lined_then _ _ (lined_checked _ _ _) (λ blocks.
    lined_then _ _ (lined_checked _ _ _) (λ limit.
    lined_then _ _ (lined_line _ _) (λ modes.
    lined_then _ _ (lined_line _ _) (λ space. lined_done _))))))

lined_players : (done : _) → IsLined (players_line_at done)
unfolding players_line_at
lined_players done = lined_checked _ _ _

moves_players : (done : _) → Moves (players_line_at done)
unfolding players_line_at
moves_players done = moves_checked _ _ _

lined_address : (done : _) → IsLined (address_line_at done)
unfolding address_line_at
lined_address done = lined_checked _ _ _

moves_address : (done : _) → Moves (address_line_at done)
unfolding address_line_at
moves_address done = moves_checked _ _ _

lined_probe : (addressed : Bool) → IsLined (probe_at addressed)
unfolding probe_at
lined_probe addressed = lined_checked _ _ _

lined_config : (addressed : Bool) → IsLined (config_at addressed)
unfolding config_at
lined_config addressed =
    lined_then _ _ lined_opening (λ opening.
    lined_then _ _ (lined_maybe _ _ (lined_line _ _)) (λ oneshot.
    lined_then _ _ (lined_many (begins (codes "players")) players_line_at (begins_of_front (codes "players")) lined_players moves_players) (λ players.
    lined_then _ _ (lined_many (begins (codes "address")) address_line_at (begins_of_front (codes "address")) lined_address moves_address) (λ addresses.
    lined_then _ _ (lined_maybe _ _ (lined_probe addressed)) (λ probe. lined_done _)))))

-- THE BLOCKS

lined_block : (addressed : Bool) (config : ScriptConfig) (done : List BlockLine) → IsLined (block_line_at addressed config done)
unfolding block_line_at
lined_block addressed config done = lined_checked _ _ _

moves_block : (addressed : Bool) (config : ScriptConfig) (done : List BlockLine) → Moves (block_line_at addressed config done)
unfolding block_line_at
moves_block addressed config done = moves_checked _ _ _

lined_blocks : (addressed : Bool) (config : ScriptConfig) → IsLined (blocks_at addressed config)
unfolding blocks_at
lined_blocks addressed config = lined_many (begins (codes "block")) (block_line_at addressed config) (begins_of_front (codes "block")) (lined_block addressed config) (moves_block addressed config)

-- THE LIVES

module _ (blocks : ℕ) (probe : Bool) where
  abbrev of_event : List Event → List ℕ → List (List ℕ) → Option Event
  of_event done name fields = event_named name fields >>= λ event. if is_allowed_event blocks probe done event then Some event else None

  abbrev event_or : Bool → Event → List ℕ → Option (Event × List ℕ)
  event_or b event behind = if b then Some (event, behind) else None

  event_tested : (b : Bool) (event : Event) (behind : List ℕ) → beside_rest (if b then Some event else None) behind ≡ event_or b event behind
  event_tested true event behind = refl
  event_tested false event behind = refl

  event_made : (done : List Event) (o : Option Event) (behind : List ℕ) → beside_rest (o >>= λ event. if is_allowed_event blocks probe done event then Some event else None) behind ≡ (o >>= λ event. event_or (is_allowed_event blocks probe done event) event behind)
  event_made done None behind = refl
  event_made done (Some event) behind = event_tested (is_allowed_event blocks probe done event) event behind

  event_same : (done : List Event) (text : List ℕ) (o : Option LineFront) → allowed text (o >>= λ line. beside_rest (of_event done line.0 line.1.0) line.1.1) ≡ allowed text (o >>= event_line_after blocks probe done)
  event_same done text None = refl
  event_same done text (Some line) = ap (allowed text) (event_made done (event_named line.0 line.1.0) line.1.1)

  event_is : (done : List Event) (text : List ℕ) → by_front (of_event done) text ≡ event_line_at blocks probe done text
  unfolding event_line_at
  event_is done text = event_same done text (front_of text)

  lined_event : (done : List Event) → IsLined (event_line_at blocks probe done)
  lined_event done = lined_as (by_front (of_event done)) (event_line_at blocks probe done) (event_is done) (lined_front (of_event done))

  moves_event : (done : List Event) → Moves (event_line_at blocks probe done)
  moves_event done = moves_as (by_front (of_event done)) (event_line_at blocks probe done) (event_is done) (moves_front (of_event done))

  eventful_of_front : IsOfFront is_eventful
  unfolding is_eventful
  eventful_of_front one other a = rw (begins_of_front (codes "cut") one other a, begins_of_front (codes "stop") one other a) refl

  lined_events : IsLined (event_lines_at blocks probe)
  unfolding event_lines_at
  lined_events = lined_many is_eventful (event_line_at blocks probe) eventful_of_front lined_event moves_event

lined_anchor : (blocks : List BlockLine) → IsLined (anchor_line_at blocks)
unfolding anchor_line_at
lined_anchor blocks =
    lined_if _ _ _ (begins_of_front (codes "processed")) (lined_some _ (lined_checked _ _ _))
    (lined_if _ _ _ (begins_of_front (codes "absent")) (lined_some _ (lined_checked _ _ _)) (lined_done _))

lined_held : (blocks : ℕ) → IsLined (held_line_at blocks)
unfolding held_line_at
lined_held blocks = lined_if _ _ _ (begins_of_front (codes "held")) (lined_checked _ _ _) (lined_done _)

lined_sync : (addressed oneshot : Bool) (blocks : ℕ) → IsLined (sync_at addressed oneshot blocks)
unfolding sync_at
lined_sync addressed true blocks = lined_if _ _ _ (begins_of_front (codes "sync")) lined_refused (lined_done _)
lined_sync addressed false blocks = lined_if _ _ _ (begins_of_front (codes "sync")) (lined_some _ (lined_checked _ _ _)) (lined_done _)

lined_cut : (events : ℕ) → IsLined (cut_at events)
unfolding cut_at
lined_cut events = lined_maybe _ _ (lined_checked _ _ _)

module _ (addressed : Bool) (config : ScriptConfig) (blocks : List BlockLine) where
  lined_life : IsLined (life_lines_at addressed config blocks)
  unfolding life_lines_at
  lined_life =
      lined_then _ _ (lined_line _ _) (λ word.
      lined_then _ _ (lined_anchor blocks) (λ anchor.
      lined_then _ _ (lined_held (length blocks)) (λ held.
      lined_then _ _ (lined_sync addressed (is_some config.oneshot) (length blocks)) (λ sync.
      lined_then _ _ (lined_events (length blocks) (is_some config.probe)) (λ events.
      lined_then _ _ (lined_cut (length events)) (λ cut.
      lined_then _ _ (lined_line _ _) (λ pick. lined_done _)))))))

  moves_life : Moves (life_lines_at addressed config blocks)
  unfolding life_lines_at
  moves_life =
      moves_then _ _ (moves_line _ _) (λ word.
      lined_then _ _ (lined_anchor blocks) (λ anchor.
      lined_then _ _ (lined_held (length blocks)) (λ held.
      lined_then _ _ (lined_sync addressed (is_some config.oneshot) (length blocks)) (λ sync.
      lined_then _ _ (lined_events (length blocks) (is_some config.probe)) (λ events.
      lined_then _ _ (lined_cut (length events)) (λ cut.
      lined_then _ _ (lined_line _ _) (λ pick. lined_done _)))))))

  lined_lives : IsLined (lives_at addressed config blocks)
  unfolding lives_at
  lined_lives = lined_many (begins (codes "life")) (λ _. life_lines_at addressed config blocks) (begins_of_front (codes "life")) (λ done. lined_life) (λ done. moves_life)

-- THE SCRIPT

stops_over : Stops nothing_left
unfolding cut_at_byte
stops_over [] left e = absurd cc
stops_over (b ∷ bs) left e = record {
  front = [];
  rest = b ∷ bs;
  ends = tt;
  is = refl;
  size = (let size : length (b ∷ bs) ≡ left = cc in size);
  again = λ other a. more other a;
}
  where
    more : {one : List ℕ} → (other : List ℕ) → Alike one other → nothing_left other ≡ Err (length other)
    more [] a = absurd (let other_is = a.other_is in cc)
    more (c ∷ cs) a = refl

stops_end : Stops end_at
unfolding end_at
stops_end = stops_then _ _ (lined_line _ _) (λ end. stops_over)

-- what is read of an ended text
ended_then : {A : Type 0} (script : A) → Stops (λ t. end_at t >=> λ _. Ok script)
ended_then script text left e =
    let s = stops_end text left (first (end_at text) e) in
    record { front = s.front; rest = s.rest; ends = s.ends; is = s.is; size = s.size; again = λ other a. let stopped = s.again other a in rw stopped refl }
  where
    first : (r : Result Unit ℕ) → (r >=> λ _. Ok script) ≡ Err left → r ≡ Err left
    first (Ok u) e = absurd cc
    first (Err n) e = (let same : n ≡ left = cc in ap (λ (m : ℕ). let r : Result Unit ℕ = Err m in r) same)

stops_reading : (addressed : Bool) → Stops (reading_of addressed)
unfolding reading_of
stops_reading addressed =
    stops_then _ _ (lined_config addressed) (λ config.
    stops_then _ _ (lined_blocks addressed config) (λ blocks.
    stops_then _ _ (lined_lives addressed config blocks) (λ lives. ended_then _)))

-- THE PLACE

-- a whole line, and what goes on with it
alike_deeper : (b : ℕ) (bs body more : List ℕ) → (b == 10) ≡ false → ((tail : List ℕ) → first_line bs ≡ tail ++ 10 ∷ [] → Alike bs (first_line bs ++ more)) → b ∷ first_line bs ≡ body ++ 10 ∷ [] → Alike bs (first_line bs ++ more)
alike_deeper b bs [] more off again e = absurd (let feed : b ≡ 10 = cc in let on = eq-eqb b 10 feed in cc)
alike_deeper b bs (c ∷ body) more off again e = again body (let tail : first_line bs ≡ body ++ 10 ∷ [] = cc in tail)

alike_line : (rest body more : List ℕ) → first_line rest ≡ body ++ 10 ∷ [] → Alike rest (first_line rest ++ more)
alike_line [] body more e = absurd (omega (arith, ap length e, length-append body (10 ∷ [])))
alike_line (b ∷ bs) body more e =
    elim (cases_Bool (b == 10)) [
      | inl is ↦ rw is (alike_feed b bs more (eqb-true b 10 is))
      | inr off ↦ rw off (alike_more b bs (first_line bs ++ more) (alike_deeper b bs body more off (λ tail ends. alike_line bs tail more ends) (rw off at e)))
    ]

no_error : (r : Result Script ℕ) (left : ℕ) (script : Script) → r ≡ Err left → result_ok r ≡ Some script → ⊥
no_error (Ok s) left script stops reads = cc
no_error (Err n) left script stops reads = cc

-- no script's text goes on with the line at which the reading stopped
goes_on_not : (addressed : Bool) (text : List ℕ) (left : ℕ) (s : Stopped (reading_of addressed) text left) → IsAllowed addressed s.front (first_line s.rest) → ⊥
unfolding script_of
goes_on_not addressed text left s (ended, begins) =
    let more = begins.rest in
    let both : (s.front ++ first_line s.rest) ++ more ≡ s.front ++ (first_line s.rest ++ more) = append_assoc s.front (first_line s.rest) more in
    let reads : result_ok (reading_of begins.script.addressed (text_of begins.script)) ≡ Some begins.script = read_again begins.script begins.allowed in
    let here : result_ok (reading_of addressed (text_of begins.script)) ≡ Some begins.script = subst (λ (b : Bool). result_ok (reading_of b (text_of begins.script)) ≡ Some begins.script) begins.directories reads in
    let there : result_ok (reading_of addressed (s.front ++ (first_line s.rest ++ more))) ≡ Some begins.script = subst (λ (t : List ℕ). result_ok (reading_of addressed t) ≡ Some begins.script) (begins.text ∙ both) here in
    no_error (reading_of addressed (s.front ++ (first_line s.rest ++ more))) (length (first_line s.rest ++ more)) begins.script (s.again (first_line s.rest ++ more) (alike_line s.rest ended.0 more ended.1)) there

-- how much was left at a place
left_at : (size : ℕ) (r : Result Script ℕ) (place : ℕ) → with_place size r ≡ Err place → (left : ℕ) × (r ≡ Err left) × (place ≡ size - left)
left_at size (Ok s) place e = absurd cc
left_at size (Err left) place e = (left, refl, (let same : size - left ≡ place = cc in sym same))

none_read : (r : Result Script ℕ) (left : ℕ) → r ≡ Err left → result_ok r ≡ None
none_read (Ok s) left e = absurd cc
none_read (Err n) left e = refl

front_of_place : (bytes front rest : List ℕ) (place left : ℕ) → place ≡ length bytes - left → bytes ≡ front ++ rest → length rest ≡ left → take place bytes ≡ front
front_of_place bytes front rest place left is bytes_is size =
    let long : place ≡ length front = omega (arith, is, size, ap length bytes_is, length-append front rest) in
    ap (take place) bytes_is ∙ ap (λ (n : ℕ). take n (front ++ rest)) long ∙ take-append_seam front rest

pub place_of : (addressed : Bool) (bytes : List ℕ) (place left : ℕ) → reading_of addressed bytes ≡ Err left → place ≡ length bytes - left → IsPlace addressed bytes place
unfolding script_of
place_of addressed bytes place left stops is =
    let s = stops_reading addressed bytes left stops in
    let b = begun_reading addressed bytes left stops in
    let long : place ≡ length s.front = omega (arith, is, s.size, ap length s.is, length-append s.front s.rest) in
    let before : take place bytes ≡ s.front = front_of_place bytes s.front s.rest place left is s.is s.size in
    let after : drop place bytes ≡ s.rest = ap (drop place) s.is ∙ ap (λ (n : ℕ). drop n (s.front ++ s.rest)) long ∙ drop-append_seam s.front s.rest in
    record {
      within = omega arith;
      at_line = elim (last_feed s.front s.ends) [
        | inl none ↦ inl (long ∙ ap length none)
        | inr lines ↦ inr (lines.0, before ∙ lines.1)
      ];
      begun = subst (Begins addressed) (sym (front_of_place bytes b.front b.rest place left is b.is b.size)) b.begun;
      refused = λ allowed.
          let P : List ℕ → List ℕ → Type 0 = λ front rest. IsAllowed addressed front (first_line rest) in
          goes_on_not addressed bytes left s (subst (λ (f : List ℕ). P f s.rest) before (subst (λ (r : List ℕ). P (take place bytes) r) after allowed));
      missing = none_read (reading_of addressed bytes) left stops;
    }

pub first_place : IsPlaceFound
unfolding script_or_place
first_place addressed bytes place e =
    let l = left_at (length bytes) (reading_of addressed bytes) place e in
    place_of addressed bytes place l.0 l.1 l.2
