-- Where a reading stops, some script's text begins with the lines before: they go on to the end by lines that may always stand there.
use Rattle.std.proofs.Common.{◌≡◌, ℕ, zero, suc, ◌<◌, ◌≤◌, ◌^◌, Bool, true, false, List, [], ◌∷◌, ◌++◌, length, is_some, Option, Some, None, Result, Ok, Err, refl, sym, ap, subst, ◌∙◌, inl, inr, append_assoc, append-nil, arith}
use Rattle.std.specs.Prelude.{codes, IfSome, if◌then◌else◌}
use Rattle.std.specs.Int.NonZero.{non_zero_u32_get, non_zero_u64_get}
use Rattle.std.specs.List.{flat_map}
use Rattle.std.specs.declared.num.NonZeroU32.{NonZeroU32}
use Rattle.std.specs.declared.num.NonZeroU64.{NonZeroU64}
use Rattle.std.proofs.Math.Nat.{zero-lt-suc}
use Rattle.std.proofs.lemmas.Bool.{cases_Bool}
use Rattle.std.proofs.lemmas.List.{flat_map_more}
use Rattle.hex.specs.Hex.{IsBytes}
use Rattle.dkg_ceremony.specs.declared.mode.Mode.{Mode}
use Rattle.dkg_ceremony.specs.declared.mode.Mode.TheVariants.{NonZeroCounter}
use Rattle.dkg_ceremony.specs.declared.mode.ModeVersion.{ModeVersion}
use Rattle.dkg_types.specs.declared.addresses.Address.{Address}
use Rattle.dkg_reading.specs.declared.config_lines.Opening.{Opening}
use Rattle.dkg_text.specs.declared.script.Anchor.{Anchor}
use Rattle.dkg_text.specs.declared.script.BlockLine.{BlockLine}
use Rattle.dkg_text.specs.declared.script.Cut.{Cut}
use Rattle.dkg_text.specs.declared.script.Event.{Event}
use Rattle.dkg_text.specs.declared.script.Life.{Life}
use Rattle.dkg_text.specs.declared.script.PlayerLine.{PlayerLine}
use Rattle.dkg_text.specs.declared.script.ProbeLine.{ProbeLine}
use Rattle.dkg_text.specs.declared.script.Script.{Script}
use Rattle.dkg_text.specs.declared.script.ScriptConfig.{ScriptConfig}
use Rattle.dkg_text.specs.declared.script.SyncLine.{SyncLine}
use Rattle.dkg_reading.specs.declared.stop.Stop.{Stop}
use Rattle.dkg_reading.specs.declared.stop.Stop.TheVariants.{Line, NoMemory}
use Rattle.dkg_reading.specs.Allowed.{AreHeld, Is32, Is64, IsAddressLine, IsAnchor, IsBlockLine, IsConfig, IsCut, IsEventAfter, IsKeys, IsLife, IsPlayerLine, IsProbeLine, IsSyncLine}
use Rattle.dkg_text.specs.Fields.{bytes_field, number_field}
use Rattle.dkg_reading.specs.Grammar.{absent_from, address_line_at, anchor_line_at, block_line_at, blocks_at, config_at, cut_at, end_at, event_line_after, event_line_at, event_lines_at, held_line_at, is_eventful, life_lines_at, lives_at, nothing_left, opening_at, players_line_at, probe_at, processed_from, reading_of, sync_at}
use Rattle.dkg_reading.specs.Laws.{Begins}
use Rattle.dkg_reading.specs.Lines.{FailsText, TextReading, begins, checked_line, checked_line_at, front_of, line_at, many_lines_at, many_from, maybe_at, row_of, some_read, ◌>=>◌}
use Rattle.dkg_reading.specs.Rows.{Row, bytes_of, field, four, number_below, decimal_of, set_row, two, ◌>>=◌}
use Rattle.dkg_reading.specs.Spells.{FitAfter, IsLine}
use Rattle.dkg_text.specs.Writing.{address_line, anchor_line, block_line, config_text, cut_line, with_line_feed, event_line, held_line, life_text, oneshot_line, players_line, probe_line, sync_line}
use Rattle.dkg_reading.proofs.ConfigLaws.{AreModes, addresses_law, blocks_law as per_epoch_law, limit_law, me_law, modes_law, modes_line, oneshot_law, players_law, probes_law, space_law, version_law}
use Rattle.dkg_reading.proofs.EventLaws.{events_law}
use Rattle.dkg_reading.proofs.LifeLaws.{anchor_found, blocks_law, cut_found, held_found, none_held, number_line_law, sync_found}
use Rattle.dkg_reading.proofs.LineLaws.{many_found, maybe_found}
use Rattle.dkg_reading.proofs.ScriptLaws.{FitsOpening, config_found, dkg_line, end_line_law, life_law, lines_of, opening_found}
use Rattle.dkg_reading.proofs.WholeLines.{bind_err, refused_at}

-- READINGS THAT STOP AT THEIR FIRST LINE

abbrev Refuses : {A : Type 0} → (List ℕ → Result A ℕ) → Type 0
Refuses read = (text : List ℕ) (left : ℕ) → read text ≡ Err left → length text ≡ left

refuses_never : {A : Type 0} (x : A) → Refuses {A = A × List ℕ} (λ text. Ok (x, text))
refuses_never x text left e = absurd cc

refuses_always : {A : Type 0} → Refuses {A = A} (λ text. Err (length text))
refuses_always text left e = cc

refuses_line : {A : Type 0} (name : List ℕ) (row : Row A) → Refuses (line_at name row)
unfolding line_at
refuses_line name row text left e = refused_at text (front_of text >>= row_of name row) left e

refuses_checked : {A B : Type 0} (name : List ℕ) (row : Row A) (fits : A → Option B) → Refuses (checked_line_at name row fits)
refuses_checked {A} {B} name row fits text left e = by_case (line_at name row text) refl e
  where
    by_case : (r : TextReading A) → line_at name row text ≡ r → checked_line text fits r ≡ Err left → length text ≡ left
    by_case (Ok (x, behind)) is e = refused_at text (fits x >>= λ y. Some (y, behind)) left e
    by_case (Err n) is e = (let same : n ≡ left = cc in refuses_line name row text n is ∙ same)

refuses_some : {A : Type 0} (read : List ℕ → TextReading A) → Refuses read → Refuses (λ text. some_read (read text))
refuses_some {A} read law text left e =
    elim (bind_err (read text) (λ x. Ok (Some x.0, x.1)) left e) [
      | inl stopped ↦ law text left stopped
      | inr more ↦ absurd (let never : Ok (Some more.0.0, more.0.1) ≡ Err left = more.2 in cc)
    ]

refuses_if : {A : Type 0} (test : List ℕ → Bool) (then_read else_read : List ℕ → Result A ℕ) → Refuses then_read → Refuses else_read → Refuses (λ text. if test text then then_read text else else_read text)
refuses_if test then_read else_read is_then is_else text left e =
    elim (cases_Bool (test text)) [
      | inl on ↦ is_then text left (rw on at e)
      | inr off ↦ is_else text left (rw off at e)
    ]

refuses_maybe : {A : Type 0} (name : List ℕ) (read : List ℕ → TextReading A) → Refuses read → Refuses (maybe_at name read)
refuses_maybe {A} name read law = refuses_if (begins name) (λ t. some_read (read t)) (λ t. Ok (None, t)) (refuses_some read law) (refuses_never {A = Option A} None)

refuses_players : (done : List PlayerLine) → Refuses (players_line_at done)
unfolding players_line_at
refuses_players done = refuses_checked _ _ _

refuses_address : (done : List (ℕ × Address)) → Refuses (address_line_at done)
unfolding address_line_at
refuses_address done = refuses_checked _ _ _

refuses_probe : (addressed : Bool) → Refuses (probe_at addressed)
unfolding probe_at
refuses_probe addressed = refuses_checked _ _ _

refuses_block : (addressed : Bool) (config : ScriptConfig) (done : List BlockLine) → Refuses (block_line_at addressed config done)
unfolding block_line_at
refuses_block addressed config done = refuses_checked _ _ _

abbrev processed_read : List BlockLine → List ℕ → TextReading (Option Anchor)
processed_read blocks text = some_read (checked_line_at (codes "processed") (field (number_below (2 ^ 32))) (processed_from blocks) text)

abbrev absent_read : List BlockLine → List ℕ → TextReading (Option Anchor)
absent_read blocks text = if begins (codes "absent") text then some_read (checked_line_at (codes "absent") (field (number_below (2 ^ 32))) (absent_from blocks) text) else Ok (None, text)

refuses_anchor : (blocks : List BlockLine) → Refuses (anchor_line_at blocks)
unfolding anchor_line_at
refuses_anchor blocks =
    refuses_if (begins (codes "processed")) (processed_read blocks) (absent_read blocks) (refuses_some _ (refuses_checked (codes "processed") (field (number_below (2 ^ 32))) (processed_from blocks)))
    (refuses_maybe (codes "absent") (checked_line_at (codes "absent") (field (number_below (2 ^ 32))) (absent_from blocks)) (refuses_checked (codes "absent") (field (number_below (2 ^ 32))) (absent_from blocks)))

refuses_held : (blocks : ℕ) → Refuses (held_line_at blocks)
unfolding held_line_at
refuses_held blocks = refuses_if _ _ _ (refuses_checked _ _ _) (refuses_never _)

refuses_sync : (addressed oneshot : Bool) (blocks : ℕ) → Refuses (sync_at addressed oneshot blocks)
unfolding sync_at
refuses_sync addressed true blocks = refuses_if _ _ _ refuses_always (refuses_never _)
refuses_sync addressed false blocks = refuses_if _ _ _ (refuses_some _ (refuses_checked _ _ _)) (refuses_never _)

-- a line of start material that isn't one is refused in each mode
pub sync_refused : (addressed oneshot : Bool) (blocks : ℕ) (text : List ℕ) (stop : Stop) → begins (codes "sync") text ≡ true → FailsText stop (line_at (codes "sync") (four bytes_of decimal_of decimal_of (number_below (2 ^ 32))) text)
    → FailsText stop (sync_at addressed oneshot blocks text)
unfolding sync_at
sync_refused addressed oneshot blocks text NoMemory on is = tt
sync_refused addressed true blocks text (Line left) on is = rw on (ap (λ (n : ℕ). let r : TextReading (Option SyncLine) = Err n in r) (refuses_line (codes "sync") (four bytes_of decimal_of decimal_of (number_below (2 ^ 32))) text left is))
sync_refused addressed false blocks text (Line left) on is = rw (on, is) refl

refuses_event : (blocks : ℕ) (probe : Bool) (done : List Event) → Refuses (event_line_at blocks probe done)
unfolding event_line_at
refuses_event blocks probe done text left e = refused_at text (front_of text >>= event_line_after blocks probe done) left e

refuses_cut : (events : ℕ) → Refuses (cut_at events)
unfolding cut_at
refuses_cut events = refuses_maybe _ _ (refuses_checked _ _ _)

refuses_more : Refuses nothing_left
refuses_more [] left e = absurd cc
refuses_more (b ∷ bs) left e = (let size : length (b ∷ bs) ≡ left = cc in size)

-- READINGS BEHIND OTHER LINES

-- A reading behind these lines stopped, and what stands before its place, from the first of them on, is a front of this kind.
record Stands (P : List ℕ → Type 0) (before text : List ℕ) (left : ℕ) : Type 0 where
  front : List ℕ
  rest : List ℕ
  is : text ≡ front ++ rest
  size : length rest ≡ left
  begun : P (before ++ front)

abbrev Begun : {A : Type 0} → (P : List ℕ → Type 0) → (before : List ℕ) → (List ℕ → Result A ℕ) → Type 0
Begun P before read = (text : List ℕ) (left : ℕ) → read text ≡ Err left → Stands P before text left

begun_here : {A : Type 0} (P : List ℕ → Type 0) (before : List ℕ) (read : List ℕ → Result A ℕ) → Refuses read → P before → Begun P before read
begun_here P before read law here text left e = record { front = []; rest = text; is = refl; size = law text left e; begun = subst P (sym (append-nil before)) here }

begun_done : {A : Type 0} (P : List ℕ → Type 0) (before : List ℕ) (x : A) → Begun {A = A × List ℕ} P before (λ text. Ok (x, text))
begun_done P before x text left e = absurd cc

begun_then : {A B : Type 0} (P : List ℕ → Type 0) (before : List ℕ) (fits : A → Type 0) (line : A → List ℕ) (one : List ℕ → TextReading A) (two : A × List ℕ → Result B ℕ)
    → ((text : List ℕ) (x : A) (rest : List ℕ) → one text ≡ Ok (x, rest) → fits x × (text ≡ line x ++ rest)) → Begun P before one
    → ((x : A) → fits x → Begun P (before ++ line x) (λ t. two (x, t))) → Begun P before (λ t. one t >=> two)
begun_then P before fits line one two found first second text left e =
    elim (bind_err (one text) two left e) [
      | inl stopped ↦ first text left stopped
      | inr more ↦
          let f = found text more.0.0 more.0.1 more.1 in
          let s = second more.0.0 f.0 more.0.1 left more.2 in
          record {
            front = line more.0.0 ++ s.front;
            rest = s.rest;
            is = f.1 ∙ ap (λ (r : List ℕ). line more.0.0 ++ r) s.is ∙ sym (append_assoc (line more.0.0) s.front s.rest);
            size = s.size;
            begun = subst P (append_assoc before (line more.0.0) s.front) s.begun;
          }
    ]

begun_last : {A B : Type 0} (P : List ℕ → Type 0) (before : List ℕ) (read : List ℕ → Result A ℕ) (y : B) → Begun P before read → Begun P before (λ t. read t >=> λ _. Ok y)
begun_last {A} {B} P before read y law text left e = law text left (stopped (read text) e)
  where
    stopped : (r : Result A ℕ) → (r >=> λ _. Ok y) ≡ Err left → r ≡ Err left
    stopped (Ok x) e = absurd cc
    stopped (Err n) e = (let same : n ≡ left = cc in ap (λ (m : ℕ). let r : Result A ℕ = Err m in r) same)

-- one more that fits
fit_more : {A : Type 0} (fits : List A → A → Type 0) (before done : List A) (x : A) → FitAfter fits before done → fits (before ++ done) x → FitAfter fits before (done ++ x ∷ [])
fit_more {A} fits before [] x all one = (subst (λ (d : List A). fits d x) (append-nil before) one, tt)
fit_more {A} fits before (y ∷ ys) x all one = (all.0, fit_more fits (before ++ y ∷ []) ys x all.1 (subst (λ (d : List A). fits d x) (sym (append_assoc before (y ∷ []) ys)) one))

module _ {A : Type 0} (P : List ℕ → Type 0) (before : List ℕ) (goes_on : List ℕ → Bool) (fits : List A → A → Type 0) (line : A → List ℕ) (read : List A → List ℕ → TextReading A) (law : (done : List A) → IsLine (fits done) line (read done))
    (each : (done : List A) → FitAfter fits [] done → Begun P (before ++ flat_map line done) (read done)) where
  begun_from : (most : ℕ) (done : List A) → FitAfter fits [] done → Begun P (before ++ flat_map line done) (many_from goes_on read most done)
  unfolding many_from
  begun_from zero done fit text left e = absurd cc
  begun_from (suc most) done fit text left e =
      elim (cases_Bool (goes_on text)) [
        | inl on ↦
            elim (bind_err (read done text) (λ x. many_from goes_on read most (done ++ x.0 ∷ []) x.1) left (rw on at e)) [
              | inl stopped ↦ each done fit text left stopped
              | inr more ↦
                  let x = more.0.0 in
                  let f = (law done).found text x more.0.1 more.1 in
                  let s = begun_from most (done ++ x ∷ []) (fit_more fits [] done x fit f.0) more.0.1 left more.2 in
                  record {
                    front = line x ++ s.front;
                    rest = s.rest;
                    is = f.1 ∙ ap (λ (r : List ℕ). line x ++ r) s.is ∙ sym (append_assoc (line x) s.front s.rest);
                    size = s.size;
                    begun = subst P (ap (λ (t : List ℕ). t ++ s.front) (sym (flat_map_more line before done x)) ∙ append_assoc (before ++ flat_map line done) (line x) s.front) s.begun;
                  }
            ]
        | inr off ↦ absurd (let there : Ok (done, text) ≡ Err left = rw off at e in cc)
      ]

  begun_many : Begun P before (many_lines_at goes_on read)
  begun_many text left e =
      let s = begun_from (suc (length text)) [] tt text left e in
      record { front = s.front; rest = s.rest; is = s.is; size = s.size; begun = subst P (ap (λ (t : List ℕ). t ++ s.front) (append-nil before)) s.begun }

-- TEXTS, REGROUPED

four_left : (a b c d : List ℕ) → a ++ (b ++ (c ++ d)) ≡ ((a ++ b) ++ c) ++ d
four_left a b c d = sym (append_assoc (a ++ b) c d ∙ append_assoc a b (c ++ d))

five_left : (a b c d e : List ℕ) → a ++ (b ++ (c ++ (d ++ e))) ≡ (((a ++ b) ++ c) ++ d) ++ e
five_left a b c d e = sym (append_assoc ((a ++ b) ++ c) d e ∙ sym (four_left a b c (d ++ e)))

six_left : (a b c d e f : List ℕ) → (a ++ (b ++ c)) ++ (d ++ (e ++ f)) ≡ ((((a ++ b) ++ c) ++ d) ++ e) ++ f
six_left a b c d e f = ap (λ (t : List ℕ). t ++ (d ++ (e ++ f))) (sym (append_assoc a b c)) ∙ four_left ((a ++ b) ++ c) d e f

eight_left : (o a b c d e f g : List ℕ) → o ++ (a ++ (b ++ (c ++ (d ++ (e ++ (f ++ g)))))) ≡ ((((((o ++ a) ++ b) ++ c) ++ d) ++ e) ++ f) ++ g
eight_left o a b c d e f g = sym (append_assoc (o ++ a) b (c ++ (d ++ (e ++ (f ++ g)))) ∙ append_assoc o a (b ++ (c ++ (d ++ (e ++ (f ++ g)))))) ∙ six_right
  where
    six_right : ((o ++ a) ++ b) ++ (c ++ (d ++ (e ++ (f ++ g)))) ≡ ((((((o ++ a) ++ b) ++ c) ++ d) ++ e) ++ f) ++ g
    six_right = sym (append_assoc (((o ++ a) ++ b) ++ c) d (e ++ (f ++ g)) ∙ append_assoc ((o ++ a) ++ b) c (d ++ (e ++ (f ++ g)))) ∙ four_left ((((o ++ a) ++ b) ++ c) ++ d) e f g

-- LINES THAT MAY ALWAYS FOLLOW

zero_fits : Is64 0
zero_fits = omega arith

abbrev one_32 : NonZeroU32
one_32 = record { value = suc zero; ok = zero-lt-suc zero }

abbrev one_64 : NonZeroU64
one_64 = record { value = suc zero; ok = zero-lt-suc zero }

abbrev me_text : ℕ → List ℕ
me_text k = with_line_feed (codes "me" ++ number_field k)

abbrev per_epoch_text : NonZeroU64 → List ℕ
per_epoch_text n = with_line_feed (codes "blocks" ++ number_field (non_zero_u64_get n))

abbrev limit_text : NonZeroU32 → List ℕ
limit_text n = with_line_feed (codes "limit" ++ number_field (non_zero_u32_get n))

abbrev space_text : List ℕ → List ℕ
space_text bytes = with_line_feed (codes "space" ++ bytes_field bytes)

abbrev word_text : ℕ → List ℕ
word_text n = with_line_feed (codes "life" ++ number_field n)

abbrev stop_text : ℕ → List ℕ
stop_text n = with_line_feed (codes "stop" ++ number_field n)

abbrev or_none : {A : Type 0} → (A → List ℕ) → Option A → List ℕ
or_none text (Some x) = text x
or_none text None = []

no_bytes : IsBytes []
no_bytes i = omega arith

abbrev first_modes : Mode × ModeVersion
first_modes = (NonZeroCounter, record { 0 = 0 })

known_version : first_modes.1.0 < 2
known_version = zero-lt-suc 1

allowed_limit : non_zero_u32_get one_32 ≤ 2 ^ 30
allowed_limit = (let one : non_zero_u32_get one_32 ≡ 1 = refl in omega (arith, one))

small_epoch : Is64 (non_zero_u64_get one_64)
small_epoch = (let one : non_zero_u64_get one_64 ≡ 1 = refl in omega (arith, one))

module _ (addressed : Bool) where
  abbrev P : List ℕ → Type 0
  P front = Begins addressed front

  -- a front of a front
  cut : (front more : List ℕ) → P (front ++ more) → P front
  cut front more b = record { script = b.script; allowed = b.allowed; directories = b.directories; rest = more ++ b.rest; text = b.text ∙ append_assoc front more b.rest }

  -- THE SCRIPT

  module _ (config : ScriptConfig) (a : IsConfig addressed config) where
    to_end : (blocks : List BlockLine) (lives : List Life) → FitAfter (IsBlockLine addressed config) [] blocks → FitAfter (λ _. IsLife addressed config blocks) [] lives
        → P (((config_text config ++ flat_map block_line blocks) ++ flat_map life_text lives) ++ with_line_feed (codes "end"))
    to_end blocks lives b c =
        let whole : Script = record { addressed = addressed; config = config; blocks = blocks; lives = lives } in
        let text = ((config_text config ++ flat_map block_line blocks) ++ flat_map life_text lives) ++ with_line_feed (codes "end") in
        record {
          script = whole;
          allowed = record { config = a; blocks = b; lives = c };
          directories = refl;
          rest = [];
          text = four_left (config_text config) (flat_map block_line blocks) (flat_map life_text lives) (with_line_feed (codes "end")) ∙ sym (append-nil text);
        }

    to_lives : (blocks : List BlockLine) (lives : List Life) → FitAfter (IsBlockLine addressed config) [] blocks → FitAfter (λ _. IsLife addressed config blocks) [] lives
        → P ((config_text config ++ flat_map block_line blocks) ++ flat_map life_text lives)
    to_lives blocks lives b c = cut _ (with_line_feed (codes "end")) (to_end blocks lives b c)

    to_blocks : (blocks : List BlockLine) → FitAfter (IsBlockLine addressed config) [] blocks → P (config_text config ++ flat_map block_line blocks)
    to_blocks blocks b = cut _ [] (to_lives blocks [] b tt)

    to_config : P (config_text config)
    to_config = cut _ [] (to_blocks [] tt)

  -- THE CONFIGURATION

  abbrev config_of : Opening → Option (List ℕ) → List PlayerLine → List (ℕ × Address) → Option ProbeLine → ScriptConfig
  config_of o n p a r = record {
    me = o.me;
    blocks_per_epoch = o.blocks_per_epoch;
    limit = o.limit;
    mode = o.modes.0;
    max_mode = o.modes.1;
    namespace = o.namespace;
    oneshot = n;
    players = p;
    addresses = a;
    probe = r;
  }

  module _ (o : Opening) (fo : FitsOpening o) where
    to_probe : (n : Option (List ℕ)) (p : List PlayerLine) (a : List (ℕ × Address)) (r : Option ProbeLine) → IfSome n IsKeys → FitAfter IsPlayerLine [] p → FitAfter IsAddressLine [] a → IfSome r (IsProbeLine addressed)
        → P ((((lines_of o ++ or_none oneshot_line n) ++ flat_map players_line p) ++ flat_map address_line a) ++ or_none probe_line r)
    to_probe n p a r fn fp fa fr =
        let config = config_of o n p a r in
        let fits : IsConfig addressed config =
        record {
          opening = record { me = fo.me; blocks_per_epoch = fo.blocks; limit = fo.limit; version = fo.version; namespace = fo.namespace };
          oneshot = fn;
          players = fp;
          addresses = fa;
          probe = fr;
        } in
        subst P (five_left (lines_of o) (or_none oneshot_line n) (flat_map players_line p) (flat_map address_line a) (or_none probe_line r)) (to_config config fits)

    to_addresses : (n : Option (List ℕ)) (p : List PlayerLine) (a : List (ℕ × Address)) → IfSome n IsKeys → FitAfter IsPlayerLine [] p → FitAfter IsAddressLine [] a
        → P (((lines_of o ++ or_none oneshot_line n) ++ flat_map players_line p) ++ flat_map address_line a)
    to_addresses n p a fn fp fa = cut _ [] (to_probe n p a None fn fp fa tt)

    to_players : (n : Option (List ℕ)) (p : List PlayerLine) → IfSome n IsKeys → FitAfter IsPlayerLine [] p → P ((lines_of o ++ or_none oneshot_line n) ++ flat_map players_line p)
    to_players n p fn fp = cut _ [] (to_addresses n p [] fn fp tt)

    to_oneshot : (n : Option (List ℕ)) → IfSome n IsKeys → P (lines_of o ++ or_none oneshot_line n)
    to_oneshot n fn = cut _ [] (to_players n [] fn tt)

    to_opening : P (lines_of o)
    to_opening = cut _ [] (to_oneshot None tt)

  to_space : (me : ℕ) (blocks : NonZeroU64) (limit : NonZeroU32) (modes : Mode × ModeVersion) (bytes : List ℕ) → Is32 me → Is64 (non_zero_u64_get blocks) → non_zero_u32_get limit ≤ 2 ^ 30 → AreModes modes → IsBytes bytes
      → P (((((dkg_line ++ me_text me) ++ per_epoch_text blocks) ++ limit_text limit) ++ modes_line modes) ++ space_text bytes)
  to_space me blocks limit modes bytes fm fb fl fd fs =
      let o : Opening = record { me = me; blocks_per_epoch = blocks; limit = limit; modes = modes; namespace = bytes } in
      let fits : FitsOpening o = record { me = fm; blocks = fb; limit = fl; version = fd.1; namespace = fs } in
      subst P (six_left dkg_line (me_text me) (per_epoch_text blocks) (limit_text limit) (modes_line modes) (space_text bytes)) (to_opening o fits)

  to_modes : (me : ℕ) (blocks : NonZeroU64) (limit : NonZeroU32) (modes : Mode × ModeVersion) → Is32 me → Is64 (non_zero_u64_get blocks) → non_zero_u32_get limit ≤ 2 ^ 30 → AreModes modes
      → P ((((dkg_line ++ me_text me) ++ per_epoch_text blocks) ++ limit_text limit) ++ modes_line modes)
  to_modes me blocks limit modes fm fb fl fd = cut _ (space_text []) (to_space me blocks limit modes [] fm fb fl fd no_bytes)

  to_limit : (me : ℕ) (blocks : NonZeroU64) (limit : NonZeroU32) → Is32 me → Is64 (non_zero_u64_get blocks) → non_zero_u32_get limit ≤ 2 ^ 30 → P (((dkg_line ++ me_text me) ++ per_epoch_text blocks) ++ limit_text limit)
  to_limit me blocks limit fm fb fl = cut _ (modes_line first_modes) (to_modes me blocks limit first_modes fm fb fl (tt, known_version))

  to_per_epoch : (me : ℕ) (blocks : NonZeroU64) → Is32 me → Is64 (non_zero_u64_get blocks) → P ((dkg_line ++ me_text me) ++ per_epoch_text blocks)
  to_per_epoch me blocks fm fb = cut _ (limit_text one_32) (to_limit me blocks one_32 fm fb allowed_limit)

  to_me : (me : ℕ) → Is32 me → P (dkg_line ++ me_text me)
  to_me me fm = cut _ (per_epoch_text one_64) (to_per_epoch me one_64 fm small_epoch)

  to_version : P dkg_line
  to_version = cut dkg_line (me_text 0) (to_me 0 (omega arith))

  to_nothing : P []
  to_nothing = cut [] dkg_line to_version

  begun_opening : Begun P [] opening_at
  unfolding opening_at
  begun_opening =
      begun_then P [] (λ (x : Unit {0}). Unit {0}) (λ x. dkg_line) _ _ version_law.found (begun_here P [] _ (refuses_checked _ _ _) to_nothing) (λ version fv.
      begun_then P dkg_line Is32 me_text _ _ me_law.found (begun_here P _ _ (refuses_line _ _) to_version) (λ me fm.
      begun_then P (dkg_line ++ me_text me) (λ x. Is64 (non_zero_u64_get x)) per_epoch_text _ _ per_epoch_law.found (begun_here P _ _ (refuses_checked _ _ _) (to_me me fm)) (λ blocks fb.
      begun_then P ((dkg_line ++ me_text me) ++ per_epoch_text blocks) (λ x. non_zero_u32_get x ≤ 2 ^ 30) limit_text _ _ limit_law.found (begun_here P _ _ (refuses_checked _ _ _) (to_per_epoch me blocks fm fb)) (λ limit fl.
      begun_then P (((dkg_line ++ me_text me) ++ per_epoch_text blocks) ++ limit_text limit) AreModes modes_line _ _ modes_law.found (begun_here P _ _ (refuses_line _ _) (to_limit me blocks limit fm fb fl)) (λ modes fd.
      begun_then P ((((dkg_line ++ me_text me) ++ per_epoch_text blocks) ++ limit_text limit) ++ modes_line modes) IsBytes space_text _ _ space_law.found (begun_here P _ _ (refuses_line _ _) (to_modes me blocks limit modes fm fb fl fd)) (λ space fs.
      begun_done P _ _))))))

  begun_config : Begun P [] (config_at addressed)
  unfolding config_at
  begun_config =
      begun_then P [] FitsOpening lines_of opening_at _ opening_found begun_opening (λ o fo.
      begun_then P (lines_of o) (λ n. IfSome n IsKeys) (or_none oneshot_line) _ _ (maybe_found (codes "oneshot") IsKeys oneshot_line (line_at (codes "oneshot") set_row) oneshot_law)
      (begun_here P _ _ (refuses_maybe _ _ (refuses_line _ _)) (to_opening o fo)) (λ n fn.
      begun_then P (lines_of o ++ or_none oneshot_line n) (FitAfter IsPlayerLine []) (flat_map players_line) _ _ (many_found (begins (codes "players")) IsPlayerLine players_line players_line_at players_law)
      (begun_many P (lines_of o ++ or_none oneshot_line n) (begins (codes "players")) IsPlayerLine players_line players_line_at players_law (λ done fit. begun_here P _ _ (refuses_players done) (to_players o fo n done fn fit))) (λ p fp.
      begun_then P ((lines_of o ++ or_none oneshot_line n) ++ flat_map players_line p) (FitAfter IsAddressLine []) (flat_map address_line) _ _ (many_found (begins (codes "address")) IsAddressLine address_line address_line_at addresses_law)
      (begun_many P ((lines_of o ++ or_none oneshot_line n) ++ flat_map players_line p) (begins (codes "address")) IsAddressLine address_line address_line_at addresses_law
      (λ done fit. begun_here P _ _ (refuses_address done) (to_addresses o fo n p done fn fp fit))) (λ a fa.
      begun_then P (((lines_of o ++ or_none oneshot_line n) ++ flat_map players_line p) ++ flat_map address_line a) (λ r. IfSome r (IsProbeLine addressed)) (or_none probe_line) _ _ (maybe_found (codes "probe") (IsProbeLine addressed) probe_line (probe_at addressed) (probes_law addressed))
      (begun_here P _ _ (refuses_maybe _ _ (refuses_probe addressed)) (to_addresses o fo n p a fn fp fa)) (λ r fr.
      begun_done P _ _)))))

  -- A LIFE, behind these lines

  module _ (config : ScriptConfig) (blocks : List BlockLine) (before : List ℕ) (here : P before) (close : (life : Life) → IsLife addressed config blocks life → P (before ++ life_text life)) where
    module _ (w : ℕ) (fw : Is64 w) where
      module _ (a : Option Anchor) (h : List ℕ) (s : Option SyncLine) (e : List Event) (fa : IfSome a (IsAnchor blocks)) (fh : AreHeld (length blocks) h) (fs : IfSome s (IsSyncLine addressed (is_some config.oneshot) (length blocks))) (fe : FitAfter (IsEventAfter (length blocks) (is_some config.probe)) [] e) where
        to_cut : (c : Option Cut) → IfSome c (IsCut (length e)) → P ((((((before ++ word_text w) ++ or_none anchor_line a) ++ held_line h) ++ or_none sync_line s) ++ flat_map event_line e) ++ or_none cut_line c)
        to_cut c fc =
            let life : Life = record { word = w; anchor = a; held = h; sync = s; events = e; cut = c; pick = 0 } in
            let fits : IsLife addressed config blocks life = record { word = fw; anchor = fa; held = fh; sync = fs; events = fe; cut = fc; pick = zero_fits } in
            cut _ (stop_text 0) (subst P (eight_left before (word_text w) (or_none anchor_line a) (held_line h) (or_none sync_line s) (flat_map event_line e) (or_none cut_line c) (stop_text 0)) (close life fits))

        to_events : P (((((before ++ word_text w) ++ or_none anchor_line a) ++ held_line h) ++ or_none sync_line s) ++ flat_map event_line e)
        to_events = cut _ [] (to_cut None tt)

      to_sync : (a : Option Anchor) (h : List ℕ) (s : Option SyncLine) → IfSome a (IsAnchor blocks) → AreHeld (length blocks) h → IfSome s (IsSyncLine addressed (is_some config.oneshot) (length blocks)) → P ((((before ++ word_text w) ++ or_none anchor_line a) ++ held_line h) ++ or_none sync_line s)
      to_sync a h s fa fh fs = cut _ [] (to_events a h s [] fa fh fs tt)

      to_held : (a : Option Anchor) (h : List ℕ) → IfSome a (IsAnchor blocks) → AreHeld (length blocks) h → P (((before ++ word_text w) ++ or_none anchor_line a) ++ held_line h)
      to_held a h fa fh = cut _ [] (to_sync a h None fa fh tt)

      to_anchor : (a : Option Anchor) → IfSome a (IsAnchor blocks) → P ((before ++ word_text w) ++ or_none anchor_line a)
      to_anchor a fa = cut _ [] (to_held a [] fa (none_held (length blocks)))

      to_word : P (before ++ word_text w)
      to_word = cut _ [] (to_anchor None tt)

    begun_life : Begun P before (life_lines_at addressed config blocks)
    unfolding life_lines_at event_lines_at
    begun_life =
        begun_then P before Is64 word_text _ _ (number_line_law (codes "life") refl).found (begun_here P before _ (refuses_line _ _) here) (λ w fw.
        begun_then P (before ++ word_text w) (λ a. IfSome a (IsAnchor blocks)) (or_none anchor_line) _ _ (anchor_found blocks) (begun_here P _ _ (refuses_anchor blocks) (to_word w fw)) (λ a fa.
        begun_then P ((before ++ word_text w) ++ or_none anchor_line a) (AreHeld (length blocks)) held_line _ _ (held_found (length blocks)) (begun_here P _ _ (refuses_held (length blocks)) (to_anchor w fw a fa)) (λ h fh.
        begun_then P (((before ++ word_text w) ++ or_none anchor_line a) ++ held_line h) (λ s. IfSome s (IsSyncLine addressed (is_some config.oneshot) (length blocks))) (or_none sync_line) _ _ (sync_found addressed (length blocks) (is_some config.oneshot))
        (begun_here P _ _ (refuses_sync addressed (is_some config.oneshot) (length blocks)) (to_held w fw a h fa fh)) (λ s fs.
        begun_then P ((((before ++ word_text w) ++ or_none anchor_line a) ++ held_line h) ++ or_none sync_line s) (FitAfter (IsEventAfter (length blocks) (is_some config.probe)) []) (flat_map event_line) _ _
        (many_found is_eventful (IsEventAfter (length blocks) (is_some config.probe)) event_line (event_line_at (length blocks) (is_some config.probe)) (events_law (length blocks) (is_some config.probe)))
        (begun_many P ((((before ++ word_text w) ++ or_none anchor_line a) ++ held_line h) ++ or_none sync_line s) is_eventful (IsEventAfter (length blocks) (is_some config.probe)) event_line (event_line_at (length blocks) (is_some config.probe)) (events_law (length blocks) (is_some config.probe))
        (λ done fit. begun_here P _ _ (refuses_event (length blocks) (is_some config.probe) done) (to_events w fw a h s done fa fh fs fit))) (λ e fe.
        begun_then P (((((before ++ word_text w) ++ or_none anchor_line a) ++ held_line h) ++ or_none sync_line s) ++ flat_map event_line e) (λ c. IfSome c (IsCut (length e))) (or_none cut_line) _ _ (cut_found (length e))
        (begun_here P _ _ (refuses_cut (length e)) (to_events w fw a h s e fa fh fs fe)) (λ c fc.
        begun_then P ((((((before ++ word_text w) ++ or_none anchor_line a) ++ held_line h) ++ or_none sync_line s) ++ flat_map event_line e) ++ or_none cut_line c) Is64 stop_text _ _ (number_line_law (codes "stop") refl).found
        (begun_here P _ _ (refuses_line _ _) (to_cut w fw a h s e fa fh fs fe c fc)) (λ pick fp.
        begun_done P _ _)))))))

  -- THE SCRIPT, line by line

  begun_end : (before : List ℕ) → P before → P (before ++ with_line_feed (codes "end")) → Begun P before end_at
  unfolding end_at
  begun_end before here over =
      begun_then P before (λ (x : Unit {0}). Unit {0}) (λ x. with_line_feed (codes "end")) _ _ end_line_law.found (begun_here P before _ (refuses_line _ _) here) (λ x fx. begun_here P _ _ refuses_more over)

  module _ (config : ScriptConfig) (a : IsConfig addressed config) where
    begun_blocks : Begun P (config_text config) (blocks_at addressed config)
    unfolding blocks_at
    begun_blocks =
        begun_many P (config_text config) (begins (codes "block")) (IsBlockLine addressed config) block_line (block_line_at addressed config) (blocks_law addressed config)
        (λ done fit. begun_here P _ _ (refuses_block addressed config done) (to_blocks config a done fit))

    begun_lives : (blocks : List BlockLine) → FitAfter (IsBlockLine addressed config) [] blocks → Begun P (config_text config ++ flat_map block_line blocks) (lives_at addressed config blocks)
    unfolding lives_at
    begun_lives blocks b =
        let before = config_text config ++ flat_map block_line blocks in
        begun_many P before (begins (codes "life")) (λ _. IsLife addressed config blocks) life_text (λ _. life_lines_at addressed config blocks) (λ _. life_law addressed config blocks) (λ done fit.
        begun_life config blocks (before ++ flat_map life_text done) (to_lives config a blocks done b fit) (λ life fl.
        subst P (sym (flat_map_more life_text before done life)) (to_lives config a blocks (done ++ life ∷ []) b (fit_more (λ _. IsLife addressed config blocks) [] done life fit fl))))

  begun_all : Begun P [] (reading_of addressed)
  unfolding reading_of blocks_at lives_at
  begun_all =
      begun_then P [] (IsConfig addressed) config_text (config_at addressed) _ (config_found addressed) begun_config (λ config a.
      begun_then P (config_text config) (FitAfter (IsBlockLine addressed config) []) (flat_map block_line) _ _ (many_found (begins (codes "block")) (IsBlockLine addressed config) block_line (block_line_at addressed config) (blocks_law addressed config)) (begun_blocks config a) (λ blocks b.
      begun_then P (config_text config ++ flat_map block_line blocks) (FitAfter (λ _. IsLife addressed config blocks) []) (flat_map life_text) _ _ (many_found (begins (codes "life")) (λ _. IsLife addressed config blocks) life_text (λ _. life_lines_at addressed config blocks) (λ _. life_law addressed config blocks)) (begun_lives config a blocks b) (λ lives c.
      begun_last P _ end_at _ (begun_end ((config_text config ++ flat_map block_line blocks) ++ flat_map life_text lives) (to_lives config a blocks lives b c) (to_end config a blocks lives b c)))))

-- a text that is no script's, up to where its reading stops
pub record IsBegun (addressed : Bool) (text : List ℕ) (left : ℕ) : Type 0 where
  pub front : List ℕ
  pub rest : List ℕ
  pub is : text ≡ front ++ rest
  pub size : length rest ≡ left
  pub begun : Begins addressed front

pub begun_reading : (addressed : Bool) (text : List ℕ) (left : ℕ) → reading_of addressed text ≡ Err left → IsBegun addressed text left
begun_reading addressed text left e =
    let s = begun_all addressed text left e in
    record { front = s.front; rest = s.rest; is = s.is; size = s.size; begun = s.begun }
