-- What a script of a text has: its players' epochs rise, what its blocks carry is read under its limits, their heights have 64 bits, and of its lives none begins below height 0 and none asks for an
-- info by a number that is taken.
use Rattle.std.proofs.Common.{◌≡◌, ℕ, zero, suc, ◌<◌, ◌^◌, ◌++◌, Bool, true, false, cond, List, [], ◌∷◌, Option, Some, None, Result, Ok, Err, ap, arith, refl, sym, ◌∙◌, length, append-nil, append_assoc, subst}
use Rattle.std.specs.Prelude.{is_some, not, max, nat_lt, option_map, slice_get, IfSome, IsSome, IsSomeAnd}
use Rattle.std.specs.Int.NonZero.{non_zero_u32_get}
use Rattle.std.specs.List.{AllByRecursion}
use Rattle.std.specs.List.Sorted.{IsStrictlyIncreasing}
use Rattle.std.specs.Option.{option_map_or}
use Rattle.std.specs.Result.{result_ok}
use Rattle.std.proofs.lemmas.Bool.{ltb-true}
use Rattle.dkg_values.specs.Codec.{whole}
use Rattle.dkg_values.specs.Rising.{keys_of}
use Rattle.dkg_types.specs.PayloadCodes.{payload_at}
use Rattle.dkg_infos.specs.Units.{unit_at}
use Rattle.dkg_text.specs.declared.script.Anchor.{Anchor}
use Rattle.dkg_text.specs.declared.script.Anchor.TheVariants.{Processed, Absent}
use Rattle.dkg_text.specs.declared.script.BlockLine.{BlockLine}
use Rattle.dkg_text.specs.declared.script.Event.{Event}
use Rattle.dkg_text.specs.declared.script.Event.TheVariants.{Info}
use Rattle.dkg_text.specs.declared.script.Life.{Life}
use Rattle.dkg_text.specs.declared.script.PlayerLine.{PlayerLine}
use Rattle.dkg_text.specs.declared.script.Script.{Script}
use Rattle.dkg_reading.specs.Allowed.{IsAnchor, IsBlockLine, IsEventAfter, IsLife, IsPlayerLine, IsScript}
use Rattle.dkg_reading.specs.Asked.{is_asked}
use Rattle.dkg_text.specs.PayloadKinds.{payload_kind, kind_of, unit_kind}
use Rattle.dkg_reading.specs.Grammar.{absent_from, is_above, is_allowed_event, is_payload, limit_of, reading_of, script_of, script_or_place, with_place}
use Rattle.dkg_reading.specs.Rows.{◌>>=◌}
use Rattle.dkg_reading.specs.Spells.{FitAfter}
use Rattle.dkg_reading.proofs.Rise.{is_rising, pair_above, rising_is}
use Rattle.dkg_reading.proofs.ScriptLaws.{written_again}
use Rattle.dkg_script.specs.Asked.{AskAnew, IsAskedAnew}
use Rattle.dkg_script.specs.InForm.{IsOfText}
use Rattle.dkg_script.specs.Epochs.{IsAnchorIn, IsBlockIn}
use Rattle.dkg_script.specs.Players.{epochs_of}
use Rattle.dkg_script.specs.Readings.{unit_payload}

spelled : {A : Type 0} (size : ℕ) (reading : Result A ℕ) (x : A) → with_place size reading ≡ Ok x → result_ok reading ≡ Some x
spelled {A} size (Ok y) x is = let same : y ≡ x = cc in ap (λ (z : A). Some z) same
spelled size (Err left) x is = absurd cc

script_is : (addressed : Bool) (bytes : List ℕ) (script : Script) → script_or_place addressed bytes ≡ Ok script → IsScript script
unfolding script_or_place script_of
script_is addressed bytes script is = (written_again addressed bytes script (spelled (length bytes) (reading_of addressed bytes) script is)).0

some_before : {A B : Type 0} (f : A → B) (o : Option A) → is_some (option_map f o) ≡ true → IsSome o
some_before f None is = absurd cc
some_before f (Some x) is = refl

payload_read : (limit version : ℕ) (payload : Option (List ℕ)) → is_payload false limit version payload ≡ true
    → IfSome payload (λ bytes. IsSome (unit_payload (record { limit = limit; version = version; addressed = false }) bytes))
unfolding payload_kind unit_kind
payload_read limit version None is = tt
payload_read limit version (Some bytes) is = some_before kind_of (result_ok (whole (payload_at (λ _. unit_at) (λ _ _. true) limit version bytes))) is

module _ (script : Script) (plain : script.addressed ≡ false) (reshares : script.config.oneshot ≡ None) where
  abbrev limit : ℕ
  limit = non_zero_u32_get script.config.limit

  abbrev version : ℕ
  version = script.config.max_mode.0

  limit_is : limit_of script.config ≡ limit
  limit_is = ap (λ (oneshot : Option (List ℕ)). option_map_or (λ participants. max 1 (length participants)) oneshot limit) reshares

  block_read : (done : List BlockLine) (block : BlockLine) → IsBlockLine script.addressed script.config done block → IsBlockIn script block
  block_read done block its =
      let read : is_payload false limit version block.payload ≡ true =
      ap (λ (addressed : Bool). is_payload addressed limit version block.payload) (sym plain)
      ∙ ap (λ (most : ℕ). is_payload script.addressed most version block.payload) (sym limit_is) ∙ its.carried in
      payload_read limit version block.payload read

  blocks_read : (done blocks : List BlockLine) → FitAfter (IsBlockLine script.addressed script.config) done blocks → AllByRecursion (IsBlockIn script) blocks
  blocks_read done [] fit = tt
  blocks_read done (block ∷ blocks) fit = (block_read done block fit.0, blocks_read (done ++ block ∷ []) blocks fit.1)

blocks_placed : (script : Script) (done blocks : List BlockLine) → FitAfter (IsBlockLine script.addressed script.config) done blocks → AllByRecursion (λ (block : BlockLine). block.height < 2 ^ 64) blocks
blocks_placed script done [] fit = tt
blocks_placed script done (block ∷ blocks) fit = (fit.0.height, blocks_placed script (done ++ block ∷ []) blocks fit.1)

module _ (blocks : List BlockLine) where
  block_there : (lines : List BlockLine) (number : ℕ) → number < length lines → IsSome (slice_get lines number)
  block_there [] number below = absurd (omega (arith, below))
  block_there (line ∷ lines) zero below = refl
  block_there (line ∷ lines) (suc number) below = block_there lines number (omega (arith, below))

  above_zero : (number : ℕ) → absent_from blocks number ≡ Some (Absent number) → IsSomeAnd (slice_get blocks number) (λ block. 0 < block.height)
  above_zero number is = by_line (slice_get blocks number) is
    where
      by_height : (height : ℕ) (b : Bool) → nat_lt 0 height ≡ b → ◌≡◌ {A = Option Anchor} (cond b (Some (Absent number)) None) (Some (Absent number)) → 0 < height
      by_height height true low is = ltb-true 0 height low
      by_height height false low is = absurd cc

      by_line : (o : Option BlockLine) → (o >>= λ block. cond (nat_lt 0 block.height) (Some (Absent number)) None) ≡ Some (Absent number) → IsSomeAnd o (λ block. 0 < block.height)
      by_line None is = absurd cc
      by_line (Some block) is = by_height block.height (nat_lt 0 block.height) refl is

  anchor_in : (anchor : Option Anchor) → IfSome anchor (IsAnchor blocks) → IfSome anchor (IsAnchorIn blocks)
  anchor_in None its = tt
  anchor_in (Some (Processed number)) its = block_there blocks number its.1
  anchor_in (Some (Absent number)) its = above_zero number its.1

anchors_in : (script : Script) (done lives : List Life) → FitAfter (λ _. IsLife script.addressed script.config script.blocks) done lives
    → AllByRecursion (λ life. IfSome life.anchor (IsAnchorIn script.blocks)) lives
anchors_in script done [] fit = tt
anchors_in script done (life ∷ lives) fit = (anchor_in script.blocks life.anchor fit.0.anchor, anchors_in script (done ++ life ∷ []) lives fit.1)

-- THE PLAYERS' EPOCHS

abbrev doubled : List ℕ → List (ℕ × ℕ)
doubled [] = []
doubled (key ∷ keys) = (key, key) ∷ doubled keys

doubled_keys : (keys : List ℕ) → keys_of (doubled keys) ≡ keys
doubled_keys [] = refl
doubled_keys (key ∷ keys) = ap (λ (rest : List ℕ). key ∷ rest) (doubled_keys keys)

doubled_more : (keys : List ℕ) (above : ℕ) → keys_of (doubled keys ++ (above, above) ∷ []) ≡ keys ++ above ∷ []
doubled_more [] above = refl
doubled_more (key ∷ keys) above = ap (λ (rest : List ℕ). key ∷ rest) (doubled_more keys above)

key_above : (keys : List ℕ) (key : ℕ) → IsStrictlyIncreasing keys → is_above keys key ≡ true → IsStrictlyIncreasing (keys ++ key ∷ [])
key_above keys key up above =
    subst IsStrictlyIncreasing (doubled_more keys key)
    (pair_above (doubled keys) (key, key) (subst IsStrictlyIncreasing (sym (doubled_keys keys)) up) (ap (λ (ks : List ℕ). is_above ks key) (doubled_keys keys) ∙ above))

epochs_more : (lines : List PlayerLine) (line : PlayerLine) → epochs_of (lines ++ line ∷ []) ≡ epochs_of lines ++ line.epoch ∷ []
epochs_more [] line = refl
epochs_more (first ∷ lines) line = ap (λ (rest : List ℕ). first.epoch ∷ rest) (epochs_more lines line)

players_rise : (done lines : List PlayerLine) → FitAfter IsPlayerLine done lines → IsStrictlyIncreasing (epochs_of done) → IsStrictlyIncreasing (epochs_of (done ++ lines))
players_rise done [] fit up = subst (λ (all : List PlayerLine). IsStrictlyIncreasing (epochs_of all)) (sym (append-nil done)) up
players_rise done (line ∷ lines) fit up =
    let more : IsStrictlyIncreasing (epochs_of (done ++ line ∷ [])) =
    subst IsStrictlyIncreasing (sym (epochs_more done line)) (key_above (epochs_of done) line.epoch up fit.0.above) in
    subst (λ (all : List PlayerLine). IsStrictlyIncreasing (epochs_of all)) (append_assoc done (line ∷ []) lines) (players_rise (done ++ line ∷ []) lines fit.1 more)

-- THE REQUESTS' NUMBERS

none_asked : (b : Bool) → not b ≡ true → b ≡ false
none_asked false is = refl
none_asked true is = absurd cc

asked_anew : (blocks : ℕ) (probe : Bool) (done : List Event) (event : Event) → is_allowed_event blocks probe done event ≡ true → IsAskedAnew done event
asked_anew blocks probe done (Info request) is = none_asked (is_asked done request) is
asked_anew blocks probe done _ is = tt

ask_anew : (blocks : ℕ) (probe : Bool) (done events : List Event) → FitAfter (IsEventAfter blocks probe) done events → FitAfter IsAskedAnew done events
ask_anew blocks probe done [] fit = tt
ask_anew blocks probe done (event ∷ events) fit = (asked_anew blocks probe done event fit.0.stands, ask_anew blocks probe (done ++ event ∷ []) events fit.1)

lives_ask_anew : (script : Script) (done lives : List Life) → FitAfter (λ _. IsLife script.addressed script.config script.blocks) done lives → AllByRecursion (λ life. AskAnew life.events) lives
lives_ask_anew script done [] fit = tt
lives_ask_anew script done (life ∷ lives) fit =
    (ask_anew (length script.blocks) (is_some script.config.probe) [] life.events fit.0.events, lives_ask_anew script (done ++ life ∷ []) lives fit.1)

pub is_of_text : (addressed : Bool) (bytes : List ℕ) (script : Script) → script_or_place addressed bytes ≡ Ok script → script.addressed ≡ false → script.config.oneshot ≡ None → IsOfText script
is_of_text addressed bytes script is plain reshares =
    let its = script_is addressed bytes script is in
    record {
      rising = rising_is (epochs_of script.config.players) (players_rise [] script.config.players its.config.players (is_rising [] refl));
      blocks = blocks_read script plain reshares [] script.blocks its.blocks;
      placed = blocks_placed script [] script.blocks its.blocks;
      anchors = anchors_in script [] script.lives its.lives;
      anew = lives_ask_anew script [] script.lives its.lives;
    }
