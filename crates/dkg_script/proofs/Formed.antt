-- A script of a text that passes the test is of the form that is run. One that doesn't is of another form, where its node is told nothing besides.
use Rattle.std.proofs.Common.{◌≡◌, ℕ, zero, suc, ◌<◌, ◌≤◌, ◌&&◌, ◌^◌, Bool, true, false, List, [], ◌∷◌, Option, Some, None, refl, sym, ap, subst, arith, length}
use Rattle.std.specs.Prelude.{◌==◌, not, is_some, slice_get, IfSome, IsSome}
use Rattle.std.specs.Bool.{OnFalse, OnTrue}
use Rattle.std.specs.Int.NonZero.{non_zero_u32_get, non_zero_u64_get}
use Rattle.std.specs.List.{AllByRecursion}
use Rattle.std.proofs.lemmas.Bool.{and_parts, le-leb, leb-true, lt-ltb, ltb-true}
use Rattle.dkg_text.specs.declared.script.BlockLine.{BlockLine}
use Rattle.dkg_text.specs.declared.script.Event.{Event}
use Rattle.dkg_text.specs.declared.script.Event.TheVariants.{Peer, Final, Next, Release, Info, Feed, Over, Cancel, Work}
use Rattle.dkg_text.specs.declared.script.Life.{Life}
use Rattle.dkg_text.specs.declared.script.Script.{Script}
use Rattle.dkg_script.specs.InForm.{IsOfText, IsToldNothing, are_events, are_lives, is_alone, is_in_form, is_event_in_form, is_key, is_life, is_limit, is_plain}
use Rattle.dkg_script.specs.Asked.{AskAnew}
use Rattle.dkg_script.specs.Epochs.{IsAnchorIn}
use Rattle.dkg_script.specs.Inclusion.{IsEventIn, IsFormOfInclusion}

none_of : {A : Type 0} (o : Option A) → not (is_some o) ≡ true → o ≡ None
none_of None e = refl
none_of (Some x) e = absurd cc

is_none_of : {A : Type 0} (o : Option A) → o ≡ None → not (is_some o) ≡ true
is_none_of None e = refl
is_none_of (Some x) e = absurd cc

both : (a b : Bool) → a ≡ true → b ≡ true → (a && b) ≡ true
both a b p q = rw (p, q) refl

there_is : (blocks : List BlockLine) (number : ℕ) → number < length blocks → IsSome (slice_get blocks number)
there_is [] number below = absurd (omega (arith, below))
there_is (block ∷ blocks) zero below = refl
there_is (block ∷ blocks) (suc number) below = there_is blocks number (omega (arith, below))

within : (blocks : List BlockLine) (number : ℕ) → IsSome (slice_get blocks number) → number < length blocks
within [] number there = absurd cc
within (block ∷ blocks) zero there = omega arith
within (block ∷ blocks) (suc number) there = let rest = within blocks number there in omega (arith, rest)

pub holds_at : {A : Type 0} (P : A → Type 0) (xs : List A) (i : ℕ) (x : A) → AllByRecursion P xs → slice_get xs i ≡ Some x → P x
holds_at P [] i x all is = absurd cc
holds_at {A} P (y ∷ ys) zero x all is = let same : y ≡ x = cc in subst P same all.0
holds_at P (y ∷ ys) (suc i) x all is = holds_at P ys i x all.1 is

holds_all : {A : Type 0} (P : A → Type 0) (xs : List A) → ((i : ℕ) (x : A) → slice_get xs i ≡ Some x → P x) → AllByRecursion P xs
holds_all P [] each = tt
holds_all P (x ∷ xs) each = (each zero x refl, holds_all P xs (λ i y is. each (suc i) y is))

-- THE LIVES

module _ (blocks : List BlockLine) where
  event_in : (event : Event) → is_event_in_form (length blocks) event ≡ true → IsEventIn blocks event
  event_in (Peer from bytes) e = ltb-true from (2 ^ 32) e
  event_in (Final number) e = there_is blocks number (ltb-true number (length blocks) e)
  event_in (Next request height) e = tt
  event_in (Release height) e = tt
  event_in (Info request) e = tt
  event_in (Feed request number) e = there_is blocks number (ltb-true number (length blocks) e)
  event_in (Over request) e = tt
  event_in (Cancel request) e = tt
  event_in Work e = tt
  event_in _ e = absurd cc

  event_passes : (event : Event) → IsEventIn blocks event → is_event_in_form (length blocks) event ≡ true
  event_passes (Peer from bytes) its = lt-ltb from (2 ^ 32) its
  event_passes (Final number) its = lt-ltb number (length blocks) (within blocks number its)
  event_passes (Next request height) its = refl
  event_passes (Release height) its = refl
  event_passes (Info request) its = refl
  event_passes (Feed request number) its = lt-ltb number (length blocks) (within blocks number its)
  event_passes (Over request) its = refl
  event_passes (Cancel request) its = refl
  event_passes Work its = refl
  event_passes _ its = absurd its

  events_in : (events : List Event) → are_events (length blocks) events ≡ true → AllByRecursion (IsEventIn blocks) events
  events_in [] e = tt
  events_in (event ∷ events) e =
      let parts = and_parts (is_event_in_form (length blocks) event) (are_events (length blocks) events) e in
      (event_in event parts.0, events_in events parts.1)

  events_pass : (events : List Event) → AllByRecursion (IsEventIn blocks) events → are_events (length blocks) events ≡ true
  events_pass [] its = refl
  events_pass (event ∷ events) its = both (is_event_in_form (length blocks) event) (are_events (length blocks) events) (event_passes event its.0) (events_pass events its.1)

  record IsTested (life : Life) : Type 0 where
    no_sync : life.sync ≡ None
    events : AllByRecursion (IsEventIn blocks) life.events

  life_tested : (life : Life) → is_life (length blocks) life ≡ true → IsTested life
  life_tested life e =
      let parts = and_parts (not (is_some life.sync)) (are_events (length blocks) life.events) e in
      record { no_sync = none_of life.sync parts.0; events = events_in life.events parts.1 }

  life_passes : (life : Life) → IsTested life → is_life (length blocks) life ≡ true
  life_passes life its = both (not (is_some life.sync)) (are_events (length blocks) life.events) (is_none_of life.sync its.no_sync) (events_pass life.events its.events)

  lives_tested : (lives : List Life) → are_lives (length blocks) lives ≡ true → AllByRecursion IsTested lives
  lives_tested [] e = tt
  lives_tested (life ∷ lives) e =
      let parts = and_parts (is_life (length blocks) life) (are_lives (length blocks) lives) e in
      (life_tested life parts.0, lives_tested lives parts.1)

  lives_pass : (lives : List Life) → AllByRecursion IsTested lives → are_lives (length blocks) lives ≡ true
  lives_pass [] its = refl
  lives_pass (life ∷ lives) its = both (is_life (length blocks) life) (are_lives (length blocks) lives) (life_passes life its.0) (lives_pass lives its.1)

-- THE SCRIPT

unaddressed : (addressed : Bool) → not addressed ≡ true → addressed ≡ false
unaddressed false e = refl
unaddressed true e = absurd cc

-- what is tested beside the lives
pub record HasPassed (script : Script) : Type 0 where
  pub plain : script.addressed ≡ false
  pub reshares : script.config.oneshot ≡ None
  pub own : script.config.me < 2 ^ 32
  pub in_bound : non_zero_u32_get script.config.limit ≤ 2 ^ 30
  pub lives : are_lives (length script.blocks) script.lives ≡ true

pub has_passed : (script : Script) → is_in_form script ≡ true → HasPassed script
unfolding is_in_form
has_passed script e =
    let config = script.config in
    let outer = and_parts (not script.addressed && is_plain config) (are_lives (length script.blocks) script.lives) e in
    let inner = and_parts (not script.addressed) (is_plain config) outer.0 in
    let keyed = and_parts (is_alone config && is_limit config) (is_key config.me) inner.1 in
    let limited = and_parts (is_alone config) (is_limit config) keyed.0 in
    let probed = and_parts (not (is_some config.oneshot) && (length config.addresses == 0)) (not (is_some config.probe)) limited.0 in
    let shot = and_parts (not (is_some config.oneshot)) (length config.addresses == 0) probed.0 in
    record {
      plain = unaddressed script.addressed inner.0;
      reshares = none_of config.oneshot shot.0;
      own = ltb-true config.me (2 ^ 32) keyed.1;
      in_bound = leb-true (non_zero_u32_get config.limit) (2 ^ 30) limited.1;
      lives = outer.1;
    }

pub form_if_passed : (script : Script) → is_in_form script ≡ true → non_zero_u64_get script.config.blocks_per_epoch < 2 ^ 64 → IsOfText script → IsFormOfInclusion script
form_if_passed script e short of_text =
    let passed = has_passed script e in
    let tested = lives_tested script.blocks script.lives passed.lives in
    record {
      plain = passed.plain;
      reshares = passed.reshares;
      own = passed.own;
      in_bound = passed.in_bound;
      short = short;
      rising = of_text.rising;
      blocks = of_text.blocks;
      placed = of_text.placed;
      lives = λ l life is.
          let its = holds_at (IsTested script.blocks) script.lives l life tested is in
          record {
            anchor = holds_at (λ (life : Life). IfSome life.anchor (IsAnchorIn script.blocks)) script.lives l life of_text.anchors is;
            no_sync = its.no_sync;
            events = its.events;
            anew = holds_at (λ (life : Life). AskAnew life.events) script.lives l life of_text.anew is;
          };
    }

pub passed_if_form : (script : Script) → IsFormOfInclusion script → IsToldNothing script.config → is_in_form script ≡ true
unfolding is_in_form
passed_if_form script form nothing =
    let config = script.config in
    let no_address : (length config.addresses == 0) ≡ true = rw nothing.0 refl in
    let alone_is : is_alone config ≡ true =
    both (not (is_some config.oneshot) && (length config.addresses == 0)) (not (is_some config.probe))
    (both (not (is_some config.oneshot)) (length config.addresses == 0) (is_none_of config.oneshot form.reshares) no_address) (is_none_of config.probe nothing.1) in
    let limited : is_limit config ≡ true = le-leb (non_zero_u32_get config.limit) (2 ^ 30) form.in_bound in
    let keyed : is_key config.me ≡ true = lt-ltb config.me (2 ^ 32) form.own in
    let plain : is_plain config ≡ true = both (is_alone config && is_limit config) (is_key config.me) (both (is_alone config) (is_limit config) alone_is limited) keyed in
    let tested = holds_all (IsTested script.blocks) script.lives (λ l life is. let its = form.lives l life is in record { no_sync = its.no_sync; events = its.events }) in
    both (not script.addressed && is_plain config) (are_lives (length script.blocks) script.lives)
    (both (not script.addressed) (is_plain config) (ap not form.plain) plain) (lives_pass script.blocks script.lives tested)

-- WHAT THE TEST ANSWERS

pub told_form : (script : Script) (yes : Bool) → yes ≡ is_in_form script → non_zero_u64_get script.config.blocks_per_epoch < 2 ^ 64 → OnTrue yes (IsOfText script → IsFormOfInclusion script)
told_form script true is short = λ of_text. form_if_passed script (sym is) short of_text
told_form script false is short = tt

pub told_other : (script : Script) (yes : Bool) → yes ≡ is_in_form script → OnFalse yes (IsFormOfInclusion script → IsToldNothing script.config → ⊥)
told_other script true is = tt
told_other script false is = λ form nothing. differ (is_in_form script) (sym is) (passed_if_form script form nothing)
  where
    differ : (b : Bool) → b ≡ false → b ≡ true → ⊥
    differ b is_not is = cc

-- .. and of a text's script that passed
pub form_told : (script : Script) (yes : Bool) → yes ≡ true → OnTrue yes (IsOfText script → IsFormOfInclusion script) → IsOfText script → IsFormOfInclusion script
form_told script true is told of_text = told of_text
form_told script false is told of_text = absurd cc
