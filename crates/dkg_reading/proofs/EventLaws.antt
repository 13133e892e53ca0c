-- The lines of events have one spelling for each event.
use Rattle.std.proofs.Common.{◌≡◌, ℕ, ◌<◌, ◌^◌, ◌&&◌, ◌||◌, Bool, true, false, cond, not, List, [], ◌∷◌, ◌++◌, length, decimal, Option, Some, None, Ok, refl, sym, ap, subst, ◌∙◌, append-nil, length-append, arith}
use Rattle.std.specs.Prelude.{codes}
use Rattle.std.specs.List.{list_any}
use Rattle.std.specs.Str.{bytes_eq}
use Rattle.std.proofs.lemmas.Slice.Eq.{bytes_eq-Decides}
use Rattle.hex.specs.Hex.{IsBytes}
use Rattle.dkg_text.specs.declared.script.Event.{Event}
use Rattle.dkg_text.specs.declared.script.Event.TheVariants.{Peer, Final, Next, Release, Info, Feed, Over, Cancel, Work, Prepare, Propose, Verify, Later, Subscribe, Unsubscribe, Attach, Reply, Retry}
use Rattle.dkg_reading.specs.Allowed.{Is32, Is64, IsEventAfter, IsEventInRange}
use Rattle.dkg_text.specs.Fields.{bytes_field, hex_text, number_field}
use Rattle.dkg_reading.specs.Grammar.{event_line_after, event_line_at, event_named, event_row, event_table, is_allowed_event, is_eventful}
use Rattle.dkg_reading.specs.Lines.{begins, front_of}
use Rattle.dkg_reading.specs.Rows.{Row, all, bytes_of, field, no_fields, number_below, decimal_of, two, whole_row, ◌>>=◌}
use Rattle.dkg_reading.specs.Spells.{AreFieldTexts, IsFieldText, IsLastRow, IsLine, spaced}
use Rattle.dkg_text.specs.Writing.{with_line_feed, event_line, event_text, numbers_fields}
use Rattle.dkg_reading.proofs.ConfigLaws.{is_plain, number_32_row, number_row, plain_name}
use Rattle.dkg_reading.proofs.FieldLaws.{bytes_law, number_law}
use Rattle.dkg_reading.proofs.Guards.{allowed_ok, bind_some, if_some, some_is}
use Rattle.dkg_reading.proofs.LifeLaws.{index_each, indexes_row}
use Rattle.dkg_reading.proofs.LineLaws.{HasName, IsAmong, begins_as, ended_before, neither, not_begun, whole_found}
use Rattle.dkg_reading.proofs.RowLaws.{key_law, nothing_law, two_law}
use Rattle.dkg_reading.proofs.Split.{front_again, front_found}

-- ROWS OF TWO FIELDS

abbrev IsMessage : ℕ × List ℕ → Type 0
IsMessage p = Is32 p.0 × IsBytes p.1

message_row : IsLastRow IsMessage (λ p. number_field p.0 ++ bytes_field p.1) (two (number_below (2 ^ 32)) bytes_of)
message_row = two_law Is32 decimal (number_below (2 ^ 32)) key_law IsBytes hex_text bytes_of bytes_law

abbrev AreTwo : ℕ × ℕ → Type 0
AreTwo p = Is64 p.0 × Is64 p.1

two_row : IsLastRow AreTwo (λ p. number_field p.0 ++ number_field p.1) (two decimal_of decimal_of)
two_row = two_law Is64 decimal decimal_of number_law Is64 decimal decimal_of number_law

abbrev IsFed : ℕ × ℕ → Type 0
IsFed p = Is64 p.0 × Is32 p.1

fed_row : IsLastRow IsFed (λ p. number_field p.0 ++ number_field p.1) (two decimal_of (number_below (2 ^ 32)))
fed_row = two_law Is64 decimal decimal_of number_law Is32 decimal (number_below (2 ^ 32)) key_law

abbrev IsFrom : ℕ × ℕ → Type 0
IsFrom p = Is32 p.0 × Is64 p.1

from_row : IsLastRow IsFrom (λ p. number_field p.0 ++ number_field p.1) (two (number_below (2 ^ 32)) decimal_of)
from_row = two_law Is32 decimal (number_below (2 ^ 32)) key_law Is64 decimal decimal_of number_law

-- THE TABLE

-- an event whose line has this name and these fields
abbrev IsNamed : (name : List ℕ) → List (List ℕ) → Event → Type 0
IsNamed name fields event = IsEventInRange event × (name ++ spaced fields ≡ event_text event)

module _ {A : Type 0} (name : List ℕ) (fits : A → Type 0) (text : A → List ℕ) (row : Row A) (law : IsLastRow fits text row) (make : A → Event)
    (range : (x : A) → fits x → IsEventInRange (make x)) (is : (x : A) → name ++ text x ≡ event_text (make x)) where
  row_found : (fields : List (List ℕ)) (event : Event) → event_row row make fields ≡ Some event → IsNamed name fields event
  row_found fields event e =
      let b = bind_some (whole_row (row fields)) (λ x. Some (make x)) event e in
      let f = law.found fields b.0 [] (whole_found (row fields) b.0 b.1) in
      let text_is : name ++ spaced fields ≡ event_text (make b.0) = ap (λ (t : List ℕ). name ++ t) (f.1 ∙ append-nil (text b.0)) ∙ is b.0 in
      subst (IsNamed name fields) (some_is (make b.0) event b.2) (range b.0 f.0, text_is)

  -- fields that spell the event
  record IsRowOf (event : Event) : Type 0 where
    fields : List (List ℕ)
    plain : AreFieldTexts fields
    text_is : name ++ spaced fields ≡ event_text event
    reads : event_row row make fields ≡ Some event

  row_again : (x : A) → fits x → IsRowOf (make x)
  row_again x fit =
      let s = law.again x fit in
      record { fields = s.fields; plain = s.plain; text_is = ap (λ (t : List ℕ). name ++ t) s.text_is ∙ is x; reads = rw s.reads refl }

-- a name and fields whose event is this
record IsSpeltEvent (event : Event) : Type 0 where
  name : List ℕ
  fields : List (List ℕ)
  plain_text : IsFieldText name
  plain : AreFieldTexts fields
  text_is : name ++ spaced fields ≡ event_text event
  reads : event_named name fields ≡ Some event
  no_cut : bytes_eq name (codes "cut") ≡ false
  no_stop : bytes_eq name (codes "stop") ≡ false
  no_early : list_any (bytes_eq name) (codes "processed" ∷ codes "absent" ∷ codes "held" ∷ codes "sync" ∷ []) ≡ false

-- one more row of the table
or_named : (name other : List ℕ) (fields : List (List ℕ)) (o rest : Option Event) (event : Event)
    → ((e : o ≡ Some event) → IsNamed other fields event) → (rest ≡ Some event → IsNamed name fields event) → cond (bytes_eq name other) o rest ≡ Some event → IsNamed name fields event
or_named name other fields o rest event here more e = by_case (bytes_eq name other) refl e
  where
    by_case : (b : Bool) → bytes_eq name other ≡ b → cond b o rest ≡ Some event → IsNamed name fields event
    by_case true same e = let is : name ≡ other = (bytes_eq-Decides name other).0 same in subst (λ (n : List ℕ). IsNamed n fields event) (sym is) (here e)
    by_case false same e = more e

no_event : (name : List ℕ) (fields : List (List ℕ)) (event : Event) → None ≡ Some event → IsNamed name fields event
no_event name fields event e = cc e

pub event_found : (name : List ℕ) (fields : List (List ℕ)) (event : Event) → event_named name fields ≡ Some event → IsNamed name fields event
unfolding event_table
event_found name fields event e =
    or_named name (codes "peer") fields _ _ event (row_found (codes "peer") IsMessage (λ p. number_field p.0 ++ bytes_field p.1) (two (number_below (2 ^ 32)) bytes_of) message_row (λ x. Peer x.0 x.1) (λ x fit. fit) (λ x. refl) fields event) (λ e.
    or_named name (codes "final") fields _ _ event (row_found (codes "final") Is32 number_field (field (number_below (2 ^ 32))) number_32_row (λ x. Final x) (λ x fit. fit) (λ x. refl) fields event) (λ e.
    or_named name (codes "next") fields _ _ event (row_found (codes "next") AreTwo (λ p. number_field p.0 ++ number_field p.1) (two decimal_of decimal_of) two_row (λ x. Next x.0 x.1) (λ x fit. fit) (λ x. refl) fields event) (λ e.
    or_named name (codes "release") fields _ _ event (row_found (codes "release") Is64 number_field (field decimal_of) number_row (λ x. Release x) (λ x fit. fit) (λ x. refl) fields event) (λ e.
    or_named name (codes "info") fields _ _ event (row_found (codes "info") Is64 number_field (field decimal_of) number_row (λ x. Info x) (λ x fit. fit) (λ x. refl) fields event) (λ e.
    or_named name (codes "feed") fields _ _ event (row_found (codes "feed") IsFed (λ p. number_field p.0 ++ number_field p.1) (two decimal_of (number_below (2 ^ 32))) fed_row (λ x. Feed x.0 x.1) (λ x fit. fit) (λ x. refl) fields event) (λ e.
    or_named name (codes "over") fields _ _ event (row_found (codes "over") Is64 number_field (field decimal_of) number_row (λ x. Over x) (λ x fit. fit) (λ x. refl) fields event) (λ e.
    or_named name (codes "cancel") fields _ _ event (row_found (codes "cancel") Is64 number_field (field decimal_of) number_row (λ x. Cancel x) (λ x fit. fit) (λ x. refl) fields event) (λ e.
    or_named name (codes "work") fields _ _ event (row_found (codes "work") (λ x. Unit {0}) (λ x. []) no_fields nothing_law (λ x. Work) (λ x fit. fit) (λ x. refl) fields event) (λ e.
    or_named name (codes "prepare") fields _ _ event (row_found (codes "prepare") index_each numbers_fields (all (number_below (2 ^ 32))) indexes_row (λ x. Prepare x) (λ x fit. fit) (λ x. refl) fields event) (λ e.
    or_named name (codes "propose") fields _ _ event (row_found (codes "propose") index_each numbers_fields (all (number_below (2 ^ 32))) indexes_row (λ x. Propose x) (λ x fit. fit) (λ x. refl) fields event) (λ e.
    or_named name (codes "verify") fields _ _ event (row_found (codes "verify") index_each numbers_fields (all (number_below (2 ^ 32))) indexes_row (λ x. Verify x) (λ x fit. fit) (λ x. refl) fields event) (λ e.
    or_named name (codes "later") fields _ _ event (row_found (codes "later") IsFrom (λ p. number_field p.0 ++ number_field p.1) (two (number_below (2 ^ 32)) decimal_of) from_row (λ x. Later x.0 x.1) (λ x fit. fit) (λ x. refl) fields event) (λ e.
    or_named name (codes "subscribe") fields _ _ event (row_found (codes "subscribe") (λ x. Unit {0}) (λ x. []) no_fields nothing_law (λ x. Subscribe) (λ x fit. fit) (λ x. refl) fields event) (λ e.
    or_named name (codes "unsubscribe") fields _ _ event (row_found (codes "unsubscribe") (λ x. Unit {0}) (λ x. []) no_fields nothing_law (λ x. Unsubscribe) (λ x fit. fit) (λ x. refl) fields event) (λ e.
    or_named name (codes "attach") fields _ _ event (row_found (codes "attach") (λ x. Unit {0}) (λ x. []) no_fields nothing_law (λ x. Attach) (λ x fit. fit) (λ x. refl) fields event) (λ e.
    or_named name (codes "reply") fields _ _ event (row_found (codes "reply") IsMessage (λ p. number_field p.0 ++ bytes_field p.1) (two (number_below (2 ^ 32)) bytes_of) message_row (λ x. Reply x.0 x.1) (λ x fit. fit) (λ x. refl) fields event) (λ e.
    or_named name (codes "retry") fields _ _ event (row_found (codes "retry") (λ x. Unit {0}) (λ x. []) no_fields nothing_law (λ x. Retry) (λ x fit. fit) (λ x. refl) fields event)
    (no_event name fields event) e) e) e) e) e) e) e) e) e) e) e) e) e) e) e) e) e) e

-- the row of an event, where its name is one of the table
spelt_as : {A : Type 0} (name : List ℕ) (row : Row A) (make : A → Event) (event : Event) (fields : List (List ℕ)) → is_plain name ≡ true → AreFieldTexts fields → name ++ spaced fields ≡ event_text event
    → event_named name fields ≡ event_row row make fields → event_row row make fields ≡ Some event → bytes_eq name (codes "cut") ≡ false → bytes_eq name (codes "stop") ≡ false
    → list_any (bytes_eq name) (codes "processed" ∷ codes "absent" ∷ codes "held" ∷ codes "sync" ∷ []) ≡ false → IsSpeltEvent event
spelt_as name row make event fields named plain text_is there reads no_cut no_stop no_early = record {
  name = name;
  fields = fields;
  plain_text = plain_name name named;
  plain = plain;
  text_is = text_is;
  reads = there ∙ reads;
  no_cut = no_cut;
  no_stop = no_stop;
  no_early = no_early;
}

event_spelt : (event : Event) → IsEventInRange event → IsSpeltEvent event
unfolding event_table
event_spelt (Peer from bytes) fit =
    let s = row_again (codes "peer") IsMessage (λ p. number_field p.0 ++ bytes_field p.1) (two (number_below (2 ^ 32)) bytes_of) message_row (λ x. Peer x.0 x.1) (λ x f. f) (λ x. refl) (from, bytes) fit in
    spelt_as (codes "peer") (two (number_below (2 ^ 32)) bytes_of) (λ x. Peer x.0 x.1) (Peer from bytes) s.fields refl s.plain s.text_is refl s.reads refl refl refl
event_spelt (Final block) fit =
    let s = row_again (codes "final") Is32 number_field (field (number_below (2 ^ 32))) number_32_row (λ x. Final x) (λ x f. f) (λ x. refl) block fit in
    spelt_as (codes "final") (field (number_below (2 ^ 32))) (λ x. Final x) (Final block) s.fields refl s.plain s.text_is refl s.reads refl refl refl
event_spelt (Next request height) fit =
    let s = row_again (codes "next") AreTwo (λ p. number_field p.0 ++ number_field p.1) (two decimal_of decimal_of) two_row (λ x. Next x.0 x.1) (λ x f. f) (λ x. refl) (request, height) fit in
    spelt_as (codes "next") (two decimal_of decimal_of) (λ x. Next x.0 x.1) (Next request height) s.fields refl s.plain s.text_is refl s.reads refl refl refl
event_spelt (Release height) fit =
    let s = row_again (codes "release") Is64 number_field (field decimal_of) number_row (λ x. Release x) (λ x f. f) (λ x. refl) height fit in
    spelt_as (codes "release") (field decimal_of) (λ x. Release x) (Release height) s.fields refl s.plain s.text_is refl s.reads refl refl refl
event_spelt (Info request) fit =
    let s = row_again (codes "info") Is64 number_field (field decimal_of) number_row (λ x. Info x) (λ x f. f) (λ x. refl) request fit in
    spelt_as (codes "info") (field decimal_of) (λ x. Info x) (Info request) s.fields refl s.plain s.text_is refl s.reads refl refl refl
event_spelt (Feed request block) fit =
    let s = row_again (codes "feed") IsFed (λ p. number_field p.0 ++ number_field p.1) (two decimal_of (number_below (2 ^ 32))) fed_row (λ x. Feed x.0 x.1) (λ x f. f) (λ x. refl) (request, block) fit in
    spelt_as (codes "feed") (two decimal_of (number_below (2 ^ 32))) (λ x. Feed x.0 x.1) (Feed request block) s.fields refl s.plain s.text_is refl s.reads refl refl refl
event_spelt (Over request) fit =
    let s = row_again (codes "over") Is64 number_field (field decimal_of) number_row (λ x. Over x) (λ x f. f) (λ x. refl) request fit in
    spelt_as (codes "over") (field decimal_of) (λ x. Over x) (Over request) s.fields refl s.plain s.text_is refl s.reads refl refl refl
event_spelt (Cancel request) fit =
    let s = row_again (codes "cancel") Is64 number_field (field decimal_of) number_row (λ x. Cancel x) (λ x f. f) (λ x. refl) request fit in
    spelt_as (codes "cancel") (field decimal_of) (λ x. Cancel x) (Cancel request) s.fields refl s.plain s.text_is refl s.reads refl refl refl
event_spelt Work fit =
    let s = row_again (codes "work") (λ x. Unit {0}) (λ x. []) no_fields nothing_law (λ x. Work) (λ x f. f) (λ x. refl) tt fit in
    spelt_as (codes "work") no_fields (λ x. Work) Work s.fields refl s.plain s.text_is refl s.reads refl refl refl
event_spelt (Prepare ancestry) fit =
    let s = row_again (codes "prepare") index_each numbers_fields (all (number_below (2 ^ 32))) indexes_row (λ x. Prepare x) (λ x f. f) (λ x. refl) ancestry fit in
    spelt_as (codes "prepare") (all (number_below (2 ^ 32))) (λ x. Prepare x) (Prepare ancestry) s.fields refl s.plain s.text_is refl s.reads refl refl refl
event_spelt (Propose ancestry) fit =
    let s = row_again (codes "propose") index_each numbers_fields (all (number_below (2 ^ 32))) indexes_row (λ x. Propose x) (λ x f. f) (λ x. refl) ancestry fit in
    spelt_as (codes "propose") (all (number_below (2 ^ 32))) (λ x. Propose x) (Propose ancestry) s.fields refl s.plain s.text_is refl s.reads refl refl refl
event_spelt (Verify ancestry) fit =
    let s = row_again (codes "verify") index_each numbers_fields (all (number_below (2 ^ 32))) indexes_row (λ x. Verify x) (λ x f. f) (λ x. refl) ancestry fit in
    spelt_as (codes "verify") (all (number_below (2 ^ 32))) (λ x. Verify x) (Verify ancestry) s.fields refl s.plain s.text_is refl s.reads refl refl refl
event_spelt (Later from epoch) fit =
    let s = row_again (codes "later") IsFrom (λ p. number_field p.0 ++ number_field p.1) (two (number_below (2 ^ 32)) decimal_of) from_row (λ x. Later x.0 x.1) (λ x f. f) (λ x. refl) (from, epoch) fit in
    spelt_as (codes "later") (two (number_below (2 ^ 32)) decimal_of) (λ x. Later x.0 x.1) (Later from epoch) s.fields refl s.plain s.text_is refl s.reads refl refl refl
event_spelt Subscribe fit =
    let s = row_again (codes "subscribe") (λ x. Unit {0}) (λ x. []) no_fields nothing_law (λ x. Subscribe) (λ x f. f) (λ x. refl) tt fit in
    spelt_as (codes "subscribe") no_fields (λ x. Subscribe) Subscribe s.fields refl s.plain s.text_is refl s.reads refl refl refl
event_spelt Unsubscribe fit =
    let s = row_again (codes "unsubscribe") (λ x. Unit {0}) (λ x. []) no_fields nothing_law (λ x. Unsubscribe) (λ x f. f) (λ x. refl) tt fit in
    spelt_as (codes "unsubscribe") no_fields (λ x. Unsubscribe) Unsubscribe s.fields refl s.plain s.text_is refl s.reads refl refl refl
event_spelt Attach fit =
    let s = row_again (codes "attach") (λ x. Unit {0}) (λ x. []) no_fields nothing_law (λ x. Attach) (λ x f. f) (λ x. refl) tt fit in
    spelt_as (codes "attach") no_fields (λ x. Attach) Attach s.fields refl s.plain s.text_is refl s.reads refl refl refl
event_spelt (Reply from bytes) fit =
    let s = row_again (codes "reply") IsMessage (λ p. number_field p.0 ++ bytes_field p.1) (two (number_below (2 ^ 32)) bytes_of) message_row (λ x. Reply x.0 x.1) (λ x f. f) (λ x. refl) (from, bytes) fit in
    spelt_as (codes "reply") (two (number_below (2 ^ 32)) bytes_of) (λ x. Reply x.0 x.1) (Reply from bytes) s.fields refl s.plain s.text_is refl s.reads refl refl refl
event_spelt Retry fit =
    let s = row_again (codes "retry") (λ x. Unit {0}) (λ x. []) no_fields nothing_law (λ x. Retry) (λ x f. f) (λ x. refl) tt fit in
    spelt_as (codes "retry") no_fields (λ x. Retry) Retry s.fields refl s.plain s.text_is refl s.reads refl refl refl

-- ---- what does not begin the part of a life before its events
pub record IsNoEarlier (text : List ℕ) : Type 0 where
  pub processed : begins (codes "processed") text ≡ false
  pub absent : begins (codes "absent") text ≡ false
  pub held : begins (codes "held") text ≡ false
  pub sync : begins (codes "sync") text ≡ false

of_name : (name text : List ℕ) → HasName name text → list_any (bytes_eq name) (codes "processed" ∷ codes "absent" ∷ codes "held" ∷ codes "sync" ∷ []) ≡ false → IsNoEarlier text
of_name name text has none =
    let one = neither (bytes_eq name (codes "processed")) (list_any (bytes_eq name) (codes "absent" ∷ codes "held" ∷ codes "sync" ∷ [])) none in
    let two = neither (bytes_eq name (codes "absent")) (list_any (bytes_eq name) (codes "held" ∷ codes "sync" ∷ [])) one.1 in
    let three = neither (bytes_eq name (codes "held")) (list_any (bytes_eq name) (codes "sync" ∷ [])) two.1 in
    let four = neither (bytes_eq name (codes "sync")) false three.1 in
    record {
      processed = begins_as name (codes "processed") text has ∙ one.0;
      absent = begins_as name (codes "absent") text has ∙ two.0;
      held = begins_as name (codes "held") text has ∙ three.0;
      sync = begins_as name (codes "sync") text has ∙ four.0;
    }

pub of_among : (names : List (List ℕ)) (text : List ℕ) → IsAmong names text → list_any (λ n. bytes_eq n (codes "processed")) names ≡ false → list_any (λ n. bytes_eq n (codes "absent")) names ≡ false
    → list_any (λ n. bytes_eq n (codes "held")) names ≡ false → list_any (λ n. bytes_eq n (codes "sync")) names ≡ false → IsNoEarlier text
of_among names text among a b c d = record {
  processed = not_begun (codes "processed") names text among a;
  absent = not_begun (codes "absent") names text among b;
  held = not_begun (codes "held") names text among c;
  sync = not_begun (codes "sync") names text among d;
}

pub eventless : (text : List ℕ) → IsAmong (codes "cut" ∷ codes "stop" ∷ []) text → is_eventful text ≡ false
unfolding is_eventful
eventless text among = by_case (bytes_eq among.name (codes "cut")) refl (bytes_eq among.name (codes "stop")) refl among.one_of
  where
    cut_is : begins (codes "cut") text ≡ bytes_eq among.name (codes "cut")
    cut_is = begins_as among.name (codes "cut") text among.has

    stop_is : begins (codes "stop") text ≡ bytes_eq among.name (codes "stop")
    stop_is = begins_as among.name (codes "stop") text among.has

    by_case : (a : Bool) → bytes_eq among.name (codes "cut") ≡ a → (b : Bool) → bytes_eq among.name (codes "stop") ≡ b → (a || (b || false)) ≡ true → (not (begins (codes "cut") text) && not (begins (codes "stop") text)) ≡ false
    by_case true a b e one = rw (cut_is, a) refl
    by_case false a true e one = rw (cut_is, a, stop_is, e) refl
    by_case false a false e one = cc one

pub long : (text : List ℕ) → 0 < length (with_line_feed text)
long text = let size = length-append text (10 ∷ []) in omega (arith, size)

-- LINES OF EVENTS

module _ (blocks : ℕ) (probe : Bool) where
  line_found : (done : List Event) (text : List ℕ) (event : Event) (rest : List ℕ) → event_line_at blocks probe done text ≡ Ok (event, rest) → IsEventAfter blocks probe done event × (text ≡ event_line event ++ rest)
  unfolding event_line_at
  line_found done text event rest e =
      let o = allowed_ok text (front_of text >>= event_line_after blocks probe done) (event, rest) e in
      let l = bind_some (front_of text) (event_line_after blocks probe done) (event, rest) o in
      let v = bind_some (event_named l.0.0 l.0.1.0) (λ x. cond (is_allowed_event blocks probe done x) (Some (x, l.0.1.1)) None) (event, rest) l.2 in
      let g = if_some (is_allowed_event blocks probe done v.0) (Some (v.0, l.0.1.1)) (event, rest) v.2 in
      let named = event_found l.0.0 l.0.1.0 v.0 v.1 in
      let there : text ≡ event_line v.0 ++ l.0.1.1 = front_found text l.0 l.1 ∙ (ap (λ (t : List ℕ). t ++ 10 ∷ l.0.1.1) named.1 ∙ sym (ended_before (event_text v.0) l.0.1.1)) in
      subst (λ (z : Event × List ℕ). IsEventAfter blocks probe done z.0 × (text ≡ event_line z.0 ++ z.1)) (some_is (v.0, l.0.1.1) (event, rest) g.1)
      (record { range = named.0; stands = g.0 }, there)

  front_is : (event : Event) (rest : List ℕ) (s : IsSpeltEvent event) → front_of (event_line event ++ rest) ≡ Some (s.name, (s.fields, rest))
  front_is event rest s =
      let line : event_line event ++ rest ≡ (s.name ++ spaced s.fields) ++ 10 ∷ rest = ended_before (event_text event) rest ∙ ap (λ (u : List ℕ). u ++ 10 ∷ rest) (sym s.text_is) in
      ap front_of line ∙ front_again s.name s.fields rest s.plain_text s.plain

  read_front : (done : List Event) (text : List ℕ) (name : List ℕ) (fields : List (List ℕ)) (event : Event) (rest : List ℕ) → front_of text ≡ Some (name, (fields, rest)) → event_named name fields ≡ Some event → is_allowed_event blocks probe done event ≡ true
      → event_line_at blocks probe done text ≡ Ok (event, rest)
  unfolding event_line_at
  read_front done text name fields event rest front reads stands = rw (front, reads, stands) refl

  pub events_law : (done : List Event) → IsLine (IsEventAfter blocks probe done) event_line (event_line_at blocks probe done)
  events_law done = record {
    found = line_found done;
    again = λ event rest fit.
        let s = event_spelt event fit.range in
        read_front done (event_line event ++ rest) s.name s.fields event rest (front_is event rest s) s.reads fit.stands;
  }

  named_so : (event : Event) (rest : List ℕ) (s : IsSpeltEvent event) → HasName s.name (event_line event ++ rest)
  named_so event rest s = record { fields = s.fields; behind = rest; front = front_is event rest s }

  pub goes_on : (done : List Event) (event : Event) (rest : List ℕ) → IsEventAfter blocks probe done event → is_eventful (event_line event ++ rest) ≡ true
  unfolding is_eventful
  goes_on done event rest fit =
      let s = event_spelt event fit.range in
      let has = named_so event rest s in
      rw (begins_as s.name (codes "cut") (event_line event ++ rest) has, s.no_cut, begins_as s.name (codes "stop") (event_line event ++ rest) has, s.no_stop) refl

  -- no line of what comes before the events
  pub no_earlier : (done : List Event) (event : Event) (rest : List ℕ) → IsEventAfter blocks probe done event → IsNoEarlier (event_line event ++ rest)
  no_earlier done event rest fit =
      let s = event_spelt event fit.range in
      let has = named_so event rest s in
      of_name s.name (event_line event ++ rest) has s.no_early

pub line_long : (event : Event) → 0 < length (event_line event)
line_long event = long (event_text event)
