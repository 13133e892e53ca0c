-- Reading a file, record by record.
use Rattle.std.proofs.Common.{◌≡◌, ◌≢◌, inl, inr, ℕ, suc, ◌+◌, ◌<◌, ◌≤◌, ◌^◌, Some, None, List, [], ◌∷◌, ◌++◌, length, map, take, drop, get_or, refl, sym, ◌∙◌, ap, subst, arith, append_assoc, length-append, take-append-drop}
use Rattle.std.specs.Int.{w32, from_be_bytes, to_be_bytes}
use Rattle.std.proofs.lemmas.List.{get_or_past, length-take-le, get_or-take, append-nil, map-append, nil_from_length}
use Rattle.std.proofs.lemmas.Nat.{be_bytes_4}
use Rattle.std.proofs.lemmas.Bool.{cases_lt}
use Rattle.std.proofs.lemmas.Bool.Decides.{nat_tests}
use Rattle.dkg_journal.specs.Records.{SectionEntry, number32, read32, record_of, spelled, IsBody, HasNoOpenGate, HasNoWholeRecord, RecordsFront, Whole, bodies, left_over, open_gate, broken_at, IsShut}
use Rattle.dkg_journal.specs.Gated.{gated, gated_from, FrontGated}
use Rattle.dkg_journal.specs.declared.opening.JournalEntry.{JournalEntry}
use Rattle.dkg_journal.proofs.Bytes.{spelled-push, short-push, read_spelled, shut_stops, length-number32, read32-number32}

-- the four bytes of a length, and the body behind them
pub body_is : (after : List ℕ) (len : ℕ) → ((i : ℕ) → get_or after i 0 < 256) → 4 ≤ length after → len ≡ read32 after → len ≤ length (drop 4 after) → (after ≡ number32 (length (take len (drop 4 after))) ++ (take len (drop 4 after) ++ drop len (drop 4 after))) × (length (take len (drop 4 after)) < 2 ^ 32)
unfolding number32 read32
body_is after len fits long is inside =
    let size : length (take len (drop 4 after)) ≡ len = length-take-le len (drop 4 after) inside in
    let head : to_be_bytes w32 len ≡ take 4 after = be_bytes_4 (take 4 after) len (length-take-le 4 after long) bytes is in (
      sym (take-append-drop 4 after) ∙ (λ i. (sym head ∙ ap (to_be_bytes w32) (sym size)) i ++ sym (take-append-drop len (drop 4 after)) i),
      small (omega (arith, is, size)) (λ i. fits i),
    )
  where
    bytes : (i : ℕ) → get_or (take 4 after) i 0 < 256
    bytes i = elim (cases_lt i 4) [ inl low ↦ rw get_or-take (fits i) | inr high ↦ rw (get_or_past (take 4 after) i 0 (omega (arith, length-take-le 4 after long))) (omega arith) ]

    small : length (take len (drop 4 after)) ≡ from_be_bytes w32 (take 4 after) → ((i : ℕ) → get_or after i 0 < 256) → length (take len (drop 4 after)) < 2 ^ 32
    small e f = omega (arith, e, bytes 0, bytes 1, bytes 2, bytes 3)

pub record_size : (body : List ℕ) → length (record_of body) ≡ 5 + length body
record_size body = omega (arith, length-append (number32 (length body)) body, length-number32 (length body))

-- one record more
pub front_more : (least : ℕ) (bs : List (List ℕ)) (place : ℕ) (bytes rest after body next : List ℕ) → RecordsFront least bs place bytes rest → rest ≡ 1 ∷ after → after ≡ number32 (length body) ++ (body ++ next) → IsBody least body → RecordsFront least (bs ++ body ∷ []) (place + (5 + length body)) bytes next
front_more least bs place bytes rest after body next front is_open is short =
    let whole : rest ≡ record_of body ++ next = is_open ∙ ap (λ (l : List ℕ). 1 ∷ l) (is ∙ sym (append_assoc (number32 (length body)) body next)) in
    record {
      split = front.split ∙ ap (λ (l : List ℕ). spelled bs ++ l) whole ∙ sym (append_assoc (spelled bs) (record_of body) next) ∙ ap (λ (l : List ℕ). l ++ next) (sym (spelled-push bs body));
      size = ap length (spelled-push bs body) ∙ omega (arith, front.size, length-append (spelled bs) (record_of body), record_size body);
      short = short-push least bs body front.short short;
    }

-- before the first record
pub front_none : (least : ℕ) (bytes : List ℕ) → RecordsFront least [] 0 bytes bytes
front_none least bytes = record { split = refl; size = refl; short = tt }

pub gated_none : (section : ℕ) (bytes : List ℕ) (before es : List JournalEntry) → es ≡ before → FrontGated section bytes bytes before es 0
gated_none section bytes before es same = record { bs = []; front = front_none 0 bytes; gates = ap (map gated) same ∙ sym (append-nil (map gated before)) }

gated_push : (section place : ℕ) (bs : List (List ℕ)) (b : List ℕ) → gated_from section place (bs ++ b ∷ []) ≡ gated_from section place bs ++ (section, (place + length (spelled bs)) ∷ b) ∷ []
gated_push section place [] b = ap (λ (n : ℕ). (section, n ∷ b) ∷ []) (omega arith)
gated_push section place (x ∷ xs) b =
    ap (λ (l : List SectionEntry). (section, place ∷ x) ∷ l) (gated_push section (place + (5 + length x)) xs b
    ∙ ap (λ (n : ℕ). gated_from section (place + (5 + length x)) xs ++ (section, n ∷ b) ∷ []) (omega (arith, record_size x, length-append (record_of x) (spelled xs))))

-- .. each with the place of its gate
pub gated_more : (section : ℕ) (bytes rest after : List ℕ) (before es es' : List JournalEntry) (e : JournalEntry) (place : ℕ) (body next : List ℕ) → FrontGated section bytes rest before es place → rest ≡ 1 ∷ after → after ≡ number32 (length body) ++ (body ++ next) → length body < 2 ^ 32
    → e.section ≡ section → e.place ≡ place → e.body ≡ body → es' ≡ es ++ e ∷ [] → FrontGated section bytes next before es' (place + (5 + length body))
gated_more section bytes rest after before es es' e place body next front is_open is short in_section stands same pushed =
    let from : e.place ≡ 0 + length (spelled front.bs) = stands ∙ sym front.front.size ∙ omega arith in
    record {
      bs = front.bs ++ body ∷ [];
      front = front_more 0 front.bs place bytes rest after body next front.front is_open is (omega arith, short);
      gates = ap (map gated) pushed ∙ map-append gated es (e ∷ [])
          ∙ (λ i. front.gates i ++ (in_section i, from i ∷ same i) ∷ [])
          ∙ append_assoc (map gated before) (gated_from section 0 front.bs) ((section, (0 + length (spelled front.bs)) ∷ body) ∷ [])
          ∙ ap (λ (l : List SectionEntry). map gated before ++ l) (sym (gated_push section 0 front.bs body));
    }

-- where a gate that isn't open stands, it is a file of records
pub whole_shut : (least : ℕ) (bs : List (List ℕ)) (place : ℕ) (bytes rest : List ℕ) (gate : ℕ) (junk : List ℕ) (front : RecordsFront least bs place bytes rest) → rest ≡ gate ∷ junk → gate ≢ 1 → IsShut least bs place bytes
whole_shut least bs place bytes rest gate junk front is shut = record {
  gate = gate;
  junk = junk;
  is = front.split ∙ ap (λ (l : List ℕ). spelled bs ++ l) is;
  shut = shut;
  size = front.size;
  short = front.short;
}

pub shut_whole : (least : ℕ) (bs : List (List ℕ)) (place : ℕ) (bytes : List ℕ) → IsShut least bs place bytes → Whole least bs place bytes
shut_whole least bs place bytes shut = record {
  rest = shut.gate ∷ shut.junk;
  front = record { split = shut.is; size = shut.size; short = shut.short };
  ends = shut.shut;
}

module _ (least : ℕ) (bs : List (List ℕ)) (place : ℕ) (bytes : List ℕ) (whole : Whole least bs place bytes) where
  ended_rest : length bytes ≤ place → whole.rest ≡ []
  ended_rest ended = nil_from_length whole.rest (omega (arith, ended, ap length whole.front.split, length-append (spelled bs) whole.rest, whole.front.size))

  -- a file whose last record ends it, with one gate more
  pub mended_shut : length bytes ≤ place → IsShut least bs place (bytes ++ 0 ∷ [])
  mended_shut ended = record {
    gate = 0;
    junk = [];
    is = ap (λ (l : List ℕ). l ++ 0 ∷ []) (whole.front.split ∙ ap (λ (l : List ℕ). spelled bs ++ l) (ended_rest ended) ∙ append-nil (spelled bs));
    shut = omega arith;
    size = whole.front.size;
    short = whole.front.short;
  }

  -- a file with a gate behind its last record
  pub gated_shut : place < length bytes → IsShut least bs place bytes
  gated_shut gated = by_rest whole.rest refl whole.ends
    where
      by_rest : (rest : List ℕ) → whole.rest ≡ rest → HasNoOpenGate rest → IsShut least bs place bytes
      by_rest [] is ends = absurd (omega (arith, ap length whole.front.split, length-append (spelled bs) whole.rest, whole.front.size, ap length is))
      by_rest (gate ∷ junk) is ends = whole_shut least bs place bytes whole.rest gate junk whole.front is ends

-- what the definitions read of a front
pub read_front : (least : ℕ) (bs : List (List ℕ)) (place : ℕ) (bytes rest : List ℕ) → RecordsFront least bs place bytes rest → HasNoWholeRecord least rest → (bodies least (length bytes) bytes ≡ bs) × (left_over least (length bytes) bytes ≡ rest)
read_front least bs place bytes rest front stops =
    let read = read_spelled least bs (length bytes) rest front.short stops (omega (arith, ap length front.split, length-append (spelled bs) rest)) in
    (ap (bodies least (length bytes)) front.split ∙ read.0, ap (left_over least (length bytes)) front.split ∙ read.1)

ends_stops : (least : ℕ) (rest : List ℕ) → HasNoOpenGate rest → HasNoWholeRecord least rest
ends_stops least [] ends = tt
ends_stops least (gate ∷ rest) ends = shut_stops least gate rest ends

no_gate : (n : ℕ) (rest : List ℕ) → HasNoOpenGate rest → open_gate n rest ≡ None
no_gate n [] ends = refl
no_gate n (gate ∷ rest) ends = grind (arith, nat_tests)

module _ (least : ℕ) (bs : List (List ℕ)) (place : ℕ) (bytes : List ℕ) (whole : Whole least bs place bytes) where
  read : (bodies least (length bytes) bytes ≡ bs) × (left_over least (length bytes) bytes ≡ whole.rest)
  read = read_front least bs place bytes whole.rest whole.front (ends_stops least whole.rest whole.ends)

  pub whole_bodies : bodies least (length bytes) bytes ≡ bs
  whole_bodies = read.0

  pub whole_rest : left_over least (length bytes) bytes ≡ whole.rest
  whole_rest = read.1

  -- .. and no record in it is broken
  pub whole_unbroken : broken_at least bytes ≡ None
  whole_unbroken = ap (open_gate (length bytes)) read.1 ∙ no_gate (length bytes) whole.rest whole.ends

  pub rest_size : length bytes ≡ place + length whole.rest
  rest_size = ap length whole.front.split ∙ length-append (spelled bs) whole.rest ∙ ap (λ (n : ℕ). n + length whole.rest) whole.front.size

-- an open gate before what is no whole record
broken_front : (least : ℕ) (bs : List (List ℕ)) (place : ℕ) (bytes rest after : List ℕ) → RecordsFront least bs place bytes rest → rest ≡ 1 ∷ after → HasNoWholeRecord least (1 ∷ after) → broken_at least bytes ≡ Some place
broken_front least bs place bytes rest after front is_open stops =
    let read = read_front least bs place bytes rest front (subst (HasNoWholeRecord least) (sym is_open) stops) in
    let long : length bytes ≡ place + suc (length after) = ap length front.split ∙ length-append (spelled bs) rest ∙ (λ i. front.size i + ap length is_open i) in
    ap (open_gate (length bytes)) (read.1 ∙ is_open) ∙ ap (λ (n : ℕ). Some n) (omega (arith, long))

pub broken_length : (least : ℕ) (bs : List (List ℕ)) (place : ℕ) (bytes rest after : List ℕ) → RecordsFront least bs place bytes rest → rest ≡ 1 ∷ after → length after < 4 + read32 after → broken_at least bytes ≡ Some place
broken_length least bs place bytes rest after front is_open short = broken_front least bs place bytes rest after front is_open (grind (arith, nat_tests))

pub broken_body : (least : ℕ) (bs : List (List ℕ)) (place : ℕ) (bytes rest after body next : List ℕ) → RecordsFront least bs place bytes rest → rest ≡ 1 ∷ after → after ≡ number32 (length body) ++ (body ++ next) → length body < 2 ^ 32 → length body < least → broken_at least bytes ≡ Some place
broken_body least bs place bytes rest after body next front is_open is fits short =
    let counts : read32 after ≡ length body = ap read32 is ∙ read32-number32 (length body) (body ++ next) fits in
    broken_front least bs place bytes rest after front is_open (few (omega (arith, counts, short)))
  where
    few : read32 after < least → HasNoWholeRecord least (1 ∷ after)
    few low = grind (arith, nat_tests)
